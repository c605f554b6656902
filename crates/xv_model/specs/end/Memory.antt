-- Memory: where the entries of a queue lie, the words that they are (QEMU's hw/intc/xive.c, xive_end_enqueue), and the word at an address.
-- A word has 4 bytes and is big-endian; an address is in bytes.
use Rattle.std.specs.Prelude.{ℕ, ◌==◌, ◌+◌, ◌*◌, ◌^◌, ◌/◌, ◌%◌, ◌&&◌, nat_lt, nat_le, if◌then◌else◌, List, [], ◌∷◌, Option, Some, None}
use Rattle.std.specs.Option.{option_map_or, option_or}
use Rattle.xv_model.specs.declared.board.Board.{Board}
use Rattle.xv_model.specs.declared.operations.EndConfig.{EndConfig}
use Rattle.xv_model.specs.declared.operations.Op.{Op}
use Rattle.xv_model.specs.declared.operations.Op.TheVariants as op
use Rattle.xv_model.specs.declared.outcomes.Wrote.{Wrote}
use Rattle.xv_model.specs.declared.outcomes.EndRun.{EndRun}
use Rattle.xv_model.specs.declared.outcomes.EndRun.TheVariants as run
use Rattle.xv_model.specs.declared.outcomes.Outcome.{Outcome}
use Rattle.xv_model.specs.declared.outcomes.Outcome.TheVariants as out
use Rattle.xv_model.specs.declared.entries.Entry.{Entry}
use Rattle.xv_model.specs.account.Start.{Start}
use Rattle.xv_model.specs.account.Kinds.{run_of}
use Rattle.xv_model.specs.board.Validity.{ram_size, fits, entries_of}

-- how many entries a queue has
abbrev pub entries : EndConfig → ℕ
entries c = entries_of c.qshift

-- the address of the entry of a number: the queue wraps
abbrev pub place : EndConfig → ℕ → ℕ
place c j = c.qaddr + 4 * (j % entries c)

-- the generation of the entry of a number: 1 the first time through the queue, and then it flips at each wrap
abbrev pub generation : EndConfig → ℕ → ℕ
generation c j = if j / entries c % 2 == 0 then 1 else 0

-- the write of a payload as the entry of a number: the generation is the word's top bit
abbrev pub wrote_at : EndConfig → ℕ → ℕ → Wrote
wrote_at c j payload = record { addr = place c j; word = generation c j * 2 ^ 31 + payload }

-- the write of a pass
abbrev pub write_of : Option EndRun → Option Wrote
write_of (Some (run.Ran e wrote next)) = wrote
write_of _ = None

-- some bytes of memory
pub record Stretch : Type 0 where
  pub addr : ℕ
  pub len : ℕ

-- the bytes that an entry zeroed
abbrev pub zeroed_in : Op → Outcome → Option Stretch
zeroed_in (op.Zero addr len) out.Fine = Some (record { addr = addr; len = len })
zeroed_in _ _ = None

-- the word that a write gives an address, where it is there
abbrev pub word_in : ℕ → Option Wrote → Option ℕ
word_in a (Some w) = if w.addr == a then Some w.word else None
word_in a None = None

-- the word that zeroing gives an address, where it covers that
abbrev pub zero_in : ℕ → Option Stretch → Option ℕ
zero_in a (Some s) = if nat_le s.addr a && nat_lt a (s.addr + s.len) then Some 0 else None
zero_in a None = None

-- the word that an entry gives an address, where it changes it: a pass wrote there, or the entry zeroed it
abbrev pub word_by : ℕ → Entry → Option ℕ
word_by a x = option_or (word_in a (write_of (run_of x.op x.outcome))) (zero_in a (zeroed_in x.op x.outcome))

-- the word at an address: the one that it was given last
abbrev pub word_at : Start → List Entry → ℕ → ℕ
word_at z [] a = z.word_at a
word_at z (x ∷ h) a = option_map_or (λ w. w) (word_by a x) (word_at z h a)

-- what looking at the word at an address answers
abbrev pub peek_outcome : Start → List Entry → ℕ → Outcome
peek_outcome z h a = if fits (ram_size z.board) a 4 then out.Cell (word_at z h a) else out.BadRange

-- what zeroing some bytes answers
abbrev pub zero_outcome : Board → ℕ → ℕ → Outcome
zero_outcome b addr len = if fits (ram_size b) addr len then out.Fine else out.BadRange
