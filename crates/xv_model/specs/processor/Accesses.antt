-- What accesses to the pages of the TIMA answer (QEMU's hw/intc/xive.c, xive_tctx_tm_read and xive_tctx_tm_write).
use Rattle.std.specs.Prelude.{ℕ, ◌==◌, ◌+◌, ◌-◌, ◌*◌, ◌/◌, ◌%◌, ◌^◌, if◌then◌else◌, List, [], ◌∷◌, take, drop}
use Rattle.std.specs.Option.{option_map_or}
use Rattle.xv_model.specs.declared.operations.Access.{Access}
use Rattle.xv_model.specs.declared.outcomes.MoveRefused.TheVariants.{NoContext}
use Rattle.xv_model.specs.declared.outcomes.Outcome.{Outcome}
use Rattle.xv_model.specs.declared.outcomes.Outcome.TheVariants as out
use Rattle.xv_model.specs.declared.entries.Entry.{Entry}
use Rattle.xv_model.specs.account.Start.{Start}
use Rattle.xv_model.specs.declared.tima.RingOp.{RingOp}
use Rattle.xv_model.specs.declared.tima.RingOp.TheVariants.{Load, SetCppr, Accept, Inject, Push, Pull}
use Rattle.xv_model.specs.processor.RingOps.{ring_op}
use Rattle.xv_model.specs.processor.Moves.{on_of, push_outcome, pull_outcome}
use Rattle.xv_model.specs.processor.Registers.{Ring, ring}

-- byte number n of a word, from the most significant one on
abbrev pub word_byte : ℕ → ℕ → ℕ
word_byte word n = word / 2 ^ (8 * (3 - n)) % 2 ^ 8

-- the bytes of a ring: those that aren't built read as ones, or as zeros
abbrev pub ring_bytes : Ring → List ℕ
ring_bytes r =
    r.nsr ∷ r.cppr ∷ r.ipb ∷ 0xff ∷ 0xff ∷ 0 ∷ 0xff ∷ r.pipr
    ∷ word_byte r.cam 0 ∷ word_byte r.cam 1 ∷ word_byte r.cam 2 ∷ word_byte r.cam 3 ∷ 0 ∷ 0 ∷ 0 ∷ 0 ∷ []

-- the number of big-endian bytes, behind those of a number
abbrev pub behind : ℕ → List ℕ → ℕ
behind n [] = n
behind n (byte ∷ bytes) = behind (n * 2 ^ 8 + byte) bytes

-- what a load of some bytes of a ring gives
abbrev pub load_value : Ring → ℕ → ℕ → ℕ
load_value r at size = behind 0 (take size (drop at (ring_bytes r)))

-- what an acknowledgement of a ring gives: NSR as it was, and CPPR as it is then
abbrev pub acknowledged : Ring → ℕ
acknowledged r = r.nsr * 2 ^ 8 + (if r.nsr == 0 then r.cppr else r.pipr)

-- an answer of a thread, where a processor is on it
abbrev pub if_on : Start → List Entry → ℕ → Outcome → Outcome
if_on z h t answer = option_map_or (λ v. answer) (on_of z h t) (out.Refused NoContext)

-- what is done to the ring of a thread answers
abbrev pub ring_outcome : Start → List Entry → ℕ → RingOp → Outcome
ring_outcome z h t (Load at size) = out.Value (load_value (ring z h t) at size)
ring_outcome z h t (SetCppr value) = if_on z h t out.Stored
ring_outcome z h t (Inject priority) = if_on z h t out.Stored
ring_outcome z h t Accept = if_on z h t (out.Value (acknowledged (ring z h t)))
ring_outcome z h t (Push cam) = push_outcome z h t cam
ring_outcome z h t Pull = pull_outcome z h t

-- what an access to a page answers
abbrev pub tima_outcome : Start → List Entry → ℕ → ℕ → ℕ → ℕ → Access → Outcome
tima_outcome z h t page offset size access = option_map_or (ring_outcome z h t) (ring_op page offset size access) out.BadAccess
