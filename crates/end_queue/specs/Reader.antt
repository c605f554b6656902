-- A guest's reader of a queue: where it is, and what it finds there (Linux's arch/powerpc/sysdev/xive/common.c, xive_read_eq).
use Rattle.std.specs.Prelude.{ℕ, ◌≡◌, ◌<◌, ◌≤◌, ◌==◌, ◌+◌, ◌-◌, ◌*◌, ◌/◌, ◌%◌, ◌^◌, if◌then◌else◌, List, slice_index_or, Option, Some, None}
use Rattle.xv_model.specs.declared.operations.EndConfig.{EndConfig}
use Rattle.xv_model.specs.declared.outcomes.Outcome.{Outcome}
use Rattle.xv_model.specs.declared.outcomes.Outcome.TheVariants as out
use Rattle.xv_model.specs.end.Memory.{entries as entries_of, generation}

-- where a reader is: the address and the entries of its queue, which entry is next, and the top bit of what isn't there yet
pub record Position : Type 0 where
  pub qaddr : ℕ
  pub entries : ℕ
  pub index : ℕ
  pub toggle : ℕ

-- the next entry is one of the queue's, the toggle is a bit, and the place is far from the width of numbers
pub record IsPosition (r : Position) : Type 0 where
  pub qaddr : r.qaddr < 2 ^ 63
  pub most : r.entries ≤ 2 ^ 22
  pub index : r.index < r.entries
  pub toggle : r.toggle < 2

-- the reader of a queue that is configured so is at the entry of a number: what isn't there yet has the other generation
pub record IsAt (r : Position) (c : EndConfig) (j : ℕ) : Type 0 where
  pub qaddr : r.qaddr ≡ c.qaddr
  pub entries : r.entries ≡ entries_of c
  pub index : r.index ≡ j % entries_of c
  pub toggle : r.toggle ≡ 1 - generation c j

-- the page of a reader's queue lies in memory of so many words, at a whole word
pub record IsInMemory (words : ℕ) (r : Position) : Type 0 where
  pub aligned : r.qaddr % 4 ≡ 0
  pub inside : r.qaddr + 4 * r.entries ≤ 4 * words

-- the word where the next entry belongs
abbrev pub next_word : Position → List ℕ → ℕ
next_word r memory = slice_index_or memory ((r.qaddr + 4 * r.index) / 4) 0

-- a reader that goes on by one entry: at the end of the page it begins again, and the toggle flips
abbrev pub one_on : Position → Position
one_on r =
    let ends = r.index + 1 == r.entries in
    record {
      qaddr = r.qaddr;
      entries = r.entries;
      index = if ends then 0 else r.index + 1;
      toggle = if ends then 1 - r.toggle else r.toggle;
    }

-- a reader that answered this
abbrev pub after_take : Position → Option ℕ → Position
after_take r (Some payload) = one_on r
after_take r None = r

-- the number of the entry that it is at then
abbrev pub number_after : ℕ → Option ℕ → ℕ
number_after j (Some payload) = j + 1
number_after j None = j

-- what a read of the END would answer there
abbrev pub outcome_of : Option ℕ → Outcome
outcome_of (Some payload) = out.Item payload
outcome_of None = out.Empty
