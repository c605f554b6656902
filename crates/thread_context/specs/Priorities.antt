-- Pending priorities: a byte has a bit for each of the eight, as the register IPB does (QEMU's hw/intc/xive.c).
use Rattle.std.specs.Prelude.{ℕ, zero, suc, ◌≡◌, ◌<◌, Bool, true, false, if◌then◌else◌, bit_and, bit_or}
use Rattle.std.specs.Int.{bit_not, w8}
use Rattle.xv_model.specs.processor.Priorities.{has_priority, priority_bit}

-- the first of so many priorities, from p on, that is pending; 0xff where none is
abbrev pub first_of : ℕ → (ℕ → Bool) → ℕ → ℕ
first_of zero pending p = 0xff
first_of (suc left) pending p = if pending p then p else first_of left pending (suc p)

-- the least priority that is pending, or 0xff where none is: PIPR (ipb_to_pipr)
unfoldable pub least_pending : ℕ → ℕ
least_pending ipb = first_of 8 (has_priority ipb) 0

-- p is pending, and no lesser priority is
pub record IsLeast (ipb p : ℕ) : Type 0 where
  pub pending : has_priority ipb p ≡ true
  pub none_less : (q : ℕ) → q < p → has_priority ipb q ≡ false

-- no priority is pending
abbrev pub NonePending : ℕ → Type 0
NonePending ipb = (p : ℕ) → p < 8 → has_priority ipb p ≡ false

-- one more priority is pending, or was already
abbrev pub with_pending : ℕ → ℕ → ℕ
with_pending ipb p = bit_or ipb (priority_bit p)

-- a priority isn't pending any more
abbrev pub without_pending : ℕ → ℕ → ℕ
without_pending ipb p = bit_and ipb (bit_not w8 (priority_bit p))
