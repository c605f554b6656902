-- Priorities. 0 is the most favoured, and 7 the least. A byte has a bit for each (QEMU's hw/intc/xive.c, priority_to_ipb and ipb_to_pipr).
use Rattle.std.specs.Prelude.{ℕ, zero, suc, ◌==◌, ◌+◌, ◌-◌, ◌^◌, Bool, if◌then◌else◌}
use Rattle.std.specs.Int.{bit_at}

-- how many priorities there are
abbrev pub priorities : ℕ
priorities = 8

-- what stands for no priority
abbrev pub no_priority : ℕ
no_priority = 0xff

-- the bit of a priority
abbrev pub priority_bit : ℕ → ℕ
priority_bit p = 2 ^ (7 - p)

-- whether a byte has a priority
abbrev pub has_priority : ℕ → ℕ → Bool
has_priority byte p = bit_at byte (7 - p) == 1

-- the byte of those priorities below n that a test picks
abbrev pub byte_below : (ℕ → Bool) → ℕ → ℕ
byte_below f zero = 0
byte_below f (suc n) = byte_below f n + (if f n then priority_bit n else 0)

-- the byte of those priorities that a test picks
abbrev pub byte_of : (ℕ → Bool) → ℕ
byte_of f = byte_below f priorities

-- the least priority below n that a test picks
abbrev pub least_below : (ℕ → Bool) → ℕ → ℕ
least_below f zero = no_priority
least_below f (suc n) =
    let least = least_below f n in
    if least == no_priority then (if f n then n else no_priority) else least

-- the least priority that a test picks
abbrev pub least_of : (ℕ → Bool) → ℕ
least_of f = least_below f priorities
