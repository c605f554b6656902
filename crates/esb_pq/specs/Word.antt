-- The packed word of a source.
use Rattle.std.specs.Prelude.{ℕ, ◌+◌, ◌*◌, ◌/◌, ◌%◌, ◌^◌, ◌==◌, Bool, if◌then◌else◌}

-- what a source's word holds: its pair, its assertion flag, and how often it forwarded
pub record SourceParts : Type 0 where
  pub pq : ℕ
  pub asserted : Bool
  pub count : ℕ

-- bits 63 and 62 are the pair, bit 61 is the flag, and the count lies below
abbrev pub packed : SourceParts → ℕ
packed w = w.pq * 2 ^ 62 + (if w.asserted then 2 ^ 61 else 0) + w.count

-- the parts of a packed word
abbrev pub unpacked : ℕ → SourceParts
unpacked bits = record {
  pq = bits / 2 ^ 62;
  asserted = bits / 2 ^ 61 % 2 == 1;
  count = bits % 2 ^ 61;
}
