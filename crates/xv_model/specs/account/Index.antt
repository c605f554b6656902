-- The indices of entries.
use Rattle.std.specs.Prelude.{ℕ, suc, List, [], ◌∷◌}
use Rattle.xv_model.specs.declared.entries.Entry.{Entry}
use Rattle.xv_model.specs.account.Start.{Start}

-- the index of the next entry: indices go on from the start record's
abbrev pub next_index : Start → List Entry → ℕ
next_index z [] = z.index
next_index z (x ∷ h) = suc (next_index z h)
