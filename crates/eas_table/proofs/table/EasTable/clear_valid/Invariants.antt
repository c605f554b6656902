use Rattle.std.proofs.Common.{ℕ, ◌≡◌, ◌<◌, ◌≤◌, length, Some, slice_get}
use Rattle.xv_model.specs.declared.eas.Eas.{Eas}
use Rattle.eas_table.specs.Table.{cleared}
use Rattle.eas_table.proofs.table.EasTable.clear_valid.Given as goal

-- the EASes so far are cleared, and the others are as they were
abbrev pub invariant-loop-s : goal.invariant-loop-s
invariant-loop-s l = (length l.self ≡ length l.fn.self)
    × ((k : ℕ) (a : Eas) → k < l.s → slice_get l.fn.self k ≡ Some a → slice_get l.self k ≡ Some (cleared a))
    × ((k : ℕ) (a : Eas) → l.s ≤ k → slice_get l.fn.self k ≡ Some a → slice_get l.self k ≡ Some a)
