use Rattle.std.proofs.Common.{◌≡◌, length}
use Rattle.eas_table.specs.Table.{AreFirst}
use Rattle.eas_table.proofs.table.first_eases.Given as goal

abbrev pub invariant-loop-s : goal.invariant-loop-s
invariant-loop-s l = (length l.eases.items ≡ l.s) × AreFirst l.board l.eases.items
