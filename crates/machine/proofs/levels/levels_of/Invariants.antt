use Rattle.std.proofs.Common.{◌≡◌, length}
use Rattle.machine.specs.Machine.{AreLevels}
use Rattle.machine.proofs.levels.levels_of.Given as goal

abbrev pub invariant-loop-s : goal.invariant-loop-s
invariant-loop-s l = (length l.levels.items ≡ l.s) × AreLevels l.board l.levels.items
