use Rattle.std.proofs.Common.{◌≡◌, length}
use Rattle.board_script.specs.Words.{from_unprintable}
use Rattle.board_script.proofs.words.behind_eights.Given as goal

abbrev pub invariant-loop-rest : goal.invariant-loop-rest
invariant-loop-rest l = from_unprintable l.rest ≡ from_unprintable l.fn.line

abbrev pub decreases-loop-rest : goal.decreases-loop-rest
decreases-loop-rest l = length l.rest
