use Rattle.std.proofs.Common.{◌≡◌, drop}
use Rattle.board_script.specs.Numbers.{decimal_from}
use Rattle.board_script.proofs.numbers.decimal.Given as goal

abbrev pub invariant-loop-b : goal.invariant-loop-b
invariant-loop-b l = decimal_from l.value (drop l.b-index l.word) ≡ decimal_from 0 l.word
