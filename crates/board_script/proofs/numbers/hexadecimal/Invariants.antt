use Rattle.std.proofs.Common.{◌≡◌, drop, Some}
use Rattle.board_script.specs.Numbers.{hexadecimal_from}
use Rattle.board_script.proofs.numbers.hexadecimal.Given as goal

abbrev pub invariant-loop-b : goal.invariant-loop-b
invariant-loop-b l = hexadecimal_from (Some l.value) (drop l.b-index l.word) ≡ hexadecimal_from (Some 0) l.word
