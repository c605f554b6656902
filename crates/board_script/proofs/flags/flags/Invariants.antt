use Rattle.std.proofs.Common.{◌≡◌, drop, Some}
use Rattle.board_script.specs.Flags.{flags_from}
use Rattle.board_script.proofs.flags.flags.Given as goal

abbrev pub invariant-loop-b : goal.invariant-loop-b
invariant-loop-b l = flags_from (Some l.value) (drop l.b-index l.word) ≡ flags_from (Some 0) l.word
