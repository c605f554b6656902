use Rattle.std.proofs.Common.{◌≡◌, ◌+◌, ◌*◌, ◌≤◌, ◌++◌, take}
use Rattle.arrayvec.specs.ArrayVec.{array_vec_len}
use Rattle.account.specs.declared.outcomes.TheConstants.{LONGEST_OUTPUT}
use Rattle.account.specs.text.Outcomes.{outputs_text}
use Rattle.account.proofs.outcomes.add_outputs.Given as goal

abbrev pub invariant-loop-n : goal.invariant-loop-n
invariant-loop-n g l = record {
  items : l.text.items ≡ l.fn.text.items ++ outputs_text (take l.n-index l.outputs);
  len : array_vec_len l.text ≤ array_vec_len l.fn.text + LONGEST_OUTPUT * l.n-index;
}
