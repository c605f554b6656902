use Rattle.xv_model.proofs.RefusalLaws.{refusal_leaves_all, look_leaves_all}
use Rattle.xv_model.proofs.laws.refusals.Goals as goal

pub returns-clause-refused : goal.returns-clause-refused
returns-clause-refused c = refusal_leaves_all

pub returns-clause-looks : goal.returns-clause-looks
returns-clause-looks c = look_leaves_all
