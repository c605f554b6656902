use Rattle.xv_model.proofs.HypercallLaws.{refused_does_nothing}
use Rattle.xv_model.proofs.laws.hypercalls.Goals as goal

pub returns : goal.returns
returns c = record { refused = refused_does_nothing }
