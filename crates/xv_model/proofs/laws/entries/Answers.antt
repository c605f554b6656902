use Rattle.xv_model.proofs.RouteLaws.{each_enters_once}
use Rattle.xv_model.proofs.laws.entries.Goals as goal

pub returns : goal.returns
returns c = record { enters_once = each_enters_once }
