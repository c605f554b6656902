use Rattle.board_script.proofs.AcceptedCalls.{each_accepted_goes_on, each_refused_ends}
use Rattle.board_script.proofs.laws.calls.Goals as goal

pub returns : goal.returns
returns c = record { accepted = each_accepted_goes_on; refused = each_refused_ends }
