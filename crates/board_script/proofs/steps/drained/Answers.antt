use Rattle.std.proofs.Common.{sym}
use Rattle.xv_model.specs.source.Notices.{outstanding}
use Rattle.board_script.proofs.Passing.{first_below}
use Rattle.board_script.proofs.steps.drained.Goals as goal

pub returns-in_ok-s-in-NoMessage-clause-passed : goal.returns-in_ok-s-in-NoMessage-clause-passed
returns-in_ok-s-in-NoMessage-clause-passed g c = λ z h known.
    (first_below (outstanding z h) c.args.from.now c.args.sources c.in_ok-s-in-NoMessage.s (sym (c.in_ok-s-in-NoMessage.ensures.value z h known))).passed
