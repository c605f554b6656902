use Rattle.std.proofs.Common.{refl, sym}
use Rattle.xv_model.specs.source.Notices.{outstanding}
use Rattle.board_script.proofs.Passing.{first_below}
use Rattle.board_script.proofs.migrating.settled.Goals as goal

pub returns-in-Some-clause-moves : goal.returns-in-Some-clause-moves
returns-in-Some-clause-moves g c = λ z h known. record {
  told = refl;
  passes = (first_below (outstanding z h) c.args.from c.args.sources c.in-Some.s (sym (c.in-Some.ensures.value z h known))).passed;
}
