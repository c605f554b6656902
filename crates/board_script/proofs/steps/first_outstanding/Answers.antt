use Rattle.std.proofs.Common.{◌≢◌, sym, ◌∙◌, subst}
use Rattle.xv_model.specs.source.Notices.{outstanding}
use Rattle.board_script.proofs.Passing.{search_ends, search_goes_on}
use Rattle.board_script.proofs.steps.first_outstanding.Goals as goal

pub returns-then-out-ne0-clause-value : goal.returns-then-out-ne0-clause-value
returns-then-out-ne0-clause-value g c = λ z h known.
    let some = subst (λ k. k ≢ 0) (c.out.ensures z h known) c.if-out-ne0.true in
    sym (search_ends (outstanding z h) c.loop-s.s c.args.sources c.loop-s-test.true some) ∙ c.loop-s.invariant z h known

pub loop-s-preserved : goal.loop-s-preserved
loop-s-preserved g c = λ z h known.
    search_goes_on (outstanding z h) c.loop-s.s c.args.sources (sym (c.out.ensures z h known) ∙ c.if-out-ne0.false) ∙ c.loop-s.invariant z h known
