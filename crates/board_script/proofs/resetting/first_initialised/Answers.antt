use Rattle.std.proofs.Common.{sym, ◌∙◌}
use Rattle.board_script.specs.Steps.{resets}
use Rattle.board_script.proofs.Passing.{search_ends, search_goes_on}
use Rattle.board_script.proofs.Initialised.{some_to_reset, none_to_reset}
use Rattle.board_script.proofs.resetting.first_initialised.Goals as goal

pub returns-then-initialised-clause-value : goal.returns-then-initialised-clause-value
returns-then-initialised-clause-value g c = λ z h known.
    sym (search_ends (resets z h) c.loop-s.s c.args.sources c.loop-s-test.true (some_to_reset z h c.loop-s.s (sym (c.initialised.ensures z h known) ∙ c.if-initialised.true))) ∙ c.loop-s.invariant z h known

pub loop-s-preserved : goal.loop-s-preserved
loop-s-preserved g c = λ z h known.
    search_goes_on (resets z h) c.loop-s.s c.args.sources (none_to_reset z h c.loop-s.s (sym (c.initialised.ensures z h known) ∙ c.if-initialised.false)) ∙ c.loop-s.invariant z h known
