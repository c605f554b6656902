use Rattle.std.proofs.Common.{sym, ◌∙◌}
use Rattle.hint_calls.proofs.Entering.{ends_stand}
use Rattle.hint_calls.proofs.calls.call.Goals as goal

pub returns-in-Some-clause-ends : goal.returns-in-Some-clause-ends
returns-in-Some-clause-ends c = λ z h actor st.
    ends_stand c.args.ends.now c.answer.new.ends z h actor c.args.number c.args.args.now c.answer.result c.in-Some.call (sym c.from_args.ensures ∙ c.in-Some.is) c.answer.ensures.ends st
