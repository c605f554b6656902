use Rattle.std.proofs.Common.{sym, subst, ◌∙◌}
use Rattle.std.specs.Prelude.{All}
use Rattle.end_queue.specs.Ends.{HasCountsAtMost}
use Rattle.fabric_core.specs.Fabric.{Held, StandsFor}
use Rattle.fabric_core.proofs.fabric.Fabric.step.Goals as goal

pub returns-clause-stands : goal.returns-clause-stands
returns-clause-stands c = λ z h before counted.
    let st = subst (λ (f : Held). StandsFor f z h) (sym c.self.view_is) before in
    record {
      tables = c.answer-outcome.ensures.tables z h c.args.actor st.tables st.processors counted;
      memory = c.answer-outcome.ensures.memory z h c.args.actor st.memory;
      processors = c.answer-outcome.ensures.processors z h c.args.actor st.processors;
    }

pub returns-clause-counts : goal.returns-clause-counts
returns-clause-counts c = λ n before.
    c.answer-outcome.ensures.counts n (subst (λ (f : Held). All (HasCountsAtMost n) f.tables.ends) (sym c.self.view_is) before)

pub returns-clause-refused : goal.returns-clause-refused
returns-clause-refused c = λ r.
    let same = c.answer-outcome.ensures.refused r in
    (λ i. record { tables = same.0 i; memory = same.1 i; processors = same.2 i }) ∙ c.self.view_is
