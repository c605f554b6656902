use Rattle.fabric_core.proofs.tests.Bench.answer.Goals as goal

pub invariant_of-self : goal.invariant_of-self
invariant_of-self g c = c.step-entry.ensures.counts c.self.inside.count c.self.invariant
