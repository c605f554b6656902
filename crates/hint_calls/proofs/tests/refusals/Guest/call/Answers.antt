use Rattle.std.proofs.Common.{◌∙◌}
use Rattle.hint_calls.proofs.tests.refusals.Guest.call.Goals as goal

pub invariant_of-self : goal.invariant_of-self
invariant_of-self c =
    let i = c.self.invariant in
    let e = c.call.ensures in
    (i.0, e.sources ∙ i.1, e.len ∙ i.2, i.3, i.4, e.eases_in_range, e.ends_in_range, e.counts 16 i.7)
