use Rattle.std.proofs.Common.{◌∙◌, ap, length}
use Rattle.kvm_device.proofs.tests.device.Device.set.Goals as goal

pub invariant_of-self : goal.invariant_of-self
invariant_of-self c =
    let i = c.self.invariant in
    let e = c.set_attr.ensures in
    (i.0, e.sources ∙ i.1, e.len ∙ i.2, ap length e.vps ∙ i.3, i.4, e.eases_in_range, e.ends_in_range, e.counts 16 i.7)
