use Rattle.std.proofs.Common.{◌<◌, ◌^◌, subst, sym, ap, ◌∙◌, rules}
use Rattle.fabric_core.specs.Processors.{Parts, StandsFor}
use Rattle.fabric_core.proofs.Shown.{shows}
use Rattle.fabric_core.proofs.processors.Processors.ring.Goals as goal

pub returns : goal.returns
returns c = λ z h stands.
    let p : Parts = record { vps = c.self.inside.vps; rings = c.self.inside.rings } in
    let s = subst (λ p. StandsFor p z h) (sym c.self.view_is) stands in
    let fits : c.get.result.ipb < 2 ^ 8 = search rules in
    c.get.ensures.value ∙ shows p z h s c.self.invariant c.args.t (subst (λ n. n < 2 ^ 8) (ap (λ r. r.ipb) c.get.ensures.value) fits)
