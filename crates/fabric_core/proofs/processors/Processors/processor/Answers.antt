use Rattle.std.proofs.Common.{◌<◌, ◌^◌, subst, sym, ap, ◌∙◌, rules}
use Rattle.fabric_core.specs.Processors.{Parts, StandsFor}
use Rattle.fabric_core.proofs.Places.{counted}
use Rattle.fabric_core.proofs.ShownVps.{processor_shown}
use Rattle.fabric_core.proofs.processors.Processors.processor.Goals as goal

pub returns : goal.returns
returns c = λ z h stands.
    let p : Parts = record { vps = c.self.inside.vps; rings = c.self.inside.rings } in
    let s = subst (λ p. StandsFor p z h) (sym c.self.view_is) stands in
    let ipb : c.get.result.ipb < 2 ^ 8 = search rules in
    let backlog : c.get.result.backlog < 2 ^ 8 = search rules in
    c.get.ensures ∙ processor_shown p.vps.vps p.rings z h c.args.v (s.each c.args.v (counted p z h s c.args.v (search rules)))
    (subst (λ n. n < 2 ^ 8) (ap (λ vp. vp.ipb) c.get.ensures) ipb) (subst (λ n. n < 2 ^ 8) (ap (λ vp. vp.backlog) c.get.ensures) backlog)
