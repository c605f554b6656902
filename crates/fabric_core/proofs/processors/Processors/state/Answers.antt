use Rattle.std.proofs.Common.{◌<◌, length, subst, sym}
use Rattle.fabric_core.specs.Processors.{Parts, StandsFor}
use Rattle.fabric_core.proofs.Places.{counted}
use Rattle.fabric_core.proofs.Device.{as_vp}
use Rattle.fabric_core.proofs.processors.Processors.state.Goals as goal

pub returns-clause-outcome : goal.returns-clause-outcome
returns-clause-outcome c = λ z h stands.
    let p : Parts = record { vps = c.self.inside.vps; rings = c.self.inside.rings } in
    let s = subst (λ p. StandsFor p z h) (sym c.self.view_is) stands in
    let l = subst (λ p. c.args.v < length p.vps.vps) (sym c.self.view_is) c.requires in
    c.vp_state.ensures.outcome z h (as_vp p.vps.vps p.rings z h c.args.v (s.each c.args.v (counted p z h s c.args.v l)))
