use Rattle.std.proofs.Common.{ℤ, subst, sym, ap, rules, refl, to_z, of_z, w32}
use Rattle.fabric_core.specs.Processors.{Parts, StandsFor}
use Rattle.fabric_core.proofs.Connecting.{connect_stands, connects_fit}
use Rattle.fabric_core.proofs.processors.Processors.connect.Goals as goal

pub invariant_of-self : goal.invariant_of-self
invariant_of-self c = connects_fit c.self.inside.vps.vps c.connect.new.self.vps c.self.inside.rings c.args.v c.self.inside.vps.servers c.self.invariant (search rules) (λ past. ap (λ vps. vps.vps) (c.connect.ensures.unchanged past)) c.connect.ensures.vps

pub returns-clause-stands : goal.returns-clause-stands
returns-clause-stands c = λ z h actor stands.
    let p : Parts = record { vps = c.self.inside.vps; rings = c.self.inside.rings } in
    let p' : Parts = record { vps = c.connect.new.self; rings = c.self.inside.rings } in
    let s = subst (λ p. StandsFor p z h) (sym c.self.view_is) stands in
    let code : ℤ → ℤ = λ r. to_z w32 (of_z w32 r) in
    connect_stands p p' z h s c.args.v actor (code c.connect.result) (search rules) (λ less. ap code (c.connect.ensures.accepted.1 less)) (λ past. ap code (c.connect.ensures.refused.1 past))
    c.connect.ensures.unchanged c.connect.ensures.vps refl c.connect.ensures.servers
