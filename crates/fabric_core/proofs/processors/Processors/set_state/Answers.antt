use Rattle.std.proofs.Common.{ℤ, ◌≡◌, ◌<◌, ◌∷◌, length, rules, refl, sym, ◌∙◌, ap, subst, to_z, of_z, w32}
use Rattle.xv_model.specs.declared.operations.Op.TheVariants.{VpSet}
use Rattle.xv_model.specs.declared.outcomes.Outcome.TheVariants.{Code}
use Rattle.fabric_core.specs.Processors.{Parts, StandsFor}
use Rattle.fabric_core.proofs.Device.{as_vp, set_fit, set_length, stand, state_stands}
use Rattle.fabric_core.proofs.Kept.{code_fails}
use Rattle.fabric_core.proofs.Places.{counted}
use Rattle.fabric_core.proofs.processors.Processors.set_state.Goals as goal

-- the code as it is handed on
same : (c : goal.After-set_vp_state) → c.set_vp_state.result ≡ to_z w32 (of_z w32 c.set_vp_state.result)
same c = search rules

inside : (c : goal.After-set_vp_state) → c.args.v < length c.self.inside.vps.vps
inside c = subst (λ (p : Parts). c.args.v < length p.vps.vps) (sym c.self.view_is) c.requires

pub invariant_of-self : goal.invariant_of-self
invariant_of-self c =
    let e = c.set_vp_state in
    set_fit c.self.inside.vps.vps e.new.vps.vps c.self.inside.rings c.args.v c.args.cppr c.args.ipb e.result c.self.invariant (inside c) e.ensures.accepted (λ fails. ap (λ vps. vps.vps) (e.ensures.refused fails))

pub returns-clause-outcome : goal.returns-clause-outcome
returns-clause-outcome c = λ z h stands.
    let p : Parts = record { vps = c.self.inside.vps; rings = c.self.inside.rings } in
    let s = subst (λ p. StandsFor p z h) (sym c.self.view_is) stands in
    ap Code (sym (same c) ∙ c.set_vp_state.ensures.code z h (as_vp p.vps.vps p.rings z h c.args.v (s.each c.args.v (counted p z h s c.args.v (inside c)))))

pub returns-clause-stands : goal.returns-clause-stands
returns-clause-stands c = λ z h actor stands.
    let p : Parts = record { vps = c.self.inside.vps; rings = c.self.inside.rings } in
    let p' : Parts = record { vps = c.set_vp_state.new.vps; rings = c.self.inside.rings } in
    let s = subst (λ p. StandsFor p z h) (sym c.self.view_is) stands in
    let e = c.set_vp_state.ensures in
    subst (λ (n : ℤ). StandsFor p' z (record { actor = actor; op = VpSet c.args.v c.args.cppr c.args.ipb; outcome = Code n } ∷ h)) (same c)
    (state_stands p p' z h s c.args.v c.args.cppr c.args.ipb actor c.set_vp_state.result (inside c) e.saved e.accepted e.refused refl e.servers (e.stands z h actor (stand p z h s)))

pub returns-clause-refused : goal.returns-clause-refused
returns-clause-refused c = λ code is fails.
    (λ i. record { vps = c.set_vp_state.ensures.refused (code_fails c.set_vp_state.result code (ap Code (same c) ∙ is) fails) i; rings = c.self.inside.rings }) ∙ c.self.view_is

pub returns-clause-processors : goal.returns-clause-processors
returns-clause-processors c =
    let e = c.set_vp_state in
    set_length c.self.inside.vps.vps e.new.vps.vps c.args.v c.args.cppr c.args.ipb e.result e.ensures.accepted (λ fails. ap (λ vps. vps.vps) (e.ensures.refused fails))
    ∙ ap (λ (p : Parts). length p.vps.vps) c.self.view_is
