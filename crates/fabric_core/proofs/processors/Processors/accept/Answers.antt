use Rattle.std.proofs.Common.{◌≡◌, ◌<◌, true, refl, length, sym, ◌∙◌, subst}
use Rattle.fabric_core.proofs.processors.Processors.accept.Goals as goal
use Rattle.xv_model.specs.declared.outcomes.MoveRefused.TheVariants.{NoContext}
use Rattle.xv_model.specs.declared.outcomes.Outcome.TheVariants as out
use Rattle.xv_model.specs.declared.tima.RingOp.TheVariants.{Accept}
use Rattle.xv_model.specs.processor.Accesses.{acknowledged}
use Rattle.xv_model.specs.processor.Registers.{ring}
use Rattle.thread_context.specs.Ring.{is_valid}
use Rattle.thread_context.specs.Rings.{ring_in}
use Rattle.presenter.specs.Contexts.{AreFit}
use Rattle.fabric_core.specs.Processors.{Parts, StandsFor}
use Rattle.fabric_core.proofs.Accessed.{accepts_as, answers_accept, refuses, stays_refused}

pub returns-then-not-is_on-clause-outcome : goal.returns-then-not-is_on-clause-outcome
returns-then-not-is_on-clause-outcome c = λ z h s.
    refuses c.args.self.now z h c.args.t (out.Value (acknowledged (ring z h c.args.t))) s (subst (λ p. AreFit p.vps.vps p.rings) c.self.view_is c.self.invariant) (sym c.is_on.ensures ∙ c.if-not-is_on.true)

pub returns-then-not-is_on-clause-stands : goal.returns-then-not-is_on-clause-stands
returns-then-not-is_on-clause-stands c = λ z h actor page offset size access s e. stays_refused c.args.self.now z h c.args.t actor page offset size access NoContext Accept s e

pub returns-clause-outcome : goal.returns-clause-outcome
returns-clause-outcome c =
    let p : Parts = record { vps = c.self.inside.vps; rings = c.self.inside.rings } in
    λ z h s.
    answers_accept p (record { vps = c.self.inside.vps; rings = c.accept.new.self }) z h c.args.t c.accept.result (subst (λ p. StandsFor p z h) (sym c.self.view_is) s) c.self.invariant
    (subst (λ p. c.args.t < length p.rings) (sym c.self.view_is) c.requires.thread) (subst (λ p. is_valid (ring_in p.rings c.args.t).cam ≡ true) (sym c.self.view_is) (sym c.is_on.ensures ∙ c.if-not-is_on.false))
    c.accept.ensures.ring c.accept.ensures.value

pub returns-clause-stands : goal.returns-clause-stands
returns-clause-stands c =
    let p : Parts = record { vps = c.self.inside.vps; rings = c.self.inside.rings } in
    λ z h actor page offset size access s e.
    accepts_as p (record { vps = c.self.inside.vps; rings = c.accept.new.self }) z h c.args.t actor page offset size c.accept.result access (subst (λ p. StandsFor p z h) (sym c.self.view_is) s) c.self.invariant
    (subst (λ p. c.args.t < length p.rings) (sym c.self.view_is) c.requires.thread) c.accept.ensures.in_range.cppr (subst (λ p. is_valid (ring_in p.rings c.args.t).cam ≡ true) (sym c.self.view_is) (sym c.is_on.ensures ∙ c.if-not-is_on.false))
    e refl c.accept.ensures.ring c.accept.ensures.value
