use Rattle.std.proofs.Common.{slice_set, sym, ◌∙◌, ap, subst}
use Rattle.fabric_core.proofs.processors.Processors.inject.Goals as goal
use Rattle.xv_model.specs.declared.outcomes.MoveRefused.TheVariants.{NoContext}
use Rattle.xv_model.specs.declared.outcomes.Outcome.TheVariants as out
use Rattle.xv_model.specs.declared.tima.RingOp.TheVariants.{Inject}
use Rattle.thread_context.specs.Rings.{pending_added, ring_in}
use Rattle.presenter.specs.Contexts.{AreFit}
use Rattle.fabric_core.proofs.Accessed.{answers, refuses, stays_refused, injects}

pub returns-then-not-is_on-clause-outcome : goal.returns-then-not-is_on-clause-outcome
returns-then-not-is_on-clause-outcome c = λ z h s.
    refuses c.args.self.now z h c.args.t out.Stored s (subst (λ p. AreFit p.vps.vps p.rings) c.self.view_is c.self.invariant) (sym c.is_on.ensures ∙ c.if-not-is_on.true)

pub returns-then-not-is_on-clause-stands : goal.returns-then-not-is_on-clause-stands
returns-then-not-is_on-clause-stands c = λ z h actor page offset size access s e. stays_refused c.args.self.now z h c.args.t actor page offset size access NoContext (Inject c.args.priority) s e

pub returns-clause-outcome : goal.returns-clause-outcome
returns-clause-outcome c = λ z h s.
    answers c.args.self.now z h c.args.t out.Stored s (subst (λ p. AreFit p.vps.vps p.rings) c.self.view_is c.self.invariant) (sym c.is_on.ensures ∙ c.if-not-is_on.false)

pub returns-clause-stands : goal.returns-clause-stands
returns-clause-stands c = λ z h actor page offset size access s e.
    injects c.args.self.now (record { vps = c.self.inside.vps; rings = c.add_pending.new.self }) z h c.args.t actor page offset size access c.args.priority s (subst (λ p. AreFit p.vps.vps p.rings) c.self.view_is c.self.invariant)
    c.requires.thread (sym c.is_on.ensures ∙ c.if-not-is_on.false) e (ap (λ p. p.vps) c.self.view_is)
    (c.add_pending.ensures.ring ∙ ap (λ p. slice_set p.rings c.args.t (pending_added c.args.priority (ring_in p.rings c.args.t))) c.self.view_is)
