use Rattle.std.proofs.Common.{slice_set, sym, ◌∙◌, ap, subst}
use Rattle.fabric_core.proofs.processors.Processors.set_cppr.Goals as goal
use Rattle.xv_model.specs.declared.outcomes.MoveRefused.TheVariants.{NoContext}
use Rattle.xv_model.specs.declared.outcomes.Outcome.TheVariants as out
use Rattle.xv_model.specs.declared.tima.RingOp.TheVariants.{SetCppr}
use Rattle.thread_context.specs.Rings.{ring_in, with_cppr}
use Rattle.presenter.specs.Contexts.{AreFit}
use Rattle.fabric_core.proofs.Accessed.{answers, refuses, stays_refused, stores_cppr}

pub returns-then-not-is_on-clause-outcome : goal.returns-then-not-is_on-clause-outcome
returns-then-not-is_on-clause-outcome c = λ z h s.
    refuses c.args.self.now z h c.args.t out.Stored s (subst (λ p. AreFit p.vps.vps p.rings) c.self.view_is c.self.invariant) (sym c.is_on.ensures ∙ c.if-not-is_on.true)

pub returns-then-not-is_on-clause-stands : goal.returns-then-not-is_on-clause-stands
returns-then-not-is_on-clause-stands c = λ z h actor page offset size access s e. stays_refused c.args.self.now z h c.args.t actor page offset size access NoContext (SetCppr c.args.value) s e

pub returns-clause-outcome : goal.returns-clause-outcome
returns-clause-outcome c = λ z h s.
    answers c.args.self.now z h c.args.t out.Stored s (subst (λ p. AreFit p.vps.vps p.rings) c.self.view_is c.self.invariant) (sym c.is_on.ensures ∙ c.if-not-is_on.false)

pub returns-clause-stands : goal.returns-clause-stands
returns-clause-stands c = λ z h actor page offset size access s e.
    stores_cppr c.args.self.now (record { vps = c.self.inside.vps; rings = c.set_cppr.new.self }) z h c.args.t actor page offset size access c.args.value s (subst (λ p. AreFit p.vps.vps p.rings) c.self.view_is c.self.invariant)
    c.requires.thread (sym c.is_on.ensures ∙ c.if-not-is_on.false) e (ap (λ p. p.vps) c.self.view_is)
    (c.set_cppr.ensures ∙ ap (λ p. slice_set p.rings c.args.t (with_cppr c.args.value (ring_in p.rings c.args.t))) c.self.view_is)
