use Rattle.std.proofs.Common.{Some, sym, ◌∙◌, ap, subst}
use Rattle.fabric_core.proofs.processors.Processors.access.Goals as goal
use Rattle.xv_model.specs.declared.outcomes.Outcome.TheVariants as out
use Rattle.xv_model.specs.declared.tima.RingOp.TheVariants.{Load}
use Rattle.xv_model.specs.processor.Accesses.{ring_outcome}
use Rattle.fabric_core.specs.Processors.{Parts, StandsFor}
use Rattle.tima_access.specs.Accesses.{IsInRing}
use Rattle.fabric_core.proofs.Loads.{loads, stays_loaded}

pub returns-in-Load-clause-outcome : goal.returns-in-Load-clause-outcome
returns-in-Load-clause-outcome c =
    let p : Parts = record { vps = c.self.inside.vps; rings = c.self.inside.rings } in
    let inside : IsInRing (Load c.in-Load.at c.in-Load.size) = subst IsInRing c.in-Load.is c.requires.inside in
    λ z h s.
    ap (λ n. out.Value n) (c.bytes.ensures.value ∙ loads p z h c.args.t c.in-Load.at c.in-Load.size (subst (λ p. StandsFor p z h) (sym c.self.view_is) s) c.self.invariant c.bytes.ensures.in_range inside.1)
    ∙ ap (ring_outcome z h c.args.t) (sym c.in-Load.is)

pub returns-in-Load-clause-stands : goal.returns-in-Load-clause-stands
returns-in-Load-clause-stands c = λ z h actor page offset size access s e.
    stays_loaded c.args.self.now z h c.args.t actor page offset size access c.in-Load.at c.in-Load.size c.bytes.result s (e ∙ ap Some c.in-Load.is)

pub returns-in-SetCppr-clause-outcome : goal.returns-in-SetCppr-clause-outcome
returns-in-SetCppr-clause-outcome c = λ z h s. c.set_cppr.ensures.outcome z h s ∙ ap (ring_outcome z h c.args.t) (sym c.in-SetCppr.is)

pub returns-in-SetCppr-clause-stands : goal.returns-in-SetCppr-clause-stands
returns-in-SetCppr-clause-stands c = λ z h actor page offset size access s e. c.set_cppr.ensures.stands z h actor page offset size access s (e ∙ ap Some c.in-SetCppr.is)

pub returns-in-Accept-clause-outcome : goal.returns-in-Accept-clause-outcome
returns-in-Accept-clause-outcome c = λ z h s. c.accept.ensures.outcome z h s ∙ ap (ring_outcome z h c.args.t) (sym c.in-Accept.is)

pub returns-in-Accept-clause-stands : goal.returns-in-Accept-clause-stands
returns-in-Accept-clause-stands c = λ z h actor page offset size access s e. c.accept.ensures.stands z h actor page offset size access s (e ∙ ap Some c.in-Accept.is)

pub returns-in-Inject-clause-outcome : goal.returns-in-Inject-clause-outcome
returns-in-Inject-clause-outcome c = λ z h s. c.inject.ensures.outcome z h s ∙ ap (ring_outcome z h c.args.t) (sym c.in-Inject.is)

pub returns-in-Inject-clause-stands : goal.returns-in-Inject-clause-stands
returns-in-Inject-clause-stands c = λ z h actor page offset size access s e. c.inject.ensures.stands z h actor page offset size access s (e ∙ ap Some c.in-Inject.is)

pub returns-in-Push-clause-stands : goal.returns-in-Push-clause-stands
returns-in-Push-clause-stands c = λ z h actor page offset size access s e. c.push.ensures.stands z h actor page offset size access s (e ∙ ap Some c.in-Push.is)

pub returns-in-Pull-clause-outcome : goal.returns-in-Pull-clause-outcome
returns-in-Pull-clause-outcome c = λ z h s. c.pull.ensures.outcome z h s ∙ ap (ring_outcome z h c.args.t) (sym c.in-Pull.is)

pub returns-in-Pull-clause-stands : goal.returns-in-Pull-clause-stands
returns-in-Pull-clause-stands c = λ z h actor page offset size access s e. c.pull.ensures.stands z h actor page offset size access s (e ∙ ap Some c.in-Pull.is)
