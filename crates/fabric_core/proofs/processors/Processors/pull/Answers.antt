use Rattle.std.proofs.Common.{subst, sym, ◌∙◌}
use Rattle.fabric_core.specs.Processors.{Parts, StandsFor}
use Rattle.fabric_core.proofs.Kept.{kept_pull}
use Rattle.fabric_core.proofs.Refusals.{pull_says}
use Rattle.fabric_core.proofs.Results.{pull_stands}
use Rattle.fabric_core.proofs.processors.Processors.pull.Goals as goal

pub returns-clause-outcome : goal.returns-clause-outcome
returns-clause-outcome c = λ z h stands.
    let p : Parts = record { vps = c.self.inside.vps; rings = c.self.inside.rings } in
    let s = subst (λ p. StandsFor p z h) (sym c.self.view_is) stands in
    pull_says p z h s c.args.t c.pull.result c.pulled.result c.self.invariant c.pull.ensures.no_context.1 c.pull.ensures.cam c.pulled.ensures.value c.pulled.ensures.refused

pub returns-clause-stands : goal.returns-clause-stands
returns-clause-stands c = λ z h actor page offset size access stands is.
    let p : Parts = record { vps = c.self.inside.vps; rings = c.self.inside.rings } in
    let p' : Parts = record { vps = c.pull.new.vps; rings = c.pull.new.rings } in
    let s = subst (λ p. StandsFor p z h) (sym c.self.view_is) stands in
    let e = c.pull.ensures in
    pull_stands p p' z h s c.self.invariant c.args.t actor page offset size access c.pull.result c.pulled.result is e.no_context.1 e.cam e.unchanged_vps e.unchanged_rings e.vps e.rings e.servers e.pending c.pulled.ensures.value c.pulled.ensures.refused

pub returns-clause-refused : goal.returns-clause-refused
returns-clause-refused c = λ why e.
    let p : Parts = record { vps = c.self.inside.vps; rings = c.self.inside.rings } in
    let p' : Parts = record { vps = c.pull.new.vps; rings = c.pull.new.rings } in
    kept_pull p p' c.pull.result c.pulled.result why c.pulled.ensures.value c.pull.ensures.unchanged_vps c.pull.ensures.unchanged_rings e ∙ c.self.view_is
