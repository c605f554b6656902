use Rattle.std.proofs.Common.{subst, sym, ◌∙◌}
use Rattle.fabric_core.specs.Processors.{Parts, StandsFor}
use Rattle.fabric_core.proofs.Kept.{kept_move}
use Rattle.fabric_core.proofs.Refusals.{push_says}
use Rattle.fabric_core.proofs.Results.{push_stands}
use Rattle.fabric_core.proofs.processors.Processors.push.Goals as goal

pub returns-clause-outcome : goal.returns-clause-outcome
returns-clause-outcome c = λ z h stands.
    let p : Parts = record { vps = c.self.inside.vps; rings = c.self.inside.rings } in
    let s = subst (λ p. StandsFor p z h) (sym c.self.view_is) stands in
    push_says p z h s c.args.t c.args.cam c.push.result c.done.result c.push.ensures.no_vp c.push.ensures.refused c.done.ensures.fine c.done.ensures.refused

pub returns-clause-stands : goal.returns-clause-stands
returns-clause-stands c = λ z h actor page offset size access stands is.
    let p : Parts = record { vps = c.self.inside.vps; rings = c.self.inside.rings } in
    let p' : Parts = record { vps = c.push.new.vps; rings = c.push.new.rings } in
    let s = subst (λ p. StandsFor p z h) (sym c.self.view_is) stands in
    let e = c.push.ensures in
    push_stands p p' z h s c.self.invariant c.args.t c.args.cam actor page offset size access c.push.result c.done.result is e.no_vp e.refused e.unchanged_vps e.unchanged_rings e.vps e.rings e.servers e.pending c.done.ensures.fine c.done.ensures.refused

pub returns-clause-refused : goal.returns-clause-refused
returns-clause-refused c = λ why e.
    let p : Parts = record { vps = c.self.inside.vps; rings = c.self.inside.rings } in
    let p' : Parts = record { vps = c.push.new.vps; rings = c.push.new.rings } in
    kept_move p p' c.push.result c.done.result why c.done.ensures.fine c.push.ensures.unchanged_vps c.push.ensures.unchanged_rings e ∙ c.self.view_is
