use Rattle.std.proofs.Common.{subst, sym, rules, ◌∙◌}
use Rattle.fabric_core.specs.Processors.{Parts, StandsFor}
use Rattle.fabric_core.proofs.Kept.{kept_move}
use Rattle.fabric_core.proofs.Refusals.{save_says}
use Rattle.fabric_core.proofs.Results.{save_stands}
use Rattle.fabric_core.proofs.processors.Processors.save.Goals as goal

pub returns-clause-outcome : goal.returns-clause-outcome
returns-clause-outcome c = λ z h stands.
    let p : Parts = record { vps = c.self.inside.vps; rings = c.self.inside.rings } in
    let s = subst (λ p. StandsFor p z h) (sym c.self.view_is) stands in
    save_says p z h s c.args.v c.save.result c.done.result (search rules) c.save.ensures.refused c.done.ensures.fine c.done.ensures.refused

pub returns-clause-stands : goal.returns-clause-stands
returns-clause-stands c = λ z h actor stands.
    let p : Parts = record { vps = c.self.inside.vps; rings = c.self.inside.rings } in
    let p' : Parts = record { vps = c.save.new.vps; rings = c.save.new.rings } in
    let s = subst (λ p. StandsFor p z h) (sym c.self.view_is) stands in
    let e = c.save.ensures in
    save_stands p p' z h s c.self.invariant c.args.v actor c.save.result c.done.result (search rules) e.refused e.unchanged_vps e.unchanged_rings e.vps e.rings e.servers e.pending c.done.ensures.fine c.done.ensures.refused

pub returns-clause-refused : goal.returns-clause-refused
returns-clause-refused c = λ why e.
    let p : Parts = record { vps = c.self.inside.vps; rings = c.self.inside.rings } in
    let p' : Parts = record { vps = c.save.new.vps; rings = c.save.new.rings } in
    kept_move p p' c.save.result c.done.result why c.done.ensures.fine c.save.ensures.unchanged_vps c.save.ensures.unchanged_rings e ∙ c.self.view_is
