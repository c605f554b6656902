use Rattle.std.proofs.Common.{subst, sym, rules, ◌∙◌}
use Rattle.fabric_core.specs.Processors.{Parts, StandsFor}
use Rattle.fabric_core.proofs.Kept.{kept_move}
use Rattle.fabric_core.proofs.Refusals.{restore_says}
use Rattle.fabric_core.proofs.Results.{restore_stands}
use Rattle.fabric_core.proofs.processors.Processors.restore.Goals as goal

pub returns-clause-outcome : goal.returns-clause-outcome
returns-clause-outcome c = λ z h stands.
    let p : Parts = record { vps = c.self.inside.vps; rings = c.self.inside.rings } in
    let s = subst (λ p. StandsFor p z h) (sym c.self.view_is) stands in
    restore_says p z h s c.args.v c.args.t c.restore.result c.done.result (search rules) c.restore.ensures.refused c.done.ensures.fine c.done.ensures.refused

pub returns-clause-stands : goal.returns-clause-stands
returns-clause-stands c = λ z h actor stands.
    let p : Parts = record { vps = c.self.inside.vps; rings = c.self.inside.rings } in
    let p' : Parts = record { vps = c.restore.new.vps; rings = c.restore.new.rings } in
    let s = subst (λ p. StandsFor p z h) (sym c.self.view_is) stands in
    let e = c.restore.ensures in
    restore_stands p p' z h s c.self.invariant c.args.v c.args.t actor c.restore.result c.done.result (search rules) (search rules) e.refused e.unchanged_vps e.unchanged_rings e.vps e.rings e.servers e.pending c.done.ensures.fine c.done.ensures.refused

pub returns-clause-refused : goal.returns-clause-refused
returns-clause-refused c = λ why e.
    let p : Parts = record { vps = c.self.inside.vps; rings = c.self.inside.rings } in
    let p' : Parts = record { vps = c.restore.new.vps; rings = c.restore.new.rings } in
    kept_move p p' c.restore.result c.done.result why c.done.ensures.fine c.restore.ensures.unchanged_vps c.restore.ensures.unchanged_rings e ∙ c.self.view_is
