use Rattle.std.proofs.Common.{ℤ, ◌≡◌, ◌∷◌, length, rules, refl, sym, ◌∙◌, ap, subst, to_z, of_z, w32}
use Rattle.std.specs.Prelude.{All}
use Rattle.xv_model.specs.declared.operations.Op.TheVariants.{AttrSet}
use Rattle.xv_model.specs.declared.outcomes.Outcome.TheVariants.{Code}
use Rattle.end_queue.specs.Ends.{HasCountsAtMost}
use Rattle.presenter.specs.Contexts.{AreFit}
use Rattle.router.specs.Tables.{Kept, StandsFor}
use Rattle.fabric_core.specs.Processors.{Parts, StandsFor as ProcessorsStandFor}
use Rattle.fabric_core.proofs.Called.{set_stands}
use Rattle.fabric_core.proofs.Device.{are_connected, attribute_stands}
use Rattle.fabric_core.proofs.Kept.{code_fails}
use Rattle.fabric_core.proofs.attributes.set_attribute.Goals as goal

-- the code as it is handed on
same : (c : goal.After-set_attr-code) → c.set_attr-code.result ≡ to_z w32 (of_z w32 c.set_attr-code.result)
same c = search rules

pub invariant_of-processors : goal.invariant_of-processors
invariant_of-processors c = subst (λ vps. AreFit vps c.processors.inside.rings) (sym c.set_attr-code.ensures.vps) c.processors.invariant

pub returns-clause-outcome : goal.returns-clause-outcome
returns-clause-outcome c = λ z h tables processors.
    let st = subst (λ (m : Kept). StandsFor m z h) (sym c.tables.view_is) tables in
    let ps = subst (λ (p : Parts). ProcessorsStandFor p z h) (sym c.processors.view_is) processors in
    ap Code (sym (same c) ∙ c.set_attr-code.ensures.code z h (record { board = st.board; eases_are = st.eases; ends_are = st.ends; connected = are_connected _ z h ps }))

pub returns-clause-tables : goal.returns-clause-tables
returns-clause-tables c = λ z h actor before.
    let st = subst (λ (m : Kept). StandsFor m z h) (sym c.tables.view_is) before in
    let t = c.tables.inside in
    let e = c.set_attr-code in
    subst (λ (n : ℤ). StandsFor (record { board = t.board; eases = e.new.eas; routes = t.routes.items; ends = e.new.ends; messages = t.messages.items }) z (record { actor = actor; op = AttrSet c.args.group c.args.attr c.args.value; outcome = Code n } ∷ h)) (same c)
    (set_stands (record { board = t.board; eases = t.eas; routes = t.routes.items; ends = t.ends; messages = t.messages.items }) z h actor c.args.group c.args.attr c.args.value (Code e.result) e.new.eas e.new.ends st (e.ensures.eases z h actor st.eases) (e.ensures.ends z h actor st.ends))

pub returns-clause-processors : goal.returns-clause-processors
returns-clause-processors c = λ z h actor before.
    let e = c.set_attr-code in
    let p : Parts = record { vps = c.processors.inside.vps; rings = c.processors.inside.rings } in
    let p' : Parts = record { vps = e.new.vps; rings = c.processors.inside.rings } in
    let ps = subst (λ (p : Parts). ProcessorsStandFor p z h) (sym c.processors.view_is) before in
    subst (λ (n : ℤ). ProcessorsStandFor p' z (record { actor = actor; op = AttrSet c.args.group c.args.attr c.args.value; outcome = Code n } ∷ h)) (same c)
    (attribute_stands p p' z h actor c.args.group c.args.attr c.args.value (Code e.result) ps e.ensures.vps refl (e.ensures.servers z h actor ps.servers_are))

pub returns-clause-refused : goal.returns-clause-refused
returns-clause-refused c = λ code is fails.
    let kept = c.set_attr-code.ensures.refused (code_fails c.set_attr-code.result code (ap Code (same c) ∙ is) fails) in
    let t = c.tables.inside in
    let p = c.processors.inside in (
      (λ i. record { board = t.board; eases = kept.0 i; routes = t.routes.items; ends = kept.1 i; messages = t.messages.items }) ∙ c.tables.view_is,
      (λ i. record { vps = kept.2 i; rings = p.rings }) ∙ c.processors.view_is,
    )

pub returns-clause-counts : goal.returns-clause-counts
returns-clause-counts c = λ n before. c.set_attr-code.ensures.counts n (subst (λ (m : Kept). All (HasCountsAtMost n) m.ends) (sym c.tables.view_is) before)

pub returns-clause-vps : goal.returns-clause-vps
returns-clause-vps c = ap length c.set_attr-code.ensures.vps ∙ ap (λ (p : Parts). length p.vps.vps) c.processors.view_is
