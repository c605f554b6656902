use Rattle.std.proofs.Common.{◌≡◌, List, Option, Some, slice_get, sym, ◌∙◌, ap}
use Rattle.std.specs.Option.{option_map_or}
use Rattle.xv_model.specs.declared.messages.Message.{Message}
use Rattle.xv_model.specs.declared.messages.Message.TheVariants as message
use Rattle.xv_model.specs.declared.outcomes.Outcome.TheVariants.{NoMessage}
use Rattle.xv_model.specs.route.Taking.{taken_by}
use Rattle.fabric_core.proofs.answering.take.Goals as goal

-- ---- a presentation
presentation : (c : goal.After-end_present) →
    let x = c.in-Some-Present in
    slice_get c.args.tables.now.messages c.args.i ≡ Some (message.Present x.field-0-0 x.flags x.vp x.priority x.field-0-4 x.field-0-5 x.field-0-6)
presentation c = sym c.message.ensures.value ∙ c.in-Some-Present.is ∙ ap Some c.in-Some-Present.field-0-is

pub returns-in-Some-Present-clause-tables : goal.returns-in-Some-Present-clause-tables
returns-in-Some-Present-clause-tables c = λ z h actor st.
    let x = c.in-Some-Present in
    c.end_present.ensures.stands z h actor x.field-0-0 x.vp x.priority x.field-0-4 x.field-0-5 x.field-0-6 x.flags (presentation c) st

pub returns-in-Some-Present-clause-processors : goal.returns-in-Some-Present-clause-processors
returns-in-Some-Present-clause-processors c = λ z h actor ps.
    c.present-presented.ensures.stands z h actor c.args.i c.end_present.result ps

-- ---- an escalation
escalation : (c : goal.After-end_escalate) →
    let x = c.in-Some-Escalate in
    slice_get c.args.tables.now.messages c.args.i ≡ Some (message.Escalate x.e x.field-0-1 x.field-0-2 x.field-0-3 x.field-0-4)
escalation c = sym c.message.ensures.value ∙ c.in-Some-Escalate.is ∙ ap Some c.in-Some-Escalate.field-0-is

pub returns-in-Some-Escalate-clause-outcome : goal.returns-in-Some-Escalate-clause-outcome
returns-in-Some-Escalate-clause-outcome c = λ z h st ps.
    let x = c.in-Some-Escalate in
    c.end_escalate.ensures.outcome z h x.e x.field-0-2 x.field-0-3 x.field-0-4 x.field-0-1 (escalation c) st
    ∙ ap (λ (m : Option Message). option_map_or (taken_by z h) m NoMessage) (sym (escalation c))
    ∙ ap (λ (ms : List Message). option_map_or (taken_by z h) (slice_get ms c.args.i) NoMessage) st.messages

pub returns-in-Some-Escalate-clause-tables : goal.returns-in-Some-Escalate-clause-tables
returns-in-Some-Escalate-clause-tables c = λ z h actor st.
    let x = c.in-Some-Escalate in
    c.end_escalate.ensures.stands z h actor x.e x.field-0-2 x.field-0-3 x.field-0-4 x.field-0-1 (escalation c) st

pub returns-in-Some-Escalate-clause-memory : goal.returns-in-Some-Escalate-clause-memory
returns-in-Some-Escalate-clause-memory c = λ z h actor ms. c.end_escalate.ensures.memory z h actor c.in-Some-Escalate.e ms
