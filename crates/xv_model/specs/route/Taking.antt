-- What becomes of a message that is taken (QEMU's hw/intc/xive.c, xive_presenter_notify and the end of xive_router_end_notify).
use Rattle.std.specs.Prelude.{ℕ, ◌&&◌, ◌||◌, not, Bool, true, false, if◌then◌else◌, List, slice_get, Some, None}
use Rattle.std.specs.Option.{option_map_or}
use Rattle.xv_model.specs.declared.operations.EndFlags.{EndFlags}
use Rattle.xv_model.specs.declared.outcomes.Presented.{Presented}
use Rattle.xv_model.specs.declared.outcomes.Presented.TheVariants.{Found, Backlogged, Lost, NoProcessor}
use Rattle.xv_model.specs.declared.outcomes.Outcome.{Outcome}
use Rattle.xv_model.specs.declared.outcomes.Outcome.TheVariants as out
use Rattle.xv_model.specs.declared.messages.Message.{Message}
use Rattle.xv_model.specs.declared.messages.Message.TheVariants as message
use Rattle.xv_model.specs.declared.entries.Entry.{Entry}
use Rattle.xv_model.specs.account.Start.{Start}
use Rattle.xv_model.specs.end.Flags.{keeps_backlog, may_escalate, always_escalates}
use Rattle.xv_model.specs.processor.Phases.{is_connected, is_running, phase}
use Rattle.xv_model.specs.source.PqTable.{trigger_row}
use Rattle.xv_model.specs.end.EventStates.{ese}
use Rattle.xv_model.specs.route.Flight.{flight}
use Rattle.xv_model.specs.route.Routing.{end_pass}

-- what becomes of a presentation to v, with b or without: it reaches v where v is on a thread, and else its backlog, if b says so
abbrev pub presented_to : Start → List Entry → Bool → ℕ → Presented
presented_to z h b v =
    if not (is_connected z h v) then NoProcessor
    else (if is_running (phase z h v) then Found else (if b then Backlogged else Lost))

-- whether a presentation was to a processor that it didn't reach on a thread
abbrev pub is_undelivered : Presented → Bool
is_undelivered Backlogged = true
is_undelivered Lost = true
is_undelivered _ = false

-- what a presentation that ended so answers: it escalates where it wasn't delivered and its message has e
abbrev pub present_by : EndFlags → ℕ → ℕ → Presented → Outcome
present_by flags v p presented = out.Present v p presented (is_undelivered presented && may_escalate flags)

-- whether an escalation goes on to its END: where it asks no state, or that one isn't triggered yet
abbrev pub escalates_on : EndFlags → ℕ → Bool
escalates_on flags state = always_escalates flags || (trigger_row state).forwards

-- what taking an escalation of e answers: the pass of the escalation END, or none where the state of e coalesced it
abbrev pub escalate_outcome : Start → List Entry → ℕ → EndFlags → ℕ → ℕ → Outcome
escalate_outcome z h e flags esc esc_eisn = out.Escalated e (if escalates_on flags (ese z h e) then Some (end_pass z h esc esc_eisn) else None)

-- what taking a message answers
abbrev pub taken_by : Start → List Entry → Message → Outcome
taken_by z h (message.Present e flags vp priority esc esc_eisn origin) = present_by flags vp priority (presented_to z h (keeps_backlog flags) vp)
taken_by z h (message.Escalate e flags esc esc_eisn origin) = escalate_outcome z h e flags esc esc_eisn

-- what taking message i of those in flight answers
abbrev pub take_outcome : Start → List Entry → ℕ → Outcome
take_outcome z h i = option_map_or (taken_by z h) (slice_get (flight z h) i) out.NoMessage
