-- The messages in flight, in the order in which they were made.
use Rattle.std.specs.Prelude.{ℕ, Bool, false, if◌then◌else◌, List, [], ◌∷◌, ◌++◌, slice_get, Option, Some, None, option_and_then}
use Rattle.std.specs.Option.{option_map_or}
use Rattle.std.specs.List.{remove}
use Rattle.xv_model.specs.declared.operations.EndConfig.{EndConfig}
use Rattle.xv_model.specs.declared.operations.Op.{Op}
use Rattle.xv_model.specs.declared.operations.Op.TheVariants as op
use Rattle.xv_model.specs.declared.outcomes.Outcome.{Outcome}
use Rattle.xv_model.specs.declared.outcomes.Outcome.TheVariants as out
use Rattle.xv_model.specs.declared.outcomes.Then.{Then}
use Rattle.xv_model.specs.declared.outcomes.Then.TheVariants.{Present, Escalate}
use Rattle.xv_model.specs.declared.outcomes.EndRun.{EndRun}
use Rattle.xv_model.specs.declared.outcomes.EndRun.TheVariants as run
use Rattle.xv_model.specs.declared.messages.Message.{Message}
use Rattle.xv_model.specs.declared.messages.Message.TheVariants as message
use Rattle.xv_model.specs.declared.entries.Entry.{Entry}
use Rattle.xv_model.specs.account.Start.{Start}
use Rattle.xv_model.specs.account.Kinds.{run_of}
use Rattle.xv_model.specs.end.Descriptors.{end_config}

-- the message of a pass of e that goes on so, with the fields that e is configured with, for a source
abbrev pub messages_by : Then → ℕ → EndConfig → ℕ → List Message
messages_by Present e c origin = message.Present e c.flags c.vp c.priority c.esc c.esc_eisn origin ∷ []
messages_by Escalate e c origin = message.Escalate e c.flags c.esc c.esc_eisn origin ∷ []
messages_by _ e c origin = []

-- the message that a pass makes after an account, for a source
abbrev pub made_by : Start → List Entry → ℕ → Option EndRun → List Message
made_by z h s (Some (run.Ran e wrote next)) = messages_by next e (end_config z h e) s
made_by z h s _ = []

-- the source that a message comes from
abbrev pub source_of : Message → ℕ
source_of (message.Present e flags vp priority esc esc_eisn origin) = origin
source_of (message.Escalate e flags esc esc_eisn origin) = origin

-- the number of the message that was taken, where one was
abbrev pub taken_in : Op → Outcome → Option ℕ
taken_in (op.Take i) (out.Present v p presented escalates) = Some i
taken_in (op.Take i) (out.Escalated e run) = Some i
taken_in _ _ = None

-- the message that was taken, of those in flight
abbrev pub message_in : List Message → Op → Outcome → Option Message
message_in ms o u = option_and_then (λ i. slice_get ms i) (taken_in o u)

-- whether a presentation goes on as an escalation
abbrev pub is_escalating : Outcome → Bool
is_escalating (out.Present v p presented escalates) = escalates
is_escalating _ = false

-- the escalation of a presentation, with the fields of its message
abbrev pub escalation_of : Message → List Message
escalation_of (message.Present e flags vp priority esc esc_eisn origin) = message.Escalate e flags esc esc_eisn origin ∷ []
escalation_of (message.Escalate e flags esc esc_eisn origin) = []

-- the message that an operation makes after an account, of which these are in flight
abbrev pub made : Start → List Entry → Op → Outcome → List Message → List Message
made z h (op.Route s) u ms = made_by z h s (run_of (op.Route s) u)
made z h (op.Take i) u ms = option_map_or (λ m. if is_escalating u then escalation_of m else made_by z h (source_of m) (run_of (op.Take i) u)) (slice_get ms i) []
made z h _ u ms = []

-- the messages but one of them
abbrev pub without : Option ℕ → List Message → List Message
without (Some i) ms = remove ms i
without None ms = ms

-- the messages in flight after an operation: without the one that was taken, and with the one that was made
abbrev pub messages_after : Start → List Entry → Op → Outcome → List Message → List Message
messages_after z h o u ms = without (taken_in o u) ms ++ made z h o u ms

-- the messages that were made and not taken
abbrev pub flight : Start → List Entry → List Message
flight z [] = z.flight
flight z (x ∷ h) = messages_after z h x.op x.outcome (flight z h)
