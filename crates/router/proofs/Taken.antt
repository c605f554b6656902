-- Takes of presentations, and what the tables represent then.
use Rattle.std.proofs.Common.{ℕ, ◌≡◌, ◌==◌, Bool, false, if◌then◌else◌, List, [], ◌∷◌, ◌++◌, Option, Some, sym, ◌∙◌, ap, subst, arith, slice_get}
use Rattle.std.specs.List.{remove}
use Rattle.std.specs.Option.{option_map_or}
use Rattle.xv_model.specs.declared.messages.Message.{Message}
use Rattle.xv_model.specs.declared.messages.Message.TheVariants as message
use Rattle.xv_model.specs.declared.operations.EndFlags.{EndFlags}
use Rattle.xv_model.specs.declared.operations.Op.TheVariants as op
use Rattle.xv_model.specs.declared.outcomes.Presented.{Presented}
use Rattle.xv_model.specs.declared.outcomes.Outcome.TheVariants as out
use Rattle.xv_model.specs.declared.entries.Entry.{Entry}
use Rattle.xv_model.specs.account.Start.{Start}
use Rattle.xv_model.specs.source.PqTable.{trigger_row}
use Rattle.xv_model.specs.end.EventStates.{ese, asked_end}
use Rattle.xv_model.specs.end.Flags.{may_escalate}
use Rattle.xv_model.specs.end.Written.{written}
use Rattle.xv_model.specs.end.Reading.{taken}
use Rattle.xv_model.specs.route.Flight.{escalation_of, flight}
use Rattle.end_queue.specs.Ends.{with_ese}
use Rattle.router.specs.Tables.{Kept, StandsFor}
use Rattle.end_queue.specs.Accounts.{record_of}
use Rattle.end_queue.proofs.Entering.{record_by, nothing_entered}

-- the tables with these messages in flight
abbrev pub with_messages : Kept → List Message → Kept
with_messages t messages = record {
  board = t.board;
  eases = t.eases;
  routes = t.routes;
  ends = t.ends;
  messages = messages;
}

-- the entry of a presentation
abbrev pub presenting : ℕ → ℕ → ℕ → ℕ → Presented → Bool → Entry
presenting actor i vp priority presented escalates = record { actor = actor; op = op.Take i; outcome = out.Present vp priority presented escalates }

-- the escalation that a presentation goes on as, or none
abbrev pub going_on : Message → Bool → List Message
going_on m escalates = if escalates then escalation_of m else []

-- what it makes of the state of escalations of an END, where this message was taken
abbrev pub asked : Start → List Entry → ℕ → Option Message → ℕ
asked z h j m = if option_map_or (λ end. end == j) (asked_end m) false then (trigger_row (ese z h j)).pair else ese z h j

-- a presentation leaves the ENDs
presented_leaves : (z : Start) (h : List Entry) (actor i vp priority : ℕ) (presented : Presented) (escalates : Bool) (e v p esc esc_eisn origin : ℕ) (flags : EndFlags) →
    slice_get (flight z h) i ≡ Some (message.Present e flags v p esc esc_eisn origin) → (j : ℕ) → record_of z (presenting actor i vp priority presented escalates ∷ h) j ≡ record_of z h j
presented_leaves z h actor i vp priority presented escalates e v p esc esc_eisn origin flags is j =
    ap (λ (m : Option Message). with_ese (asked z h j m) (record_by z h j (written z h j ++ []) (taken h j ++ []))) is ∙ nothing_entered z h j

-- the messages become those but message i, which was a presentation, and the escalation that it goes on as
pub taken_stands : (t : Kept) (z : Start) (h : List Entry) (actor i vp priority : ℕ) (presented : Presented) (escalates : Bool) (e v p esc esc_eisn origin : ℕ) (flags : EndFlags) (messages : List Message) →
    StandsFor t z h → slice_get t.messages i ≡ Some (message.Present e flags v p esc esc_eisn origin) →
    messages ≡ remove t.messages i ++ going_on (message.Present e flags v p esc esc_eisn origin) escalates →
    StandsFor (with_messages t messages) z (presenting actor i vp priority presented escalates ∷ h)
taken_stands t z h actor i vp priority presented escalates e v p esc esc_eisn origin flags messages st found are =
    let m = message.Present e flags v p esc esc_eisn origin in
    let is : slice_get (flight z h) i ≡ Some m = subst (λ (ms : List Message). slice_get ms i ≡ Some m) st.messages found in
    record {
      board = st.board;
      eases = st.eases;
      routes = λ s l. st.routes s l ∙ ap Some (omega arith);
      ends = λ j l. st.ends j l ∙ ap Some (sym (presented_leaves z h actor i vp priority presented escalates e v p esc esc_eisn origin flags is j));
      messages = are ∙ ap (λ (ms : List Message). remove ms i ++ going_on m escalates) st.messages
          ∙ ap (λ (n : Option Message). remove (flight z h) i ++ option_map_or (λ n. going_on n escalates) n []) (sym is);
    }

-- whether a message has e
abbrev pub may_of : Option Message → Bool
may_of (Some (message.Present e flags vp priority esc esc_eisn origin)) = may_escalate flags
may_of _ = false
