-- What becomes of what isn't delivered: it escalates.
use Rattle.std.specs.Prelude.{ℕ, ◌≡◌, ◌≢◌, ◌&&◌, ◌⊎◌, Bool, true, false, if◌then◌else◌, List, [], ◌∷◌, ◌++◌, slice_get, Option, Some, None}
use Rattle.std.specs.List.{remove}
use Rattle.std.specs.Option.{option_map_or}
use Rattle.xv_model.specs.declared.board.Board.{Board}
use Rattle.xv_model.specs.declared.operations.EndFlags.{EndFlags}
use Rattle.xv_model.specs.declared.operations.Op.{Op}
use Rattle.xv_model.specs.declared.operations.Op.TheVariants as op
use Rattle.xv_model.specs.declared.outcomes.Presented.{Presented}
use Rattle.xv_model.specs.declared.outcomes.Then.{Then}
use Rattle.xv_model.specs.declared.outcomes.Then.TheVariants as next
use Rattle.xv_model.specs.declared.outcomes.Wrote.{Wrote}
use Rattle.xv_model.specs.declared.outcomes.EndRun.TheVariants as run
use Rattle.xv_model.specs.declared.outcomes.Outcome.TheVariants as out
use Rattle.xv_model.specs.declared.messages.Message.{Message}
use Rattle.xv_model.specs.declared.messages.Message.TheVariants as message
use Rattle.xv_model.specs.declared.entries.Entry.{Entry}
use Rattle.xv_model.specs.account.Start.{start}
use Rattle.xv_model.specs.account.Kinds.{run_of}
use Rattle.xv_model.specs.account.Legal.{IsLegal}
use Rattle.xv_model.specs.end.Flags.{may_escalate, always_escalates, escalates, is_silent}
use Rattle.xv_model.specs.end.Descriptors.{end_config}
use Rattle.xv_model.specs.end.EventStates.{ese}
use Rattle.xv_model.specs.route.Flight.{flight, source_of, taken_in, without}
use Rattle.xv_model.specs.route.Routing.{end_pass}
use Rattle.xv_model.specs.route.Taking.{is_undelivered}

-- The laws, of an account of a board.

-- a presentation that is taken leaves the messages in flight without it; where it wasn't delivered, and has e, an
-- escalation of the same END, with the same escalation END, payload and origin, stands behind them
abbrev pub UndeliveredEscalates : Board → List Entry → Type 0
UndeliveredEscalates b h = (before later : List Entry) (x : Entry) (i e vp priority esc esc_eisn origin v p : ℕ) (flags : EndFlags) (presented : Presented) (escalates : Bool) →
    h ≡ later ++ x ∷ before → x.op ≡ op.Take i → slice_get (flight (start b) before) i ≡ Some (message.Present e flags vp priority esc esc_eisn origin) →
    x.outcome ≡ out.Present v p presented escalates →
    (escalates ≡ (is_undelivered presented && may_escalate flags))
    × (flight (start b) (x ∷ before) ≡ remove (flight (start b) before) i ++ (if escalates then message.Escalate e flags esc esc_eisn origin ∷ [] else []))

-- the source that an operation is for: the one whose notice is routed, or that of the message that is taken
abbrev pub origin_in : List Message → Op → Option ℕ
origin_in ms (op.Route s) = Some s
origin_in ms (op.Take i) = option_map_or (λ m. Some (source_of m)) (slice_get ms i) None
origin_in ms _ = None

-- a pass of an END with s and e escalates: an escalation of that END, with its fields of now, and the source that the pass was for, stands behind the other messages
abbrev pub SilentEscalates : Board → List Entry → Type 0
SilentEscalates b h = (before later : List Entry) (x : Entry) (e : ℕ) (wrote : Option Wrote) (goes : Then) →
    let c = end_config (start b) before e in
    let ms = flight (start b) before in
    h ≡ later ++ x ∷ before → run_of x.op x.outcome ≡ Some (run.Ran e wrote goes) → is_silent c ≡ true → escalates c ≡ true →
    (goes ≡ next.Escalate)
    × (origin : ℕ)
    × (origin_in ms x.op ≡ Some origin)
    × (flight (start b) (x ∷ before) ≡ without (taken_in x.op x.outcome) ms ++ message.Escalate e c.flags c.esc c.esc_eisn origin ∷ [])

-- an escalation that is taken runs the pass of its escalation END, or it lacks u and the state of its END was triggered already
abbrev pub EscalationRuns : Board → List Entry → Type 0
EscalationRuns b h = (before later : List Entry) (x : Entry) (i e esc esc_eisn origin : ℕ) (flags : EndFlags) →
    h ≡ later ++ x ∷ before → x.op ≡ op.Take i → slice_get (flight (start b) before) i ≡ Some (message.Escalate e flags esc esc_eisn origin) →
    (x.outcome ≡ out.Escalated e (Some (end_pass (start b) before esc esc_eisn)))
    ⊎ ((x.outcome ≡ out.Escalated e None) × (always_escalates flags ≡ false) × (ese (start b) before e ≢ 0))

-- The laws hold of every legal account of a board.

abbrev pub EachUndeliveredEscalates : Type 0
EachUndeliveredEscalates = (b : Board) (h : List Entry) → IsLegal (start b) h → UndeliveredEscalates b h

abbrev pub EachSilentEscalates : Type 0
EachSilentEscalates = (b : Board) (h : List Entry) → IsLegal (start b) h → SilentEscalates b h

abbrev pub EachEscalationRuns : Type 0
EachEscalationRuns = (b : Board) (h : List Entry) → IsLegal (start b) h → EscalationRuns b h
