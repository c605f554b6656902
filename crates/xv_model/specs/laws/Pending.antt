-- What becomes of priorities that were presented: they stay pending until they are accepted, wherever the context of their processor is, and are shown where it is.
use Rattle.std.specs.Prelude.{ℕ, ◌≡◌, ◌==◌, ◌<◌, ◌&&◌, ◌||◌, ◌↔◌, Bool, true, false, not, List, ◌∷◌, ◌++◌, Option, Some, None}
use Rattle.std.specs.Option.{option_map_or}
use Rattle.xv_model.specs.declared.outcomes.Phase.{Phase}
use Rattle.xv_model.specs.declared.outcomes.Phase.TheVariants.{On}
use Rattle.xv_model.specs.declared.outcomes.Outcome.{Outcome}
use Rattle.xv_model.specs.declared.entries.Entry.{Entry}
use Rattle.xv_model.specs.declared.board.Board.{Board}
use Rattle.xv_model.specs.account.Start.{Start, start}
use Rattle.xv_model.specs.account.Legal.{IsLegal}
use Rattle.xv_model.specs.processor.Priorities.{priorities, has_priority}
use Rattle.xv_model.specs.processor.RingOps.{RingAccess, ring_access}
use Rattle.xv_model.specs.processor.Phases.{thread_of, is_on, is_running, phase, user_of}
use Rattle.xv_model.specs.processor.Pending.{presentation_in, is_kept, is_of, accepted_in, ipb_set, pending, kept, late}
use Rattle.xv_model.specs.processor.Registers.{ring, saved_ipb, backlog}

-- whether what is done to a ring accepts a priority of the processor whose context is in this phase
abbrev pub accepts : Phase → ℕ → Option RingAccess → Outcome → Bool
accepts now p (Some a) u = is_on a.thread now && option_map_or (λ q. q == p) (accepted_in a.op u) false
accepts now p None u = false

-- whether an entry after an account is an accepted acknowledgement of a priority of v
abbrev pub acknowledges : Start → List Entry → ℕ → ℕ → Entry → Bool
acknowledges z h v p x = accepts (phase z h v) p (ring_access x.op) x.outcome

-- whether an entry sets the state of v, and a priority isn't pending in it
abbrev pub sets_without : ℕ → ℕ → Entry → Bool
sets_without v p x = option_map_or (λ ipb. not (has_priority ipb p)) (ipb_set v x.op x.outcome) false

-- whether an entry after an account ends that a priority is pending for v
abbrev pub takes_away : Start → List Entry → ℕ → ℕ → Entry → Bool
takes_away z h v p x = acknowledges z h v p x || sets_without v p x

-- the IPB that is shown for v, wherever its context is: the one in the ring of the thread that it uses, or else the one that is saved
abbrev pub shown_ipb : Start → List Entry → ℕ → ℕ
shown_ipb z h v = option_map_or (λ t. (ring z h t).ipb) (thread_of (phase z h v)) (saved_ipb z h v)

-- The laws, of an account of a board.

-- no thread has two users
abbrev pub HaveOneUser : Board → List Entry → Type 0
HaveOneUser b h = (v w t : ℕ) → thread_of (phase (start b) h v) ≡ Some t → thread_of (phase (start b) h w) ≡ Some t → v ≡ w

-- the user of a thread is the processor whose context uses it
abbrev pub AreUsers : Board → List Entry → Type 0
AreUsers b h = (v t : ℕ) → (user_of (start b) h t ≡ Some v) ↔ (thread_of (phase (start b) h v) ≡ Some t)

-- of a processor that isn't on a thread those priorities are pending that were kept, or came late
abbrev pub AreKeptOff : Board → List Entry → Type 0
AreKeptOff b h = (v p : ℕ) → is_running (phase (start b) h v) ≡ false → pending (start b) h v p ≡ (kept (start b) h v p || late (start b) h v p)

-- of one that is on a thread those are pending that the IPB of the thread's ring has
abbrev pub AreInRing : Board → List Entry → Type 0
AreInRing b h = (v t p : ℕ) → phase (start b) h v ≡ On t → p < priorities → has_priority (ring (start b) h t).ipb p ≡ pending (start b) h v p

-- wherever the context of a processor is, those priorities are pending that its IPB or its backlog has
abbrev pub AreShown : Board → List Entry → Type 0
AreShown b h = (v p : ℕ) → p < priorities → pending (start b) h v p ≡ (has_priority (shown_ipb (start b) h v) p || has_priority (backlog (start b) h v) p)

-- a priority that was presented to v, and not lost, is pending for v for as long as no entry since takes it away
abbrev pub StayPending : Board → List Entry → Type 0
StayPending b h = (before since : List Entry) (x : Entry) (v p : ℕ) →
    h ≡ since ++ x ∷ before → is_of v p is_kept (presentation_in x.op x.outcome) ≡ true →
    ((later earlier : List Entry) (y : Entry) → since ≡ later ++ y ∷ earlier → takes_away (start b) (earlier ++ x ∷ before) v p y ≡ false) →
    pending (start b) h v p ≡ true

-- The laws hold of every legal account of a board.

abbrev pub EachHasOneUser : Type 0
EachHasOneUser = (b : Board) (h : List Entry) → IsLegal (start b) h → HaveOneUser b h

abbrev pub EachIsUser : Type 0
EachIsUser = (b : Board) (h : List Entry) → IsLegal (start b) h → AreUsers b h

abbrev pub EachIsKeptOff : Type 0
EachIsKeptOff = (b : Board) (h : List Entry) → IsLegal (start b) h → AreKeptOff b h

abbrev pub EachIsInRing : Type 0
EachIsInRing = (b : Board) (h : List Entry) → IsLegal (start b) h → AreInRing b h

abbrev pub EachIsShown : Type 0
EachIsShown = (b : Board) (h : List Entry) → IsLegal (start b) h → AreShown b h

abbrev pub EachStaysPending : Type 0
EachStaysPending = (b : Board) (h : List Entry) → IsLegal (start b) h → StayPending b h
