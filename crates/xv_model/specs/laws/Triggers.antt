-- What becomes of triggers.
use Rattle.std.specs.Prelude.{ℕ, zero, suc, ◌≡◌, ◌==◌, ◌+◌, ◌&&◌, ◌||◌, ◌⊎◌, Bool, true, false, not, if◌then◌else◌, List, [], ◌∷◌, ◌++◌, Option, Some, None, count_by}
use Rattle.std.specs.List.{list_all}
use Rattle.xv_model.specs.declared.operations.PqOp.{PqOp}
use Rattle.xv_model.specs.declared.operations.PqOp.TheVariants.{Trigger, Eoi, Set, Init}
use Rattle.xv_model.specs.declared.outcomes.Outcome.{Outcome}
use Rattle.xv_model.specs.declared.outcomes.Outcome.TheVariants as out
use Rattle.xv_model.specs.declared.entries.Entry.{Entry}
use Rattle.xv_model.specs.declared.board.Board.{Board}
use Rattle.xv_model.specs.board.Boards.{is_level}
use Rattle.xv_model.specs.account.Start.{start}
use Rattle.xv_model.specs.account.Kinds.{WordAccess, access_of}
use Rattle.xv_model.specs.source.Pairs.{Touch, touch_of, touch_at}
use Rattle.xv_model.specs.source.Notices.{forwards}
use Rattle.xv_model.specs.account.Legal.{IsLegal}

-- the number of a touch's forward, where it forwards
abbrev pub number_of : Option Touch → List ℕ
number_of (Some t) = if t.forward == 0 then [] else t.forward ∷ []
number_of None = []

-- the numbers of the forwards of s, the newest first
abbrev pub forward_numbers : Board → List Entry → ℕ → List ℕ
forward_numbers b [] s = []
forward_numbers b (x ∷ h) s = number_of (touch_at s (touch_of b x)) ++ forward_numbers b h s

-- n and the numbers below it, down to 1
abbrev pub down_from : ℕ → List ℕ
down_from zero = []
down_from (suc n) = suc n ∷ down_from n

abbrev pub is_trigger : PqOp → Bool
is_trigger Trigger = true
is_trigger _ = false

abbrev pub is_eoi : PqOp → Bool
is_eoi Eoi = true
is_eoi _ = false

-- whether an operation takes a queued event away: an EOI brings it back, and a set or an init drops it
abbrev pub ends_queue : PqOp → Bool
ends_queue Eoi = true
ends_queue (Set new) = true
ends_queue (Init asserted) = true
ends_queue _ = false

-- whether an access is one to s by an operation of a kind
abbrev pub is_access : ℕ → (PqOp → Bool) → Option WordAccess → Bool
is_access s kind (Some a) = (a.source == s) && kind a.op
is_access s kind None = false

-- the event is forwarded: it makes a notice
abbrev pub is_forwarded : Outcome → Bool
is_forwarded (out.Pq old new forward) = not (forward == 0)
is_forwarded _ = false

-- an event of the source is pending or queued, and this one joins it
abbrev pub is_coalesced : Outcome → Bool
is_coalesced (out.Pq old new forward) = (forward == 0) && ((old == 2) || (old == 3))
is_coalesced _ = false

-- the source is off
abbrev pub is_ignored : Outcome → Bool
is_ignored (out.Pq old new forward) = (forward == 0) && (old == 1)
is_ignored _ = false

-- the source has forwarded as often as its count can tell, and nothing changes
abbrev pub is_spent : Outcome → Bool
is_spent out.Spent = true
is_spent _ = false

-- how many triggers of s have an outcome of a kind
abbrev pub triggers : Board → ℕ → (Outcome → Bool) → List Entry → ℕ
triggers b s kind h = count_by (λ x. is_access s is_trigger (access_of b x.op) && kind x.outcome) h

-- whether an entry leaves a queued event of s where it is
abbrev pub leaves_queue : Board → ℕ → Entry → Bool
leaves_queue b s x = not (is_access s ends_queue (access_of b x.op))

-- The laws, of an account of a board.

-- the forwards of each source have the numbers 1, 2, 3 and so on, in order
abbrev pub AreNumbered : Board → List Entry → Type 0
AreNumbered b h = (s : ℕ) → forward_numbers b h s ≡ down_from (forwards (start b) h s)

-- each trigger of a source is forwarded, coalesced, ignored or spent, and only one of these
abbrev pub AreAccounted : Board → List Entry → Type 0
AreAccounted b h = (s : ℕ) → triggers b s (λ o. true) h ≡ triggers b s is_forwarded h + triggers b s is_coalesced h + triggers b s is_ignored h + triggers b s is_spent h

-- after a coalesced trigger t of a message source the next EOI e of it, with no set or init between, forwards or is spent
abbrev pub ComeAgain : Board → List Entry → Type 0
ComeAgain b h = (before between after : List Entry) (t e : Entry) (s : ℕ) →
    h ≡ after ++ e ∷ (between ++ t ∷ before) → is_level b s ≡ false →
    is_access s is_trigger (access_of b t.op) ≡ true → is_coalesced t.outcome ≡ true →
    list_all (leaves_queue b s) between ≡ true → is_access s is_eoi (access_of b e.op) ≡ true →
    (is_forwarded e.outcome ≡ true) ⊎ (is_spent e.outcome ≡ true)

-- The laws hold of every legal account of a board.

abbrev pub NumberedInOrder : Type 0
NumberedInOrder = (b : Board) (h : List Entry) → IsLegal (start b) h → AreNumbered b h

abbrev pub EachTriggerAccounted : Type 0
EachTriggerAccounted = (b : Board) (h : List Entry) → IsLegal (start b) h → AreAccounted b h

abbrev pub CoalescedComesAgain : Type 0
CoalescedComesAgain = (b : Board) (h : List Entry) → IsLegal (start b) h → ComeAgain b h
