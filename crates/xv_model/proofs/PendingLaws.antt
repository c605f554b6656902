-- What becomes of priorities that were presented, in a legal account.
use Rattle.std.proofs.Common.{ℕ, ◌≡◌, ◌==◌, ◌&&◌, Bool, true, false, not, if◌then◌else◌, List, [], ◌∷◌, ◌++◌, Option, Some, None, refl, ◌∙◌, ap}
use Rattle.std.specs.Option.{option_map_or, option_or}
use Rattle.std.proofs.lemmas.Bool.{or_parts, not-false}
use Rattle.xv_model.specs.declared.outcomes.Outcome.{Outcome}
use Rattle.xv_model.specs.declared.outcomes.Phase.{Phase}
use Rattle.xv_model.specs.declared.outcomes.Phase.TheVariants.{On}
use Rattle.xv_model.specs.declared.entries.Entry.{Entry}
use Rattle.xv_model.specs.account.Start.{Start, start}
use Rattle.xv_model.specs.processor.Priorities.{has_priority}
use Rattle.xv_model.specs.processor.RingOps.{RingAccess, ring_access}
use Rattle.xv_model.specs.processor.Phases.{cam_of, thread_of, is_on, phase}
use Rattle.xv_model.specs.processor.Pending.{presentation_in, is_kept, is_of, accepted_in, injected_in, access_says, ipb_set, pending}
use Rattle.xv_model.specs.processor.Registers.{cppr, ring_of, ring}
use Rattle.xv_model.specs.laws.Pending.{accepts, takes_away, EachIsInRing, EachStaysPending}
use Rattle.xv_model.proofs.Bytes.{has_byte_of}
use Rattle.xv_model.proofs.Users.{AreSingle}
use Rattle.xv_model.proofs.SoundMoves.{single, start_single, user_of-is}

-- the ring of a thread on which a processor is
pub ring-is_of : (z : Start) (h : List Entry) (v t : ℕ) → AreSingle z.board.limits.processors (phase z h) → phase z h v ≡ On t → ring z h t ≡ ring_of true (cppr z h v) (pending z h v) (cam_of v)
ring-is_of z h v t s on = rw (user_of-is z h v t s (ap thread_of on), on) refl

-- its IPB has the priorities that are pending
pub each_is_in_ring : EachIsInRing
each_is_in_ring b h l v t p on w = ap (λ r. has_priority r.ipb p) (ring-is_of (start b) h v t (single (start b) h (start_single b) l) on) ∙ has_byte_of (pending (start b) h v) p w

-- what doesn't accept a priority of a processor's ring doesn't say that it isn't pending
says_by : (on injected accepted : Bool) → (on && accepted) ≡ false → option_map_or (λ b. b) (if on then (if injected then Some true else (if accepted then Some false else None)) else None) true ≡ true
says_by false injected accepted e = refl
says_by true true accepted e = refl
says_by true false true e = cc
says_by true false false e = refl

says_pending : (now : Phase) (p : ℕ) (a : Option RingAccess) (u : Outcome) → accepts now p a u ≡ false → option_map_or (λ b. b) (access_says now p a u) true ≡ true
says_pending now p (Some a) u e = says_by (is_on a.thread now) (option_map_or (λ q. q == p) (injected_in a.op u) false) (option_map_or (λ q. q == p) (accepted_in a.op u) false) e
says_pending now p None u e = refl

-- so an entry that doesn't take a priority away leaves it pending
remains_by : (presents : Bool) (set : Option ℕ) (says : Option Bool) (has : ℕ → Bool) → option_map_or (λ b. b) says true ≡ true → option_map_or (λ ipb. not (has ipb)) set false ≡ false →
    option_map_or (λ b. b) (if presents then Some true else option_or (option_map_or (λ ipb. Some (has ipb)) set None) says) true ≡ true
remains_by true set says has e f = refl
remains_by false (Some ipb) says has e f = not-false (has ipb) f
remains_by false None says has e f = e

pub remains : (z : Start) (h : List Entry) (x : Entry) (v p : ℕ) → takes_away z h v p x ≡ false → pending z h v p ≡ true → pending z (x ∷ h) v p ≡ true
remains z h x v p e before =
    let parts = or_parts _ _ e in
    rw before (remains_by (is_of v p is_kept (presentation_in x.op x.outcome)) (ipb_set v x.op x.outcome) (access_says (phase z h v) p (ring_access x.op) x.outcome) (λ ipb. has_priority ipb p) (says_pending (phase z h v) p (ring_access x.op) x.outcome parts.0) parts.1)

-- a priority that was presented, and not lost, stays pending
pub stays : (z : Start) (since before : List Entry) (x : Entry) (v p : ℕ) → is_of v p is_kept (presentation_in x.op x.outcome) ≡ true →
    ((later earlier : List Entry) (y : Entry) → since ≡ later ++ y ∷ earlier → takes_away z (earlier ++ x ∷ before) v p y ≡ false) → pending z (since ++ x ∷ before) v p ≡ true
stays z [] before x v p presents none = rw presents refl
stays z (y ∷ since) before x v p presents none =
    remains z (since ++ x ∷ before) y v p (none [] since y refl) (stays z since before x v p presents (λ later earlier w e. none (y ∷ later) earlier w (ap (λ l. y ∷ l) e)))

pub each_stays_pending : EachStaysPending
each_stays_pending b h l before since x v p whole presents none = ap (λ h. pending (start b) h v p) whole ∙ stays (start b) since before x v p presents none
