-- What is pending for processors stays so when a context moves, and one priority is added by a presentation.
use Rattle.std.proofs.Common.{ℕ, ◌≡◌, ◌≢◌, ◌<◌, ◌||◌, ◌==◌, ◌-◌, Bool, true, false, Option, Some, None, List, length, refl, sym, ◌∙◌, ap, subst, inl, inr, slice_set, bit_or}
use Rattle.std.proofs.lemmas.Bool.{cases_eq}
use Rattle.std.proofs.lemmas.Nat.Bits.{bit_at-zero}
use Rattle.xv_model.specs.processor.Phases.{thread_of}
use Rattle.xv_model.specs.processor.Priorities.{has_priority}
use Rattle.nvt_backlog.specs.declared.vp.Vp.{Vp}
use Rattle.nvt_backlog.specs.Vps.{vp_in}
use Rattle.thread_context.specs.declared.ring.RingRecord.{RingRecord}
use Rattle.thread_context.specs.Rings.{ring_in}
use Rattle.thread_context.proofs.Pending.{either}
use Rattle.presenter.specs.Contexts.{KeepsPending, Uses, ipb_in, is_pending_for}
use Rattle.presenter.proofs.Fitting.{vp_here, vp_there, ring_there}

-- what is pending for a processor that is so
abbrev pub pending_of : Vp → List RingRecord → ℕ → Bool
pending_of vp rings q = has_priority (ipb_in vp rings (thread_of vp.phase)) q || has_priority vp.backlog q

pub on_thread : (vp : Vp) (rings : List RingRecord) (t q : ℕ) → thread_of vp.phase ≡ Some t → pending_of vp rings q ≡ (has_priority (ring_in rings t).ipb q || has_priority vp.backlog q)
on_thread vp rings t q e = ap (λ o. has_priority (ipb_in vp rings o) q || has_priority vp.backlog q) e

pub off_thread : (vp : Vp) (rings : List RingRecord) (q : ℕ) → thread_of vp.phase ≡ None → pending_of vp rings q ≡ (has_priority vp.ipb q || has_priority vp.backlog q)
off_thread vp rings q e = ap (λ o. has_priority (ipb_in vp rings o) q || has_priority vp.backlog q) e

-- another thread's ring is as it was
ipb_there : (vp : Vp) (rings : List RingRecord) (t : ℕ) (r : RingRecord) (o : Option ℕ) → ¬ (o ≡ Some t) → ipb_in vp (slice_set rings t r) o ≡ ipb_in vp rings o
ipb_there vp rings t r None away = refl
ipb_there vp rings t r (Some u) away = ap (λ (y : RingRecord). y.ipb) (ring_there rings t u r (λ e. away (ap Some e)))

pub pending_there : (vp : Vp) (rings : List RingRecord) (t : ℕ) (r : RingRecord) (q : ℕ) → ¬ (thread_of vp.phase ≡ Some t) → pending_of vp (slice_set rings t r) q ≡ pending_of vp rings q
pending_there vp rings t r q away = ap (λ i. has_priority i q || has_priority vp.backlog q) (ipb_there vp rings t r (thread_of vp.phase) away)

-- where it stays so for the processor that moves, it does for all
pub keeps : (vps : List Vp) (rings : List RingRecord) (v t : ℕ) (x : Vp) (r : RingRecord) → v < length vps → ((w : ℕ) → w ≢ v → ¬ Uses vps w t) →
    ((q : ℕ) → pending_of x (slice_set rings t r) q ≡ is_pending_for vps rings v q) → KeepsPending vps rings (slice_set vps v x) (slice_set rings t r)
keeps vps rings v t x r l alone same w q b = elim (cases_eq w v) [
  | inl here ↦ subst (λ k. is_pending_for (slice_set vps v x) (slice_set rings t r) k q ≡ is_pending_for vps rings k q) (sym here) (ap (λ y. pending_of y (slice_set rings t r) q) (vp_here vps v x l) ∙ same q)
  | inr other ↦ ap (λ y. pending_of y (slice_set rings t r) q) (vp_there vps v w x other) ∙ pending_there (vp_in vps w) rings t r q (alone w other)
]

pub or_false : (b : Bool) → (b || false) ≡ b
or_false true = refl
or_false false = refl

-- a backlog that is taken into IPB stays pending
pub taken_in : (ipb backlog q : ℕ) → (has_priority (bit_or ipb backlog) q || has_priority 0 q) ≡ (has_priority ipb q || has_priority backlog q)
taken_in ipb backlog q = ap (λ b. has_priority (bit_or ipb backlog) q || (b == 1)) (bit_at-zero (7 - q)) ∙ or_false (has_priority (bit_or ipb backlog) q) ∙ either ipb backlog q
