-- What each call makes of the priorities that are pending in a ring.
use Rattle.std.proofs.Common.{ℕ, ◌≡◌, ◌<◌, ◌^◌, ◌==◌, ◌&&◌, ◌||◌, not, Bool, true, false, if◌then◌else◌, List, length, slice_set, refl, sym, ◌∙◌, ap, subst, inl, inr, arith}
use Rattle.std.specs.Prelude.{◌⊎◌, ◌↔◌, nat_lt}
use Rattle.std.proofs.lemmas.Bool.{ne_eqb}
use Rattle.std.proofs.lemmas.Bool.Decides.{nat_tests}
use Rattle.std.proofs.lemmas.List.{get_or-set_same}
use Rattle.xv_model.specs.processor.Priorities.{has_priority}
use Rattle.thread_context.specs.declared.ring.Ring.{Ring}
use Rattle.thread_context.specs.declared.ring.RingRecord.{RingRecord}
use Rattle.thread_context.specs.Priorities.{IsLeast, NonePending, least_pending}
use Rattle.thread_context.specs.Ring.{is_valid, notified, ring_of}
use Rattle.thread_context.specs.Rings.{accepted, free_ring, pending_added, pushed, ring_in}
use Rattle.thread_context.proofs.Pending.{either, least_exactly, least_range, none_exactly, with_one, without_one}

and_true : (b : Bool) → b ≡ (b && true)
and_true true = refl
and_true false = refl

or_false : (b : Bool) → b ≡ (b || false)
or_false true = refl
or_false false = refl

-- where a thread is notified its least pending priority is one
below_cppr : (valid : Bool) (least cppr : ℕ) → (least < 8) ⊎ (least ≡ 0xff) → cppr < 2 ^ 8 → (valid && nat_lt least cppr) ≡ true → least < 8
below_cppr valid least cppr (inl l) byte e = l
below_cppr true least cppr (inr is) byte e = grind (arith, nat_tests)
below_cppr false least cppr (inr is) byte e = cc

pub notified_least : (r : RingRecord) → r.cppr < 2 ^ 8 → notified r ≡ true → least_pending r.ipb < 8
notified_least r byte e = below_cppr (is_valid r.cam) (least_pending r.ipb) r.cppr (least_range r.ipb) byte e

-- after an acknowledgement
pub after_accept : (r : RingRecord) (q : ℕ) → r.cppr < 2 ^ 8 → q < 8 →
    has_priority (accepted r).ipb q ≡ (has_priority r.ipb q && not (notified r && (q == least_pending r.ipb)))
after_accept r q byte l = by (notified r) refl
  where
    by : (t : Bool) → notified r ≡ t → has_priority (accepted r).ipb q ≡ (has_priority r.ipb q && not (notified r && (q == least_pending r.ipb)))
    by true e = rw e (without_one r.ipb (least_pending r.ipb) q (notified_least r byte e) l)
    by false e = rw e (and_true (has_priority r.ipb q))

-- after a priority was to become pending
pub after_add : (p : ℕ) (r : RingRecord) (q : ℕ) → q < 8 → has_priority (pending_added p r).ipb q ≡ (has_priority r.ipb q || (q == p))
after_add p r q l = by (nat_lt 7 p) refl
  where
    by : (t : Bool) → nat_lt 7 p ≡ t → has_priority (pending_added p r).ipb q ≡ (has_priority r.ipb q || (q == p))
    by true e = rw e (or_false (has_priority r.ipb q) ∙ ap (λ b. has_priority r.ipb q || b) (sym (ne_eqb q p (λ same. grind (arith, nat_tests)))))
    by false e = rw e (with_one r.ipb p q (grind (arith, nat_tests)) l)

-- ---- the same of a list of rings
after_set : (rings rings' : List RingRecord) (t : ℕ) (r : RingRecord) → t < length rings → rings' ≡ slice_set rings t r → ring_in rings' t ≡ r
after_set rings rings' t r l e = ap (λ rs. ring_in rs t) e ∙ get_or-set_same rings t r free_ring l

pub accept_leaves : (rings rings' : List RingRecord) (t : ℕ) → t < length rings → (ring_in rings t).cppr < 2 ^ 8 → rings' ≡ slice_set rings t (accepted (ring_in rings t)) →
    (q : ℕ) → q < 8 → has_priority (ring_in rings' t).ipb q ≡ (has_priority (ring_in rings t).ipb q && not (notified (ring_in rings t) && (q == least_pending (ring_in rings t).ipb)))
accept_leaves rings rings' t l byte e q b =
    ap (λ (r : RingRecord). has_priority r.ipb q) (after_set rings rings' t (accepted (ring_in rings t)) l e) ∙ after_accept (ring_in rings t) q byte b

pub add_leaves : (rings rings' : List RingRecord) (t p : ℕ) → t < length rings → rings' ≡ slice_set rings t (pending_added p (ring_in rings t)) →
    (q : ℕ) → q < 8 → has_priority (ring_in rings' t).ipb q ≡ (has_priority (ring_in rings t).ipb q || (q == p))
add_leaves rings rings' t p l e q b =
    ap (λ (r : RingRecord). has_priority r.ipb q) (after_set rings rings' t (pending_added p (ring_in rings t)) l e) ∙ after_add p (ring_in rings t) q b

pub push_leaves : (rings rings' : List RingRecord) (t cam backlog : ℕ) → t < length rings → rings' ≡ slice_set rings t (pushed cam backlog (ring_in rings t)) →
    (q : ℕ) → q < 8 → has_priority (ring_in rings' t).ipb q ≡ (has_priority (ring_in rings t).ipb q || has_priority backlog q)
push_leaves rings rings' t cam backlog l e q b =
    ap (λ (r : RingRecord). has_priority r.ipb q) (after_set rings rings' t (pushed cam backlog (ring_in rings t)) l e) ∙ either (ring_in rings t).ipb backlog q

-- what is shown of a ring
pub shown_least : (r : RingRecord) (ring : Ring) → ring ≡ ring_of r → (p : ℕ) → p < 8 → (ring.pipr ≡ p) ↔ IsLeast ring.ipb p
shown_least r ring e p l = subst (λ (ring : Ring). (ring.pipr ≡ p) ↔ IsLeast ring.ipb p) (sym e) (least_exactly r.ipb p l)

pub shown_none : (r : RingRecord) (ring : Ring) → ring ≡ ring_of r → (ring.pipr ≡ 0xff) ↔ NonePending ring.ipb
shown_none r ring e = subst (λ (ring : Ring). (ring.pipr ≡ 0xff) ↔ NonePending ring.ipb) (sym e) (none_exactly r.ipb)

-- where NSR is set, PIPR is a priority
abbrev nsr_by : Bool → ℕ
nsr_by t = if t then 0x80 else 0

nsr_least : (r : RingRecord) → r.cppr < 2 ^ 8 → (t : Bool) → notified r ≡ t → nsr_by t ≡ 0x80 → least_pending r.ipb < 8
nsr_least r byte true e set = notified_least r byte e
nsr_least r byte false e set = absurd (omega (arith, set))

pub set_least : (r : RingRecord) (ring : Ring) → ring ≡ ring_of r → r.cppr < 2 ^ 8 → ring.nsr ≡ 0x80 → ring.pipr < 8
set_least r ring e byte set = subst (λ (ring : Ring). ring.pipr < 8) (sym e) (nsr_least r byte (notified r) refl (sym (ap (λ (ring : Ring). ring.nsr) e) ∙ set))
