-- What the moves and a presentation make of processors and rings: they fit together still, and what is pending.
use Rattle.std.proofs.Common.{ℕ, ◌≡◌, ◌≢◌, ◌<◌, ◌≤◌, ◌%◌, ◌^◌, ◌||◌, ◌&&◌, ◌==◌, Bool, true, false, Some, None, if◌then◌else◌, List, length, refl, sym, ◌∙◌, ap, subst, inl, inr, slice_set, replicate, eq-eqb, arith}
use Rattle.std.specs.Prelude.{◌⊎◌, nat_lt}
use Rattle.std.proofs.lemmas.Bool.{cases_eq, cases_lt, ne_eqb}
use Rattle.std.proofs.lemmas.List.{get_or-replicate, get_or_past, length-replicate}
use Rattle.xv_base.specs.Limits.{most_processors}
use Rattle.xv_model.specs.declared.board.Board.{Board}
use Rattle.std.proofs.lemmas.Bool.Decides.{nat_tests}
use Rattle.std.proofs.Math.ListN.{length-set}
use Rattle.xv_model.specs.declared.outcomes.Phase.TheVariants.{Saved, Restored, On, Pulled}
use Rattle.xv_model.specs.processor.Phases.{cam_of, thread_of}
use Rattle.xv_model.specs.processor.Priorities.{has_priority}
use Rattle.nvt_backlog.specs.declared.vp.Vp.{Vp}
use Rattle.nvt_backlog.specs.Vps.{AreFirst, saved_vp, vp_in}
use Rattle.thread_context.specs.declared.ring.RingRecord.{RingRecord}
use Rattle.thread_context.specs.Priorities.{with_pending}
use Rattle.thread_context.specs.Ring.{is_valid}
use Rattle.thread_context.specs.Rings.{free_ring, loaded, pending_added, pulled, pushed, ring_in, with_ipb}
use Rattle.thread_context.proofs.Effects.{after_add}
use Rattle.thread_context.proofs.Pending.{with_one}
use Rattle.presenter.specs.Contexts.{AreFit, IsUser, KeepsPending, Uses, ipb_in, is_pending_for, named_by, pulled_cam_of}
use Rattle.presenter.specs.Moves.{backlogged, on, pulled_from, restored, saved_from}
use Rattle.presenter.proofs.Fitting.{IsMove, cam_at, cams_set, fits, none_some, phases_set, ring_here, same_places, same_some, vp_here, vp_there}
use Rattle.presenter.proofs.Keeping.{keeps, off_thread, on_thread, or_false, pending_of, pending_there, taken_in}

-- parts that still fit together, and in which the same priorities are pending
pub record IsWhole (vps vps' : List Vp) (rings rings' : List RingRecord) : Type 0 where
  pub fit : AreFit vps' rings'
  pub pending : KeepsPending vps rings vps' rings'

whole_at : (vps vps' : List Vp) (rings rings' : List RingRecord) (v t : ℕ) (x : Vp) (r : RingRecord) → AreFit vps rings → IsMove vps rings v t x r →
    ((q : ℕ) → pending_of x (slice_set rings t r) q ≡ is_pending_for vps rings v q) → vps' ≡ slice_set vps v x → rings' ≡ slice_set rings t r → IsWhole vps vps' rings rings'
whole_at vps vps' rings rings' v t x r f m same e g = subst (λ xs. IsWhole vps xs rings rings') (sym e) (subst (λ rs. IsWhole vps (slice_set vps v x) rings rs) (sym g) (record {
  fit = fits vps rings v t x r f m;
  pending = keeps vps rings v t x r m.inside m.alone same;
}))

-- a processor comes to a free thread
pub restores : (vps vps' : List Vp) (rings rings' : List RingRecord) (v t : ℕ) → AreFit vps rings → v < length vps → t < length rings → (vp_in vps v).phase ≡ Saved → IsUser vps t None →
    vps' ≡ slice_set vps v (restored t (vp_in vps v)) → rings' ≡ slice_set rings t (loaded (vp_in vps v).cppr (vp_in vps v).ipb) → IsWhole vps vps' rings rings'
restores vps vps' rings rings' v t f l inside saved free e g =
    let vp : Vp = vp_in vps v in
    let r : RingRecord = loaded vp.cppr vp.ipb in
    let m : IsMove vps rings v t (restored t vp) r = record {
      inside = l;
      thread = inside;
      from = λ u uses. absurd (none_some u (sym (ap thread_of saved) ∙ uses));
      alone = λ w _. free w;
      to = λ u e. same_some t u e;
      cam = refl;
    } in
    whole_at vps vps' rings rings' v t (restored t vp) r f m
    (λ q. ap (λ (y : RingRecord). has_priority y.ipb q || has_priority vp.backlog q) (ring_here rings t r inside) ∙ sym (off_thread vp rings q (ap thread_of saved))) e g

-- a processor that uses a thread uses no other, and none uses its own
moves_on : (vps : List Vp) (rings : List RingRecord) (v t : ℕ) (x : Vp) (r : RingRecord) → AreFit vps rings → v < length vps → Uses vps v t → ((u : ℕ) → thread_of x.phase ≡ Some u → u ≡ t) → r.cam ≡ cam_at x.phase v → IsMove vps rings v t x r
moves_on vps rings v t x r f l uses to cam = record {
  inside = l;
  thread = f.threads v t uses;
  from = λ u other. same_some t u (sym uses ∙ other);
  alone = λ w other also. other (f.one_user w v t also uses);
  to = to;
  cam = cam;
}

pub pushes : (vps vps' : List Vp) (rings rings' : List RingRecord) (v t cam : ℕ) → AreFit vps rings → v < length vps → (vp_in vps v).phase ≡ Restored t → cam ≡ cam_of v →
    vps' ≡ slice_set vps v (on t (vp_in vps v)) → rings' ≡ slice_set rings t (pushed cam (vp_in vps v).backlog (ring_in rings t)) → IsWhole vps vps' rings rings'
pushes vps vps' rings rings' v t cam f l at word e g =
    let vp : Vp = vp_in vps v in
    let r : RingRecord = pushed cam vp.backlog (ring_in rings t) in
    let m = moves_on vps rings v t (on t vp) r f l (ap thread_of at) (λ u e. same_some t u e) word in
    whole_at vps vps' rings rings' v t (on t vp) r f m
    (λ q. ap (λ (y : RingRecord). has_priority y.ipb q || has_priority 0 q) (ring_here rings t r m.thread) ∙ taken_in (ring_in rings t).ipb vp.backlog q ∙ sym (on_thread vp rings t q (ap thread_of at))) e g

pub saves : (vps vps' : List Vp) (rings rings' : List RingRecord) (v t : ℕ) → AreFit vps rings → v < length vps → (vp_in vps v).phase ≡ Pulled t →
    vps' ≡ slice_set vps v (saved_from (ring_in rings t) (vp_in vps v)) → rings' ≡ slice_set rings t free_ring → IsWhole vps vps' rings rings'
saves vps vps' rings rings' v t f l at e g =
    let vp : Vp = vp_in vps v in
    let m = moves_on vps rings v t (saved_from (ring_in rings t) vp) free_ring f l (ap thread_of at) (λ u e. absurd (none_some u e)) refl in
    whole_at vps vps' rings rings' v t (saved_from (ring_in rings t) vp) free_ring f m (λ q. sym (on_thread vp rings t q (ap thread_of at))) e g

-- the CAM word of a processor that is pulled
without_valid : (v : ℕ) → v < 2 ^ 30 → cam_of v % 2 ^ 31 ≡ pulled_cam_of v
without_valid v l = omega arith

pub pulls : (vps vps' : List Vp) (rings rings' : List RingRecord) (v t : ℕ) → AreFit vps rings → v < length vps → (vp_in vps v).phase ≡ On t →
    vps' ≡ slice_set vps v (pulled_from t (vp_in vps v)) → rings' ≡ slice_set rings t (pulled (ring_in rings t)) → IsWhole vps vps' rings rings'
pulls vps vps' rings rings' v t f l at e g =
    let vp : Vp = vp_in vps v in
    let r : RingRecord = pulled (ring_in rings t) in
    let word : r.cam ≡ pulled_cam_of v = ap (λ c. c % 2 ^ 31) (f.on v t at) ∙ without_valid v (omega (arith, l, f.few)) in
    let m = moves_on vps rings v t (pulled_from t vp) r f l (ap thread_of at) (λ u e. same_some t u e) word in
    whole_at vps vps' rings rings' v t (pulled_from t vp) r f m
    (λ q. ap (λ (y : RingRecord). has_priority y.ipb q || has_priority vp.backlog q) (ring_here rings t r m.thread) ∙ sym (on_thread vp rings t q (ap thread_of at))) e g

-- ---- a presentation
-- parts that still fit together, and in which one more priority is pending for one processor
pub record IsAdded (vps vps' : List Vp) (rings rings' : List RingRecord) (v p : ℕ) (kept : Bool) : Type 0 where
  pub fit : AreFit vps' rings'
  pub pending : (w q : ℕ) → q < 8 → is_pending_for vps' rings' w q ≡ (is_pending_for vps rings w q || (kept && ((w == v) && (q == p))))

for_none : (a b : Bool) (w v : ℕ) → w ≢ v → a ≡ (a || ((w == v) && b))
for_none a b w v other = sym (or_false a) ∙ ap (λ c. a || (c && b)) (sym (ne_eqb w v other))

for_one : (a b : Bool) (w v : ℕ) → w ≡ v → (a || b) ≡ (a || ((w == v) && b))
for_one a b w v same = ap (λ c. a || (c && b)) (sym (eq-eqb w v same))

-- one more at the left or the right of what is pending
or_left : (a b c : Bool) → ((a || c) || b) ≡ ((a || b) || c)
or_left true b c = refl
or_left false true true = refl
or_left false true false = refl
or_left false false c = or_false c

or_right : (a b c : Bool) → (a || (b || c)) ≡ ((a || b) || c)
or_right true b c = refl
or_right false b c = refl

added_cam : (b : Bool) (ipb : ℕ) (r : RingRecord) → (if b then r else with_ipb ipb r).cam ≡ r.cam
added_cam true ipb r = refl
added_cam false ipb r = refl

pub finds : (vps : List Vp) (rings rings' : List RingRecord) (v t p : ℕ) → AreFit vps rings → (vp_in vps v).phase ≡ On t →
    rings' ≡ slice_set rings t (pending_added p (ring_in rings t)) → IsAdded vps vps rings rings' v p true
finds vps rings rings' v t p f at g = subst (λ rs. IsAdded vps vps rings rs v p true) (sym g) (record {
  fit = same_places vps vps rings (slice_set rings t r) f refl (length-set rings t r) (λ w. refl) (cams_set rings t r inside (added_cam (nat_lt 7 p) (with_pending (ring_in rings t).ipb p) (ring_in rings t)));
  pending = λ w q b. by w q b (cases_eq w v);
})
  where
    r : RingRecord
    r = pending_added p (ring_in rings t)

    inside : t < length rings
    inside = f.threads v t (ap thread_of at)

    here : (q : ℕ) → q < 8 → pending_of (vp_in vps v) (slice_set rings t r) q ≡ (pending_of (vp_in vps v) rings q || (q == p))
    here q b =
        let vp : Vp = vp_in vps v in
        on_thread vp (slice_set rings t r) t q (ap thread_of at)
        ∙ ap (λ (y : RingRecord). has_priority y.ipb q || has_priority vp.backlog q) (ring_here rings t r inside)
        ∙ ap (λ c. c || has_priority vp.backlog q) (after_add p (ring_in rings t) q b)
        ∙ or_left (has_priority (ring_in rings t).ipb q) (has_priority vp.backlog q) (q == p)
        ∙ ap (λ c. c || (q == p)) (sym (on_thread vp rings t q (ap thread_of at)))

    by : (w q : ℕ) → q < 8 → (w ≡ v) ⊎ (w ≢ v) → is_pending_for vps (slice_set rings t r) w q ≡ (is_pending_for vps rings w q || ((w == v) && (q == p)))
    by w q b (inl same) = subst (λ k. is_pending_for vps (slice_set rings t r) k q ≡ (is_pending_for vps rings k q || (q == p))) (sym same) (here q b) ∙ for_one (is_pending_for vps rings w q) (q == p) w v same
    by w q b (inr other) = pending_there (vp_in vps w) rings t r q (λ also. other (f.one_user w v t also (ap thread_of at))) ∙ for_none (is_pending_for vps rings w q) (q == p) w v other

pub backlogs : (vps vps' : List Vp) (rings : List RingRecord) (v p : ℕ) → AreFit vps rings → v < length vps → p < 8 →
    vps' ≡ slice_set vps v (backlogged p (vp_in vps v)) → IsAdded vps vps' rings rings v p true
backlogs vps vps' rings v p f l a g = subst (λ xs. IsAdded vps xs rings rings v p true) (sym g) (record {
  fit = same_places vps (slice_set vps v x) rings rings f (length-set vps v x) refl (phases_set vps v x l refl) (λ u. refl);
  pending = λ w q b. by w q b (cases_eq w v);
})
  where
    x : Vp
    x = backlogged p (vp_in vps v)

    here : (q : ℕ) → q < 8 → pending_of x rings q ≡ (pending_of (vp_in vps v) rings q || (q == p))
    here q b =
        let vp : Vp = vp_in vps v in
        ap (λ c. has_priority (ipb_in vp rings (thread_of vp.phase)) q || c) (with_one vp.backlog p q a b)
        ∙ or_right (has_priority (ipb_in vp rings (thread_of vp.phase)) q) (has_priority vp.backlog q) (q == p)

    by : (w q : ℕ) → q < 8 → (w ≡ v) ⊎ (w ≢ v) → is_pending_for (slice_set vps v x) rings w q ≡ (is_pending_for vps rings w q || ((w == v) && (q == p)))
    by w q b (inl same) = ap (λ y. pending_of y rings q) (ap (λ k. vp_in (slice_set vps v x) k) same ∙ vp_here vps v x l) ∙ here q b ∙ ap (λ k. is_pending_for vps rings k q || (q == p)) (sym same) ∙ for_one (is_pending_for vps rings w q) (q == p) w v same
    by w q b (inr other) = ap (λ y. pending_of y rings q) (vp_there vps v w x other) ∙ for_none (is_pending_for vps rings w q) (q == p) w v other

-- ---- the processor that a CAM word names
pub named_is : (n cam v : ℕ) → Some v ≡ named_by n cam → cam ≡ cam_of v
named_is n cam v e = grind (arith, nat_tests)

is_valid_of : (cam : ℕ) → 2 ^ 31 ≤ cam → is_valid cam ≡ true
is_valid_of cam l = grind (arith, nat_tests)

pub named_on : (vps : List Vp) (rings : List RingRecord) (t v : ℕ) → AreFit vps rings → Some v ≡ named_by (length vps) (ring_in rings t).cam → (vp_in vps v).phase ≡ On t
named_on vps rings t v f e =
    let word = named_is (length vps) (ring_in rings t).cam v e in
    let n = f.named t (is_valid_of (ring_in rings t).cam (omega (arith, word))) in
    subst (λ k. (vp_in vps k).phase ≡ On t) (omega (arith, word, n.cam_is)) n.phase

-- ---- a ring whose CAM word stays
pub ring_changes : (vps : List Vp) (rings rings' : List RingRecord) (t : ℕ) (r : RingRecord) → AreFit vps rings → t < length rings → r.cam ≡ (ring_in rings t).cam → rings' ≡ slice_set rings t r → AreFit vps rings'
ring_changes vps rings rings' t r f l e g = subst (AreFit vps) (sym g) (same_places vps vps rings (slice_set rings t r) f refl (length-set rings t r) (λ w. refl) (cams_set rings t r l e))

-- ---- before anything happened
pub starts : (b : Board) (vps : List Vp) (threads : ℕ) → AreFirst b vps → length vps ≤ most_processors → AreFit vps (replicate threads free_ring)
starts b vps threads first few = record {
  few = few;
  threads = λ v t uses. absurd (unused v t uses);
  one_user = λ v w t uses _. absurd (unused v t uses);
  restored = λ v t e. absurd (unused v t (ap thread_of e));
  on = λ v t e. absurd (unused v t (ap thread_of e));
  pulled = λ v t e. absurd (unused v t (ap thread_of e));
  named = λ t valid. absurd (not_valid (ap (λ (r : RingRecord). is_valid r.cam) (sym (free_at t (cases_lt t threads))) ∙ valid));
}
  where
    saved : (v : ℕ) → (v < length vps) ⊎ (length vps ≤ v) → (vp_in vps v).phase ≡ Saved
    saved v (inl l) = ap (λ (y : Vp). y.phase) (first v (saved_vp false) l)
    saved v (inr l) = ap (λ (y : Vp). y.phase) (get_or_past vps v (saved_vp false) l)

    unused : (v t : ℕ) → ¬ Uses vps v t
    unused v t uses = none_some t (sym (ap thread_of (saved v (cases_lt v (length vps)))) ∙ uses)

    free_at : (t : ℕ) → (t < threads) ⊎ (threads ≤ t) → ring_in (replicate threads free_ring) t ≡ free_ring
    free_at t (inl l) = get_or-replicate threads t free_ring free_ring l
    free_at t (inr l) = get_or_past (replicate threads free_ring) t free_ring (omega (arith, length-replicate threads free_ring))

    not_valid : is_valid 0 ≡ true → ⊥
    not_valid e = grind (arith, nat_tests)
