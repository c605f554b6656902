-- Processors and rings that fit together still do when a context moves: one processor changes, and one ring.
use Rattle.std.proofs.Common.{ℕ, ◌≡◌, ◌≢◌, ◌<◌, ◌≤◌, true, false, Some, None, List, length, refl, sym, ◌∙◌, ap, subst, inl, inr, arith, slice_set, get_or-set_same, get_or-set_other}
use Rattle.std.specs.Prelude.{◌⊎◌}
use Rattle.std.proofs.lemmas.Bool.{cases_eq}
use Rattle.std.proofs.lemmas.Bool.Decides.{nat_tests}
use Rattle.std.proofs.Math.ListN.{length-set}
use Rattle.xv_base.specs.Limits.{most_processors}
use Rattle.xv_model.specs.declared.outcomes.Phase.{Phase}
use Rattle.xv_model.specs.declared.outcomes.Phase.TheVariants.{Saved, Restored, On, Pulled}
use Rattle.xv_model.specs.processor.Phases.{cam_of, thread_of}
use Rattle.nvt_backlog.specs.declared.vp.Vp.{Vp}
use Rattle.nvt_backlog.specs.Vps.{saved_vp, vp_in}
use Rattle.thread_context.specs.declared.ring.RingRecord.{RingRecord}
use Rattle.thread_context.specs.Ring.{is_valid}
use Rattle.thread_context.specs.Rings.{free_ring, ring_in}
use Rattle.presenter.specs.Contexts.{AreFit, IsNamed, Uses, pulled_cam_of}

pub none_some : (u : ℕ) → None ≡ Some u → ⊥
none_some u e = cc

pub same_some : (t u : ℕ) → Some t ≡ Some u → u ≡ t
same_some t u e = cc

-- ---- lists in which one element changes
pub vp_here : (vps : List Vp) (v : ℕ) (x : Vp) → v < length vps → vp_in (slice_set vps v x) v ≡ x
vp_here vps v x l = get_or-set_same vps v x (saved_vp false) l

pub vp_there : (vps : List Vp) (v w : ℕ) (x : Vp) → w ≢ v → vp_in (slice_set vps v x) w ≡ vp_in vps w
vp_there vps v w x other = get_or-set_other vps v w x (saved_vp false) other

pub ring_here : (rings : List RingRecord) (t : ℕ) (r : RingRecord) → t < length rings → ring_in (slice_set rings t r) t ≡ r
ring_here rings t r l = get_or-set_same rings t r free_ring l

pub ring_there : (rings : List RingRecord) (t u : ℕ) (r : RingRecord) → u ≢ t → ring_in (slice_set rings t r) u ≡ ring_in rings u
ring_there rings t u r other = get_or-set_other rings t u r free_ring other

-- the CAM word that the ring of a processor's thread has, by its phase
abbrev pub cam_at : Phase → ℕ → ℕ
cam_at Saved v = 0
cam_at (Restored t) v = 0
cam_at (On t) v = cam_of v
cam_at (Pulled t) v = pulled_cam_of v

-- only the CAM word of a processor on its thread is valid
valid_on : (p : Phase) (v t : ℕ) → v < most_processors → ((u : ℕ) → thread_of p ≡ Some u → u ≡ t) → is_valid (cam_at p v) ≡ true → p ≡ On t
valid_on Saved v t l to e = absurd (grind (arith, nat_tests))
valid_on (Restored u) v t l to e = absurd (grind (arith, nat_tests))
valid_on (On u) v t l to e = ap On (to u refl)
valid_on (Pulled u) v t l to e = absurd (grind (arith, nat_tests))

-- processor v and the ring of thread t become these, and no other processor uses the thread
pub record IsMove (vps : List Vp) (rings : List RingRecord) (v t : ℕ) (x : Vp) (r : RingRecord) : Type 0 where
  pub inside : v < length vps
  pub thread : t < length rings
  pub from : (u : ℕ) → Uses vps v u → u ≡ t
  pub alone : (w : ℕ) → w ≢ v → ¬ Uses vps w t
  pub to : (u : ℕ) → thread_of x.phase ≡ Some u → u ≡ t
  pub cam : r.cam ≡ cam_at x.phase v

-- who uses a thread then
abbrev Is : ℕ → ℕ → ℕ → ℕ → Type 0
Is v t w u = (w ≡ v) × (u ≡ t)

abbrev Was : List Vp → ℕ → ℕ → ℕ → ℕ → Type 0
Was vps v t w u = (w ≢ v) × (u ≢ t) × Uses vps w u

module _ (vps : List Vp) (rings : List RingRecord) (v t : ℕ) (x : Vp) (r : RingRecord) (f : AreFit vps rings) (m : IsMove vps rings v t x r) where
  -- who uses a thread then: processor v that of the ring, or another the one that it used
  user_by : (w u : ℕ) → (w ≡ v) ⊎ (w ≢ v) → Uses (slice_set vps v x) w u → Is v t w u ⊎ Was vps v t w u
  user_by w u (inl same) uses = inl (same, m.to u (ap (λ (y : Vp). thread_of y.phase) (sym (ap (λ k. vp_in (slice_set vps v x) k) same ∙ vp_here vps v x m.inside)) ∙ uses))
  user_by w u (inr other) uses =
      let before : Uses vps w u = ap (λ (y : Vp). thread_of y.phase) (sym (vp_there vps v w x other)) ∙ uses in
      inr (other, (λ e. m.alone w other (subst (λ u. Uses vps w u) e before)), before)

  user_then : (w u : ℕ) → Uses (slice_set vps v x) w u → Is v t w u ⊎ Was vps v t w u
  user_then w u uses = user_by w u (cases_eq w v) uses

  threads_by : (w u : ℕ) → Is v t w u ⊎ Was vps v t w u → u < length rings
  threads_by w u (inl is) = subst (λ k. k < length rings) (sym is.1) m.thread
  threads_by w u (inr was) = f.threads w u was.2

  one_by : (a b u : ℕ) → Is v t a u ⊎ Was vps v t a u → Is v t b u ⊎ Was vps v t b u → a ≡ b
  one_by a b u (inl is) (inl at) = is.0 ∙ sym at.0
  one_by a b u (inl is) (inr was) = absurd (was.1 is.1)
  one_by a b u (inr was) (inl is) = absurd (was.1 is.1)
  one_by a b u (inr was) (inr at) = f.one_user a b u was.2 at.2

  cam_by : (p : Phase) (w u : ℕ) → (vp_in (slice_set vps v x) w).phase ≡ p → ((vp_in vps w).phase ≡ p → (ring_in rings u).cam ≡ cam_at p w) → Is v t w u ⊎ Was vps v t w u → (ring_in (slice_set rings t r) u).cam ≡ cam_at p w
  cam_by p w u e old (inl is) =
      let ring : (ring_in (slice_set rings t r) u).cam ≡ r.cam = ap (λ k. (ring_in (slice_set rings t r) k).cam) is.1 ∙ ap (λ (y : RingRecord). y.cam) (ring_here rings t r m.thread) in
      let phase : x.phase ≡ p = ap (λ (y : Vp). y.phase) (sym (ap (λ k. vp_in (slice_set vps v x) k) is.0 ∙ vp_here vps v x m.inside)) ∙ e in
      ring ∙ m.cam ∙ ap (λ q. cam_at q v) phase ∙ ap (cam_at p) (sym is.0)
  cam_by p w u e old (inr was) = ap (λ (y : RingRecord). y.cam) (ring_there rings t u r was.1) ∙ old (ap (λ (y : Vp). y.phase) (sym (vp_there vps v w x was.0)) ∙ e)

  len : length (slice_set vps v x) ≡ length vps
  len = length-set vps v x

  named_here : is_valid r.cam ≡ true → IsNamed (slice_set vps v x) t r.cam
  named_here valid =
      let phase : x.phase ≡ On t = valid_on x.phase v t (omega (arith, m.inside, f.few)) m.to (ap is_valid (sym m.cam) ∙ valid) in
      record {
        v = v;
        inside = subst (λ n. v < n) (sym len) m.inside;
        cam_is = m.cam ∙ ap (λ p. cam_at p v) phase;
        phase = ap (λ (y : Vp). y.phase) (vp_here vps v x m.inside) ∙ phase;
      }

  named_there : (u : ℕ) → u ≢ t → IsNamed vps u (ring_in rings u).cam → IsNamed (slice_set vps v x) u (ring_in (slice_set rings t r) u).cam
  named_there u away n =
      let other : n.v ≢ v = λ same. away (m.from u (subst (λ k. Uses vps k u) same (ap thread_of n.phase))) in
      record {
        v = n.v;
        inside = subst (λ k. n.v < k) (sym len) n.inside;
        cam_is = ap (λ (y : RingRecord). y.cam) (ring_there rings t u r away) ∙ n.cam_is;
        phase = ap (λ (y : Vp). y.phase) (vp_there vps v n.v x other) ∙ n.phase;
      }

  named_by_place : (u : ℕ) → (u ≡ t) ⊎ (u ≢ t) → is_valid (ring_in (slice_set rings t r) u).cam ≡ true → IsNamed (slice_set vps v x) u (ring_in (slice_set rings t r) u).cam
  named_by_place u (inl same) valid =
      let ring : ring_in (slice_set rings t r) u ≡ r = ap (λ k. ring_in (slice_set rings t r) k) same ∙ ring_here rings t r m.thread in
      let named : IsNamed (slice_set vps v x) t r.cam = named_here (ap (λ (y : RingRecord). is_valid y.cam) (sym ring) ∙ valid) in
      subst (λ k. IsNamed (slice_set vps v x) k (ring_in (slice_set rings t r) u).cam) (sym same) (subst (λ (y : RingRecord). IsNamed (slice_set vps v x) t y.cam) (sym ring) named)
  named_by_place u (inr away) valid = named_there u away (f.named u (ap (λ (y : RingRecord). is_valid y.cam) (sym (ring_there rings t u r away)) ∙ valid))

  pub fits : AreFit (slice_set vps v x) (slice_set rings t r)
  fits = record {
    few = subst (λ n. n ≤ most_processors) (sym len) f.few;
    threads = λ w u uses. subst (λ n. u < n) (sym (length-set rings t r)) (threads_by w u (user_then w u uses));
    one_user = λ a b u first second. one_by a b u (user_then a u first) (user_then b u second);
    restored = λ w u e. cam_by (Restored u) w u e (f.restored w u) (user_then w u (ap thread_of e));
    on = λ w u e. cam_by (On u) w u e (f.on w u) (user_then w u (ap thread_of e));
    pulled = λ w u e. cam_by (Pulled u) w u e (f.pulled w u) (user_then w u (ap thread_of e));
    named = λ u valid. named_by_place u (cases_eq u t) valid;
  }

-- nothing is asked of pending priorities
pub same_places : (vps vps' : List Vp) (rings rings' : List RingRecord) → AreFit vps rings → length vps' ≡ length vps → length rings' ≡ length rings →
    ((w : ℕ) → (vp_in vps' w).phase ≡ (vp_in vps w).phase) → ((u : ℕ) → (ring_in rings' u).cam ≡ (ring_in rings u).cam) → AreFit vps' rings'
same_places vps vps' rings rings' f len count phases cams = record {
  few = subst (λ n. n ≤ most_processors) (sym len) f.few;
  threads = λ w u uses. subst (λ n. u < n) (sym count) (f.threads w u (ap thread_of (sym (phases w)) ∙ uses));
  one_user = λ a b u first second. f.one_user a b u (ap thread_of (sym (phases a)) ∙ first) (ap thread_of (sym (phases b)) ∙ second);
  restored = λ w u e. cams u ∙ f.restored w u (sym (phases w) ∙ e);
  on = λ w u e. cams u ∙ f.on w u (sym (phases w) ∙ e);
  pulled = λ w u e. cams u ∙ f.pulled w u (sym (phases w) ∙ e);
  named = λ u valid. still u (f.named u (ap is_valid (sym (cams u)) ∙ valid));
}
  where
    still : (u : ℕ) → IsNamed vps u (ring_in rings u).cam → IsNamed vps' u (ring_in rings' u).cam
    still u n = record {
      v = n.v;
      inside = subst (λ k. n.v < k) (sym len) n.inside;
      cam_is = cams u ∙ n.cam_is;
      phase = phases n.v ∙ n.phase;
    }

pub phases_set : (vps : List Vp) (v : ℕ) (x : Vp) → v < length vps → x.phase ≡ (vp_in vps v).phase → (w : ℕ) → (vp_in (slice_set vps v x) w).phase ≡ (vp_in vps w).phase
phases_set vps v x l e w = elim (cases_eq w v) [
  | inl same ↦ subst (λ k. (vp_in (slice_set vps v x) k).phase ≡ (vp_in vps k).phase) (sym same) (ap (λ (y : Vp). y.phase) (vp_here vps v x l) ∙ e)
  | inr other ↦ ap (λ (y : Vp). y.phase) (vp_there vps v w x other)
]

pub cams_set : (rings : List RingRecord) (t : ℕ) (r : RingRecord) → t < length rings → r.cam ≡ (ring_in rings t).cam → (u : ℕ) → (ring_in (slice_set rings t r) u).cam ≡ (ring_in rings u).cam
cams_set rings t r l e u = elim (cases_eq u t) [
  | inl same ↦ subst (λ k. (ring_in (slice_set rings t r) k).cam ≡ (ring_in rings k).cam) (sym same) (ap (λ (y : RingRecord). y.cam) (ring_here rings t r l) ∙ e)
  | inr other ↦ ap (λ (y : RingRecord). y.cam) (ring_there rings t u r other)
]
