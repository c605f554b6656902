-- The processor that uses a thread, and the one that is on it: those of the account are those that are kept.
use Rattle.std.proofs.Common.{ℕ, ◌≡◌, ◌≢◌, ◌<◌, Bool, true, false, true≢false, if◌then◌else◌, Option, Some, None, List, refl, sym, ◌∙◌, ap, arith}
use Rattle.std.proofs.lemmas.Bool.{eq-eqb}
use Rattle.std.proofs.lemmas.Bool.Decides.{nat_tests}
use Rattle.xv_model.specs.declared.entries.Entry.{Entry}
use Rattle.xv_model.specs.declared.outcomes.Phase.{Phase}
use Rattle.xv_model.specs.declared.outcomes.Phase.TheVariants.{On}
use Rattle.xv_model.specs.account.Start.{Start}
use Rattle.xv_model.specs.processor.Phases.{is_on, phase, user_of, thread_of, cam_of}
use Rattle.xv_model.specs.processor.Moves.{on_by, on_of}
use Rattle.nvt_backlog.specs.declared.vp.Vp.{Vp}
use Rattle.nvt_backlog.specs.Vps.{vp_in}
use Rattle.thread_context.specs.Ring.{is_valid}
use Rattle.thread_context.specs.Rings.{ring_in}
use Rattle.presenter.specs.Contexts.{AreFit, IsUser, Uses}
use Rattle.thread_context.specs.declared.ring.RingRecord.{RingRecord}
use Rattle.fabric_core.specs.Processors.{Parts, StandsFor}
use Rattle.fabric_core.proofs.Places.{on_is, on_stands, user_stands, uses_inside}

-- whether a context is on a thread
off_is : (t : ℕ) (q : Phase) (b : Bool) → is_on t q ≡ b → q ≢ On t → b ≡ false
off_is t q true e off = absurd (off (on_is t q e))
off_is t q false e off = refl

pub is_off : (t : ℕ) (q : Phase) → q ≢ On t → is_on t q ≡ false
is_off t q off = off_is t q (is_on t q) refl off

-- ---- the user of a thread
-- a thread has one user, or none
same_user : (vps : List Vp) (rings : List RingRecord) → AreFit vps rings → (t : ℕ) (u w : Option ℕ) → IsUser vps t u → IsUser vps t w → u ≡ w
same_user vps rings f t (Some v) (Some w) uses also = ap Some (f.one_user v w t uses also)
same_user vps rings f t (Some v) None uses none = absurd (none v uses)
same_user vps rings f t None (Some w) none uses = absurd (none w uses)
same_user vps rings f t None None none also = refl

module _ (p : Parts) (z : Start) (h : List Entry) (s : StandsFor p z h) where
  -- the user of a thread is that of the account
  pub user_named : AreFit p.vps.vps p.rings → (t : ℕ) (u : Option ℕ) → IsUser p.vps.vps t u → user_of z h t ≡ u
  user_named f t u is = same_user p.vps.vps p.rings f t (user_of z h t) u (user_stands p z h s t) is

  -- the processor that is on a thread is that of the account
  pub phase_named : (v t : ℕ) → v < z.board.limits.processors → (vp_in p.vps.vps v).phase ≡ On t → phase z h v ≡ On t
  phase_named v t l on = sym ((s.each v l).at) ∙ on

  pub on_named : AreFit p.vps.vps p.rings → (v t : ℕ) → (vp_in p.vps.vps v).phase ≡ On t → on_of z h t ≡ Some v
  on_named f v t on =
      let l = uses_inside p z h s v t (ap thread_of on) in
      ap (on_by (phase z h) t) (user_named f t (Some v) (ap thread_of on))
      ∙ ap (λ q. if is_on t q then Some v else None) (phase_named v t l on)
      ∙ ap (λ b. if b then Some v else None) (eq-eqb t t refl)

  -- where none is on it, none is in the account
  pub off_phase : (v t : ℕ) → (vp_in p.vps.vps v).phase ≢ On t → v < z.board.limits.processors → is_on t (phase z h v) ≡ false
  off_phase v t off l = is_off t (phase z h v) (λ on. off ((s.each v l).at ∙ on))

  pub off_named : (t : ℕ) → ((v : ℕ) → (vp_in p.vps.vps v).phase ≢ On t) → on_of z h t ≡ None
  off_named t off = by (on_of z h t) refl
    where
      by : (on : Option ℕ) → on_of z h t ≡ on → on ≡ None
      by None e = refl
      by (Some v) e = absurd (off v (on_stands p z h s t v e).1)

-- ---- a thread by the CAM word of its ring
-- processor v is on the thread, and no other
pub record IsOn (p : Parts) (z : Start) (h : List Entry) (v t : ℕ) : Type 0 where
  pub inside : v < z.board.limits.processors
  pub kept : (vp_in p.vps.vps v).phase ≡ On t
  pub phase_is : phase z h v ≡ On t
  pub answers : on_of z h t ≡ Some v
  pub others : (w : ℕ) → w ≢ v → ¬ Uses p.vps.vps w t
  pub off : (w : ℕ) → w < z.board.limits.processors → w ≢ v → is_on t (phase z h w) ≡ false

pub on_by_phase : (p : Parts) (z : Start) (h : List Entry) → StandsFor p z h → AreFit p.vps.vps p.rings → (v t : ℕ) → (vp_in p.vps.vps v).phase ≡ On t → IsOn p z h v t
on_by_phase p z h s f v t at = record {
  inside = uses_inside p z h s v t (ap thread_of at);
  kept = at;
  phase_is = phase_named p z h s v t (uses_inside p z h s v t (ap thread_of at)) at;
  answers = on_named p z h s f v t at;
  others = others;
  off = λ w l other. off_phase p z h s w t (λ also. others w other (ap thread_of also)) l;
}
  where
    others : (w : ℕ) → w ≢ v → ¬ Uses p.vps.vps w t
    others w other also = other (f.one_user w v t also (ap thread_of at))

pub on_by_cam : (p : Parts) (z : Start) (h : List Entry) → StandsFor p z h → AreFit p.vps.vps p.rings → (t : ℕ) → is_valid (ring_in p.rings t).cam ≡ true → (v : ℕ) × IsOn p z h v t
on_by_cam p z h s f t valid = ((f.named t valid).v, on_by_phase p z h s f (f.named t valid).v t (f.named t valid).phase)

-- where the CAM word isn't valid none is on the thread
pub valid_word : (v : ℕ) → is_valid (cam_of v) ≡ true
valid_word v = grind (arith, nat_tests)

pub off_by_cam : (p : Parts) → AreFit p.vps.vps p.rings → (t : ℕ) → is_valid (ring_in p.rings t).cam ≡ false → (v : ℕ) → (vp_in p.vps.vps v).phase ≢ On t
off_by_cam p f t not_valid v at = true≢false (sym (valid_word v) ∙ ap is_valid (sym (f.on v t at)) ∙ not_valid)
