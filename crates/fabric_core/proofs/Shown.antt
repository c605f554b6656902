-- What is shown of a ring is what the account says of it.
use Rattle.std.proofs.Common.{ℕ, ◌≡◌, ◌<◌, ◌+◌, ◌^◌, ◌&&◌, ◌⊎◌, Bool, true, false, if◌then◌else◌, Option, Some, None, List, refl, sym, ◌∙◌, ap, subst, inl, inr, arith}
use Rattle.std.specs.Prelude.{nat_lt}
use Rattle.std.specs.Option.{option_map_or}
use Rattle.std.proofs.lemmas.Bool.Decides.{nat_tests}
use Rattle.xv_model.specs.declared.entries.Entry.{Entry}
use Rattle.xv_model.specs.declared.outcomes.Phase.{Phase}
use Rattle.xv_model.specs.declared.outcomes.Phase.TheVariants.{Saved, Restored, On, Pulled}
use Rattle.xv_model.specs.account.Start.{Start}
use Rattle.xv_model.specs.processor.Priorities.{has_priority, least_of, priorities}
use Rattle.xv_model.specs.processor.Phases.{is_running, phase, user_of, thread_of, cam_of}
use Rattle.xv_model.specs.processor.Pending.{kept, pending}
use Rattle.xv_model.specs.processor.Registers.{Ring as Registers, cppr, ring, ring_of as registers_of, used_ring}
use Rattle.xv_model.proofs.Bytes as bytes
use Rattle.nvt_backlog.specs.Vps.{vp_in}
use Rattle.thread_context.specs.declared.ring.RingRecord.{RingRecord}
use Rattle.thread_context.specs.Priorities.{least_pending}
use Rattle.thread_context.specs.Ring.{is_valid, nsr_of, ring_of}
use Rattle.thread_context.specs.Rings.{free_ring, ring_in}
use Rattle.thread_context.proofs.Pending.{least_exactly, none_exactly}
use Rattle.presenter.specs.Contexts.{AreFit, IsUser, pulled_cam_of, ipb_in}
use Rattle.presenter.proofs.Fitting.{none_some, same_some}
use Rattle.fabric_core.specs.Processors.{IsProcessor, Parts, StandsFor, cppr_in, ring_shown}
use Rattle.fabric_core.proofs.OnRing.{none_in_zero, ring_cppr, ring_pending}
use Rattle.fabric_core.proofs.OnThread.{valid_word}
use Rattle.fabric_core.proofs.Places.{user_stands, uses_inside}

-- ---- registers that say the same
-- the least priority of a byte is that of the priorities that it has
pub same_least : (ipb : ℕ) → least_pending ipb ≡ least_of (has_priority ipb)
same_least ipb = by (least_of (has_priority ipb)) (bytes.least_of-tells (has_priority ipb))
  where
    by : (r : ℕ) → bytes.IsLeast (has_priority ipb) priorities r ⊎ bytes.IsNone (has_priority ipb) priorities r → least_pending ipb ≡ r
    by r (inl l) = (least_exactly ipb r l.below).1 (record { pending = l.picked; none_less = l.none_less })
    by r (inr n) = (none_exactly ipb).1 n.picks_none ∙ sym n.none

-- what is kept of a ring says what these registers say
pub record Says (r : RingRecord) (x : Registers) : Type 0 where
  pub nsr : nsr_of r.cppr r.ipb r.cam ≡ x.nsr
  pub cppr : r.cppr ≡ x.cppr
  pub pipr : least_pending r.ipb ≡ x.pipr
  pub cam : r.cam ≡ x.cam
  pub ipb : r.ipb < 2 ^ 8 → r.ipb ≡ x.ipb

pub says : (r : RingRecord) (on : Bool) (stored cam : ℕ) (picks : ℕ → Bool) → is_valid r.cam ≡ on → r.cppr ≡ stored → ((q : ℕ) → q < 8 → has_priority r.ipb q ≡ picks q) → r.cam ≡ cam → Says r (registers_of on stored picks cam)
says r on stored cam picks valid cppr pending word = record {
  nsr = λ i. if valid i && nat_lt (least i) (cppr i) then 0x80 else 0;
  cppr = cppr;
  pipr = least;
  cam = word;
  ipb = λ byte. sym (bytes.byte_of_has r.ipb byte) ∙ bytes.byte_of-agrees (has_priority r.ipb) picks pending;
}
  where
    least : least_pending r.ipb ≡ least_of picks
    least = same_least r.ipb ∙ bytes.least_of-agrees (has_priority r.ipb) picks pending

-- ---- by where the context of the thread's user is
not_valid : (v : ℕ) → v < 2 ^ 30 → is_valid (pulled_cam_of v) ≡ false
not_valid v l = grind (arith, nat_tests)

module _ (p : Parts) (z : Start) (h : List Entry) (s : StandsFor p z h) (f : AreFit p.vps.vps p.rings) where
  says_used : (v t : ℕ) (q : Phase) → phase z h v ≡ q → v < z.board.limits.processors → thread_of q ≡ Some t → Says (ring_in p.rings t) (used_ring z h v q)
  says_used v t Saved e l uses = absurd (none_some t uses)
  says_used v t (Restored u) e l uses = subst (λ k. Says (ring_in p.rings k) (used_ring z h v (Restored u))) (sym (same_some u t uses))
      (let is : IsProcessor p.vps.vps p.rings z h v = s.each v l in
      let word : (ring_in p.rings u).cam ≡ 0 = f.restored v u (is.at ∙ e) in
      says (ring_in p.rings u) false (cppr z h v) 0 (kept z h v) (ap is_valid word) (ap (λ q. cppr_in (vp_in p.vps.vps v) p.rings (thread_of q)) (sym e) ∙ is.cppr_is)
      (λ q b. ap (λ w. has_priority (ipb_in (vp_in p.vps.vps v) p.rings (thread_of w)) q) (sym e) ∙ is.is_kept_as (ap is_running e) q b) word)
  says_used v t (On u) e l uses = subst (λ k. Says (ring_in p.rings k) (used_ring z h v (On u))) (sym (same_some u t uses))
      (let is : IsProcessor p.vps.vps p.rings z h v = s.each v l in
      let word : (ring_in p.rings u).cam ≡ cam_of v = f.on v u (is.at ∙ e) in
      says (ring_in p.rings u) true (cppr z h v) (0x80000400 + v) (pending z h v) (ap is_valid word ∙ valid_word v) (ring_cppr p.vps.vps p.rings z h v u is e) (ring_pending p.vps.vps p.rings z h v u is e) (word ∙ omega arith))
  says_used v t (Pulled u) e l uses = subst (λ k. Says (ring_in p.rings k) (used_ring z h v (Pulled u))) (sym (same_some u t uses))
      (let is : IsProcessor p.vps.vps p.rings z h v = s.each v l in
      let word : (ring_in p.rings u).cam ≡ pulled_cam_of v = f.pulled v u (is.at ∙ e) in
      says (ring_in p.rings u) false (cppr z h v) (pulled_cam_of v) (kept z h v) (ap is_valid word ∙ not_valid v (omega (arith, l, s.processors, f.few))) (ap (λ q. cppr_in (vp_in p.vps.vps v) p.rings (thread_of q)) (sym e) ∙ is.cppr_is)
      (λ q b. ap (λ w. has_priority (ipb_in (vp_in p.vps.vps v) p.rings (thread_of w)) q) (sym e) ∙ is.is_kept_as (ap is_running e) q b) word)

  says_by : (t : ℕ) (u : Option ℕ) → IsUser p.vps.vps t u → Says (ring_in p.rings t) (option_map_or (λ v. used_ring z h v (phase z h v)) u (registers_of false 0 (λ q. false) 0))
  says_by t (Some v) uses =
      let l = uses_inside p z h s v t uses in
      says_used v t (phase z h v) refl l (ap thread_of (sym (s.each v l).at) ∙ uses)
  says_by t None none = subst (λ r. Says r (registers_of false 0 (λ q. false) 0)) (sym (s.free t none)) (says free_ring false 0 0 (λ q. false) refl refl (λ q b. none_in_zero 0 q refl) refl)

  -- the ring of a thread says what the account says of it
  pub ring_says : (t : ℕ) → Says (ring_in p.rings t) (ring z h t)
  ring_says t = says_by t (user_of z h t) (user_stands p z h s t)

  pub shows : (t : ℕ) → (ring_in p.rings t).ipb < 2 ^ 8 → ring_of (ring_in p.rings t) ≡ ring_shown z h t
  shows t byte = let x = ring_says t in λ i. record { nsr = x.nsr i; cppr = x.cppr i; ipb = x.ipb byte i; pipr = x.pipr i; cam = x.cam i }
