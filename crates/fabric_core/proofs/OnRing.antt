-- The ring of a thread on which a processor is: it has the CPPR and the pending priorities of the processor, and what changes it is an entry of that processor alone.
use Rattle.std.proofs.Common.{◌⊎◌, ℕ, ◌≡◌, ◌≢◌, ◌<◌, ◌||◌, ◌-◌, ◌==◌, false, true≢false, Some, None, List, ◌∷◌, length, refl, sym, ◌∙◌, ap, subst, inl, inr, slice_set, eq-eqb}
use Rattle.std.specs.Option.{option_map_or}
use Rattle.std.proofs.lemmas.Bool.{cases_eq}
use Rattle.std.proofs.lemmas.Nat.Bits.{bit_at-zero}
use Rattle.std.proofs.Math.ListN.{length-set}
use Rattle.xv_model.specs.declared.entries.Entry.{Entry}
use Rattle.xv_model.specs.declared.operations.Access.{Access}
use Rattle.xv_model.specs.declared.operations.Op.TheVariants as op
use Rattle.xv_model.specs.declared.outcomes.Outcome.{Outcome}
use Rattle.xv_model.specs.declared.outcomes.Phase.{Phase}
use Rattle.xv_model.specs.declared.outcomes.Phase.TheVariants.{On}
use Rattle.xv_model.specs.declared.tima.RingOp.{RingOp}
use Rattle.xv_model.specs.account.Start.{Start}
use Rattle.xv_model.specs.processor.RingOps.{ring_op}
use Rattle.xv_model.specs.device.Accepted.{servers_in}
use Rattle.xv_model.specs.processor.Phases.{is_connected, is_running, is_saved, moved_at, moved_by, phase, thread_of}
use Rattle.xv_model.specs.processor.Pending.{pending, ring_says}
use Rattle.xv_model.specs.processor.Registers.{cppr, cppr_in as cppr_by}
use Rattle.xv_model.specs.processor.Priorities.{has_priority}
use Rattle.nvt_backlog.specs.declared.vp.Vp.{Vp}
use Rattle.nvt_backlog.specs.Vps.{vp_in}
use Rattle.thread_context.specs.declared.ring.RingRecord.{RingRecord}
use Rattle.thread_context.specs.Rings.{ring_in}
use Rattle.presenter.specs.Contexts.{is_pending_for}
use Rattle.presenter.proofs.Fitting.{ring_here, ring_there}
use Rattle.presenter.proofs.Keeping.{on_thread, or_false}
use Rattle.fabric_core.specs.Processors.{IsProcessor, Parts, StandsFor, cppr_in}
use Rattle.fabric_core.proofs.OnThread.{IsOn}
use Rattle.fabric_core.proofs.Silent.{access_off}
use Rattle.fabric_core.proofs.Untouched.{IsUntouched, servers_stay, stays}

-- no priority is in a byte that is 0
pub none_in_zero : (ipb q : ℕ) → ipb ≡ 0 → has_priority ipb q ≡ false
none_in_zero ipb q e = ap (λ n. has_priority n q) e ∙ ap (λ b. b == 1) (bit_at-zero (7 - q))

-- ---- what the ring has
module _ (vps : List Vp) (rings : List RingRecord) (z : Start) (h : List Entry) (v t : ℕ) (is : IsProcessor vps rings z h v) (on : phase z h v ≡ On t) where
  pub ring_cppr : (ring_in rings t).cppr ≡ cppr z h v
  ring_cppr = ap (λ (p : Phase). cppr_in (vp_in vps v) rings (thread_of p)) (sym on) ∙ is.cppr_is

  -- all that is pending is in the ring
  pub in_ring : (q : ℕ) → is_pending_for vps rings v q ≡ has_priority (ring_in rings t).ipb q
  in_ring q =
      on_thread (vp_in vps v) rings t q (ap thread_of (is.at ∙ on))
      ∙ ap (λ b. has_priority (ring_in rings t).ipb q || b) (none_in_zero (vp_in vps v).backlog q (is.none_late (ap is_running on)))
      ∙ or_false (has_priority (ring_in rings t).ipb q)

  pub ring_pending : (q : ℕ) → q < 8 → has_priority (ring_in rings t).ipb q ≡ pending z h v q
  ring_pending q l = sym (in_ring q) ∙ is.is_pending_as q l

-- ---- one more entry, after which the processor is there still
-- it has the CPPR and the pending priorities of the ring as it is then
pub on_then : (vps : List Vp) (rings : List RingRecord) (z : Start) (h : List Entry) (x : Entry) (v t : ℕ) (r : RingRecord) → IsProcessor vps rings z h v → phase z h v ≡ On t → t < length rings →
    is_connected z (x ∷ h) v ≡ is_connected z h v → phase z (x ∷ h) v ≡ On t → r.cppr ≡ cppr z (x ∷ h) v → ((q : ℕ) → q < 8 → has_priority r.ipb q ≡ pending z (x ∷ h) v q) →
    IsProcessor vps (slice_set rings t r) z (x ∷ h) v
on_then vps rings z h x v t r is on l connected still stored now = record {
  valid = is.valid ∙ sym connected;
  at = is.at ∙ on ∙ sym still;
  cppr_is = ap (λ (p : Phase). cppr_in (vp_in vps v) (slice_set rings t r) (thread_of p)) still ∙ ap (λ (y : RingRecord). y.cppr) (ring_here rings t r l) ∙ stored;
  is_pending_as = λ q b.
      on_thread (vp_in vps v) (slice_set rings t r) t q (ap thread_of (is.at ∙ on))
      ∙ ap (λ (y : RingRecord). has_priority y.ipb q || has_priority (vp_in vps v).backlog q) (ring_here rings t r l)
      ∙ ap (λ c. has_priority r.ipb q || c) (none_in_zero (vp_in vps v).backlog q (is.none_late (ap is_running on)))
      ∙ or_false (has_priority r.ipb q)
      ∙ now q b;
  is_kept_as = λ off. absurd (true≢false (sym (ap is_running still) ∙ off));
  is_late_as = λ off. absurd (true≢false (sym (ap is_running still) ∙ off));
  none_late = λ e. is.none_late (ap is_running on);
  no_cppr = λ e. is.no_cppr (ap is_saved on);
  no_ipb = λ e. is.no_ipb (ap is_saved on);
}

-- the ring of a thread changes by an entry that says nothing of other processors
pub ring_then : (p p' : Parts) (z : Start) (h : List Entry) (x : Entry) (v t : ℕ) (r : RingRecord) → servers_in x.op x.outcome ≡ None → StandsFor p z h → IsOn p z h v t → p'.vps ≡ p.vps → p'.rings ≡ slice_set p.rings t r →
    ((w : ℕ) → w < z.board.limits.processors → w ≢ v → IsUntouched z h w x) → IsProcessor p.vps.vps (slice_set p.rings t r) z (x ∷ h) v → StandsFor p' z (x ∷ h)
ring_then p p' z h x v t r none s o same set others is = subst (λ q. StandsFor q z (x ∷ h)) (λ i. record { vps = sym same i; rings = sym set i }) (record {
  servers_are = s.servers_are ∙ sym (servers_stay z h x none);
  processors = s.processors;
  threads = length-set p.rings t r ∙ s.threads;
  each = λ w l. each w l (cases_eq w v);
  free = λ u none. ring_there p.rings t u r (λ e. none v (ap thread_of o.kept ∙ ap Some (sym e))) ∙ s.free u none;
})
  where
    each : (w : ℕ) → w < z.board.limits.processors → (w ≡ v) ⊎ (w ≢ v) → IsProcessor p.vps.vps (slice_set p.rings t r) z (x ∷ h) w
    each w l (inl here) = subst (λ k. IsProcessor p.vps.vps (slice_set p.rings t r) z (x ∷ h) k) (sym here) is
    each w l (inr other) = stays p.vps.vps p.vps.vps p.rings (slice_set p.rings t r) z h w x (others w l other) (s.each w l) refl
        (λ u uses. ring_there p.rings t u r (λ e. o.others w other (uses ∙ ap Some e)))

-- ---- an access to the ring
module _ (z : Start) (h : List Entry) (v t actor page offset size : ℕ) (access : Access) (u : Outcome) (o : RingOp) (e : ring_op page offset size access ≡ Some o) (on : phase z h v ≡ On t) where
  abbrev entry : Entry
  entry = record { actor = actor; op = op.Tima t page offset size access; outcome = u }

  pub phase_then : moved_by t o u ≡ None → phase z (entry ∷ h) v ≡ On t
  phase_then away = rw (e, away) on

  pub cppr_then : cppr z (entry ∷ h) v ≡ option_map_or (λ n. n) (cppr_by o u) (cppr z h v)
  cppr_then = rw (e, on, eq-eqb t t refl) refl

  pub pending_then : (q : ℕ) → pending z (entry ∷ h) v q ≡ option_map_or (λ b. b) (ring_says q o u) (pending z h v q)
  pending_then q = rw (e, on, eq-eqb t t refl) refl

-- the ring that the access leaves has what the access says
pub access_then : (p p' : Parts) (z : Start) (h : List Entry) (v t actor page offset size : ℕ) (access : Access) (u : Outcome) (o : RingOp) (r : RingRecord) → StandsFor p z h → IsOn p z h v t → t < length p.rings →
    ring_op page offset size access ≡ Some o → moved_by t o u ≡ None → p'.vps ≡ p.vps → p'.rings ≡ slice_set p.rings t r →
    r.cppr ≡ option_map_or (λ n. n) (cppr_by o u) (ring_in p.rings t).cppr → ((q : ℕ) → q < 8 → has_priority r.ipb q ≡ option_map_or (λ b. b) (ring_says q o u) (has_priority (ring_in p.rings t).ipb q)) →
    StandsFor p' z (record { actor = actor; op = op.Tima t page offset size access; outcome = u } ∷ h)
access_then p p' z h v t actor page offset size access u o r s on l e away same set stored now =
    let is : IsProcessor p.vps.vps p.rings z h v = s.each v on.inside in
    ring_then p p' z h (record { actor = actor; op = op.Tima t page offset size access; outcome = u }) v t r refl s on same set
    (λ w less other. access_off z h w t actor page offset size access u o e (on.off w less other) (ap (moved_at w) away))
    (on_then p.vps.vps p.rings z h (record { actor = actor; op = op.Tima t page offset size access; outcome = u }) v t r is on.phase_is l refl (phase_then z h v t actor page offset size access u o e on.phase_is away)
    (stored ∙ ap (option_map_or (λ n. n) (cppr_by o u)) (ring_cppr p.vps.vps p.rings z h v t is on.phase_is) ∙ sym (cppr_then z h v t actor page offset size access u o e on.phase_is))
    (λ q b. now q b ∙ ap (option_map_or (λ b. b) (ring_says q o u)) (ring_pending p.vps.vps p.rings z h v t is on.phase_is q b) ∙ sym (pending_then z h v t actor page offset size access u o e on.phase_is q)))
