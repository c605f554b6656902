-- Processors in which the context of one moves represent the account with that move.
use Rattle.std.proofs.Common.{ℕ, ◌≡◌, ◌≢◌, ◌<◌, ◌-◌, ◌==◌, ◌&&◌, not, false, if◌then◌else◌, Some, None, List, ◌∷◌, length, refl, sym, ◌∙◌, ap, subst, inl, inr, slice_set}
use Rattle.std.specs.Prelude.{◌⊎◌}
use Rattle.std.proofs.lemmas.Bool.{cases_eq}
use Rattle.std.proofs.Math.ListN.{length-set}
use Rattle.xv_model.specs.declared.entries.Entry.{Entry}
use Rattle.xv_model.specs.declared.operations.Access.{Access}
use Rattle.xv_model.specs.declared.operations.Op.TheVariants as op
use Rattle.xv_model.specs.declared.outcomes.Outcome.TheVariants as out
use Rattle.xv_model.specs.declared.outcomes.Phase.{Phase}
use Rattle.xv_model.specs.declared.outcomes.Phase.TheVariants.{Saved, Restored, On, Pulled}
use Rattle.xv_model.specs.declared.tima.RingOp.TheVariants.{Push, Pull}
use Rattle.xv_model.specs.account.Start.{Start}
use Rattle.xv_model.specs.processor.RingOps.{ring_op}
use Rattle.xv_model.specs.device.Accepted.{servers_in}
use Rattle.xv_model.specs.processor.Phases.{cam_of, is_connected, is_on, phase, thread_of}
use Rattle.xv_model.specs.processor.Pending.{kept, late, pending}
use Rattle.xv_model.specs.processor.Registers.{cppr}
use Rattle.xv_model.specs.processor.Moves.{is_pulled}
use Rattle.nvt_backlog.specs.declared.vp.Vp.{Vp}
use Rattle.nvt_backlog.specs.Vps.{vp_in}
use Rattle.thread_context.specs.declared.ring.RingRecord.{RingRecord}
use Rattle.thread_context.specs.Rings.{free_ring, loaded, pulled, pushed, ring_in}
use Rattle.presenter.specs.Contexts.{AreFit, IsUser, KeepsPending, Uses}
use Rattle.presenter.specs.Moves.{on, pulled_from, restored, saved_from}
use Rattle.presenter.proofs.Fitting.{none_some, ring_here, ring_there, same_some, vp_here, vp_there}
use Rattle.fabric_core.specs.Processors.{IsProcessor, Parts, StandsFor}
use Rattle.fabric_core.proofs.Moving.{IsMoved, IsVpOf, of_processor, pull_moves, pulled_as, push_moves, pushed_as, restore_moves, restored_as, save_moves, saved_as, to_processor}
use Rattle.fabric_core.proofs.OnRing.{ring_pending}
use Rattle.fabric_core.proofs.OnThread.{off_phase, phase_named}
use Rattle.fabric_core.proofs.Places.{counted}
use Rattle.fabric_core.proofs.Silent.{access_off, not_moved, other_restore, other_save}
use Rattle.fabric_core.proofs.Untouched.{IsUntouched, servers_stay, stays}

-- processor v and the ring of thread t become these; no other processor uses the thread, and v no other thread
pub record IsStep (p p' : Parts) (v t : ℕ) (vp : Vp) (r : RingRecord) : Type 0 where
  pub vps_are : p'.vps.vps ≡ slice_set p.vps.vps v vp
  pub rings_are : p'.rings ≡ slice_set p.rings t r
  pub servers_are : p'.vps.servers ≡ p.vps.servers
  pub inside : v < length p.vps.vps
  pub thread : t < length p.rings
  pub alone : (w : ℕ) → w ≢ v → ¬ Uses p.vps.vps w t
  pub from : (u : ℕ) → Uses p.vps.vps v u → u ≡ t
  pub leaves : (thread_of vp.phase ≡ Some t) ⊎ (r ≡ free_ring)

module _ (p p' : Parts) (v t : ℕ) (vp : Vp) (r : RingRecord) (st : IsStep p p' v t vp r) where
  pub vp_then : vp_in p'.vps.vps v ≡ vp
  vp_then = ap (λ vps. vp_in vps v) st.vps_are ∙ vp_here p.vps.vps v vp st.inside

  pub vp_other : (w : ℕ) → w ≢ v → vp_in p'.vps.vps w ≡ vp_in p.vps.vps w
  vp_other w other = ap (λ vps. vp_in vps w) st.vps_are ∙ vp_there p.vps.vps v w vp other

  pub ring_then : ring_in p'.rings t ≡ r
  ring_then = ap (λ rings. ring_in rings t) st.rings_are ∙ ring_here p.rings t r st.thread

  pub ring_other : (u : ℕ) → u ≢ t → ring_in p'.rings u ≡ ring_in p.rings u
  ring_other u other = ap (λ rings. ring_in rings u) st.rings_are ∙ ring_there p.rings t u r other

  -- a thread that none uses then was used by none, or it is the one that the processor left
  free_before : (u : ℕ) → u ≢ t → IsUser p'.vps.vps u None → IsUser p.vps.vps u None
  free_before u away none w uses = elim (cases_eq w v) [
    | inl same ↦ away (st.from u (subst (λ k. Uses p.vps.vps k u) same uses))
    | inr other ↦ none w (ap (λ (y : Vp). thread_of y.phase) (vp_other w other) ∙ uses)
  ]

  free_here : IsUser p'.vps.vps t None → (thread_of vp.phase ≡ Some t) ⊎ (r ≡ free_ring) → ring_in p'.rings t ≡ free_ring
  free_here none (inl uses) = absurd (none v (ap (λ (y : Vp). thread_of y.phase) vp_then ∙ uses))
  free_here none (inr e) = ring_then ∙ e

  pub steps : (z : Start) (h : List Entry) (x : Entry) → servers_in x.op x.outcome ≡ None → StandsFor p z h → ((w : ℕ) → w < z.board.limits.processors → w ≢ v → IsUntouched z h w x) → IsProcessor p'.vps.vps p'.rings z (x ∷ h) v → StandsFor p' z (x ∷ h)
  steps z h x none s untouched here = record {
    servers_are = st.servers_are ∙ s.servers_are ∙ sym (servers_stay z h x none);
    processors = ap length st.vps_are ∙ length-set p.vps.vps v vp ∙ s.processors;
    threads = ap length st.rings_are ∙ length-set p.rings t r ∙ s.threads;
    each = λ w l. elim (cases_eq w v) [
      | inl same ↦ subst (λ k. IsProcessor p'.vps.vps p'.rings z (x ∷ h) k) (sym same) here
      | inr other ↦ stays p.vps.vps p'.vps.vps p.rings p'.rings z h w x (untouched w l other) (s.each w l) (vp_other w other)
          (λ u uses. ring_other u (λ same. st.alone w other (subst (λ k. Uses p.vps.vps w k) same uses)))
    ];
    free = λ u none. elim (cases_eq u t) [
      | inl same ↦ subst (λ k. ring_in p'.rings k ≡ free_ring) (sym same) (free_here (subst (λ k. IsUser p'.vps.vps k None) same none) st.leaves)
      | inr other ↦ ring_other u other ∙ s.free u (free_before u other none)
    ];
  }

-- the processor that moves, where the same priorities are pending for it
moves_to : (p p' : Parts) (v t : ℕ) (vp : Vp) (r : RingRecord) (now : Phase) (z : Start) (h : List Entry) (x : Entry) → servers_in x.op x.outcome ≡ None → IsStep p p' v t vp r → StandsFor p z h → IsMoved z h v now x →
    ((w : ℕ) → w < z.board.limits.processors → w ≢ v → IsUntouched z h w x) → KeepsPending p.vps.vps p.rings p'.vps.vps p'.rings →
    IsVpOf vp p'.rings now (is_connected z h v) (cppr z h v) (λ q. if is_pulled now then pending z h v q else kept z h v q) (λ q. not (is_pulled now) && late z h v q) → StandsFor p' z (x ∷ h)
moves_to p p' v t vp r now z h x none st s m untouched same is = steps p p' v t vp r st z h x none s untouched
    (to_processor p'.vps.vps p'.rings z h v vp now x m (vp_then p p' v t vp r st) (λ q b. same v q b ∙ (s.each v (counted p z h s v st.inside)).is_pending_as q b) is)

module _ (p p' : Parts) (z : Start) (h : List Entry) (s : StandsFor p z h) (f : AreFit p.vps.vps p.rings) where
  -- a processor that uses a thread, and there or not then
  step_on : (v t : ℕ) (vp : Vp) (r : RingRecord) → v < length p.vps.vps → Uses p.vps.vps v t → p'.vps.vps ≡ slice_set p.vps.vps v vp → p'.rings ≡ slice_set p.rings t r → p'.vps.servers ≡ p.vps.servers →
      (thread_of vp.phase ≡ Some t) ⊎ (r ≡ free_ring) → IsStep p p' v t vp r
  step_on v t vp r l uses e g servers leaves = record {
    vps_are = e;
    rings_are = g;
    servers_are = servers;
    inside = l;
    thread = f.threads v t uses;
    alone = λ w other also. other (f.one_user w v t also uses);
    from = λ u also. same_some t u (sym uses ∙ also);
    leaves = leaves;
  }

  was : (v : ℕ) (now : Phase) → v < length p.vps.vps → (vp_in p.vps.vps v).phase ≡ now → IsVpOf (vp_in p.vps.vps v) p.rings now (is_connected z h v) (cppr z h v) (kept z h v) (late z h v)
  was v now l at = of_processor p.vps.vps p.rings z h v now (s.each v (counted p z h s v l)) at

  pub restored_stands : (v t actor : ℕ) → v < length p.vps.vps → t < length p.rings → (vp_in p.vps.vps v).phase ≡ Saved → IsUser p.vps.vps t None →
      p'.vps.vps ≡ slice_set p.vps.vps v (restored t (vp_in p.vps.vps v)) → p'.rings ≡ slice_set p.rings t (loaded (vp_in p.vps.vps v).cppr (vp_in p.vps.vps v).ipb) → p'.vps.servers ≡ p.vps.servers →
      KeepsPending p.vps.vps p.rings p'.vps.vps p'.rings → StandsFor p' z (record { actor = actor; op = op.Restore v t; outcome = out.Fine } ∷ h)
  restored_stands v t actor l inside at free e g servers same =
      let vp = vp_in p.vps.vps v in
      let r = loaded vp.cppr vp.ipb in
      let x : Entry = record { actor = actor; op = op.Restore v t; outcome = out.Fine } in
      let st : IsStep p p' v t (restored t vp) r = record {
        vps_are = e;
        rings_are = g;
        servers_are = servers;
        inside = l;
        thread = inside;
        alone = λ w _. free w;
        from = λ u uses. absurd (none_some u (sym (ap thread_of at) ∙ uses));
        leaves = inl refl;
      } in
      moves_to p p' v t (restored t vp) r (Restored t) z h x refl st s (restore_moves z h v t actor) (λ w _ other. other_restore z h w v t actor (λ same. other (sym same))) same
      (restored_as vp p.rings p'.rings t (cppr z h v) (is_connected z h v) (kept z h v) (late z h v) (was v Saved l at) (ring_then p p' v t (restored t vp) r st))

  pub saved_stands : (v t actor : ℕ) → v < length p.vps.vps → (vp_in p.vps.vps v).phase ≡ Pulled t →
      p'.vps.vps ≡ slice_set p.vps.vps v (saved_from (ring_in p.rings t) (vp_in p.vps.vps v)) → p'.rings ≡ slice_set p.rings t free_ring → p'.vps.servers ≡ p.vps.servers →
      KeepsPending p.vps.vps p.rings p'.vps.vps p'.rings → StandsFor p' z (record { actor = actor; op = op.Save v; outcome = out.Fine } ∷ h)
  saved_stands v t actor l at e g servers same =
      let vp = vp_in p.vps.vps v in
      let vp' = saved_from (ring_in p.rings t) vp in
      let x : Entry = record { actor = actor; op = op.Save v; outcome = out.Fine } in
      moves_to p p' v t vp' free_ring Saved z h x refl (step_on v t vp' free_ring l (ap thread_of at) e g servers (inr refl)) s (save_moves z h v actor) (λ w _ other. other_save z h w v actor (λ same. other (sym same))) same
      (saved_as vp p.rings p'.rings t (cppr z h v) (is_connected z h v) (kept z h v) (late z h v) (was v (Pulled t) l at))

  -- another processor isn't on the thread of one
  others_off : (v t : ℕ) → Uses p.vps.vps v t → (w : ℕ) → w < z.board.limits.processors → w ≢ v → is_on t (phase z h w) ≡ false
  others_off v t uses w l other = off_phase p z h s w t (λ on. other (f.one_user w v t (ap thread_of on) uses)) l

  -- an accepted push or pull of v is no move of another
  no_move : (v w n : ℕ) (now : Phase) → n ≡ v → w ≢ v → (if n == w then Some now else None) ≡ None
  no_move v w n now named other = not_moved w n now (λ same. other (sym same ∙ named))

  pub pushed_stands : (v t cam actor page offset size : ℕ) (access : Access) → ring_op page offset size access ≡ Some (Push cam) → cam - cam_of 0 ≡ v → v < length p.vps.vps → (vp_in p.vps.vps v).phase ≡ Restored t →
      p'.vps.vps ≡ slice_set p.vps.vps v (on t (vp_in p.vps.vps v)) → p'.rings ≡ slice_set p.rings t (pushed cam (vp_in p.vps.vps v).backlog (ring_in p.rings t)) → p'.vps.servers ≡ p.vps.servers →
      KeepsPending p.vps.vps p.rings p'.vps.vps p'.rings → StandsFor p' z (record { actor = actor; op = op.Tima t page offset size access; outcome = out.Fine } ∷ h)
  pushed_stands v t cam actor page offset size access o named l at e g servers same =
      let vp = vp_in p.vps.vps v in
      let r = pushed cam vp.backlog (ring_in p.rings t) in
      let uses : Uses p.vps.vps v t = ap thread_of at in
      let x : Entry = record { actor = actor; op = op.Tima t page offset size access; outcome = out.Fine } in
      let st = step_on v t (on t vp) r l uses e g servers (inl refl) in
      moves_to p p' v t (on t vp) r (On t) z h x refl st s (push_moves z h v t cam actor page offset size access o named)
      (λ w inside other. access_off z h w t actor page offset size access out.Fine (Push cam) o (others_off v t uses w inside other) (no_move v w (cam - cam_of 0) (On t) named other)) same
      (pushed_as vp p.rings p'.rings t cam (cppr z h v) (is_connected z h v) (kept z h v) (late z h v) (was v (Restored t) l at) (ring_then p p' v t (on t vp) r st))

  pub pulled_stands : (v t cam actor page offset size : ℕ) (access : Access) → ring_op page offset size access ≡ Some Pull → cam - cam_of 0 ≡ v → v < length p.vps.vps → (vp_in p.vps.vps v).phase ≡ On t →
      p'.vps.vps ≡ slice_set p.vps.vps v (pulled_from t (vp_in p.vps.vps v)) → p'.rings ≡ slice_set p.rings t (pulled (ring_in p.rings t)) → p'.vps.servers ≡ p.vps.servers →
      KeepsPending p.vps.vps p.rings p'.vps.vps p'.rings → StandsFor p' z (record { actor = actor; op = op.Tima t page offset size access; outcome = out.Value cam } ∷ h)
  pulled_stands v t cam actor page offset size access o named l at e g servers same =
      let vp = vp_in p.vps.vps v in
      let vp' = pulled_from t vp in
      let r = pulled (ring_in p.rings t) in
      let uses : Uses p.vps.vps v t = ap thread_of at in
      let x : Entry = record { actor = actor; op = op.Tima t page offset size access; outcome = out.Value cam } in
      let st = step_on v t vp' r l uses e g servers (inl refl) in
      let before = was v (On t) l at in
      moves_to p p' v t vp' r (Pulled t) z h x refl st s (pull_moves z h v t cam actor page offset size access o named)
      (λ w inside other. access_off z h w t actor page offset size access (out.Value cam) Pull o (others_off v t uses w inside other) (no_move v w (cam - cam_of 0) (Pulled t) named other)) same
      (pulled_as vp p.rings p'.rings t (cppr z h v) (is_connected z h v) (kept z h v) (late z h v) (pending z h v) (λ q. false) before (ring_then p p' v t vp' r st)
      (ring_pending p.vps.vps p.rings z h v t (s.each v (counted p z h s v l)) (phase_named p z h s v t (counted p z h s v l) at)) (λ q. refl))
