-- Processors after a move, by its result: those that represent the account represent it with the entry of what was answered.
use Rattle.std.proofs.Common.{ℕ, ◌≡◌, ◌≢◌, ◌<◌, ◌==◌, ◌↔◌, Bool, true, false, if◌then◌else◌, Option, Some, None, Result, Ok, Err, OnOk, OnErr, List, ◌∷◌, length, refl, sym, ◌∙◌, ap, subst, arith, slice_set}
use Rattle.std.proofs.lemmas.Bool.{eqb-true}
use Rattle.xv_model.specs.declared.entries.Entry.{Entry}
use Rattle.xv_model.specs.declared.operations.Access.{Access}
use Rattle.xv_model.specs.declared.operations.Op.{Op}
use Rattle.xv_model.specs.declared.operations.Op.TheVariants as op
use Rattle.xv_model.specs.declared.outcomes.MoveRefused.{MoveRefused}
use Rattle.xv_model.specs.declared.outcomes.MoveRefused.TheVariants.{NoContext, NotRestored, NotValid}
use Rattle.xv_model.specs.declared.outcomes.Outcome.{Outcome}
use Rattle.xv_model.specs.declared.outcomes.Outcome.TheVariants.{Fine, Refused, Value}
use Rattle.xv_model.specs.declared.outcomes.Phase.{Phase}
use Rattle.xv_model.specs.declared.outcomes.Phase.TheVariants.{Saved, Restored, On, Pulled}
use Rattle.xv_model.specs.declared.tima.RingOp.TheVariants.{Push, Pull}
use Rattle.xv_model.specs.account.Start.{Start}
use Rattle.xv_model.specs.processor.RingOps.{ring_op}
use Rattle.xv_model.specs.device.Accepted.{servers_in}
use Rattle.xv_model.specs.processor.Phases.{cam_of, user_of}
use Rattle.xv_model.specs.processor.Moves.{on_of}
use Rattle.nvt_backlog.specs.Vps.{vp_in}
use Rattle.thread_context.specs.Rings.{free_ring, loaded, pulled, pushed, ring_in}
use Rattle.presenter.specs.Contexts.{AreFit, IsUser, KeepsPending, named_by}
use Rattle.presenter.specs.Moves.{on, pulled_from, push_refused, restore_refused, restored, save_refused, saved_from}
use Rattle.presenter.proofs.Fitting.{none_some}
use Rattle.std.proofs.lemmas.Option.{none-some}
use Rattle.fabric_core.specs.Processors.{Parts, StandsFor}
use Rattle.fabric_core.proofs.OnThread.{on_named}
use Rattle.fabric_core.proofs.Places.{on_stands, user_stands}
use Rattle.fabric_core.proofs.Refusals.{cam_named, named_below}
use Rattle.fabric_core.proofs.Stepping.{pulled_stands, pushed_stands, restored_stands, saved_stands}
use Rattle.fabric_core.proofs.Silent.{access_refused, refused_restore, refused_save, untouched}
use Rattle.fabric_core.proofs.Untouched.{IsUntouched, keeps}

-- ---- a move that is done isn't refused
ok_err : (u : Unit) (why : MoveRefused) → (let r : Result Unit MoveRefused = Ok u in r ≡ Err why) → ⊥
ok_err u why e = cc

allowed : (refused : Option MoveRefused) (r : Result Unit MoveRefused) (u : Unit) → r ≡ Ok u → ((why : MoveRefused) → (r ≡ Err why) ↔ (refused ≡ Some why)) → refused ≡ None
allowed None r u e same = refl
allowed (Some why) r u e same = absurd (ok_err u why (sym e ∙ (same why).1 refl))

restorable : (valid : Bool) (p : Phase) (user : Option ℕ) → restore_refused valid p user ≡ None → (p ≡ Saved) × (user ≡ None)
restorable true Saved None e = (refl, refl)
restorable true Saved (Some u) e = absurd cc
restorable true (Restored t) user e = absurd cc
restorable true (On t) user e = absurd cc
restorable true (Pulled t) user e = absurd cc
restorable false p user e = absurd cc

savable : (valid : Bool) (p : Phase) → save_refused valid p ≡ None → (t : ℕ) × (p ≡ Pulled t)
savable true (Pulled t) e = (t, refl)
savable true Saved e = absurd cc
savable true (Restored t) e = absurd cc
savable true (On t) e = absurd cc
savable false p e = absurd cc

pushable : (valid : Bool) (p : Phase) (t : ℕ) → push_refused valid p t ≡ None → p ≡ Restored t
pushable true (Restored u) t e = by (u == t) refl e
  where
    by : (b : Bool) → (u == t) ≡ b → (if b then None else Some (NotRestored (Restored u))) ≡ None → Restored u ≡ Restored t
    by true same e = ap Restored (eqb-true u t same)
    by false same e = absurd (none-some (NotRestored (Restored u)) (sym e))
pushable true Saved t e = absurd cc
pushable true (On u) t e = absurd cc
pushable true (Pulled u) t e = absurd cc
pushable false p t e = absurd cc

module _ (p p' : Parts) (z : Start) (h : List Entry) (s : StandsFor p z h) (f : AreFit p.vps.vps p.rings) where
  -- nothing changes where an entry says nothing of any processor
  unchanged : (x : Entry) → servers_in x.op x.outcome ≡ None → ((v : ℕ) → IsUntouched z h v x) → p'.vps ≡ p.vps → p'.rings ≡ p.rings → StandsFor p' z (x ∷ h)
  unchanged x none silent e g =
      subst (λ vps. StandsFor (record { vps = vps; rings = p'.rings }) z (x ∷ h)) (sym e)
      (subst (λ rings. StandsFor (record { vps = p.vps; rings = rings }) z (x ∷ h)) (sym g) (keeps p z h x none (λ v l. silent v) s))

  answered : (actor : ℕ) (o : Op) (u u' : Outcome) → u ≡ u' → StandsFor p' z (record { actor = actor; op = o; outcome = u' } ∷ h) → StandsFor p' z (record { actor = actor; op = o; outcome = u } ∷ h)
  answered actor o u u' e stands = subst (λ u. StandsFor p' z (record { actor = actor; op = o; outcome = u } ∷ h)) (sym e) stands

  pub restore_stands : (v t actor : ℕ) (r : Result Unit MoveRefused) (o : Outcome) → v < length p.vps.vps → t < length p.rings →
      ((u : Option ℕ) (why : MoveRefused) → IsUser p.vps.vps t u → (r ≡ Err why) ↔ (restore_refused (vp_in p.vps.vps v).valid (vp_in p.vps.vps v).phase u ≡ Some why)) →
      OnErr r (p'.vps ≡ p.vps) → OnErr r (p'.rings ≡ p.rings) →
      OnOk r (p'.vps.vps ≡ slice_set p.vps.vps v (restored t (vp_in p.vps.vps v))) → OnOk r (p'.rings ≡ slice_set p.rings t (loaded (vp_in p.vps.vps v).cppr (vp_in p.vps.vps v).ipb)) →
      p'.vps.servers ≡ p.vps.servers → KeepsPending p.vps.vps p.rings p'.vps.vps p'.rings → OnOk r (o ≡ Fine) → ((why : MoveRefused) → r ≡ Err why → o ≡ Refused why) →
      StandsFor p' z (record { actor = actor; op = op.Restore v t; outcome = o } ∷ h)
  restore_stands v t actor (Err why) o l inside refused same_vps same_rings e g servers same fine told =
      answered actor (op.Restore v t) o (Refused why) (told why refl)
      (unchanged (record { actor = actor; op = op.Restore v t; outcome = Refused why }) refl (λ w. untouched z h w (record { actor = actor; op = op.Restore v t; outcome = Refused why }) (refused_restore v t why)) same_vps same_rings)
  restore_stands v t actor (Ok u) o l inside refused same_vps same_rings e g servers same fine told =
      let user = user_of z h t in
      let is = user_stands p z h s t in
      let may = restorable (vp_in p.vps.vps v).valid (vp_in p.vps.vps v).phase user (allowed (restore_refused (vp_in p.vps.vps v).valid (vp_in p.vps.vps v).phase user) (Ok u) u refl (λ why. refused user why is)) in
      answered actor (op.Restore v t) o Fine fine
      (restored_stands p p' z h s f v t actor l inside may.0 (subst (IsUser p.vps.vps t) may.1 is) e g servers same)

  pub save_stands : (v actor : ℕ) (r : Result Unit MoveRefused) (o : Outcome) → v < length p.vps.vps →
      ((why : MoveRefused) → (r ≡ Err why) ↔ (save_refused (vp_in p.vps.vps v).valid (vp_in p.vps.vps v).phase ≡ Some why)) →
      OnErr r (p'.vps ≡ p.vps) → OnErr r (p'.rings ≡ p.rings) →
      ((t : ℕ) → (vp_in p.vps.vps v).phase ≡ Pulled t → OnOk r (p'.vps.vps ≡ slice_set p.vps.vps v (saved_from (ring_in p.rings t) (vp_in p.vps.vps v)))) →
      ((t : ℕ) → (vp_in p.vps.vps v).phase ≡ Pulled t → OnOk r (p'.rings ≡ slice_set p.rings t free_ring)) →
      p'.vps.servers ≡ p.vps.servers → KeepsPending p.vps.vps p.rings p'.vps.vps p'.rings → OnOk r (o ≡ Fine) → ((why : MoveRefused) → r ≡ Err why → o ≡ Refused why) →
      StandsFor p' z (record { actor = actor; op = op.Save v; outcome = o } ∷ h)
  save_stands v actor (Err why) o l refused same_vps same_rings e g servers same fine told =
      answered actor (op.Save v) o (Refused why) (told why refl)
      (unchanged (record { actor = actor; op = op.Save v; outcome = Refused why }) refl (λ w. untouched z h w (record { actor = actor; op = op.Save v; outcome = Refused why }) (refused_save v why)) same_vps same_rings)
  save_stands v actor (Ok u) o l refused same_vps same_rings e g servers same fine told =
      let may = savable (vp_in p.vps.vps v).valid (vp_in p.vps.vps v).phase (allowed (save_refused (vp_in p.vps.vps v).valid (vp_in p.vps.vps v).phase) (Ok u) u refl refused) in
      answered actor (op.Save v) o Fine fine (saved_stands p p' z h s f v may.0 actor l may.1 (e may.0 may.1) (g may.0 may.1) servers same)

  pub push_stands : (t cam actor page offset size : ℕ) (access : Access) (r : Result Unit MoveRefused) (o : Outcome) → ring_op page offset size access ≡ Some (Push cam) →
      (named_by (length p.vps.vps) cam ≡ None → r ≡ Err NotValid) →
      ((v : ℕ) (why : MoveRefused) → named_by (length p.vps.vps) cam ≡ Some v → (r ≡ Err why) ↔ (push_refused (vp_in p.vps.vps v).valid (vp_in p.vps.vps v).phase t ≡ Some why)) →
      OnErr r (p'.vps ≡ p.vps) → OnErr r (p'.rings ≡ p.rings) →
      ((v : ℕ) → named_by (length p.vps.vps) cam ≡ Some v → OnOk r (p'.vps.vps ≡ slice_set p.vps.vps v (on t (vp_in p.vps.vps v)))) →
      ((v : ℕ) → named_by (length p.vps.vps) cam ≡ Some v → OnOk r (p'.rings ≡ slice_set p.rings t (pushed cam (vp_in p.vps.vps v).backlog (ring_in p.rings t)))) →
      p'.vps.servers ≡ p.vps.servers → KeepsPending p.vps.vps p.rings p'.vps.vps p'.rings → OnOk r (o ≡ Fine) → ((why : MoveRefused) → r ≡ Err why → o ≡ Refused why) →
      StandsFor p' z (record { actor = actor; op = op.Tima t page offset size access; outcome = o } ∷ h)
  push_stands t cam actor page offset size access (Err why) o is no_vp refused same_vps same_rings e g servers same fine told =
      answered actor (op.Tima t page offset size access) o (Refused why) (told why refl)
      (unchanged (record { actor = actor; op = op.Tima t page offset size access; outcome = Refused why }) refl (λ w. access_refused z h w t actor page offset size access why (Push cam) is) same_vps same_rings)
  push_stands t cam actor page offset size access (Ok u) o is no_vp refused same_vps same_rings e g servers same fine told = answered actor (op.Tima t page offset size access) o Fine fine (by (named_by (length p.vps.vps) cam) refl)
    where
      by : (named : Option ℕ) → named_by (length p.vps.vps) cam ≡ named → StandsFor p' z (record { actor = actor; op = op.Tima t page offset size access; outcome = Fine } ∷ h)
      by None none = absurd (ok_err u NotValid (no_vp none))
      by (Some v) named =
          let at = pushable (vp_in p.vps.vps v).valid (vp_in p.vps.vps v).phase t (allowed (push_refused (vp_in p.vps.vps v).valid (vp_in p.vps.vps v).phase t) (Ok u) u refl (λ why. refused v why named)) in
          pushed_stands p p' z h s f v t cam actor page offset size access is (cam_named (length p.vps.vps) cam v named) (named_below (length p.vps.vps) cam v named) at (e v named) (g v named) servers same

  pub pull_stands : (t actor page offset size : ℕ) (access : Access) (r : Result ℕ MoveRefused) (o : Outcome) → ring_op page offset size access ≡ Some Pull →
      (((v : ℕ) → (vp_in p.vps.vps v).phase ≢ On t) → r ≡ Err NoContext) → ((v : ℕ) → (vp_in p.vps.vps v).phase ≡ On t → r ≡ Ok (cam_of v)) →
      OnErr r (p'.vps ≡ p.vps) → OnErr r (p'.rings ≡ p.rings) →
      ((v : ℕ) → (vp_in p.vps.vps v).phase ≡ On t → p'.vps.vps ≡ slice_set p.vps.vps v (pulled_from t (vp_in p.vps.vps v))) → OnOk r (p'.rings ≡ slice_set p.rings t (pulled (ring_in p.rings t))) →
      p'.vps.servers ≡ p.vps.servers → KeepsPending p.vps.vps p.rings p'.vps.vps p'.rings → ((cam : ℕ) → r ≡ Ok cam → o ≡ Value cam) → ((why : MoveRefused) → r ≡ Err why → o ≡ Refused why) →
      StandsFor p' z (record { actor = actor; op = op.Tima t page offset size access; outcome = o } ∷ h)
  pull_stands t actor page offset size access r o is none some same_vps same_rings e g servers same value told = by (on_of z h t) refl
    where
      by : (there : Option ℕ) → on_of z h t ≡ there → StandsFor p' z (record { actor = actor; op = op.Tima t page offset size access; outcome = o } ∷ h)
      by None off =
          let off = none (λ v at. none_some v (sym off ∙ on_named p z h s f v t at)) in
          answered actor (op.Tima t page offset size access) o (Refused NoContext) (told NoContext off)
          (unchanged (record { actor = actor; op = op.Tima t page offset size access; outcome = Refused NoContext }) refl (λ w. access_refused z h w t actor page offset size access NoContext Pull is)
          (subst (λ (r : Result ℕ MoveRefused). OnErr r (p'.vps ≡ p.vps)) off same_vps) (subst (λ (r : Result ℕ MoveRefused). OnErr r (p'.rings ≡ p.rings)) off same_rings))
      by (Some v) there =
          let at = on_stands p z h s t v there in
          let done = some v at.1 in
          answered actor (op.Tima t page offset size access) o (Value (cam_of v)) (value (cam_of v) done)
          (pulled_stands p p' z h s f v t (cam_of v) actor page offset size access is (omega arith) (subst (λ n. v < n) (sym s.processors) at.0) at.1 (e v at.1)
          (subst (λ (r : Result ℕ MoveRefused). OnOk r (p'.rings ≡ slice_set p.rings t (pulled (ring_in p.rings t)))) done g) servers same)
