-- A processor whose context moves: what the account says of it then, and what is kept of it.
use Rattle.std.proofs.Common.{ℕ, ◌≡◌, ◌<◌, ◌-◌, ◌==◌, ◌&&◌, not, Bool, true, false, true≢false, if◌then◌else◌, Some, None, List, ◌∷◌, refl, sym, ◌∙◌, ap, subst}
use Rattle.std.specs.Option.{option_map_or}
use Rattle.std.proofs.lemmas.Bool.{eq-eqb}
use Rattle.std.proofs.lemmas.Nat.Bits.{bit_at-zero}
use Rattle.xv_model.specs.declared.entries.Entry.{Entry}
use Rattle.xv_model.specs.declared.operations.Access.{Access}
use Rattle.xv_model.specs.declared.operations.Op.TheVariants as op
use Rattle.xv_model.specs.declared.outcomes.Outcome.TheVariants as out
use Rattle.xv_model.specs.declared.outcomes.Phase.{Phase}
use Rattle.xv_model.specs.declared.outcomes.Phase.TheVariants.{Saved, Restored, On, Pulled}
use Rattle.xv_model.specs.declared.outcomes.Outcome.{Outcome}
use Rattle.xv_model.specs.declared.tima.RingOp.{RingOp}
use Rattle.xv_model.specs.declared.tima.RingOp.TheVariants.{Push, Pull}
use Rattle.std.proofs.Math.Bool.{or-false}
use Rattle.fabric_core.proofs.Choices.{none_chosen}
use Rattle.xv_model.specs.account.Start.{Start}
use Rattle.xv_model.specs.processor.Priorities.{has_priority}
use Rattle.xv_model.specs.processor.RingOps.{ring_op}
use Rattle.xv_model.specs.processor.Phases.{cam_of, is_connected, is_on, is_running, is_saved, moved_at, moved_by, phase, thread_of}
use Rattle.xv_model.specs.processor.Pending.{is_pulled as is_pull, keeps as saves_pending, kept, late, pending, ring_says}
use Rattle.xv_model.specs.processor.Registers.{cppr, cppr_in as cppr_by}
use Rattle.xv_model.specs.processor.Moves.{is_pulled}
use Rattle.nvt_backlog.specs.declared.vp.Vp.{Vp}
use Rattle.nvt_backlog.specs.Vps.{vp_in}
use Rattle.thread_context.specs.declared.ring.RingRecord.{RingRecord}
use Rattle.thread_context.specs.Rings.{loaded, pulled, pushed, ring_in}
use Rattle.presenter.specs.Contexts.{ipb_in, is_pending_for}
use Rattle.presenter.specs.Moves.{on, pulled_from, restored, saved_from}
use Rattle.fabric_core.specs.Processors.{IsProcessor, cppr_in}

-- ---- what the account says
-- the entry x after h moves the context of v, and does nothing else with it: it is there then, and a pull saves what is pending
pub record IsMoved (z : Start) (h : List Entry) (v : ℕ) (now : Phase) (x : Entry) : Type 0 where
  pub phase_is : phase z (x ∷ h) v ≡ now
  pub connected_is : is_connected z (x ∷ h) v ≡ is_connected z h v
  pub cppr_is : cppr z (x ∷ h) v ≡ cppr z h v
  pub pending_is : (q : ℕ) → pending z (x ∷ h) v q ≡ pending z h v q
  pub saves : saves_pending v x ≡ is_pulled now
  pub late_is : (q : ℕ) → late z (x ∷ h) v q ≡ (not (saves_pending v x) && late z h v q)

pub moved_kept : (z : Start) (h : List Entry) (v : ℕ) (now : Phase) (x : Entry) → IsMoved z h v now x → (q : ℕ) → kept z (x ∷ h) v q ≡ (if is_pulled now then pending z h v q else kept z h v q)
moved_kept z h v now x m q = ap (λ b. if b then pending z (x ∷ h) v q else kept z h v q) m.saves ∙ ap (λ b. if is_pulled now then b else kept z h v q) (m.pending_is q)

pub moved_late : (z : Start) (h : List Entry) (v : ℕ) (now : Phase) (x : Entry) → IsMoved z h v now x → (q : ℕ) → late z (x ∷ h) v q ≡ (not (is_pulled now) && late z h v q)
moved_late z h v now x m q = m.late_is q ∙ ap (λ b. not b && late z h v q) m.saves

pub restore_moves : (z : Start) (h : List Entry) (v t actor : ℕ) → IsMoved z h v (Restored t) (record { actor = actor; op = op.Restore v t; outcome = out.Fine })
restore_moves z h v t actor = record {
  phase_is = rw (eq-eqb v v refl) refl;
  connected_is = refl;
  cppr_is = refl;
  pending_is = λ q. refl;
  saves = rw (eq-eqb v v refl) refl;
  late_is = λ q. refl;
}

pub save_moves : (z : Start) (h : List Entry) (v actor : ℕ) → IsMoved z h v Saved (record { actor = actor; op = op.Save v; outcome = out.Fine })
save_moves z h v actor = record {
  phase_is = rw (eq-eqb v v refl) refl;
  connected_is = refl;
  cppr_is = refl;
  pending_is = λ q. refl;
  saves = rw (eq-eqb v v refl) refl;
  late_is = λ q. refl;
}

-- an access to a ring that moves the context, and says nothing of CPPR and of what is pending
access_moves : (z : Start) (h : List Entry) (v t actor page offset size : ℕ) (access : Access) (o : RingOp) (u : Outcome) (now : Phase) → ring_op page offset size access ≡ Some o →
    moved_at v (moved_by t o u) ≡ Some now → is_pull (Some now) ≡ is_pulled now → cppr_by o u ≡ None → ((q : ℕ) → ring_says q o u ≡ None) →
    IsMoved z h v now (record { actor = actor; op = op.Tima t page offset size access; outcome = u })
access_moves z h v t actor page offset size access o u now e moves pulls stores says = record {
  phase_is = rw (e, moves) refl;
  connected_is = refl;
  cppr_is = rw e (ap (λ n. option_map_or (λ n. n) n (cppr z h v)) (none_chosen (is_on t (phase z h v)) (cppr_by o u) stores));
  pending_is = λ q. rw e (ap (λ b. option_map_or (λ b. b) b (pending z h v q)) (none_chosen (is_on t (phase z h v)) (ring_says q o u) (says q)));
  saves = rw (e, moves) (or-false (is_pull (Some now)) ∙ pulls);
  late_is = λ q. refl;
}

pub push_moves : (z : Start) (h : List Entry) (v t cam actor page offset size : ℕ) (access : Access) → ring_op page offset size access ≡ Some (Push cam) → cam - cam_of 0 ≡ v →
    IsMoved z h v (On t) (record { actor = actor; op = op.Tima t page offset size access; outcome = out.Fine })
push_moves z h v t cam actor page offset size access e named =
    access_moves z h v t actor page offset size access (Push cam) out.Fine (On t) e (rw (eq-eqb (cam - cam_of 0) v named) refl) refl refl (λ q. refl)

pub pull_moves : (z : Start) (h : List Entry) (v t cam actor page offset size : ℕ) (access : Access) → ring_op page offset size access ≡ Some Pull → cam - cam_of 0 ≡ v →
    IsMoved z h v (Pulled t) (record { actor = actor; op = op.Tima t page offset size access; outcome = out.Value cam })
pull_moves z h v t cam actor page offset size access e named =
    access_moves z h v t actor page offset size access Pull (out.Value cam) (Pulled t) e (rw (eq-eqb (cam - cam_of 0) v named) refl) refl refl (λ q. refl)

-- ---- what is kept
-- what is kept of a processor where its context is there: this CPPR, and of the priorities these as they were saved, and these that came late
pub record IsVpOf (vp : Vp) (rings : List RingRecord) (now : Phase) (connected : Bool) (cppr : ℕ) (kept late : ℕ → Bool) : Type 0 where
  pub valid : vp.valid ≡ connected
  pub at : vp.phase ≡ now
  pub cppr_is : cppr_in vp rings (thread_of now) ≡ cppr
  pub is_kept_as : is_running now ≡ false → (q : ℕ) → q < 8 → has_priority (ipb_in vp rings (thread_of now)) q ≡ kept q
  pub is_late_as : is_running now ≡ false → (q : ℕ) → q < 8 → has_priority vp.backlog q ≡ late q
  pub none_late : is_running now ≡ true → vp.backlog ≡ 0
  pub no_cppr : is_saved now ≡ false → vp.cppr ≡ 0
  pub no_ipb : is_saved now ≡ false → vp.ipb ≡ 0

pub of_processor : (vps : List Vp) (rings : List RingRecord) (z : Start) (h : List Entry) (v : ℕ) (now : Phase) → IsProcessor vps rings z h v → (vp_in vps v).phase ≡ now →
    IsVpOf (vp_in vps v) rings now (is_connected z h v) (cppr z h v) (kept z h v) (late z h v)
of_processor vps rings z h v now is at = subst (λ now. IsVpOf (vp_in vps v) rings now (is_connected z h v) (cppr z h v) (kept z h v) (late z h v)) (sym is.at ∙ at) (record {
  valid = is.valid;
  at = is.at;
  cppr_is = is.cppr_is;
  is_kept_as = is.is_kept_as;
  is_late_as = is.is_late_as;
  none_late = is.none_late;
  no_cppr = is.no_cppr;
  no_ipb = is.no_ipb;
})

-- after a move, by what the account says then
pub to_processor : (vps : List Vp) (rings : List RingRecord) (z : Start) (h : List Entry) (v : ℕ) (vp : Vp) (now : Phase) (x : Entry) → IsMoved z h v now x → vp_in vps v ≡ vp →
    ((q : ℕ) → q < 8 → is_pending_for vps rings v q ≡ pending z h v q) →
    IsVpOf vp rings now (is_connected z h v) (cppr z h v) (λ q. if is_pulled now then pending z h v q else kept z h v q) (λ q. not (is_pulled now) && late z h v q) → IsProcessor vps rings z (x ∷ h) v
to_processor vps rings z h v vp now x m e same is = record {
  valid = ap (λ (y : Vp). y.valid) e ∙ is.valid ∙ sym m.connected_is;
  at = ap (λ (y : Vp). y.phase) e ∙ is.at ∙ sym m.phase_is;
  cppr_is = ap (λ (y : Vp). cppr_in y rings (thread_of (phase z (x ∷ h) v))) e ∙ ap (λ p. cppr_in vp rings (thread_of p)) m.phase_is ∙ is.cppr_is ∙ sym m.cppr_is;
  is_pending_as = λ q b. same q b ∙ sym (m.pending_is q);
  is_kept_as = λ off q b. ap (λ (y : Vp). has_priority (ipb_in y rings (thread_of (phase z (x ∷ h) v))) q) e ∙ ap (λ p. has_priority (ipb_in vp rings (thread_of p)) q) m.phase_is
      ∙ is.is_kept_as (ap is_running (sym m.phase_is) ∙ off) q b ∙ sym (moved_kept z h v now x m q);
  is_late_as = λ off q b. ap (λ (y : Vp). has_priority y.backlog q) e ∙ is.is_late_as (ap is_running (sym m.phase_is) ∙ off) q b ∙ sym (moved_late z h v now x m q);
  none_late = λ on. ap (λ (y : Vp). y.backlog) e ∙ is.none_late (ap is_running (sym m.phase_is) ∙ on);
  no_cppr = λ away. ap (λ (y : Vp). y.cppr) e ∙ is.no_cppr (ap is_saved (sym m.phase_is) ∙ away);
  no_ipb = λ away. ap (λ (y : Vp). y.ipb) e ∙ is.no_ipb (ap is_saved (sym m.phase_is) ∙ away);
}

never : {A : Type 0} → true ≡ false → A
never e = absurd (true≢false e)

-- ---- the four moves
pub restored_as : (vp : Vp) (rings rings' : List RingRecord) (t cppr : ℕ) (connected : Bool) (kept late : ℕ → Bool) → IsVpOf vp rings Saved connected cppr kept late →
    ring_in rings' t ≡ loaded vp.cppr vp.ipb → IsVpOf (restored t vp) rings' (Restored t) connected cppr kept late
restored_as vp rings rings' t cppr connected kept late is e = record {
  valid = is.valid;
  at = refl;
  cppr_is = ap (λ (r : RingRecord). r.cppr) e ∙ is.cppr_is;
  is_kept_as = λ off q b. ap (λ (r : RingRecord). has_priority r.ipb q) e ∙ is.is_kept_as refl q b;
  is_late_as = λ off q b. is.is_late_as refl q b;
  none_late = λ on. never (sym on);
  no_cppr = λ away. refl;
  no_ipb = λ away. refl;
}

pub pushed_as : (vp : Vp) (rings rings' : List RingRecord) (t cam cppr : ℕ) (connected : Bool) (kept late : ℕ → Bool) → IsVpOf vp rings (Restored t) connected cppr kept late →
    ring_in rings' t ≡ pushed cam vp.backlog (ring_in rings t) → IsVpOf (on t vp) rings' (On t) connected cppr kept late
pushed_as vp rings rings' t cam cppr connected kept late is e = record {
  valid = is.valid;
  at = refl;
  cppr_is = ap (λ (r : RingRecord). r.cppr) e ∙ is.cppr_is;
  is_kept_as = λ off. never off;
  is_late_as = λ off. never off;
  none_late = λ on. refl;
  no_cppr = λ away. is.no_cppr refl;
  no_ipb = λ away. is.no_ipb refl;
}

-- what is pending in the ring is saved by the pull, and nothing has come late
pub pulled_as : (vp : Vp) (rings rings' : List RingRecord) (t cppr : ℕ) (connected : Bool) (kept late kept' late' : ℕ → Bool) → IsVpOf vp rings (On t) connected cppr kept late →
    ring_in rings' t ≡ pulled (ring_in rings t) → ((q : ℕ) → q < 8 → has_priority (ring_in rings t).ipb q ≡ kept' q) → ((q : ℕ) → late' q ≡ false) → IsVpOf (pulled_from t vp) rings' (Pulled t) connected cppr kept' late'
pulled_as vp rings rings' t cppr connected kept late kept' late' is e same none = record {
  valid = is.valid;
  at = refl;
  cppr_is = ap (λ (r : RingRecord). r.cppr) e ∙ is.cppr_is;
  is_kept_as = λ off q b. ap (λ (r : RingRecord). has_priority r.ipb q) e ∙ same q b;
  is_late_as = λ off q b. ap (λ i. has_priority i q) (is.none_late refl) ∙ ap (λ b. b == 1) (bit_at-zero (7 - q)) ∙ sym (none q);
  none_late = λ on. never (sym on);
  no_cppr = λ away. is.no_cppr refl;
  no_ipb = λ away. is.no_ipb refl;
}

pub saved_as : (vp : Vp) (rings rings' : List RingRecord) (t cppr : ℕ) (connected : Bool) (kept late : ℕ → Bool) → IsVpOf vp rings (Pulled t) connected cppr kept late →
    IsVpOf (saved_from (ring_in rings t) vp) rings' Saved connected cppr kept late
saved_as vp rings rings' t cppr connected kept late is = record {
  valid = is.valid;
  at = refl;
  cppr_is = is.cppr_is;
  is_kept_as = λ off q b. is.is_kept_as refl q b;
  is_late_as = λ off q b. is.is_late_as refl q b;
  none_late = λ on. never (sym on);
  no_cppr = λ away. never away;
  no_ipb = λ away. never away;
}
