-- What the definitions of processors say of an account they say of its fabric entries alone.
use Rattle.std.proofs.Common.{ℕ, ◌≡◌, ◌+◌, ◌-◌, ◌&&◌, ◌||◌, nat_le, nat_lt, Bool, true, false, not, if◌then◌else◌, List, ◌∷◌, slice_get, Option, Some, None, refl, ap, ◌∙◌}
use Rattle.std.specs.Prelude.{pos}
use Rattle.std.specs.Option.{option_map_or, option_or}
use Rattle.xv_model.specs.declared.kvm.errors.TheConstants.{EINVAL}
use Rattle.xv_model.specs.declared.board.Board.{Board}
use Rattle.xv_model.specs.declared.operations.Op.{Op}
use Rattle.xv_model.specs.declared.operations.Op.TheVariants as op
use Rattle.xv_model.specs.declared.operations.Access.{Access}
use Rattle.xv_model.specs.declared.outcomes.MoveRefused.TheVariants.{NotValid, VpBusy, RingBusy, NotPulled, NotRestored, NoContext}
use Rattle.xv_model.specs.declared.outcomes.Outcome.{Outcome}
use Rattle.xv_model.specs.declared.outcomes.Outcome.TheVariants as out
use Rattle.xv_model.specs.declared.outcomes.Phase.{Phase}
use Rattle.xv_model.specs.declared.outcomes.Phase.TheVariants.{Saved, Restored, On, Pulled}
use Rattle.xv_model.specs.declared.tima.TheConstants.{CAM_FIRST}
use Rattle.xv_model.specs.declared.entries.Entry.{Entry}
use Rattle.xv_model.specs.account.Start.{Start}
use Rattle.xv_model.specs.account.Kinds.{is_fabric}
use Rattle.xv_model.specs.account.Halves.{fabric_of}
use Rattle.xv_model.specs.declared.messages.Message.{Message}
use Rattle.xv_model.specs.declared.messages.Message.TheVariants as message
use Rattle.xv_model.specs.declared.outcomes.Presented.TheVariants.{Found, Backlogged, Lost, NoProcessor}
use Rattle.xv_model.specs.end.Flags.{keeps_backlog}
use Rattle.xv_model.specs.route.Flight.{flight}
use Rattle.xv_model.specs.route.Taking.{escalates_on, presented_to, present_by, taken_by, take_outcome}
use Rattle.xv_model.specs.processor.Priorities.{has_priority}
use Rattle.xv_model.specs.declared.tima.RingOp.{RingOp}
use Rattle.xv_model.specs.declared.tima.RingOp.TheVariants.{Load, SetCppr, Accept, Inject, Push, Pull}
use Rattle.xv_model.specs.processor.RingOps.{ring_op, ring_access}
use Rattle.xv_model.specs.processor.Phases.{cam_of, move_in, moved_at, is_saved, is_running, phase, user_below, user_of}
use Rattle.xv_model.specs.processor.Pending.{presentation_in, is_kept, is_late, is_of, access_says, ipb_set, pending, keeps, kept, late}
use Rattle.xv_model.specs.processor.Registers.{cppr_set, cppr_at, cppr, used_ring, ring_of, ring}
use Rattle.xv_model.specs.processor.Moves.{is_restored, is_pulled, connect_outcome, restore_outcome, save_outcome, push_outcome, on_by, on_of, pull_outcome}
use Rattle.xv_model.specs.processor.Accesses.{acknowledged, load_value, if_on, ring_outcome, tima_outcome}
use Rattle.xv_model.proofs.FabricHalves.{is_connected-half, servers-half, flight-half, ese-half, end_pass-half}
use Rattle.xv_model.proofs.HalvesLemmas.{half}

-- an operation that isn't the fabric's is no access to a ring
no_ring : (b : Board) (o : Op) → is_fabric b o ≡ false → ring_access o ≡ None
no_ring b (op.Tima t page offset size access) other = cc
no_ring b _ other = refl

-- an operation that isn't the fabric's moves no context
no_move : (b : Board) (o : Op) (u : Outcome) → is_fabric b o ≡ false → move_in o u ≡ None
no_move b (op.Restore v t) u other = cc
no_move b (op.Save v) u other = cc
no_move b (op.Tima t page offset size access) u other = cc
no_move b _ u other = refl

-- an operation that isn't the fabric's presents nothing
no_presentation : (b : Board) (o : Op) (u : Outcome) → is_fabric b o ≡ false → presentation_in o u ≡ None
no_presentation b (op.Take i) u other = cc
no_presentation b _ u other = refl

-- an operation that isn't the fabric's sets no state
no_ipb : (b : Board) (v : ℕ) (o : Op) (u : Outcome) → is_fabric b o ≡ false → ipb_set v o u ≡ None
no_ipb b v (op.VpSet w cppr ipb) u other = cc
no_ipb b v _ u other = refl

no_cppr : (b : Board) (v : ℕ) (o : Op) (u : Outcome) → is_fabric b o ≡ false → cppr_set v o u ≡ None
no_cppr b v (op.VpSet w cppr ipb) u other = cc
no_cppr b v _ u other = refl

-- an entry that isn't the fabric's leaves where the context of v is
pub phase-skips : (z : Start) (v : ℕ) (x : Entry) (h : List Entry) → is_fabric z.board x.op ≡ false → phase z (x ∷ h) v ≡ phase z h v
phase-skips z v x h other = rw (no_move z.board x.op x.outcome other) refl

-- an entry that isn't the fabric's leaves what is pending for v
pub pending-skips : (z : Start) (v p : ℕ) (x : Entry) (h : List Entry) → is_fabric z.board x.op ≡ false → pending z (x ∷ h) v p ≡ pending z h v p
pending-skips z v p x h other = rw (no_presentation z.board x.op x.outcome other, no_ipb z.board v x.op x.outcome other, no_ring z.board x.op other) refl

-- an entry that isn't the fabric's leaves what was kept for v
pub kept-skips : (z : Start) (v p : ℕ) (x : Entry) (h : List Entry) → is_fabric z.board x.op ≡ false → kept z (x ∷ h) v p ≡ kept z h v p
kept-skips z v p x h other = rw (no_move z.board x.op x.outcome other, no_ipb z.board v x.op x.outcome other) refl

-- an entry that isn't the fabric's leaves what came late for v
pub late-skips : (z : Start) (v p : ℕ) (x : Entry) (h : List Entry) → is_fabric z.board x.op ≡ false → late z (x ∷ h) v p ≡ late z h v p
late-skips z v p x h other = rw (no_presentation z.board x.op x.outcome other, no_move z.board x.op x.outcome other, no_ipb z.board v x.op x.outcome other) refl

-- an entry that isn't the fabric's leaves the CPPR of v
pub cppr-skips : (z : Start) (v : ℕ) (x : Entry) (h : List Entry) → is_fabric z.board x.op ≡ false → cppr z (x ∷ h) v ≡ cppr z h v
cppr-skips z v x h other = rw (no_cppr z.board v x.op x.outcome other, no_ring z.board x.op other) refl

-- where the context of v is, is that of the fabric's entries
pub phase-half : (z : Start) (v : ℕ) (h : List Entry) → phase z (fabric_of z.board h) v ≡ phase z h v
phase-half z v = half (λ x. is_fabric z.board x.op) (λ h. phase z h v) (λ x h. ap (option_map_or (λ p. p) (moved_at v (move_in x.op x.outcome)))) (phase-skips z v)

-- one more entry of the fabric: what is pending for v is the same after the account's fabric entries
pending_more : (z : Start) (v p : ℕ) (x : Entry) (h : List Entry) → pending z (fabric_of z.board h) v p ≡ pending z h v p → pending z (x ∷ fabric_of z.board h) v p ≡ pending z (x ∷ h) v p
pending_more z v p x h so_far =
    λ i. option_map_or (λ b. b)
    (if is_of v p is_kept (presentation_in x.op x.outcome) then Some true
    else option_or (option_map_or (λ ipb. Some (has_priority ipb p)) (ipb_set v x.op x.outcome) None) (access_says (phase-half z v h i) p (ring_access x.op) x.outcome))
    (so_far i)

-- what is pending for v is what the fabric's entries say
pub pending-half : (z : Start) (v p : ℕ) (h : List Entry) → pending z (fabric_of z.board h) v p ≡ pending z h v p
pending-half z v p = half (λ x. is_fabric z.board x.op) (λ h. pending z h v p) (pending_more z v p) (pending-skips z v p)

-- what was kept for v is what the fabric's entries say
pub kept-half : (z : Start) (v p : ℕ) (h : List Entry) → kept z (fabric_of z.board h) v p ≡ kept z h v p
kept-half z v p = half (λ x. is_fabric z.board x.op) (λ h. kept z h v p) (λ x h so_far. λ i. if keeps v x then pending_more z v p x h (pending-half z v p h) i else so_far i) (kept-skips z v p)

-- what came late for v is what the fabric's entries say
pub late-half : (z : Start) (v p : ℕ) (h : List Entry) → late z (fabric_of z.board h) v p ≡ late z h v p
late-half z v p = half (λ x. is_fabric z.board x.op) (λ h. late z h v p) (λ x h. ap (λ before. not (keeps v x) && (is_of v p is_late (presentation_in x.op x.outcome) || before))) (late-skips z v p)

-- the CPPR of v is that of the fabric's entries
pub cppr-half : (z : Start) (v : ℕ) (h : List Entry) → cppr z (fabric_of z.board h) v ≡ cppr z h v
cppr-half z v = half (λ x. is_fabric z.board x.op) (λ h. cppr z h v) (λ x h so_far. λ i. option_map_or (λ n. n) (option_or (cppr_set v x.op x.outcome) (cppr_at (phase-half z v h i) (ring_access x.op) x.outcome)) (so_far i)) (cppr-skips z v)

-- the user of a thread is that of the fabric's entries
pub user_of-half : (z : Start) (t : ℕ) (h : List Entry) → user_of z (fabric_of z.board h) t ≡ user_of z h t
user_of-half z t h = λ i. user_below (λ v. phase-half z v h i) t z.board.limits.processors

-- the ring of a processor's thread is that of the fabric's entries
used_ring-half : (z : Start) (v : ℕ) (h : List Entry) (now : Phase) → used_ring z (fabric_of z.board h) v now ≡ used_ring z h v now
used_ring-half z v h Saved = refl
used_ring-half z v h (Restored t) = λ i. ring_of false (cppr-half z v h i) (λ p. kept-half z v p h i) 0
used_ring-half z v h (On t) = λ i. ring_of true (cppr-half z v h i) (λ p. pending-half z v p h i) (cam_of v)
used_ring-half z v h (Pulled t) = λ i. ring_of false (cppr-half z v h i) (λ p. kept-half z v p h i) (CAM_FIRST + v)

-- the ring of a thread is that of the fabric's entries
pub ring-half : (z : Start) (t : ℕ) (h : List Entry) → ring z (fabric_of z.board h) t ≡ ring z h t
ring-half z t h = λ i. option_map_or (λ v. used_ring-half z v h (phase-half z v h i) i) (user_of-half z t h i) (ring_of false 0 (λ p. false) 0)

-- what connecting v answers after the fabric's entries is what it answers after the account
pub connect_outcome-half : (z : Start) (v : ℕ) (h : List Entry) → connect_outcome z (fabric_of z.board h) v ≡ connect_outcome z h v
connect_outcome-half z v h = λ i. out.Code (if nat_lt v (servers-half z h i) then pos 0 else EINVAL)

-- what a move of a context answers after the fabric's entries is what it answers after the account
pub restore_outcome-half : (z : Start) (v t : ℕ) (h : List Entry) → restore_outcome z (fabric_of z.board h) v t ≡ restore_outcome z h v t
restore_outcome-half z v t h =
    λ i. if not (is_connected-half z v h i) then out.Refused NotValid
    else (if not (is_saved (phase-half z v h i)) then out.Refused (VpBusy (phase-half z v h i))
    else option_map_or (λ user. out.Refused (RingBusy user)) (user_of-half z t h i) out.Fine)

pub save_outcome-half : (z : Start) (v : ℕ) (h : List Entry) → save_outcome z (fabric_of z.board h) v ≡ save_outcome z h v
save_outcome-half z v h =
    λ i. if not (is_connected-half z v h i) then out.Refused NotValid
    else (if not (is_pulled (phase-half z v h i)) then out.Refused (NotPulled (phase-half z v h i)) else out.Fine)

pub push_outcome-half : (z : Start) (t cam : ℕ) (h : List Entry) → push_outcome z (fabric_of z.board h) t cam ≡ push_outcome z h t cam
push_outcome-half z t cam h =
    let v = cam - cam_of 0 in
    λ i. if not (nat_le (cam_of 0) cam && (nat_lt v z.board.limits.processors && is_connected-half z v h i)) then out.Refused NotValid
    else (if not (is_restored t (phase-half z v h i)) then out.Refused (NotRestored (phase-half z v h i)) else out.Fine)

-- the processor that is on a thread is that of the fabric's entries
pub on_of-half : (z : Start) (t : ℕ) (h : List Entry) → on_of z (fabric_of z.board h) t ≡ on_of z h t
on_of-half z t h = λ i. on_by (λ v. phase-half z v h i) t (user_of-half z t h i)

pub pull_outcome-half : (z : Start) (t : ℕ) (h : List Entry) → pull_outcome z (fabric_of z.board h) t ≡ pull_outcome z h t
pull_outcome-half z t h = λ i. option_map_or (λ v. out.Value (cam_of v)) (on_of-half z t h i) (out.Refused NoContext)

if_on-half : (z : Start) (t : ℕ) (h : List Entry) (u : Outcome) → if_on z (fabric_of z.board h) t u ≡ if_on z h t u
if_on-half z t h u = λ i. option_map_or (λ v. u) (on_of-half z t h i) (out.Refused NoContext)

-- what is done to a ring answers after the fabric's entries what it answers after the account
pub ring_outcome-half : (z : Start) (t : ℕ) (o : RingOp) (h : List Entry) → ring_outcome z (fabric_of z.board h) t o ≡ ring_outcome z h t o
ring_outcome-half z t (Load at size) h = λ i. out.Value (load_value (ring-half z t h i) at size)
ring_outcome-half z t (SetCppr value) h = if_on-half z t h out.Stored
ring_outcome-half z t (Inject priority) h = if_on-half z t h out.Stored
ring_outcome-half z t Accept h = λ i. option_map_or (λ v. out.Value (acknowledged (ring-half z t h i))) (on_of-half z t h i) (out.Refused NoContext)
ring_outcome-half z t (Push cam) h = push_outcome-half z t cam h
ring_outcome-half z t Pull h = pull_outcome-half z t h

-- what an access to a page of the TIMA answers after the fabric's entries is what it answers after the account
pub tima_outcome-half : (z : Start) (t page offset size : ℕ) (access : Access) (h : List Entry) → tima_outcome z (fabric_of z.board h) t page offset size access ≡ tima_outcome z h t page offset size access
tima_outcome-half z t page offset size access h = by (ring_op page offset size access)
  where
    by : (m : Option RingOp) → option_map_or (ring_outcome z (fabric_of z.board h) t) m out.BadAccess ≡ option_map_or (ring_outcome z h t) m out.BadAccess
    by (Some o) = ring_outcome-half z t o h
    by None = refl

-- what becomes of a presentation to v after the fabric's entries is what becomes of it after the account
presented_to-half : (z : Start) (b : Bool) (v : ℕ) (h : List Entry) → presented_to z (fabric_of z.board h) b v ≡ presented_to z h b v
presented_to-half z b v h = λ i. if not (is_connected-half z v h i) then NoProcessor else (if is_running (phase-half z v h i) then Found else (if b then Backlogged else Lost))

-- what taking a message answers
taken_by-half : (z : Start) (h : List Entry) (m : Option Message) → option_map_or (taken_by z (fabric_of z.board h)) m out.NoMessage ≡ option_map_or (taken_by z h) m out.NoMessage
taken_by-half z h (Some (message.Present e flags vp priority esc esc_eisn origin)) = ap (present_by flags vp priority) (presented_to-half z (keeps_backlog flags) vp h)
taken_by-half z h (Some (message.Escalate e flags esc esc_eisn origin)) = λ i. out.Escalated e (if escalates_on flags (ese-half z e h i) then Some (end_pass-half z esc esc_eisn h i) else None)
taken_by-half z h None = refl

-- what taking message i answers after the fabric's entries is what it answers after the account
pub take_outcome-half : (z : Start) (i : ℕ) (h : List Entry) → take_outcome z (fabric_of z.board h) i ≡ take_outcome z h i
take_outcome-half z i h = ap (λ ms. option_map_or (taken_by z (fabric_of z.board h)) (slice_get ms i) out.NoMessage) (flight-half z h) ∙ taken_by-half z h (slice_get (flight z h) i)
