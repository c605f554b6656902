-- Where a processor's context is: saved, or on its way onto a thread, on it, or on its way off it (Linux's KVM, arch/powerpc/kvm/book3s_xive.c; QEMU's hw/intc/xive.c, xive_tctx_need_resend).
use Rattle.std.specs.Prelude.{ℕ, zero, suc, ◌==◌, ◌+◌, ◌-◌, ◌||◌, Bool, true, false, if◌then◌else◌, List, [], ◌∷◌, Option, Some, None}
use Rattle.std.specs.Option.{option_map_or}
use Rattle.xv_model.specs.declared.tima.TheConstants.{CAM_VALID, CAM_FIRST}
use Rattle.xv_model.specs.declared.operations.Op.{Op}
use Rattle.xv_model.specs.declared.operations.Op.TheVariants as op
use Rattle.xv_model.specs.declared.outcomes.Phase.{Phase}
use Rattle.xv_model.specs.declared.outcomes.Phase.TheVariants.{Saved, Restored, On, Pulled}
use Rattle.xv_model.specs.declared.outcomes.Outcome.{Outcome}
use Rattle.xv_model.specs.declared.outcomes.Outcome.TheVariants as out
use Rattle.xv_model.specs.declared.entries.Entry.{Entry}
use Rattle.xv_model.specs.account.Start.{Start}
use Rattle.xv_model.specs.call.Accepted.{is_success}
use Rattle.xv_model.specs.device.Accepted.{servers_in}
use Rattle.xv_model.specs.declared.tima.RingOp.{RingOp}
use Rattle.xv_model.specs.declared.tima.RingOp.TheVariants.{Push, Pull}
use Rattle.xv_model.specs.processor.RingOps.{RingAccess, ring_access}

-- the processor that was connected, where an entry connected one
abbrev pub connected_in : Op → Outcome → Option ℕ
connected_in (op.Connect v) (out.Code code) = if is_success code then Some v else None
connected_in _ _ = None

-- whether a processor is connected: an entry connected it, or it was so at the start
abbrev pub is_connected : Start → List Entry → ℕ → Bool
is_connected z [] v = z.is_connected v
is_connected z (x ∷ h) v = option_map_or (λ u. u == v) (connected_in x.op x.outcome) false || is_connected z h v

-- how many processors can be connected: as many as was set last
abbrev pub servers : Start → List Entry → ℕ
servers z [] = z.servers
servers z (x ∷ h) = option_map_or (λ n. n) (servers_in x.op x.outcome) (servers z h)

-- the CAM word of a processor whose context is valid
abbrev pub cam_of : ℕ → ℕ
cam_of v = CAM_VALID + CAM_FIRST + v

-- a processor's context moves, and this is where it is then
pub record Move : Type 0 where
  pub processor : ℕ
  pub phase : Phase

-- the move of what is done to the ring of a thread, where it was accepted: a push names the processor by its CAM word, and a pull answers that word
abbrev pub moved_by : ℕ → RingOp → Outcome → Option Move
moved_by t (Push cam) out.Fine = Some (record { processor = cam - (CAM_VALID + CAM_FIRST); phase = On t })
moved_by t Pull (out.Value cam) = Some (record { processor = cam - (CAM_VALID + CAM_FIRST); phase = Pulled t })
moved_by t _ _ = None

abbrev pub pushed_in : Option RingAccess → Outcome → Option Move
pushed_in (Some a) u = moved_by a.thread a.op u
pushed_in None u = None

-- the move, where an entry is one that was accepted
abbrev pub move_in : Op → Outcome → Option Move
move_in (op.Restore v t) out.Fine = Some (record { processor = v; phase = Restored t })
move_in (op.Save v) out.Fine = Some (record { processor = v; phase = Saved })
move_in o u = pushed_in (ring_access o) u

-- where a move takes v, where it is one of v
abbrev pub moved_at : ℕ → Option Move → Option Phase
moved_at v (Some m) = if m.processor == v then Some m.phase else None
moved_at v None = None

-- where the context of v is: where its last move took it
abbrev pub phase : Start → List Entry → ℕ → Phase
phase z [] v = z.phase v
phase z (x ∷ h) v = option_map_or (λ p. p) (moved_at v (move_in x.op x.outcome)) (phase z h v)

-- the thread that a context in this phase uses
abbrev pub thread_of : Phase → Option ℕ
thread_of Saved = None
thread_of (Restored t) = Some t
thread_of (On t) = Some t
thread_of (Pulled t) = Some t

abbrev pub is_thread : ℕ → Option ℕ → Bool
is_thread t (Some u) = u == t
is_thread t None = false

-- whether a context is saved, and whether it is on any thread
abbrev pub is_saved : Phase → Bool
is_saved Saved = true
is_saved _ = false

abbrev pub is_running : Phase → Bool
is_running (On t) = true
is_running _ = false

-- whether a context in this phase is on a thread
abbrev pub is_on : ℕ → Phase → Bool
is_on t (On u) = u == t
is_on t _ = false

-- of the processors below n, the one whose context uses a thread
abbrev pub user_below : (ℕ → Phase) → ℕ → ℕ → Option ℕ
user_below phases t zero = None
user_below phases t (suc n) = if is_thread t (thread_of (phases n)) then Some n else user_below phases t n

-- the processor whose context uses a thread
abbrev pub user_of : Start → List Entry → ℕ → Option ℕ
user_of z h t = user_below (phase z h) t z.board.limits.processors
