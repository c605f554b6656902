-- The registers of a thread's OS ring (POWER9's XIVE; QEMU's hw/intc/xive.c, xive_tctx_set_cppr and xive_tctx_accept).
use Rattle.std.specs.Prelude.{ℕ, ◌==◌, ◌+◌, ◌^◌, ◌&&◌, nat_lt, Bool, true, false, if◌then◌else◌, List, [], ◌∷◌, Option, Some, None}
use Rattle.std.specs.Option.{option_map_or, option_or}
use Rattle.xv_model.specs.declared.tima.TheConstants.{CAM_FIRST}
use Rattle.xv_model.specs.declared.operations.Op.{Op}
use Rattle.xv_model.specs.declared.operations.Op.TheVariants as op
use Rattle.xv_model.specs.declared.outcomes.Phase.{Phase}
use Rattle.xv_model.specs.declared.outcomes.Phase.TheVariants.{Saved, Restored, On, Pulled}
use Rattle.xv_model.specs.declared.outcomes.Outcome.{Outcome}
use Rattle.xv_model.specs.declared.outcomes.Outcome.TheVariants as out
use Rattle.xv_model.specs.declared.entries.Entry.{Entry}
use Rattle.xv_model.specs.account.Start.{Start}
use Rattle.xv_model.specs.call.Accepted.{is_success}
use Rattle.xv_model.specs.processor.Priorities.{byte_of, least_of, no_priority}
use Rattle.xv_model.specs.declared.tima.RingOp.{RingOp}
use Rattle.xv_model.specs.declared.tima.RingOp.TheVariants.{SetCppr}
use Rattle.xv_model.specs.processor.RingOps.{RingAccess, ring_access}
use Rattle.xv_model.specs.processor.Phases.{cam_of, is_on, is_saved, is_running, phase, user_of}
use Rattle.xv_model.specs.processor.Pending.{accepted_in, pending, kept, late}

-- CPPR as it is stored: what is no priority lets all through
abbrev pub stored_cppr : ℕ → ℕ
stored_cppr value = if nat_lt 7 value then no_priority else value

-- what is done to a ring on which a processor is makes its CPPR this
abbrev pub cppr_in : RingOp → Outcome → Option ℕ
cppr_in (SetCppr value) out.Stored = Some (stored_cppr value)
cppr_in o u = accepted_in o u

abbrev pub cppr_at : Phase → Option RingAccess → Outcome → Option ℕ
cppr_at now (Some a) u = if is_on a.thread now then cppr_in a.op u else None
cppr_at now None u = None

-- the CPPR that the state of v is set to
abbrev pub cppr_set : ℕ → Op → Outcome → Option ℕ
cppr_set v (op.VpSet u cppr ipb) (out.Code code) = if (u == v) && is_success code then Some (stored_cppr cppr) else None
cppr_set v _ _ = None

-- the CPPR of v: the one that it was given last
abbrev pub cppr : Start → List Entry → ℕ → ℕ
cppr z [] v = z.cppr v
cppr z (x ∷ h) v =
    option_map_or (λ n. n) (option_or (cppr_set v x.op x.outcome) (cppr_at (phase z h v) (ring_access x.op) x.outcome)) (cppr z h v)

-- a ring
pub record Ring : Type 0 where
  pub nsr : ℕ
  pub cppr : ℕ
  pub ipb : ℕ
  pub pipr : ℕ
  pub cam : ℕ

-- the ring of a context with this CPPR and these pending priorities, which is valid or not: it has an interrupt to present where a priority is pending that is more favoured than CPPR
abbrev pub ring_of : Bool → ℕ → (ℕ → Bool) → ℕ → Ring
ring_of on cppr priorities cam = record {
  nsr = if on && nat_lt (least_of priorities) cppr then 2 ^ 7 else 0;
  cppr = cppr;
  ipb = byte_of priorities;
  pipr = least_of priorities;
  cam = cam;
}

-- the ring of a processor's thread, by where its context is
abbrev pub used_ring : Start → List Entry → ℕ → Phase → Ring
used_ring z h v Saved = ring_of false 0 (λ p. false) 0
used_ring z h v (Restored t) = ring_of false (cppr z h v) (kept z h v) 0
used_ring z h v (On t) = ring_of true (cppr z h v) (pending z h v) (cam_of v)
used_ring z h v (Pulled t) = ring_of false (cppr z h v) (kept z h v) (CAM_FIRST + v)

-- the ring of a thread
abbrev pub ring : Start → List Entry → ℕ → Ring
ring z h t = option_map_or (λ v. used_ring z h v (phase z h v)) (user_of z h t) (ring_of false 0 (λ p. false) 0)

-- What is kept of a processor beside the rings: CPPR and the pending priorities while it is saved, and what came late while it isn't on a thread.

abbrev pub saved_cppr : Start → List Entry → ℕ → ℕ
saved_cppr z h v = if is_saved (phase z h v) then cppr z h v else 0

abbrev pub saved_ipb : Start → List Entry → ℕ → ℕ
saved_ipb z h v = if is_saved (phase z h v) then byte_of (kept z h v) else 0

abbrev pub backlog : Start → List Entry → ℕ → ℕ
backlog z h v = if is_running (phase z h v) then 0 else byte_of (late z h v)
