-- What a fabric keeps of processors and of the rings of threads, and which account that represents.
use Rattle.std.specs.Prelude.{ℕ, ◌≡◌, ◌<◌, true, false, List, ◌∷◌, length, Option, Some, None}
use Rattle.xv_model.specs.declared.entries.Entry.{Entry}
use Rattle.xv_model.specs.declared.operations.Access.{Access}
use Rattle.xv_model.specs.declared.operations.Op.TheVariants.{Tima}
use Rattle.xv_model.specs.declared.outcomes.Outcome.{Outcome}
use Rattle.xv_model.specs.declared.tima.RingOp.{RingOp}
use Rattle.xv_model.specs.account.Start.{Start}
use Rattle.xv_model.specs.processor.RingOps.{ring_op}
use Rattle.xv_model.specs.processor.Phases.{is_connected, is_running, is_saved, phase, servers, thread_of}
use Rattle.xv_model.specs.processor.Pending.{pending, kept, late}
use Rattle.xv_model.specs.processor.Registers.{cppr, saved_cppr, saved_ipb, backlog, ring}
use Rattle.xv_model.specs.processor.Priorities.{has_priority}
use Rattle.nvt_backlog.specs.Vps.{Kept, vp_in}
use Rattle.nvt_backlog.specs.declared.vp.Vp.{Vp}
use Rattle.thread_context.specs.declared.ring.Ring.{Ring}
use Rattle.thread_context.specs.declared.ring.RingRecord.{RingRecord}
use Rattle.thread_context.specs.Rings.{ring_in, free_ring}
use Rattle.presenter.specs.Contexts.{IsUser, ipb_in, is_pending_for}

-- the processors with the number of servers, and the rings
pub record Parts : Type 0 where
  pub vps : Kept
  pub rings : List RingRecord

-- the CPPR of a processor, be it saved or in the ring of a thread
abbrev pub cppr_in : Vp → List RingRecord → Option ℕ → ℕ
cppr_in vp rings None = vp.cppr
cppr_in vp rings (Some t) = (ring_in rings t).cppr

-- processor v is as the account has it: wherever its context is, its CPPR and what is pending for it. Off a
-- thread that is what was kept and what came late; on a thread the backlog is empty. What isn't saved is 0.
pub record IsProcessor (vps : List Vp) (rings : List RingRecord) (z : Start) (h : List Entry) (v : ℕ) : Type 0 where
  pub valid : (vp_in vps v).valid ≡ is_connected z h v
  pub at : (vp_in vps v).phase ≡ phase z h v
  pub cppr_is : cppr_in (vp_in vps v) rings (thread_of (phase z h v)) ≡ cppr z h v
  pub is_pending_as : (q : ℕ) → q < 8 → is_pending_for vps rings v q ≡ pending z h v q
  pub is_kept_as : is_running (phase z h v) ≡ false → (q : ℕ) → q < 8 → has_priority (ipb_in (vp_in vps v) rings (thread_of (phase z h v))) q ≡ kept z h v q
  pub is_late_as : is_running (phase z h v) ≡ false → (q : ℕ) → q < 8 → has_priority (vp_in vps v).backlog q ≡ late z h v q
  pub none_late : is_running (phase z h v) ≡ true → (vp_in vps v).backlog ≡ 0
  pub no_cppr : is_saved (phase z h v) ≡ false → (vp_in vps v).cppr ≡ 0
  pub no_ipb : is_saved (phase z h v) ≡ false → (vp_in vps v).ipb ≡ 0

-- processors and rings are as the account has them, and the ring of a thread that none uses is free
pub record StandsFor (p : Parts) (z : Start) (h : List Entry) : Type 0 where
  pub servers_are : p.vps.servers ≡ servers z h
  pub processors : length p.vps.vps ≡ z.board.limits.processors
  pub threads : length p.rings ≡ z.board.limits.threads
  pub each : (v : ℕ) → v < z.board.limits.processors → IsProcessor p.vps.vps p.rings z h v
  pub free : (t : ℕ) → IsUser p.vps.vps t None → ring_in p.rings t ≡ free_ring

-- what represents an account before an access that does o to the ring of thread t represents it afterwards with the entry of that access, which answers u
abbrev pub StandsAfter : Parts → Parts → ℕ → RingOp → Outcome → Type 0
StandsAfter p p' t o u = (z : Start) (h : List Entry) (actor page offset size : ℕ) (access : Access) → StandsFor p z h → ring_op page offset size access ≡ Some o →
    StandsFor p' z (record { actor = actor; op = Tima t page offset size access; outcome = u } ∷ h)

-- what is kept of processor v
abbrev pub vp_of : Start → List Entry → ℕ → Vp
vp_of z h v = record {
  valid = is_connected z h v;
  phase = phase z h v;
  cppr = saved_cppr z h v;
  ipb = saved_ipb z h v;
  backlog = backlog z h v;
}

-- what is shown of the ring of thread t
abbrev pub ring_shown : Start → List Entry → ℕ → Ring
ring_shown z h t = record {
  nsr = (ring z h t).nsr;
  cppr = (ring z h t).cppr;
  ipb = (ring z h t).ipb;
  pipr = (ring z h t).pipr;
  cam = (ring z h t).cam;
}
