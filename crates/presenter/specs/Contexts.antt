-- Where contexts are, and what is pending for their processors.
use Rattle.std.specs.Prelude.{ℕ, ◌≡◌, ◌<◌, ◌≤◌, ◌+◌, ◌-◌, ◌||◌, ◌&&◌, nat_le, nat_lt, Bool, true, if◌then◌else◌, Option, Some, None, List, length}
use Rattle.xv_base.specs.Limits.{most_processors}
use Rattle.xv_model.specs.declared.tima.TheConstants.{CAM_FIRST}
use Rattle.xv_model.specs.declared.outcomes.Phase.TheVariants.{Restored, On, Pulled}
use Rattle.xv_model.specs.processor.Phases.{cam_of, thread_of}
use Rattle.xv_model.specs.processor.Priorities.{has_priority}
use Rattle.nvt_backlog.specs.declared.vp.Vp.{Vp}
use Rattle.nvt_backlog.specs.Vps.{vp_in}
use Rattle.thread_context.specs.declared.ring.RingRecord.{RingRecord}
use Rattle.thread_context.specs.Ring.{is_valid}
use Rattle.thread_context.specs.Rings.{ring_in}

-- a processor uses a thread: it is restored on it, on it, or pulled from it
abbrev pub Uses : List Vp → ℕ → ℕ → Type 0
Uses vps v t = thread_of (vp_in vps v).phase ≡ Some t

-- this is the processor that uses a thread, or there is none
abbrev pub IsUser : List Vp → ℕ → Option ℕ → Type 0
IsUser vps t (Some v) = Uses vps v t
IsUser vps t None = (v : ℕ) → ¬ Uses vps v t

-- the CAM word of processor v once it was pulled: that of its valid context without the valid bit (QEMU's hw/intc/xive.c, xive_tm_pull_os_ctx; hw/intc/spapr_xive.c, SPAPR_XIVE_NVT_BASE)
abbrev pub pulled_cam_of : ℕ → ℕ
pulled_cam_of v = CAM_FIRST + v

-- the processor, of so many, whose valid CAM word this is
abbrev pub named_by : ℕ → ℕ → Option ℕ
named_by processors cam = if nat_le (cam_of 0) cam && nat_lt cam (cam_of processors) then Some (cam - cam_of 0) else None

-- a ring whose CAM word is valid is that of a processor on its thread
pub record IsNamed (vps : List Vp) (t cam : ℕ) : Type 0 where
  pub v : ℕ
  pub inside : v < length vps
  pub cam_is : cam ≡ cam_of v
  pub phase : (vp_in vps v).phase ≡ On t

-- processors and rings fit together: phases name threads that there are, no two the same, and the CAM words are those of the phases
pub record AreFit (vps : List Vp) (rings : List RingRecord) : Type 0 where
  pub few : length vps ≤ most_processors
  pub threads : (v t : ℕ) → Uses vps v t → t < length rings
  pub one_user : (v w t : ℕ) → Uses vps v t → Uses vps w t → v ≡ w
  pub restored : (v t : ℕ) → (vp_in vps v).phase ≡ Restored t → (ring_in rings t).cam ≡ 0
  pub on : (v t : ℕ) → (vp_in vps v).phase ≡ On t → (ring_in rings t).cam ≡ cam_of v
  pub pulled : (v t : ℕ) → (vp_in vps v).phase ≡ Pulled t → (ring_in rings t).cam ≡ pulled_cam_of v
  pub named : (t : ℕ) → is_valid (ring_in rings t).cam ≡ true → IsNamed vps t (ring_in rings t).cam

-- the IPB of a processor, be it saved or in the ring of a thread
abbrev pub ipb_in : Vp → List RingRecord → Option ℕ → ℕ
ipb_in vp rings None = vp.ipb
ipb_in vp rings (Some t) = (ring_in rings t).ipb

-- whether a priority is pending for processor v, wherever its context is
abbrev pub is_pending_for : List Vp → List RingRecord → ℕ → ℕ → Bool
is_pending_for vps rings v q = has_priority (ipb_in (vp_in vps v) rings (thread_of (vp_in vps v).phase)) q || has_priority (vp_in vps v).backlog q

-- no priority begins or ends to be pending, for any processor
abbrev pub KeepsPending : List Vp → List RingRecord → List Vp → List RingRecord → Type 0
KeepsPending vps rings vps' rings' = (w q : ℕ) → q < 8 → is_pending_for vps' rings' w q ≡ is_pending_for vps rings w q
