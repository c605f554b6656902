-- Which priorities are pending for a processor, wherever its context is (QEMU's hw/intc/xive.c, xive_tctx_notify and xive_tctx_accept; its presenter's backlog).
use Rattle.std.specs.Prelude.{ℕ, ◌==◌, ◌^◌, ◌/◌, ◌%◌, ◌&&◌, ◌||◌, not, Bool, true, false, if◌then◌else◌, List, [], ◌∷◌, Option, Some, None}
use Rattle.std.specs.Option.{option_map_or, option_or}
use Rattle.xv_model.specs.declared.operations.Op.{Op}
use Rattle.xv_model.specs.declared.operations.Op.TheVariants as op
use Rattle.xv_model.specs.declared.outcomes.Presented.{Presented}
use Rattle.xv_model.specs.declared.outcomes.Presented.TheVariants.{Found, Backlogged}
use Rattle.xv_model.specs.declared.outcomes.Phase.{Phase}
use Rattle.xv_model.specs.declared.outcomes.Phase.TheVariants.{Pulled}
use Rattle.xv_model.specs.declared.outcomes.Outcome.{Outcome}
use Rattle.xv_model.specs.declared.outcomes.Outcome.TheVariants as out
use Rattle.xv_model.specs.declared.entries.Entry.{Entry}
use Rattle.xv_model.specs.account.Start.{Start}
use Rattle.xv_model.specs.call.Accepted.{is_success}
use Rattle.xv_model.specs.processor.Priorities.{has_priority}
use Rattle.xv_model.specs.declared.tima.RingOp.{RingOp}
use Rattle.xv_model.specs.declared.tima.RingOp.TheVariants.{Inject, Accept}
use Rattle.xv_model.specs.processor.RingOps.{RingAccess, ring_access}
use Rattle.xv_model.specs.processor.Phases.{move_in, moved_at, is_on, phase}

-- a priority that was presented to a processor by the take of a message, and what became of it
pub record Presentation : Type 0 where
  pub processor : ℕ
  pub priority : ℕ
  pub presented : Presented

abbrev pub presentation_in : Op → Outcome → Option Presentation
presentation_in (op.Take i) (out.Present v p presented escalates) = Some (record { processor = v; priority = p; presented = presented })
presentation_in _ _ = None

-- whether a presentation isn't lost
abbrev pub is_kept : Presented → Bool
is_kept Found = true
is_kept Backlogged = true
is_kept _ = false

-- whether a presentation came late, into the backlog
abbrev pub is_late : Presented → Bool
is_late Backlogged = true
is_late _ = false

-- whether a presentation is one of a priority to v that ended in one of some ways
abbrev pub is_of : ℕ → ℕ → (Presented → Bool) → Option Presentation → Bool
is_of v p ways (Some x) = (x.processor == v) && ((x.priority == p) && ways x.presented)
is_of v p ways None = false

-- the priority that an acknowledgement accepted, by its answer: NSR has its bit, and CPPR is the priority
abbrev pub accepted_in : RingOp → Outcome → Option ℕ
accepted_in Accept (out.Value answer) = if answer / 2 ^ 15 == 1 then Some (answer % 2 ^ 8) else None
accepted_in _ _ = None

-- the priority that was made pending in a ring
abbrev pub injected_in : RingOp → Outcome → Option ℕ
injected_in (Inject p) out.Stored = Some p
injected_in _ _ = None

-- what is done to a ring on which a processor is says of a priority of it: it is pending then, or isn't
abbrev pub ring_says : ℕ → RingOp → Outcome → Option Bool
ring_says p o u =
    if option_map_or (λ q. q == p) (injected_in o u) false then Some true
    else (if option_map_or (λ q. q == p) (accepted_in o u) false then Some false else None)

-- the same of a processor whose context is in this phase
abbrev pub access_says : Phase → ℕ → Option RingAccess → Outcome → Option Bool
access_says now p (Some a) u = if is_on a.thread now then ring_says p a.op u else None
access_says now p None u = None

-- the pending priorities that the state of v is set to
abbrev pub ipb_set : ℕ → Op → Outcome → Option ℕ
ipb_set v (op.VpSet u cppr ipb) (out.Code code) = if (u == v) && is_success code then Some ipb else None
ipb_set v _ _ = None

-- what an entry after an account says of a priority of v: it is pending then, or isn't
abbrev pub pending_by : Start → List Entry → ℕ → ℕ → Entry → Option Bool
pending_by z h v p x =
    if is_of v p is_kept (presentation_in x.op x.outcome) then Some true
    else option_or (option_map_or (λ ipb. Some (has_priority ipb p)) (ipb_set v x.op x.outcome) None)
    (access_says (phase z h v) p (ring_access x.op) x.outcome)

-- whether a priority is pending for v: as the last entry says that speaks of it
abbrev pub pending : Start → List Entry → ℕ → ℕ → Bool
pending z [] v p = has_priority (z.ipb v) p || has_priority (z.backlog v) p
pending z (x ∷ h) v p = option_map_or (λ b. b) (pending_by z h v p x) (pending z h v p)

abbrev pub is_pulled : Option Phase → Bool
is_pulled (Some (Pulled t)) = true
is_pulled _ = false

-- whether an entry saves what is pending for v: its context is pulled, or its state is set
abbrev pub keeps : ℕ → Entry → Bool
keeps v x = is_pulled (moved_at v (move_in x.op x.outcome)) || option_map_or (λ ipb. true) (ipb_set v x.op x.outcome) false

-- whether a priority was pending for v when that was saved last
abbrev pub kept : Start → List Entry → ℕ → ℕ → Bool
kept z [] v p = has_priority (z.ipb v) p
kept z (x ∷ h) v p = if keeps v x then pending z (x ∷ h) v p else kept z h v p

-- whether a priority was backlogged for v since then
abbrev pub late : Start → List Entry → ℕ → ℕ → Bool
late z [] v p = has_priority (z.backlog v) p
late z (x ∷ h) v p = not (keeps v x) && (is_of v p is_late (presentation_in x.op x.outcome) || late z h v p)
