-- Presentations and moves: what is answered, first check first, and what becomes of the processor.
use Rattle.std.specs.Prelude.{ℕ, ◌==◌, Bool, if◌then◌else◌, Option, Some, None}
use Rattle.xv_model.specs.declared.outcomes.Phase.{Phase}
use Rattle.xv_model.specs.declared.outcomes.Phase.TheVariants.{Saved, Restored, On, Pulled}
use Rattle.xv_model.specs.declared.outcomes.MoveRefused.{MoveRefused}
use Rattle.xv_model.specs.declared.outcomes.MoveRefused.TheVariants.{NotValid, VpBusy, RingBusy, NotPulled, NotRestored}
use Rattle.xv_model.specs.declared.outcomes.Presented.{Presented}
use Rattle.xv_model.specs.declared.outcomes.Presented.TheVariants.{Found, Backlogged, Lost, NoProcessor}
use Rattle.nvt_backlog.specs.declared.vp.Vp.{Vp}
use Rattle.thread_context.specs.declared.ring.RingRecord.{RingRecord}
use Rattle.thread_context.specs.Priorities.{with_pending}

-- what becomes of a presentation, where the processor is not on a thread
abbrev pub presented_off : Bool → Presented
presented_off backlog = if backlog then Backlogged else Lost

-- what becomes of a presentation to a connected processor, by its phase
abbrev pub presented_at : Phase → Bool → Presented
presented_at Saved backlog = presented_off backlog
presented_at (Restored t) backlog = presented_off backlog
presented_at (On t) backlog = Found
presented_at (Pulled t) backlog = presented_off backlog

-- what becomes of a presentation: whether the processor is connected, its phase, whether the message has b
abbrev pub presented_by : Bool → Phase → Bool → Presented
presented_by valid phase backlog = if valid then presented_at phase backlog else NoProcessor

-- why a restore is refused: whether the processor is connected, its phase, the user of the thread
abbrev pub restore_off : Option ℕ → Option MoveRefused
restore_off None = None
restore_off (Some u) = Some (RingBusy u)

abbrev pub restore_at : Phase → Option ℕ → Option MoveRefused
restore_at Saved user = restore_off user
restore_at (Restored t) user = Some (VpBusy (Restored t))
restore_at (On t) user = Some (VpBusy (On t))
restore_at (Pulled t) user = Some (VpBusy (Pulled t))

abbrev pub restore_refused : Bool → Phase → Option ℕ → Option MoveRefused
restore_refused valid phase user = if valid then restore_at phase user else Some NotValid

-- why a push on thread t is refused: whether the processor that the CAM word names is connected, and its phase
abbrev pub push_at : Phase → ℕ → Option MoveRefused
push_at Saved t = Some (NotRestored Saved)
push_at (Restored u) t = if u == t then None else Some (NotRestored (Restored u))
push_at (On u) t = Some (NotRestored (On u))
push_at (Pulled u) t = Some (NotRestored (Pulled u))

abbrev pub push_refused : Bool → Phase → ℕ → Option MoveRefused
push_refused valid phase t = if valid then push_at phase t else Some NotValid

-- why a save is refused
abbrev pub save_at : Phase → Option MoveRefused
save_at Saved = Some (NotPulled Saved)
save_at (Restored t) = Some (NotPulled (Restored t))
save_at (On t) = Some (NotPulled (On t))
save_at (Pulled t) = None

abbrev pub save_refused : Bool → Phase → Option MoveRefused
save_refused valid phase = if valid then save_at phase else Some NotValid

-- a processor for which one more priority came while it wasn't on a thread
abbrev pub backlogged : ℕ → Vp → Vp
backlogged p vp = record { valid = vp.valid; phase = vp.phase; cppr = vp.cppr; ipb = vp.ipb; backlog = with_pending vp.backlog p }

-- a processor whose context moved to the ring of a thread: nothing of it is saved
abbrev pub restored : ℕ → Vp → Vp
restored t vp = record { valid = vp.valid; phase = Restored t; cppr = 0; ipb = 0; backlog = vp.backlog }

-- a processor on a thread: its backlog was taken
abbrev pub on : ℕ → Vp → Vp
on t vp = record { valid = vp.valid; phase = On t; cppr = vp.cppr; ipb = vp.ipb; backlog = 0 }

-- a processor that was pulled from a thread
abbrev pub pulled_from : ℕ → Vp → Vp
pulled_from t vp = record { valid = vp.valid; phase = Pulled t; cppr = vp.cppr; ipb = vp.ipb; backlog = vp.backlog }

-- a processor whose CPPR and IPB were saved from a ring
abbrev pub saved_from : RingRecord → Vp → Vp
saved_from r vp = record { valid = vp.valid; phase = Saved; cppr = r.cppr; ipb = r.ipb; backlog = vp.backlog }
