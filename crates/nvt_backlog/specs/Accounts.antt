-- Which account processors represent, as far as what is kept of them beside the rings of threads tells.
use Rattle.std.specs.Prelude.{ℕ, ◌≡◌, ◌<◌, ◌||◌, true, List, length}
use Rattle.xv_model.specs.declared.entries.Entry.{Entry}
use Rattle.xv_model.specs.account.Start.{Start}
use Rattle.xv_model.specs.processor.Phases.{is_connected, is_saved, phase}
use Rattle.xv_model.specs.processor.Pending.{pending, kept, late}
use Rattle.xv_model.specs.processor.Priorities.{has_priority}
use Rattle.xv_model.specs.processor.Registers.{cppr}
use Rattle.nvt_backlog.specs.declared.vp.Vp.{Vp}
use Rattle.nvt_backlog.specs.Vps.{vp_in}

-- what is saved of processor v is what the account says: its CPPR, what is pending for it, what of that was kept, and what came late
pub record IsSavedAs (vp : Vp) (z : Start) (h : List Entry) (v : ℕ) : Type 0 where
  pub cppr_is : vp.cppr ≡ cppr z h v
  pub is_pending_as : (q : ℕ) → q < 8 → (has_priority vp.ipb q || has_priority vp.backlog q) ≡ pending z h v q
  pub is_kept_as : (q : ℕ) → q < 8 → has_priority vp.ipb q ≡ kept z h v q
  pub is_late_as : (q : ℕ) → q < 8 → has_priority vp.backlog q ≡ late z h v q

-- processor v is connected or not as the account has it, its context is where the account has it, and where that is saved, so is the rest
pub record IsVp (vp : Vp) (z : Start) (h : List Entry) (v : ℕ) : Type 0 where
  pub valid : vp.valid ≡ is_connected z h v
  pub at : vp.phase ≡ phase z h v
  pub saved : is_saved (phase z h v) ≡ true → IsSavedAs vp z h v

-- the processors represent the account: each is what the account has
abbrev pub StandFor : List Vp → Start → List Entry → Type 0
StandFor vps z h = (v : ℕ) → v < length vps → IsVp (vp_in vps v) z h v
