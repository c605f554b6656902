-- What is kept of virtual processors: how each starts, what a connection and a state make of it, and which account has the same ones connected.
use Rattle.std.specs.Prelude.{ℕ, ◌≡◌, ◌<◌, not, Bool, true, false, List, length, slice_index_or}
use Rattle.xv_model.specs.declared.board.Board.{Board}
use Rattle.xv_model.specs.declared.entries.Entry.{Entry}
use Rattle.xv_model.specs.declared.outcomes.Phase.TheVariants.{Saved}
use Rattle.xv_model.specs.account.Start.{Start}
use Rattle.xv_model.specs.board.Boards.{is_in}
use Rattle.xv_model.specs.processor.Phases.{is_connected}
use Rattle.xv_model.specs.processor.Registers.{stored_cppr}
use Rattle.nvt_backlog.specs.declared.vp.Vp.{Vp}

-- the number of servers, and the processors
pub record Kept : Type 0 where
  pub servers : ℕ
  pub vps : List Vp

-- a processor whose context is saved, all of it 0, and which is connected or not
abbrev pub saved_vp : Bool → Vp
saved_vp valid = record { valid = valid; phase = Saved; cppr = 0; ipb = 0; backlog = 0 }

-- the processor that a board starts with: it is connected unless the board names it as unconnected
abbrev pub first_vp : Board → ℕ → Vp
first_vp b v = saved_vp (not (is_in b.unconnected v))

-- each of these is the one that its number starts with
abbrev pub AreFirst : Board → List Vp → Type 0
AreFirst b vps = (v : ℕ) (d : Vp) → v < length vps → slice_index_or vps v d ≡ first_vp b v

-- processor v
abbrev pub vp_in : List Vp → ℕ → Vp
vp_in vps v = slice_index_or vps v (saved_vp false)

-- a processor that is connected now, with all else as it was
abbrev pub connected : Vp → Vp
connected vp = record { valid = true; phase = vp.phase; cppr = vp.cppr; ipb = vp.ipb; backlog = vp.backlog }

-- a processor with this CPPR and this IPB saved, and an empty backlog
abbrev pub with_state : ℕ → ℕ → Vp → Vp
with_state cppr ipb vp = record { valid = vp.valid; phase = vp.phase; cppr = stored_cppr cppr; ipb = ipb; backlog = 0 }

-- the processors that are connected are those that an account has connected
abbrev pub AreConnected : List Vp → Start → List Entry → Type 0
AreConnected vps z h = (v : ℕ) → v < z.board.limits.processors → (vp_in vps v).valid ≡ is_connected z h v
