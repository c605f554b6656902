-- Which processors are connected: those below the number of servers alone, which is set while none is connected.
use Rattle.std.specs.Prelude.{ℕ, ◌≡◌, ◌<◌, ◌≤◌, true, List}
use Rattle.xv_model.specs.declared.board.Board.{Board}
use Rattle.xv_model.specs.declared.entries.Entry.{Entry}
use Rattle.xv_model.specs.account.Start.{start}
use Rattle.xv_model.specs.account.Legal.{IsLegal}
use Rattle.xv_model.specs.board.Boards.{IsBoard}
use Rattle.xv_model.specs.processor.Phases.{is_connected, servers}

-- The law, of an account of a board: each of its processors that is connected is below the number of servers, which is 1 to all of them.
pub record AreServers (b : Board) (h : List Entry) : Type 0 where
  pub some : 1 ≤ servers (start b) h
  pub most : servers (start b) h ≤ b.limits.processors
  pub connected : (v : ℕ) → v < b.limits.processors → is_connected (start b) h v ≡ true → v < servers (start b) h

-- The law holds of every legal account of a board.

abbrev pub EachHasServers : Type 0
EachHasServers = (b : Board) (h : List Entry) → IsBoard b → IsLegal (start b) h → AreServers b h
