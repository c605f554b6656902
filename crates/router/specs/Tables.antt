-- What the tables keep, and which account they represent.
use Rattle.std.specs.Prelude.{ℕ, ◌≡◌, ◌<◌, List, Some, slice_get}
use Rattle.xv_model.specs.declared.board.Board.{Board}
use Rattle.xv_model.specs.declared.eas.Eas.{Eas}
use Rattle.xv_model.specs.declared.entries.Entry.{Entry}
use Rattle.xv_model.specs.declared.messages.Message.{Message}
use Rattle.xv_model.specs.account.Start.{Start}
use Rattle.xv_model.specs.source.Notices.{routes}
use Rattle.xv_model.specs.route.Flight.{flight}
use Rattle.eas_table.specs.Table.{StandsFor as EasesStandFor}
use Rattle.end_queue.specs.declared.ends.EndRecord.{EndRecord}
use Rattle.end_queue.specs.Accounts.{StandsFor as EndsStandFor}

-- what the tables keep: an EAS and a count of routes for each source, a record for each END, and
-- the messages in flight
pub record Kept : Type 0 where
  pub board : Board
  pub eases : List Eas
  pub routes : List ℕ
  pub ends : List EndRecord
  pub messages : List Message

-- the tables represent the account: they keep what it gives
pub record StandsFor (t : Kept) (z : Start) (h : List Entry) : Type 0 where
  pub board : t.board ≡ z.board
  pub eases : EasesStandFor t.eases z h
  pub routes : (s : ℕ) → s < z.board.limits.sources → slice_get t.routes s ≡ Some (routes z h s)
  pub ends : EndsStandFor t.ends z h
  pub messages : t.messages ≡ flight z h
