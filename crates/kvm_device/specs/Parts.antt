-- Which account the parts represent that the KVM device's calls ask.
use Rattle.std.specs.Prelude.{◌≡◌, List, length}
use Rattle.xv_model.specs.declared.board.Board.{Board}
use Rattle.xv_model.specs.declared.eas.Eas.{Eas}
use Rattle.xv_model.specs.declared.entries.Entry.{Entry}
use Rattle.xv_model.specs.account.Start.{Start}
use Rattle.eas_table.specs.Table.{StandsFor as EasesStandFor}
use Rattle.end_queue.specs.declared.ends.EndRecord.{EndRecord}
use Rattle.end_queue.specs.Accounts.{StandsFor as EndsStandFor}
use Rattle.nvt_backlog.specs.declared.vp.Vp.{Vp}
use Rattle.nvt_backlog.specs.Vps.{AreConnected}

-- the board is the account's, the EASes and the ENDs are those that it gives, and the same processors are connected
pub record StandFor (b : Board) (eases : List Eas) (ends : List EndRecord) (vps : List Vp) (z : Start) (h : List Entry) : Type 0 where
  pub board : b ≡ z.board
  pub eases_are : EasesStandFor eases z h
  pub ends_are : EndsStandFor ends z h
  pub connected : AreConnected vps z h

-- the processors are as many as the account's, of which the same ones are connected, and the ENDs are those that it gives
pub record QueuesStandFor (ends : List EndRecord) (vps : List Vp) (z : Start) (h : List Entry) : Type 0 where
  pub processors : length vps ≡ z.board.limits.processors
  pub ends_are : EndsStandFor ends z h
  pub connected : AreConnected vps z h
