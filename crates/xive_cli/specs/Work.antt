-- The work lines of a script, which are run one after another.
use Rattle.std.specs.Prelude.{List, [], Some}
use Rattle.xv_model.specs.declared.board.Board.{Board}
use Rattle.xv_model.specs.declared.entries.Entry.{Entry}
use Rattle.xv_model.specs.account.Start.{start}
use Rattle.xv_model.specs.board.Boards.{IsBoard}
use Rattle.machine.specs.Machine.{Held, StandsFor}
use Rattle.board_script.specs.Script.{Accepted, WorkLine, IsAccountOn}
use Rattle.xive_cli.specs.Input.{Unread}
use Rattle.xive_cli.specs.Output.{Told, Tells}
use Rattle.xive_cli.specs.Reading.{GoesOn, IsScript}
use Rattle.xive_cli.specs.commands.Run.{told_by}

-- these work lines have run: the machine represents their account, and what it gives was told
pub record HasRun (b : Board) (m : Held) (t t' : Told) (work : List WorkLine) (h : List Entry) : Type 0 where
  pub ran : IsAccountOn (Some b) work h
  pub stands : StandsFor m (start b) h
  pub tells : Tells t (told_by (Some b) h) t'

-- some work lines of a script have run
pub record RunsSoFar (board : Board) (a : Unread) (t : Told) (m : Held) (b : Unread) (t' : Told) : Type 0 where
  pub work : List WorkLine
  pub account : List Entry
  pub goes : GoesOn a [] b work
  pub has_run : HasRun board m t t' work account

-- all work lines of a script have run
pub record RunsAllWork (board : Board) (a : Unread) (t : Told) (m : Held) (b : Unread) (t' : Told) : Type 0 where
  pub work : List WorkLine
  pub account : List Entry
  pub is_script : IsScript a [] b (Accepted board work)
  pub is_board : IsBoard board
  pub has_run : HasRun board m t t' work account
