-- What a run leaves where it stops.
use Rattle.std.specs.Prelude.{ℕ, ◌≡◌, List, [], ◌++◌, Some, IsTrue}
use Rattle.std.specs.Io.KnownBytes.{Consumes}
use Rattle.xv_io.specs.Faults.{HasRisen}
use Rattle.xv_io.specs.Reader.{Meets}
use Rattle.xv_model.specs.declared.board.Board.{Board}
use Rattle.xv_model.specs.declared.entries.Entry.{Entry}
use Rattle.xv_model.specs.board.Boards.{IsBoard}
use Rattle.board_script.specs.declared.stage.Stage.TheVariants.{Work}
use Rattle.board_script.specs.Parser.{whole_board}
use Rattle.board_script.specs.Script.{Script, Accepted, Refused as Rejected, TooLong as Exceeds, SoFar, WorkLine, IsAccountOn, IsAccountOf}
use Rattle.account.specs.Account.{account_text}
use Rattle.xive_cli.specs.declared.stop.Stop.{Stop}
use Rattle.xive_cli.specs.declared.stop.Stop.TheVariants.{ReadFault, WriteFault, Refused, TooLong, NoMemory}
use Rattle.xive_cli.specs.Input.{Unread, script_left}
use Rattle.xive_cli.specs.Output.{Told, Tells, Fails}
use Rattle.xive_cli.specs.Reading.{GoesOn, IsScript, Waits}
use Rattle.xive_cli.specs.commands.Run.{told_so_far, output_of}

-- what is told of each account of a script begins with this text
abbrev pub BeginsOutput : List ℕ → Script → Type 0
BeginsOutput text script = (h : List Entry) → IsAccountOf script h → (rest : List ℕ) × (output_of script h ≡ text ++ rest)

-- a read failed: what was read so far has this account, all that it gives was told and is written, and the next line isn't whole
pub record FailsReading (a : Unread) (t : Told) (b : Unread) (t' : Told) : Type 0 where
  pub so_far : SoFar
  pub account : List Entry
  pub goes : GoesOn a [] b so_far.work
  pub board : whole_board b.parser ≡ so_far.board
  pub ran : IsAccountOn so_far.board so_far.work account
  pub tells : Tells t (told_so_far so_far account) t'
  pub failed : HasRisen a.faults b.faults
  pub waits : Waits b
  pub all : t'.gathered ≡ []

-- a write failed at a text that is told first of the script, whatever its source has left
pub record FailsWriting (a : Unread) (t : Told) (b : Unread) (t' : Told) : Type 0 where
  pub read : List ℕ
  pub consumed : Consumes a.left b.left read
  pub last : IsTrue a.reader.ended → (read ≡ []) × IsTrue b.reader.ended
  pub text : List ℕ
  pub begins : (bytes : List ℕ) → Meets b.reader bytes → BeginsOutput text (script_left a [] (read ++ bytes))
  pub fails : Fails t text t'

-- the script ends so behind what was read so far, which has this account, and what that gives was told
pub record EndsEarly (a : Unread) (t : Told) (b : Unread) (t' : Told) (end : SoFar → Script) : Type 0 where
  pub so_far : SoFar
  pub account : List Entry
  pub is_script : IsScript a [] b (end so_far)
  pub ran : IsAccountOn so_far.board so_far.work account
  pub tells : Tells t (told_so_far so_far account) t'

-- there was no memory behind the header, and nothing was told
pub record WantsMemory (a : Unread) (t : Told) (b : Unread) (t' : Told) : Type 0 where
  pub goes : GoesOn a [] b []
  pub stage : b.parser.stage ≡ Work
  pub tells : Tells t [] t'

-- what a run leaves where it stops so, from what it had to read and had told at first
abbrev pub Stops : Stop → Unread → Told → Unread → Told → Type 0
Stops ReadFault a t b t' = FailsReading a t b t'
Stops WriteFault a t b t' = FailsWriting a t b t'
Stops (Refused fault) a t b t' = EndsEarly a t b t' (Rejected fault)
Stops TooLong a t b t' = EndsEarly a t b t' Exceeds
Stops NoMemory a t b t' = WantsMemory a t b t'

-- a script was run to its end, and its account was told and is written
pub record RunsAll (a : Unread) (t : Told) (b : Unread) (t' : Told) : Type 0 where
  pub board : Board
  pub work : List WorkLine
  pub account : List Entry
  pub is_script : IsScript a [] b (Accepted board work)
  pub is_board : IsBoard board
  pub ran : IsAccountOn (Some board) work account
  pub tells : Tells t (account_text board account) t'
  pub all : t'.gathered ≡ []
