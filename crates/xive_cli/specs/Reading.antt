-- What is read of a script, line after line.
use Rattle.std.specs.Prelude.{ℕ, ◌≡◌, ◌<◌, ◌≤◌, ◌+◌, ◌⊎◌, List, [], ◌++◌, length, IsFalse, IsTrue}
use Rattle.std.specs.Io.KnownBytes.{Consumes, Keeps}
use Rattle.xv_base.specs.Limits.{byte_limit, longest_line}
use Rattle.xv_io.specs.Faults.{HasRisen}
use Rattle.xv_io.specs.Reader.{Meets, whole_left}
use Rattle.board_script.specs.declared.lines.Said.{Said}
use Rattle.board_script.specs.declared.lines.Said.TheVariants as said
use Rattle.board_script.specs.declared.stage.Stage.{Stage}
use Rattle.board_script.specs.declared.stage.Stage.TheVariants.{Header}
use Rattle.board_script.specs.Lines.{IsSaidAt}
use Rattle.board_script.specs.Stage.{stage_after, board_after}
use Rattle.board_script.specs.Script.{Script, Accepted, Refused as Rejected, TooLong as Exceeds, WorkLine, so_far, work_with}
use Rattle.xive_cli.specs.declared.stop.Stop.{Stop}
use Rattle.xive_cli.specs.declared.stop.Stop.TheVariants.{ReadFault, WriteFault, Refused, TooLong, NoMemory}
use Rattle.xive_cli.specs.Input.{Unread, script_left, so_far_left}
use Rattle.xive_cli.specs.Output.{Told, Tells, Fails}

-- the script goes on from one place, behind some work lines, to another: whatever the source has left there, both are one script; and whatever it gives yet, the same is read of the whole lines
pub record GoesOn (a : Unread) (work : List WorkLine) (b : Unread) (work' : List WorkLine) : Type 0 where
  pub read : List ℕ
  pub consumed : Consumes a.left b.left read
  pub script : (bytes : List ℕ) → Meets b.reader bytes → script_left a work (read ++ bytes) ≡ script_left b work' bytes
  pub so_far : IsFalse b.reader.ended → (bytes : List ℕ) → so_far_left a work (read ++ bytes) ≡ so_far_left b work' bytes
  pub given : b.reader.given + length b.reader.ahead ≡ a.reader.given + length a.reader.ahead + length read
  pub last : IsTrue a.reader.ended → (read ≡ []) × IsTrue b.reader.ended

-- it goes on to the other place without a work line
abbrev pub GoesTo : Unread → Unread → Type 0
GoesTo a b = (work : List WorkLine) → GoesOn a work b work

-- behind some work lines the script is this one, whatever the source has left
pub record IsScript (a : Unread) (work : List WorkLine) (b : Unread) (script : Script) : Type 0 where
  pub read : List ℕ
  pub consumed : Consumes a.left b.left read
  pub is : (bytes : List ℕ) → Meets b.reader bytes → script_left a work (read ++ bytes) ≡ script
  pub last : IsTrue a.reader.ended → (read ≡ []) × IsTrue b.reader.ended

-- the next line says this, and the script goes on behind it
pub record GoesBy (a : Unread) (it : Said) (b : Unread) : Type 0 where
  pub goes : (work : List WorkLine) → GoesOn a work b (work_with it work)
  pub stage : b.parser.stage ≡ stage_after a.parser.stage it
  pub board : b.parser.board ≡ board_after a.parser.stage it a.parser.board
  pub rises : a.reader.given < b.reader.given

abbrev pub EndsOr : Unread → Said → Unread → Type 0
EndsOr a said.End b = (work : List WorkLine) → IsScript a work b (Accepted a.parser.board work)
EndsOr a it b = GoesBy a it b

-- the next line says this, which fits its place: the script goes on behind it, or ends there
pub record Says (a : Unread) (it : Said) (b : Unread) : Type 0 where
  pub fits : IsSaidAt a.parser.stage a.parser.board it
  pub next : EndsOr a it b

-- the header isn't whole
abbrev pub IsInHeader : Stage → Type 0
IsInHeader (Header turn) = Unit {0}
IsInHeader stage = ⊥

-- more has to be read: no line is whole yet, and the limit isn't reached
pub record Waits (u : Unread) : Type 0 where
  pub ended : IsFalse u.reader.ended
  pub whole : whole_left u.reader [] ≡ []
  pub short : length u.reader.ahead ≤ longest_line
  pub below : u.reader.given + length u.reader.ahead < byte_limit

-- more was read
pub record Fills (a b : Unread) : Type 0 where
  pub goes : GoesTo a b
  pub parser : b.parser ≡ a.parser
  pub given : b.reader.given ≡ a.reader.given
  pub progress : (length a.reader.ahead < length b.reader.ahead) ⊎ IsTrue b.reader.ended

-- a read failed
pub record Misses (a b : Unread) : Type 0 where
  pub failed : HasRisen a.faults b.faults
  pub reader : b.reader ≡ a.reader
  pub parser : b.parser ≡ a.parser
  pub left : Keeps a.left b.left

-- the script stops at its next line
abbrev pub CannotGoOn : Stop → Unread → Unread → Type 0
CannotGoOn (Refused fault) a b = (work : List WorkLine) → IsScript a work b (Rejected fault (so_far a.parser work))
CannotGoOn TooLong a b = (work : List WorkLine) → IsScript a work b (Exceeds (so_far a.parser work))
CannotGoOn _ a b = ⊥

-- a read failed where the next line isn't whole, and all that was told had been written
pub record Starves (a : Unread) (t : Told) (b : Unread) (t' : Told) : Type 0 where
  pub failed : HasRisen a.faults b.faults
  pub goes : GoesTo a b
  pub waits : Waits b
  pub parser : b.parser ≡ a.parser
  pub tells : Tells t [] t'
  pub all : t'.gathered ≡ []

-- no line could be read
abbrev pub StopsReading : Stop → Unread → Told → Unread → Told → Type 0
StopsReading ReadFault a t b t' = Starves a t b t'
StopsReading WriteFault a t b t' = GoesTo a b × Fails t [] t'
StopsReading NoMemory a t b t' = ⊥
StopsReading stop a t b t' = CannotGoOn stop a b × Tells t [] t'
