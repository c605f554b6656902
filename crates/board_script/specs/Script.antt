-- What a script says, and the account that follows it.
use Rattle.std.specs.Prelude.{ℕ, ◌≡◌, Bool, true, false, List, [], ◌∷◌, map, Option, Some, None, Ok, Err}
use Rattle.std.specs.declared.result.Result.{Result}
use Rattle.xv_base.specs.Limits.{byte_limit}
use Rattle.xv_base.specs.Lines.{lines_within, are_too_many, whole_lines}
use Rattle.xv_model.specs.declared.board.Board.{Board}
use Rattle.xv_model.specs.declared.entries.Entry.{Entry}
use Rattle.xv_model.specs.account.Start.{start}
use Rattle.xv_model.specs.account.Legal.{IsLegal}
use Rattle.xv_model.specs.account.Scripts.{Line, Follows}
use Rattle.board_script.specs.declared.faults.ScriptFault.{ScriptFault}
use Rattle.board_script.specs.declared.lines.Said.{Said}
use Rattle.board_script.specs.declared.lines.Said.TheVariants as said
use Rattle.board_script.specs.declared.work.Work.{Work}
use Rattle.board_script.specs.Work.{next_op}
use Rattle.board_script.specs.Parser.{Parsing, new_parsing, read_of, parsing_after, finished, whole_board}

-- a line of work: who does it, and what it is before its first operation
pub record WorkLine : Type 0 where
  pub actor : ℕ
  pub work : Work

-- the line of an account that a line of work stands for
abbrev pub line_for : WorkLine → Line
line_for w = record { actor = w.actor; next = next_op w.work }

-- what was read of a script: the board where the header is whole, and the work lines, the last one first
pub record SoFar : Type 0 where
  pub board : Option Board
  pub work : List WorkLine

-- a script is a board with its work lines, the last one first; or a line is refused; or it has too many bytes
pub data Script : Type 0 where
  Accepted : (board : Board) (work : List WorkLine) → Script
  Refused : (fault : ScriptFault) (so_far : SoFar) → Script
  TooLong : (so_far : SoFar) → Script

-- what was read by a parser that has met these work lines
abbrev pub so_far : Parsing → List WorkLine → SoFar
so_far p work = record { board = whole_board p; work = work }

-- the work lines with that of one more line, if it is one
abbrev pub work_with : Said → List WorkLine → List WorkLine
work_with (said.Work actor w) work = record { actor = actor; work = w } ∷ work
work_with _ work = work

-- the input is over: what the parser answered to that
abbrev pub ended_by : Result (Unit {0}) ScriptFault → Parsing → List WorkLine → Script
ended_by (Ok it) p work = Accepted p.board work
ended_by (Err fault) p work = Refused fault (so_far p work)

-- the lines are over, since the input is, or since too many bytes were given
abbrev pub ended : Parsing → List WorkLine → Bool → Script
ended p work true = TooLong (so_far p work)
ended p work false = ended_by (finished p) p work

-- after a line: a fault or the end of the script, or it goes on
abbrev pub after_line : Result Said ScriptFault → Parsing → List WorkLine → (Said → Script) → Script
after_line (Err fault) p work next = Refused fault (so_far p work)
after_line (Ok said.End) p work next = Accepted p.board work
after_line (Ok it) p work next = next it

-- the script of these lines, read by a parser that has met some work lines; whether too many bytes were given
abbrev pub script_from : Parsing → List WorkLine → List (List ℕ) → Bool → Script
script_from p work [] too_many = ended p work too_many
script_from p work (l ∷ ls) too_many =
    after_line (read_of p l) p work (λ it. script_from (parsing_after p l) (work_with it work) ls too_many)

-- the script of bytes, of which fewer than the limit may be given
abbrev pub script_of : List ℕ → Script
script_of bytes = script_from new_parsing [] (lines_within byte_limit bytes) (are_too_many byte_limit bytes)

-- after a line of a script that goes on: nothing where it is refused or is the end
abbrev pub so_far_after : Result Said ScriptFault → (Said → Option SoFar) → Option SoFar
so_far_after (Err fault) next = None
so_far_after (Ok said.End) next = None
so_far_after (Ok it) next = next it

-- what is read of these lines by a parser that has met some work lines, where none is refused or is the end
abbrev pub so_far_from : Parsing → List WorkLine → List (List ℕ) → Option SoFar
so_far_from p work [] = Some (so_far p work)
so_far_from p work (l ∷ ls) =
    so_far_after (read_of p l) (λ it. so_far_from (parsing_after p l) (work_with it work) ls)

-- what is read of bytes behind which more may follow, where no whole line of them is refused or is the end
abbrev pub script_so_far : List ℕ → Option SoFar
script_so_far bytes = so_far_from new_parsing [] (whole_lines bytes)

-- the work lines that were read of a script, whatever became of it
abbrev pub work_in : Script → List WorkLine
work_in (Accepted b done) = done
work_in (Refused fault so_far) = so_far.work
work_in (TooLong so_far) = so_far.work

-- the board that was read of a script, whatever became of it
abbrev pub board_in : Script → Option Board
board_in (Accepted b done) = Some b
board_in (Refused fault so_far) = so_far.board
board_in (TooLong so_far) = so_far.board

-- an account follows these work lines and is legal on the board; without a board it is empty
abbrev pub IsAccountOn : Option Board → List WorkLine → List Entry → Type 0
IsAccountOn None work h = h ≡ []
IsAccountOn (Some b) work h = Follows (start b) (map line_for work) h × IsLegal (start b) h

-- an account follows what was read of a script, whatever became of it, and is legal
abbrev pub IsAccountOf : Script → List Entry → Type 0
IsAccountOf script h = IsAccountOn (board_in script) (work_in script) h

-- each script has an account
abbrev pub EachHasAccount : Type 0
EachHasAccount = (bytes : List ℕ) → (h : List Entry) × IsAccountOf (script_of bytes) h

-- no script has two accounts
abbrev pub OneOfEach : Type 0
OneOfEach =
    (bytes : List ℕ) (h g : List Entry) → IsAccountOf (script_of bytes) h → IsAccountOf (script_of bytes) g → h ≡ g
