-- What a parser answers, line after line.
use Rattle.std.specs.Prelude.{ℕ, ◌+◌, min, List, Option, Some, None, Ok, Err}
use Rattle.std.specs.declared.result.Result.{Result}
use Rattle.xv_model.specs.declared.board.Board.{Board}
use Rattle.board_script.specs.declared.faults.Cause.TheVariants.{NoGo}
use Rattle.board_script.specs.declared.faults.ScriptFault.{ScriptFault}
use Rattle.board_script.specs.declared.stage.Turn.TheVariants as turns
use Rattle.board_script.specs.declared.stage.Stage.{Stage}
use Rattle.board_script.specs.declared.stage.Stage.TheVariants.{Header, Work}
use Rattle.board_script.specs.declared.lines.Said.{Said}
use Rattle.board_script.specs.declared.lines.Line.{Line}
use Rattle.board_script.specs.Faults.{fault_of}
use Rattle.board_script.specs.Lines.{Reading, said_of, line_by}
use Rattle.board_script.specs.Stage.{first_board, stage_after, board_after}

-- a parser: how far it has read, the board so far, how many lines it was fed, and the fault that is sticky, if any
pub record Parsing : Type 0 where
  pub stage : Stage
  pub board : Board
  pub lines : ℕ
  pub fault : Option ScriptFault

-- before the first line
abbrev pub new_parsing : Parsing
new_parsing = record { stage = Header turns.Board; board = first_board; lines = 0; fault = None }

-- behind the `go` line of a board
abbrev pub parsing_behind : Board → Parsing
parsing_behind b = record { stage = Work; board = b; lines = 0; fault = None }

-- the number of the line after so many lines; numbers stand still at the last one of 32 bits
abbrev pub line_after : ℕ → ℕ
line_after n = min (n + 1) 4294967295

-- the script is over before its `go`
abbrev pub no_go : ℕ → ScriptFault
no_go n = record { line = n; byte = 1; cause = NoGo }

-- what a parser without a fault answers where this is read of a line
abbrev pub answer_by : Parsing → List ℕ → Reading → Result Said ScriptFault
answer_by p line (Ok it) = Ok it
answer_by p line (Err m) = Err (fault_of (line_after p.lines) line m)

-- what a parser answers a line, by the fault that is sticky
abbrev pub read_by : Option ScriptFault → Parsing → List ℕ → Result Said ScriptFault
read_by (Some fault) p line = Err fault
read_by None p line = answer_by p line (said_of p.stage p.board line)

-- what a parser reads of a line: the fault that is sticky, or what the line says
abbrev pub read_of : Parsing → List ℕ → Result Said ScriptFault
read_of p line = read_by p.fault p line

-- a parser without a fault after what is read of a line
abbrev pub parsing_by : Parsing → List ℕ → Reading → Parsing
parsing_by p line (Ok it) =
    record p { stage = stage_after p.stage it; board = board_after p.stage it p.board; lines = line_after p.lines }
parsing_by p line (Err m) = record p { lines = line_after p.lines; fault = Some (fault_of (line_after p.lines) line m) }

-- a parser after a line, by the fault that is sticky
abbrev pub parsing_from : Option ScriptFault → Parsing → List ℕ → Parsing
parsing_from (Some fault) p line = p
parsing_from None p line = parsing_by p line (said_of p.stage p.board line)

-- a parser after a line; one with a fault stays
abbrev pub parsing_after : Parsing → List ℕ → Parsing
parsing_after p line = parsing_from p.fault p line

-- what is read of a line, said to who runs the script on the board that is read so far
abbrev pub fed_by : Board → Result Said ScriptFault → Result Line ScriptFault
fed_by b (Ok it) = Ok (line_by b it)
fed_by b (Err fault) = Err fault

-- what a parser answers a line that it is fed
abbrev pub fed : Parsing → List ℕ → Result Line ScriptFault
fed p line = fed_by (parsing_after p line).board (read_of p line)

-- the end of the input at a stage after so many lines: the header is whole there, or the line after the last is at fault
abbrev pub finished_at : Stage → ℕ → Result (Unit {0}) ScriptFault
finished_at (Header turn) n = Err (no_go (line_after n))
finished_at _ n = Ok tt

-- the end of the input, by the fault that is sticky
abbrev pub finished_by : Option ScriptFault → Stage → ℕ → Result (Unit {0}) ScriptFault
finished_by (Some fault) stage n = Err fault
finished_by None stage n = finished_at stage n

-- what a parser answers at the end of the input
abbrev pub finished : Parsing → Result (Unit {0}) ScriptFault
finished p = finished_by p.fault p.stage p.lines

-- the fault of an answer, if it is one
abbrev pub fault_in : Result (Unit {0}) ScriptFault → Option ScriptFault
fault_in (Ok it) = None
fault_in (Err fault) = Some fault

-- a parser after the end of the input: a fault that it answered is sticky
abbrev pub parsing_at_end : Parsing → Parsing
parsing_at_end p = record p { fault = fault_in (finished p) }

-- the board, where the header is whole
abbrev pub board_by : Stage → Board → Option Board
board_by (Header turn) b = None
board_by _ b = Some b

abbrev pub whole_board : Parsing → Option Board
whole_board p = board_by p.stage p.board
