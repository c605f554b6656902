-- How far a script is read: the stage and the board after a line.
use Rattle.std.specs.Prelude.{◌≡◌, ◌+◌, false, slice_set}
use Rattle.xv_model.specs.declared.board.Board.{Board}
use Rattle.xv_model.specs.declared.board.Span.{Span}
use Rattle.xv_model.specs.declared.board.Spans.{Spans}
use Rattle.xv_model.specs.declared.board.TheConstants.Spans.{NONE}
use Rattle.xv_model.specs.board.Boards.{IsBoard}
use Rattle.board_script.specs.declared.stage.Turn.{Turn}
use Rattle.board_script.specs.declared.stage.Turn.TheVariants as turns
use Rattle.board_script.specs.declared.stage.Stage.{Stage}
use Rattle.board_script.specs.declared.stage.Stage.TheVariants.{Header, Work, Started, Ended}
use Rattle.board_script.specs.declared.lines.Said.{Said}
use Rattle.board_script.specs.declared.lines.Said.TheVariants as said

-- the board before the first line: the least one, without ranges
abbrev pub first_board : Board
first_board = record {
  limits = record { sources = 1; processors = 1; threads = 1; actors = 1 };
  ram_mib = 0;
  two_pages = false;
  store_eoi = false;
  level = NONE;
  unclaimed = NONE;
  unconnected = NONE;
}

-- which line of the header follows
abbrev pub next_turn : Turn → Turn
next_turn turns.Board = turns.Sources
next_turn turns.Sources = turns.Processors
next_turn turns.Processors = turns.Threads
next_turn turns.Threads = turns.Ram
next_turn turns.Ram = turns.Actors
next_turn turns.Actors = turns.Esb
next_turn turns.Esb = turns.Level
next_turn turns.Level = turns.Level
next_turn turns.Unclaimed = turns.Unclaimed
next_turn turns.Unconnected = turns.Unconnected

-- the script isn't over
abbrev pub IsOpen : Stage → Type 0
IsOpen Ended = ⊥
IsOpen stage = Unit {0}

-- lines of work may come
abbrev pub IsWorking : Stage → Type 0
IsWorking Work = Unit {0}
IsWorking Started = Unit {0}
IsWorking stage = ⊥

-- the stage after a line of the header
abbrev pub header_after : Turn → Said → Stage
header_after turn said.Nothing = Header turn
header_after turn (said.Unclaimed span) = Header turns.Unclaimed
header_after turn (said.Unconnected span) = Header turns.Unconnected
header_after turn said.Go = Work
header_after turn _ = Header (next_turn turn)

-- the stage after a line
abbrev pub stage_after : Stage → Said → Stage
stage_after (Header turn) it = header_after turn it
stage_after Ended it = Ended
stage_after stage said.End = Ended
stage_after stage said.Start = Started
stage_after stage _ = stage

-- spans with one more
abbrev pub spans_with : Span → Spans → Spans
spans_with span spans = record { count = spans.count + 1; spans = slice_set spans.spans spans.count span }

-- the board with what a line of the header says at its turn
abbrev pub board_with : Turn → Said → Board → Board
board_with turns.Sources (said.Number n) b = record b { limits = record b.limits { sources = n } }
board_with turns.Processors (said.Number n) b = record b { limits = record b.limits { processors = n } }
board_with turns.Threads (said.Number n) b = record b { limits = record b.limits { threads = n } }
board_with turns.Ram (said.Number n) b = record b { ram_mib = n }
board_with turns.Actors (said.Number n) b = record b { limits = record b.limits { actors = n } }
board_with turns.Esb (said.Pages two store) b = record b { two_pages = two; store_eoi = store }
board_with turns.Level (said.Level span) b = record b { level = spans_with span b.level }
board_with turns.Level (said.Unclaimed span) b = record b { unclaimed = spans_with span b.unclaimed }
board_with turns.Unclaimed (said.Unclaimed span) b = record b { unclaimed = spans_with span b.unclaimed }
board_with turns.Level (said.Unconnected span) b = record b { unconnected = spans_with span b.unconnected }
board_with turns.Unclaimed (said.Unconnected span) b = record b { unconnected = spans_with span b.unconnected }
board_with turns.Unconnected (said.Unconnected span) b = record b { unconnected = spans_with span b.unconnected }
board_with _ _ b = b

-- the board after a line: the lines of the header make it
abbrev pub board_after : Stage → Said → Board → Board
board_after (Header turn) it b = board_with turn it b
board_after _ it b = b

-- the board has the ranges that lines before this turn can give: none before the last lines, and none of a later kind
abbrev pub HasRangesAt : Turn → Board → Type 0
HasRangesAt turns.Unconnected b = Unit {0}
HasRangesAt turns.Unclaimed b = b.unconnected.count ≡ 0
HasRangesAt turns.Level b = (b.unclaimed.count ≡ 0) × (b.unconnected.count ≡ 0)
HasRangesAt _ b = (b.level.count ≡ 0) × (b.unclaimed.count ≡ 0) × (b.unconnected.count ≡ 0)

-- the board has the ranges that a stage can have met
abbrev pub HasRanges : Stage → Board → Type 0
HasRanges (Header turn) b = HasRangesAt turn b
HasRanges _ b = Unit {0}

-- the board so far is one that the lines so far can give
pub record IsBoardAt (stage : Stage) (b : Board) : Type 0 where
  pub is_board : IsBoard b
  pub ranges : HasRanges stage b
