-- What a line says.
use Rattle.std.specs.Prelude.{ℕ, ◌<◌, ◌≤◌, ◌-◌, nat_lt, true, false, if◌then◌else◌, List, [], ◌∷◌, length, Ok, Err}
use Rattle.std.specs.declared.result.Result.{Result}
use Rattle.xv_base.specs.Limits.{longest_line, most_ranges, most_sources, most_processors, most_threads, most_actors, most_ram_mib}
use Rattle.xv_model.specs.declared.board.Board.{Board}
use Rattle.xv_model.specs.declared.board.Span.{Span}
use Rattle.xv_model.specs.declared.board.Spans.{Spans}
use Rattle.board_script.specs.declared.faults.Misread.{Misread}
use Rattle.board_script.specs.declared.stage.Turn.{Turn}
use Rattle.board_script.specs.declared.stage.Turn.TheVariants as turns
use Rattle.board_script.specs.declared.stage.Stage.{Stage}
use Rattle.board_script.specs.declared.stage.Stage.TheVariants.{Header, Work, Started, Ended}
use Rattle.board_script.specs.declared.lines.Said.{Said}
use Rattle.board_script.specs.declared.lines.Said.TheVariants as said
use Rattle.board_script.specs.declared.lines.Line.{Line}
use Rattle.board_script.specs.declared.lines.Line.TheVariants as line
use Rattle.board_script.specs.declared.work.Work.{Work as AWork}
use Rattle.board_script.specs.declared.faults.Cause.TheVariants.{LongLine, BadByte}
use Rattle.board_script.specs.Words.{from_unprintable, skip, says_nothing}
use Rattle.board_script.specs.Grammar.{refused_at, then_read}
use Rattle.board_script.specs.Work.{HasValidSteps}
use Rattle.board_script.specs.Header.{header_of}
use Rattle.board_script.specs.Working.{work_of}

-- what is read of a line, or where it is refused
abbrev pub Reading : Type 0
Reading = Result Said Misread

-- no bytes are left, where a line has none that may not stand in it
abbrev pub none_left : List ℕ → Result (Unit {0}) Misread
none_left [] = Ok tt
none_left (c ∷ cs) = refused_at BadByte (c ∷ cs)

-- a line is refused where it is long, behind the bytes that a line may have, or at a byte that may not stand in it
abbrev pub check_of : List ℕ → Result (Unit {0}) Misread
check_of line =
    if nat_lt longest_line (length line) then Err (record { cause = LongLine; left = length line - longest_line })
    else none_left (from_unprintable line)

-- what the words of a line say at a stage on a board
abbrev pub words_of : Stage → Board → List ℕ → Reading
words_of (Header turn) b rest = header_of turn b rest
words_of Work b rest = work_of b false rest
words_of Started b rest = work_of b true rest
words_of Ended b rest = Ok said.Nothing

-- a line without words, or with a comment, says nothing
abbrev pub said_by : Stage → Board → List ℕ → Reading
said_by stage b rest = if says_nothing rest then Ok said.Nothing else words_of stage b rest

-- what a line says at a stage on a board, where it may have its bytes
abbrev pub checked_of : Stage → Board → List ℕ → Reading
checked_of stage b line = then_read (check_of line) (λ u. said_by stage b (skip line))

-- what a line says at a stage on a board; after the end nothing does
abbrev pub said_of : Stage → Board → List ℕ → Reading
said_of Ended b line = Ok said.Nothing
said_of stage b line = checked_of stage b line

-- what a line says to who runs the script, on the board that is read so far
abbrev pub line_by : Board → Said → Line
line_by b said.Nothing = line.Nothing
line_by b (said.Number n) = line.Header
line_by b (said.Pages two store) = line.Header
line_by b (said.Level span) = line.Header
line_by b (said.Unclaimed span) = line.Header
line_by b (said.Unconnected span) = line.Header
line_by b said.Go = line.Go b
line_by b said.Start = line.Start
line_by b said.End = line.End
line_by b (said.Work actor work) = line.Work actor work

-- a number from low to most
abbrev pub IsNumber : ℕ → ℕ → Said → Type 0
IsNumber low most (said.Number n) = (low ≤ n) × (n ≤ most)
IsNumber low most _ = ⊥

-- the pages of a source
abbrev pub IsPages : Said → Type 0
IsPages (said.Pages two_pages store_eoi) = Unit {0}
IsPages _ = ⊥

-- one more range beside these of its kind: there is room for it, and its numbers are below a limit
pub record IsRange (limit : ℕ) (spans : Spans) (span : Span) : Type 0 where
  pub room : spans.count < most_ranges
  pub ordered : span.first ≤ span.last
  pub below : span.last < limit

-- a range of level sources, before those of other kinds
abbrev pub IsLevelAt : Turn → Board → Span → Type 0
IsLevelAt turns.Level b span = IsRange b.limits.sources b.level span
IsLevelAt _ b span = ⊥

-- a range of unclaimed sources, before those of processors
abbrev pub IsUnclaimedAt : Turn → Board → Span → Type 0
IsUnclaimedAt turns.Level b span = IsRange b.limits.sources b.unclaimed span
IsUnclaimedAt turns.Unclaimed b span = IsRange b.limits.sources b.unclaimed span
IsUnclaimedAt _ b span = ⊥

-- a range of a kind that may come at a turn, or the end of the header
abbrev pub IsLastSaid : Turn → Board → Said → Type 0
IsLastSaid turn b (said.Level span) = IsLevelAt turn b span
IsLastSaid turn b (said.Unclaimed span) = IsUnclaimedAt turn b span
IsLastSaid turn b (said.Unconnected span) = IsRange b.limits.processors b.unconnected span
IsLastSaid turn b said.Go = Unit {0}
IsLastSaid turn b _ = ⊥

-- what a line of the header says has the form and the range of its turn
abbrev pub IsHeaderSaid : Turn → Board → Said → Type 0
IsHeaderSaid turns.Board b it = IsNumber 1 1 it
IsHeaderSaid turns.Sources b it = IsNumber 1 most_sources it
IsHeaderSaid turns.Processors b it = IsNumber 1 most_processors it
IsHeaderSaid turns.Threads b it = IsNumber 1 most_threads it
IsHeaderSaid turns.Ram b it = IsNumber 0 most_ram_mib it
IsHeaderSaid turns.Actors b it = IsNumber 1 most_actors it
IsHeaderSaid turns.Esb b it = IsPages it
IsHeaderSaid turn b it = IsLastSaid turn b it

-- a work line is by an actor of the board, and its operations are valid there
pub record IsWork (b : Board) (actor : ℕ) (work : AWork) : Type 0 where
  pub actor_is : actor < b.limits.actors
  pub valid_steps : HasValidSteps b work

-- what a line after the header says is the end, the start, or a work line
abbrev pub IsWorkSaid : Board → Said → Type 0
IsWorkSaid b said.End = Unit {0}
IsWorkSaid b said.Start = Unit {0}
IsWorkSaid b (said.Work actor work) = IsWork b actor work
IsWorkSaid b _ = ⊥

-- what words say fits the stage
abbrev pub IsWordsSaid : Stage → Board → Said → Type 0
IsWordsSaid (Header turn) b it = IsHeaderSaid turn b it
IsWordsSaid Work b it = IsWorkSaid b it
IsWordsSaid Started b it = IsWorkSaid b it
IsWordsSaid Ended b it = ⊥

-- what a line says fits its stage
abbrev pub IsSaidAt : Stage → Board → Said → Type 0
IsSaidAt stage b said.Nothing = Unit {0}
IsSaidAt stage b it = IsWordsSaid stage b it
