-- The table of the lines of the header: by the turn, what may come, and the words after it.
use Rattle.std.specs.Prelude.{ℕ, ◌==◌, ◌+◌, nat_lt, Bool, true, if◌then◌else◌, List, [], ◌∷◌, codes, Option, Some, None, Ok}
use Rattle.std.specs.declared.result.Result.{Result}
use Rattle.xv_base.specs.Limits.{most_sources, most_processors, most_threads, most_actors, most_ram_mib, most_ranges}
use Rattle.xv_model.specs.declared.board.Board.{Board}
use Rattle.xv_model.specs.declared.board.Span.{Span}
use Rattle.xv_model.specs.declared.board.Spans.{Spans}
use Rattle.board_script.specs.declared.faults.Cause.TheVariants.{OutOfRange}
use Rattle.board_script.specs.declared.faults.Misread.{Misread}
use Rattle.board_script.specs.declared.stage.Turn.{Turn}
use Rattle.board_script.specs.declared.stage.Turn.TheVariants as turns
use Rattle.board_script.specs.declared.lines.Said.{Said}
use Rattle.board_script.specs.declared.lines.Said.TheVariants as said
use Rattle.board_script.specs.Words.{word_of, rest_of, is_word}
use Rattle.board_script.specs.FirstWords.{out_of_turn}
use Rattle.board_script.specs.Grammar.{Grammar, Number, Stop, Word, refused_at, walk}

-- a line of the header: its name, whether there is room for one more of its kind, and the words after the name
pub record HeaderRow : Type 0 where
  pub name : List ℕ
  pub room : Bool
  pub words : Grammar Said

-- a number from low to most
abbrev pub number_words : ℕ → ℕ → Grammar Said
number_words low most = Word (Number low (most + 1)) (λ n. Stop (Ok (said.Number n)))

abbrev pub number_row : List ℕ → ℕ → ℕ → HeaderRow
number_row name low most = record { name = name; room = true; words = number_words low most }

-- the pages of a source: how many, and whether a store is an EOI
abbrev pub pages_words : Grammar Said
pages_words = Word (Number 1 3) (λ pages. Word (Number 0 2) (λ eoi. Stop (Ok (said.Pages (pages == 2) (eoi == 1)))))

abbrev pub pages_row : HeaderRow
pages_row = record { name = codes "esb"; room = true; words = pages_words }

-- the first word of a line has to be this one
abbrev pub first_at : List ℕ → List ℕ → Result (Unit {0}) Misread
first_at name rest = if is_word name (word_of rest) then Ok tt else refused_at (out_of_turn (word_of rest)) rest

-- whether there is room for one more range of a kind
abbrev pub has_room : Spans → Bool
has_room spans = nat_lt spans.count most_ranges

-- the first number of a range below a limit, and the last one
abbrev pub range_words : {A : Type 0} → ℕ → (Span → A) → Grammar A
range_words limit make = Word (Number 0 limit) (λ first. Word (Number first limit) (λ last. Stop (Ok (make (record { first = first; last = last })))))

-- a range beside those of its kind; without room for it the line is refused at its name
abbrev pub range_at : List ℕ → Spans → ℕ → List ℕ → Result Span Misread
range_at at spans limit rest = if has_room spans then walk at (range_words limit (λ span. span)) rest else refused_at OutOfRange at

-- a line of such a range
abbrev pub range_row : List ℕ → Spans → ℕ → (Span → Said) → HeaderRow
range_row name spans limit make = record {
  name = name;
  room = has_room spans;
  words = range_words limit make;
}

abbrev pub level_row : Board → HeaderRow
level_row b = range_row (codes "level") b.level b.limits.sources said.Level

abbrev pub unclaimed_row : Board → HeaderRow
unclaimed_row b = range_row (codes "unclaimed") b.unclaimed b.limits.sources said.Unclaimed

abbrev pub unconnected_row : Board → HeaderRow
unconnected_row b = range_row (codes "unconnected") b.unconnected b.limits.processors said.Unconnected

abbrev pub go_row : HeaderRow
go_row = record { name = codes "go"; room = true; words = Stop (Ok said.Go) }

abbrev pub unconnected_rows : Board → List HeaderRow
unconnected_rows b = unconnected_row b ∷ go_row ∷ []

abbrev pub unclaimed_rows : Board → List HeaderRow
unclaimed_rows b = unclaimed_row b ∷ unconnected_rows b

abbrev pub level_rows : Board → List HeaderRow
level_rows b = level_row b ∷ unclaimed_rows b

-- what may come at the end of the header: ranges of a kind before those of the next one, and the end
abbrev pub last_rows : Turn → Board → List HeaderRow
last_rows turns.Level b = level_rows b
last_rows turns.Unconnected b = unconnected_rows b
last_rows turn b = unclaimed_rows b

-- what may come at a turn
abbrev pub header_rows : Turn → Board → List HeaderRow
header_rows turns.Board b = number_row (codes "board") 1 1 ∷ []
header_rows turns.Sources b = number_row (codes "sources") 1 most_sources ∷ []
header_rows turns.Processors b = number_row (codes "processors") 1 most_processors ∷ []
header_rows turns.Threads b = number_row (codes "threads") 1 most_threads ∷ []
header_rows turns.Ram b = number_row (codes "ram") 0 most_ram_mib ∷ []
header_rows turns.Actors b = number_row (codes "actors") 1 most_actors ∷ []
header_rows turns.Esb b = pages_row ∷ []
header_rows turn b = last_rows turn b

-- the row of a name
abbrev pub row_of : List HeaderRow → List ℕ → Option HeaderRow
row_of [] name = None
row_of (r ∷ rs) name = if is_word r.name name then Some r else row_of rs name

-- a line of the header, by its row
abbrev pub header_by : List ℕ → Option HeaderRow → Result Said Misread
header_by rest (Some r) = if r.room then walk rest r.words (rest_of rest) else refused_at OutOfRange rest
header_by rest None = refused_at (out_of_turn (word_of rest)) rest

-- a line of the header
abbrev pub header_of : Turn → Board → List ℕ → Result Said Misread
header_of turn b rest = header_by rest (row_of (header_rows turn b) (word_of rest))
