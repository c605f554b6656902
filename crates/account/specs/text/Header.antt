-- The header of an account.
use Rattle.std.specs.Prelude.{ℕ, if◌then◌else◌, List, [], ◌∷◌, ◌++◌, take, codes, decimal}
use Rattle.xv_model.specs.declared.board.Span.{Span}
use Rattle.xv_model.specs.declared.board.Spans.{Spans}
use Rattle.xv_model.specs.declared.board.Board.{Board}
use Rattle.account.specs.text.Numbers.{number_line}

-- how many of each thing a board has, and its memory
abbrev pub counts_text : Board → List ℕ
counts_text b =
    number_line (codes "sources ") b.limits.sources
    ++ number_line (codes "processors ") b.limits.processors
    ++ number_line (codes "threads ") b.limits.threads
    ++ number_line (codes "ram ") b.ram_mib
    ++ number_line (codes "actors ") b.limits.actors

-- how many pages a source has, and whether a store is an EOI
abbrev pub esb_line : Board → List ℕ
esb_line b =
    if b.two_pages then (if b.store_eoi then codes "esb 2 1\n" else codes "esb 2 0\n")
    else (if b.store_eoi then codes "esb 1 1\n" else codes "esb 1 0\n")

-- the line of a range
abbrev pub range_line : List ℕ → Span → List ℕ
range_line word span = word ++ decimal span.first ++ codes " " ++ decimal span.last ++ codes "\n"

-- a line for each of some ranges
abbrev pub ranges_text : List ℕ → List Span → List ℕ
ranges_text word [] = []
ranges_text word (span ∷ more) = range_line word span ++ ranges_text word more

abbrev pub spans_text : List ℕ → Spans → List ℕ
spans_text word spans = ranges_text word (take spans.count spans.spans)

-- the ranges of a board: level sources, sources without a valid EAS, and processors that aren't connected
abbrev pub board_ranges_text : Board → List ℕ
board_ranges_text b =
    spans_text (codes "level ") b.level ++ spans_text (codes "unclaimed ") b.unclaimed
    ++ spans_text (codes "unconnected ") b.unconnected

-- the header of an account, from `xive-account` to `go`
abbrev pub header_text : Board → List ℕ
header_text b =
    codes "xive-account 1\n" ++ counts_text b ++ esb_line b ++ board_ranges_text b ++ codes "go\n"
