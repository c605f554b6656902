-- The words that may begin a line, each in its turn.
use Rattle.std.specs.Prelude.{ℕ, ◌||◌, Bool, true, false, if◌then◌else◌, List, [], ◌∷◌, Option, Some, None, codes}
use Rattle.board_script.specs.declared.faults.Cause.{Cause}
use Rattle.board_script.specs.declared.faults.Cause.TheVariants.{WrongPlace, UnknownWord}
use Rattle.board_script.specs.Words.{is_word}
use Rattle.board_script.specs.Numbers.{number_of}

-- those that aren't numbers
abbrev pub first_words : List (List ℕ)
first_words =
    codes "board" ∷ codes "sources" ∷ codes "processors" ∷ codes "threads" ∷ codes "ram" ∷ codes "actors" ∷ codes "esb"
    ∷ codes "level" ∷ codes "unclaimed" ∷ codes "unconnected" ∷ codes "go" ∷ codes "start" ∷ codes "end" ∷ []

-- whether a word is one of some words
abbrev pub is_among : List (List ℕ) → List ℕ → Bool
is_among [] word = false
is_among (name ∷ names) word = is_word name word || is_among names word

abbrev pub is_number : Option ℕ → Bool
is_number (Some n) = true
is_number None = false

-- why a line is refused at a first word whose turn it isn't
abbrev pub out_of_turn : List ℕ → Cause
out_of_turn word = if is_among first_words word || is_number (number_of word) then WrongPlace else UnknownWord
