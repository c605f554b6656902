-- Lines of the header, by their rows.
use Rattle.std.proofs.Common.{ℕ, ◌≡◌, ◌∷◌, Bool, true, false, if◌then◌else◌, List, [], Some, None, Ok, Err, refl, sym, ◌∙◌, ap}
use Rattle.std.specs.declared.result.Result.{Result}
use Rattle.xv_model.specs.declared.board.Span.{Span}
use Rattle.xv_model.specs.declared.board.Spans.{Spans}
use Rattle.board_script.specs.declared.faults.Cause.TheVariants.{OutOfRange}
use Rattle.board_script.specs.declared.faults.Misread.{Misread}
use Rattle.board_script.specs.declared.lines.Said.{Said}
use Rattle.board_script.specs.Words.{word_of, rest_of, is_word}
use Rattle.board_script.specs.FirstWords.{out_of_turn}
use Rattle.board_script.specs.Grammar.{Number, read_as, done_at, refused_at, then_read, walk}
use Rattle.board_script.specs.Header.{HeaderRow, first_at, has_room, range_words, range_at, range_row, row_of, header_by}

-- a first word that is read is the one that is asked for
first_is : (name rest : List ℕ) (u : Unit {0}) → Ok u ≡ first_at name rest → is_word name (word_of rest) ≡ true
first_is name rest u e = by (is_word name (word_of rest)) refl e
  where
    by : (same : Bool) → is_word name (word_of rest) ≡ same → Ok u ≡ (if same then Ok tt else refused_at (out_of_turn (word_of rest)) rest) → is_word name (word_of rest) ≡ true
    by true is e = is
    by false is e = cc

-- the only row, for which there is room: its words are read behind its name
pub only_row : (row : HeaderRow) (rest behind : List ℕ) (u : Unit {0}) → row.room ≡ true → Ok u ≡ first_at row.name rest → behind ≡ rest_of rest →
    walk rest row.words behind ≡ header_by rest (row_of (row ∷ []) (word_of rest))
only_row row rest behind u room first b =
    ap (λ r. walk rest row.words r) b ∙ ap (λ c. if c then walk rest row.words (rest_of rest) else refused_at OutOfRange rest) (sym room)
    ∙ ap (λ c. header_by rest (if c then Some row else None)) (sym (first_is row.name rest u first))

-- what a line says of a range that is read
abbrev says : (Span → Said) → Result Span Misread → Result Said Misread
says make r = then_read r (λ span. Ok (make span))

-- the words of a range say the same, whatever is made of it
range_says : (at : List ℕ) (limit : ℕ) (make : Span → Said) (rest : List ℕ) → walk at (range_words limit make) rest ≡ says make (walk at (range_words limit (λ span. span)) rest)
range_says at limit make rest = by_first (read_as (Number 0 limit) rest)
  where
    by_end : (first last : ℕ) (r : Result (Unit {0}) Misread) → then_read r (λ u. Ok (make (record { first = first; last = last }))) ≡ says make (then_read r (λ u. Ok (record { first = first; last = last })))
    by_end first last (Ok u) = refl
    by_end first last (Err m) = refl

    by_last : (first : ℕ) (r : Result ℕ Misread) →
        then_read r (λ last. then_read (done_at (rest_of (rest_of rest))) (λ u. Ok (make (record { first = first; last = last }))))
        ≡ says make (then_read r (λ last. then_read (done_at (rest_of (rest_of rest))) (λ u. Ok (record { first = first; last = last }))))
    by_last first (Ok last) = by_end first last (done_at (rest_of (rest_of rest)))
    by_last first (Err m) = refl

    by_first : (r : Result ℕ Misread) →
        then_read r (λ first. then_read (read_as (Number first limit) (rest_of rest)) (λ last. then_read (done_at (rest_of (rest_of rest))) (λ u. Ok (make (record { first = first; last = last })))))
        ≡ says make (then_read r (λ first. then_read (read_as (Number first limit) (rest_of rest)) (λ last. then_read (done_at (rest_of (rest_of rest))) (λ u. Ok (record { first = first; last = last })))))
    by_first (Ok first) = by_last first (read_as (Number first limit) (rest_of rest))
    by_first (Err m) = refl

row_says : (at : List ℕ) (room : Bool) (limit : ℕ) (make : Span → Said) (rest : List ℕ) →
    says make (if room then walk at (range_words limit (λ span. span)) rest else refused_at OutOfRange at) ≡ (if room then walk at (range_words limit make) rest else refused_at OutOfRange at)
row_says at true limit make rest = sym (range_says at limit make rest)
row_says at false limit make rest = refl

-- where a range is refused, its line is
pub refused_range : (name at : List ℕ) (spans : Spans) (limit : ℕ) (make : Span → Said) (rest : List ℕ) (m : Misread) → rest_of at ≡ rest → Err m ≡ range_at at spans limit rest →
    Err m ≡ header_by at (Some (range_row name spans limit make))
refused_range name at spans limit make rest m b e =
    ap (says make) e ∙ row_says at (has_room spans) limit make rest ∙ ap (λ r. if has_room spans then walk at (range_words limit make) r else refused_at OutOfRange at) (sym b)
