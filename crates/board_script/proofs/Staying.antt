-- The board of a script stays one while the script is read.
use Rattle.std.proofs.Common.{ℕ, zero, suc, ◌≡◌, ◌<◌, ◌≤◌, ◌+◌, List, [], ◌∷◌, Some, slice_get, slice_set, arith, rules}
use Rattle.xv_base.specs.Limits.{most_ranges}
use Rattle.xv_model.specs.declared.board.Board.{Board}
use Rattle.xv_model.specs.declared.board.Span.{Span}
use Rattle.xv_model.specs.declared.board.Spans.{Spans}
use Rattle.xv_model.specs.board.Boards.{AreBelow}
use Rattle.board_script.specs.declared.stage.Turn.{Turn}
use Rattle.board_script.specs.declared.stage.Turn.TheVariants as turns
use Rattle.board_script.specs.declared.stage.Stage.{Stage}
use Rattle.board_script.specs.declared.stage.Stage.TheVariants.{Header, Work, Started, Ended}
use Rattle.board_script.specs.declared.lines.Said.{Said}
use Rattle.board_script.specs.declared.lines.Said.TheVariants as said
use Rattle.board_script.specs.Lines.{IsHeaderSaid, IsSaidAt}
use Rattle.board_script.specs.Stage.{spans_with, header_after, stage_after, board_with, board_after, IsBoardAt}

-- what holds of the first n spans and of one that is put behind them holds of them all
each_with : (P : Span → Type 0) (xs : List Span) (n : ℕ) (v : Span) → P v → ((i : ℕ) (s : Span) → i < n → slice_get xs i ≡ Some s → P s) →
    (i : ℕ) (s : Span) → i < n + 1 → slice_get (slice_set xs n v) i ≡ Some s → P s
each_with P [] n v pv h i s b e = search rules
each_with P (x ∷ xs) zero v pv h zero s b e = search rules
each_with P (x ∷ xs) zero v pv h (suc i) s b e = absurd (omega (arith, b))
each_with P (x ∷ xs) (suc n) v pv h zero s b e = h zero s (omega arith) e
each_with P (x ∷ xs) (suc n) v pv h (suc i) s b e = each_with P xs n v pv (λ j t c d. h (suc j) t (omega (arith, c)) d) i s (omega (arith, b)) e

-- what holds of the spans beyond the first n holds of them where one is put behind the first n
beyond_with : (P : Span → Type 0) (xs : List Span) (n : ℕ) (v : Span) → ((i : ℕ) (s : Span) → n ≤ i → slice_get xs i ≡ Some s → P s) →
    (i : ℕ) (s : Span) → n + 1 ≤ i → slice_get (slice_set xs n v) i ≡ Some s → P s
beyond_with P [] n v h i s b e = search rules
beyond_with P (x ∷ xs) zero v h zero s b e = absurd (omega (arith, b))
beyond_with P (x ∷ xs) zero v h (suc i) s b e = h (suc i) s (omega arith) e
beyond_with P (x ∷ xs) (suc n) v h zero s b e = absurd (omega (arith, b))
beyond_with P (x ∷ xs) (suc n) v h (suc i) s b e = beyond_with P xs n v (λ j t c d. h (suc j) t (omega (arith, c)) d) i s (omega (arith, b)) e

-- spans with one more that is below the limit too
below_with : (spans : Spans) (span : Span) (limit : ℕ) → AreBelow spans limit → spans.count < most_ranges → span.first ≤ span.last → span.last < limit → AreBelow (spans_with span spans) limit
below_with spans span limit a room ordered below = record {
  few = omega (arith, room);
  ordered = each_with (λ s. s.first ≤ s.last) spans.spans spans.count span ordered a.ordered;
  below = each_with (λ s. s.last < limit) spans.spans spans.count span below a.below;
  unused = beyond_with (λ s. (s.first ≡ 0) × (s.last ≡ 0)) spans.spans spans.count span a.unused;
}

-- no spans are below any limit
none_below : (spans : Spans) (limit other : ℕ) → AreBelow spans other → spans.count ≡ 0 → AreBelow spans limit
none_below spans limit other a e = record {
  few = a.few;
  ordered = λ i span b s. absurd (omega (arith, e, b));
  below = λ i span b s. absurd (omega (arith, e, b));
  unused = a.unused;
}

-- the board after a line of the header is one
header_stays : (turn : Turn) (b : Board) (it : Said) → IsBoardAt (Header turn) b → IsHeaderSaid turn b it → IsBoardAt (header_after turn it) (board_with turn it b)
header_stays turns.Board b (said.Number n) s f = record { is_board = s.is_board; ranges = s.ranges }
header_stays turns.Sources b (said.Number n) s f = search (rules, none_below)
header_stays turns.Processors b (said.Number n) s f = search (rules, none_below)
header_stays turns.Threads b (said.Number n) s f = search rules
header_stays turns.Ram b (said.Number n) s f = search rules
header_stays turns.Actors b (said.Number n) s f = search rules
header_stays turns.Esb b (said.Pages two store) s f = search rules
header_stays turns.Level b (said.Level span) s f = search (rules, below_with)
header_stays turns.Level b (said.Unclaimed span) s f = search (rules, below_with)
header_stays turns.Unclaimed b (said.Unclaimed span) s f = search (rules, below_with)
header_stays turns.Level b (said.Unconnected span) s f = search (rules, below_with)
header_stays turns.Unclaimed b (said.Unconnected span) s f = search (rules, below_with)
header_stays turns.Unconnected b (said.Unconnected span) s f = search (rules, below_with)
header_stays turns.Level b said.Go s f = record { is_board = s.is_board; ranges = tt }
header_stays turns.Unclaimed b said.Go s f = record { is_board = s.is_board; ranges = tt }
header_stays turns.Unconnected b said.Go s f = record { is_board = s.is_board; ranges = tt }
header_stays _ b _ s f = absurd f

-- a line of the header that says nothing
nothing : (turn : Turn) (b : Board) → IsBoardAt (Header turn) b → IsBoardAt (Header turn) (board_with turn said.Nothing b)
nothing turns.Sources b s = s
nothing turns.Processors b s = s
nothing turns.Threads b s = s
nothing turns.Ram b s = s
nothing turns.Actors b s = s
nothing turns.Esb b s = s
nothing turns.Level b s = s
nothing turns.Unclaimed b s = s
nothing turns.Unconnected b s = s
nothing turns.Board b s = s

-- the board after a line is one
pub stays : (stage : Stage) (b : Board) (it : Said) → IsBoardAt stage b → IsSaidAt stage b it → IsBoardAt (stage_after stage it) (board_after stage it b)
stays Work b said.End s f = record { is_board = s.is_board; ranges = tt }
stays Work b said.Start s f = record { is_board = s.is_board; ranges = tt }
stays Work b it s f = s
stays Started b said.End s f = record { is_board = s.is_board; ranges = tt }
stays Started b said.Start s f = record { is_board = s.is_board; ranges = tt }
stays Started b it s f = s
stays Ended b it s f = s
stays (Header turn) b said.Nothing s f = nothing turn b s
stays (Header turn) b it s f = header_stays turn b it s f
