-- What stays in range where all EASes are cleared.
use Rattle.std.proofs.Common.{ℕ, ◌≡◌, ◌<◌, Bool, true, false, if◌then◌else◌, List, length, Some, sym, subst, arith, slice_get}
use Rattle.std.specs.Prelude.{All}
use Rattle.std.proofs.lemmas.Option.{slice_get-get_or, get_or_from_slice_get}
use Rattle.std.proofs.lemmas.List.Elements.{All-get_or, All-from_get_or}
use Rattle.xv_model.specs.declared.board.Board.{Board}
use Rattle.xv_model.specs.declared.eas.Eas.{Eas}
use Rattle.xv_model.specs.board.Boards.{IsBoard}
use Rattle.xv_model.specs.source.Eas.{masked_off}
use Rattle.eas_table.specs.Table.{IsEas, cleared, eas_in}

cleared_in_range : (b : Board) (a : Eas) → IsBoard b → IsEas b a → IsEas b (cleared a)
cleared_in_range b a is i = by a.valid
  where
    by : (valid : Bool) → IsEas b (if valid then masked_off else a)
    by true = record { end = omega (arith, is.some_processor); eisn = omega arith }
    by false = i

-- each EAS is the one before it, cleared
pub all_cleared : (b : Board) (eases eases' : List Eas) → IsBoard b → All (IsEas b) eases →
    ((s : ℕ) (a : Eas) → slice_get eases s ≡ Some a → slice_get eases' s ≡ Some (cleared a)) → length eases' ≡ length eases → All (IsEas b) eases'
all_cleared b eases eases' is all each same = All-from_get_or (IsEas b) eases' masked_off (λ s inside'.
    let inside : s < length eases = subst (λ n. s < n) same inside' in
    let a = eas_in eases s in
    let now = get_or_from_slice_get eases' s (cleared a) masked_off (each s a (slice_get-get_or eases s masked_off inside)) in
    subst (IsEas b) (sym now) (cleared_in_range b a is (All-get_or (IsEas b) eases s masked_off inside all)))
