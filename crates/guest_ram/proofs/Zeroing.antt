-- Words that are made zero one after another.
use Rattle.std.proofs.Common.{ℕ, ◌≡◌, ◌≢◌, ◌<◌, ◌≤◌, ◌+◌, List, length, Some, refl, sym, ◌∙◌, ap, subst, inl, inr, arith, slice_set, slice_get, get_or-set_same, get_or-set_other}
use Rattle.std.specs.Prelude.{◌⊎◌}
use Rattle.std.proofs.Math.ListN.{length-set}
use Rattle.std.proofs.lemmas.Bool.{cases_eq, cases_lt}
use Rattle.std.proofs.lemmas.Option.{slice_get-get_or, slice_get_past}
use Rattle.guest_ram.specs.Ram.{Zeroed}

-- none so far
pub none : (before : List ℕ) (from : ℕ) → Zeroed before from from before
none before from = record { len = refl; inside = λ i l m. absurd (omega arith); outside = λ i other. refl }

pub set_here : (xs : List ℕ) (i x : ℕ) → i < length xs → slice_get (slice_set xs i x) i ≡ Some x
set_here xs i x l = slice_get-get_or (slice_set xs i x) i x (subst (λ k. i < k) (sym (length-set xs i x)) l) ∙ ap Some (get_or-set_same xs i x x l)

pub set_there : (xs : List ℕ) (i j x : ℕ) → j ≢ i → slice_get (slice_set xs i x) j ≡ slice_get xs j
set_there xs i j x other = by (cases_lt j (length xs))
  where
    by : (j < length xs) ⊎ (length xs ≤ j) → slice_get (slice_set xs i x) j ≡ slice_get xs j
    by (inl l) = slice_get-get_or (slice_set xs i x) j x (subst (λ k. j < k) (sym (length-set xs i x)) l) ∙ ap Some (get_or-set_other xs i j x x other) ∙ sym (slice_get-get_or xs j x l)
    by (inr l) = slice_get_past (slice_set xs i x) j (subst (λ k. k ≤ j) (sym (length-set xs i x)) l) ∙ sym (slice_get_past xs j l)

-- one more
pub more : (before after : List ℕ) (from to : ℕ) → from ≤ to → to < length before → Zeroed before from to after → Zeroed before from (to + 1) (slice_set after to 0)
more before after from to le l zd = record {
  len = length-set after to 0 ∙ zd.len;
  inside = λ i a b. elim (cases_eq i to) [
    | inl here ↦ subst (λ i. slice_get (slice_set after to 0) i ≡ Some 0) (sym here) (set_here after to 0 (subst (λ k. to < k) (sym zd.len) l))
    | inr other ↦ set_there after to i 0 other ∙ zd.inside i a (omega arith)
  ];
  outside = λ i out. set_there after to i 0 (beyond i out) ∙ zd.outside i (wider i out);
}
  where
    beyond : (i : ℕ) → (i < from) ⊎ (to + 1 ≤ i) → i ≢ to
    beyond i (inl m) e = omega arith
    beyond i (inr m) e = omega arith

    wider : (i : ℕ) → (i < from) ⊎ (to + 1 ≤ i) → (i < from) ⊎ (to ≤ i)
    wider i (inl m) = inl m
    wider i (inr m) = inr (omega arith)
