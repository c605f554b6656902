-- Lists of what a function gives at each index, one of which changes.
use Rattle.std.proofs.Common.{ℕ, ◌≡◌, ◌≢◌, ◌<◌, ◌==◌, if◌then◌else◌, List, length, Some, refl, sym, ◌∙◌, ap, subst, inl, inr, slice_set, slice_get, slice_index_or, get_or-set_same, get_or-set_other}
use Rattle.std.proofs.lemmas.Bool.{cases_eq, eq-eqb, ne_eqb}
use Rattle.std.proofs.lemmas.Option.{slice_get-get_or, slice_get_within, get_or_from_slice_get}
use Rattle.std.proofs.Math.ListN.{length-set}

set_here : {A : Type 0} (xs : List A) (i : ℕ) (x : A) → i < length xs → slice_get (slice_set xs i x) i ≡ Some x
set_here xs i x l = slice_get-get_or (slice_set xs i x) i x (subst (λ k. i < k) (sym (length-set xs i x)) l) ∙ ap Some (get_or-set_same xs i x x l)

set_there : {A : Type 0} (xs : List A) (i j : ℕ) (x : A) → j < length xs → j ≢ i → slice_get (slice_set xs i x) j ≡ slice_get xs j
set_there xs i j x l other = slice_get-get_or (slice_set xs i x) j x (subst (λ k. j < k) (sym (length-set xs i x)) l) ∙ ap Some (get_or-set_other xs i j x x other) ∙ sym (slice_get-get_or xs j x l)

-- the list has what f gives, and then what g gives, which differs at one index alone
pub set_gives : {A : Type 0} (xs : List A) (i n : ℕ) (x : A) (f g : ℕ → A) → ((j : ℕ) → j < n → slice_get xs j ≡ Some (f j)) → i < n → x ≡ g i → ((j : ℕ) → j ≢ i → g j ≡ f j) →
    (j : ℕ) → j < n → slice_get (slice_set xs i x) j ≡ Some (g j)
set_gives xs i n x f g before li here there j l = elim (cases_eq j i) [
  | inl same ↦ subst (λ j. slice_get (slice_set xs i x) j ≡ Some (g j)) (sym same) (set_here xs i x (slice_get_within xs i (f i) (before i li)) ∙ ap Some here)
  | inr other ↦ set_there xs i j x (slice_get_within xs j (f j) (before j l)) other ∙ before j l ∙ ap Some (sym (there j other))
]

-- what is read at an index is what f gives there
pub read : {A : Type 0} (xs : List A) (i n : ℕ) (x d : A) (f : ℕ → A) → ((j : ℕ) → j < n → slice_get xs j ≡ Some (f j)) → i < n → x ≡ slice_index_or xs i d → x ≡ f i
read xs i n x d f all l e = e ∙ get_or_from_slice_get xs i (f i) d (all i l)

-- where a number is that of what changes, and where it isn't
pub at_same : {A : Type 0} (i : ℕ) (x y : A) → (if i == i then x else y) ≡ x
at_same i x y = rw (eq-eqb i i refl) refl

pub at_other : {A : Type 0} (i j : ℕ) (x y : A) → j ≢ i → (if i == j then x else y) ≡ y
at_other i j x y other = rw (ne_eqb i j (λ same. other (sym same))) refl

-- a list of which the element at one index is changed by f
pub set_by : {A : Type 0} (xs : List A) (i : ℕ) (x d : A) (f : A → A) → i < length xs → x ≡ f (slice_index_or xs i d) →
    (j : ℕ) (a : A) → slice_get xs j ≡ Some a → slice_get (slice_set xs i x) j ≡ Some (if i == j then f a else a)
set_by xs i x d f li is j a there = elim (cases_eq j i) [
  | inl same ↦ subst (λ j. slice_get xs j ≡ Some a → slice_get (slice_set xs i x) j ≡ Some (if i == j then f a else a)) (sym same)
      (λ here. set_here xs i x li ∙ ap Some (is ∙ ap f (get_or_from_slice_get xs i a d here) ∙ sym (at_same i (f a) a))) there
  | inr other ↦ set_there xs i j x (slice_get_within xs j a there) other ∙ there ∙ ap Some (sym (at_other i j (f a) a other))
]
