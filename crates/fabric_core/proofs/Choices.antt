-- Tests of numbers, and choices by a test.
use Rattle.std.proofs.Common.{ℕ, ◌≡◌, ◌≢◌, ◌==◌, ◌⊎◌, Bool, true, false, if◌then◌else◌, Option, None, refl, sym, ◌∙◌, inl, inr}
use Rattle.std.proofs.lemmas.Bool.{cases_eq, eq-eqb, ne_eqb}

-- a test of two numbers is that of the same two
pub eqb_swap : (a b : ℕ) → (a == b) ≡ (b == a)
eqb_swap a b = by (cases_eq a b)
  where
    by : (a ≡ b) ⊎ (a ≢ b) → (a == b) ≡ (b == a)
    by (inl same) = eq-eqb a b same ∙ sym (eq-eqb b a (sym same))
    by (inr other) = ne_eqb a b other ∙ sym (ne_eqb b a (λ same. other (sym same)))

-- none is chosen where there is none to choose
pub none_chosen : {A : Type 0} → (b : Bool) (o : Option A) → o ≡ None → (if b then o else None) ≡ None
none_chosen true o e = e
none_chosen false o e = refl
