-- Eight bytes that are looked at together.
use Rattle.std.proofs.Common.{ℕ, ◌≡◌, ◌&&◌, Bool, true, false, List, [], ◌∷◌, length, refl, arith, slice_index_or}
use Rattle.std.specs.List.{list_all}

-- all of eight, whichever way they are joined
joined : (a b c d e f g h : Bool) → (((a && b) && c) && d) && (((e && f) && g) && h) ≡ a && (b && (c && (d && (e && (f && (g && (h && true)))))))
joined false b c d e f g h = refl
joined true false c d e f g h = refl
joined true true false d e f g h = refl
joined true true true false e f g h = refl
joined true true true true false f g h = refl
joined true true true true true false g h = refl
joined true true true true true true false h = refl
joined true true true true true true true false = refl
joined true true true true true true true true = refl

-- all of a list of eight are what each of its elements is
pub all_of_eight : (p : ℕ → Bool) (xs : List ℕ) → length xs ≡ 8 →
    let at : ℕ → Bool = λ i. p (slice_index_or xs i 0) in
    (((at 0 && at 1) && at 2) && at 3) && (((at 4 && at 5) && at 6) && at 7) ≡ list_all p xs
all_of_eight p (a ∷ b ∷ c ∷ d ∷ e ∷ f ∷ g ∷ h ∷ []) l = joined (p a) (p b) (p c) (p d) (p e) (p f) (p g) (p h)
all_of_eight p _ l = absurd (omega (arith, l))
