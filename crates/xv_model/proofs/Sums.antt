-- Sums over the numbers below a number.
use Rattle.std.proofs.Common.{ℕ, zero, suc, ◌≡◌, ◌+◌, ◌<◌, ◌≢◌, refl, subst, arith, inl, inr}
use Rattle.std.proofs.lemmas.Bool.{cases_lt}
use Rattle.xv_model.specs.source.Notices.{sum_below}

-- counts that agree at every number below n have one sum
pub sum_below-same : (f g : ℕ → ℕ) (n : ℕ) → ((k : ℕ) → k < n → g k ≡ f k) → sum_below g n ≡ sum_below f n
sum_below-same f g zero agree = refl
sum_below-same f g (suc n) agree =
    let before = sum_below-same f g n (λ k l. agree k (omega arith)) in
    let last = agree n (omega arith) in
    omega arith

-- a count that is more by k at one number below n, and agrees at the others, has a sum that is more by k
pub sum_below-more_at : (f g : ℕ → ℕ) (n s k : ℕ) → s < n → g s ≡ f s + k → ((q : ℕ) → q < n → q ≢ s → g q ≡ f q) → sum_below g n ≡ sum_below f n + k
sum_below-more_at f g zero s k l here agree = absurd (omega arith)
sum_below-more_at f g (suc n) s k l here agree =
    elim (cases_lt s n) [
      | inl below ↦
          let before = sum_below-more_at f g n s k below here (λ q m. agree q (omega arith)) in
          let last : g n ≡ f n = agree n (omega arith) (omega arith) in
          omega arith
      | inr above ↦
          let at : s ≡ n = omega arith in
          let before = sum_below-same f g n (λ q m. agree q (omega arith) (omega arith)) in
          let last : g n ≡ f n + k = subst (λ q. g q ≡ f q + k) at here in
          omega arith
    ]

-- a count of nothing has the sum 0
pub sum_below-zero : (n : ℕ) → sum_below (λ k. 0) n ≡ 0
sum_below-zero zero = refl
sum_below-zero (suc n) = let before = sum_below-zero n in omega arith
