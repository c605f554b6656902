-- The first number at which a count isn't 0, and what is passed on the way to it.
use Rattle.std.proofs.Common.{ℕ, zero, suc, ◌-◌, ◌≡◌, ◌==◌, ◌+◌, ◌<◌, ◌≤◌, ◌≢◌, Bool, true, false, if◌then◌else◌, nat_lt, Some, None, refl, sym, ◌∙◌, ap, subst, arith}
use Rattle.std.proofs.lemmas.Bool.{ltb-true}
use Rattle.std.proofs.lemmas.Bool.Decides.{nat_tests}
use Rattle.xv_model.specs.source.Notices.{sum_below}
use Rattle.xv_model.proofs.Sums.{sum_below-same, sum_below-zero}
use Rattle.board_script.specs.Steps.{first_from, HasPassed}

-- the first number from one on, below an end, at which a count isn't 0
pub record IsFirst (count : ℕ → ℕ) (from end s : ℕ) : Type 0 where
  pub some : (count s == 0) ≡ false
  pub below : s < end
  pub passed : HasPassed count from s

pub zero_at : (k : ℕ) → (k == 0) ≡ true → k ≡ 0
zero_at k e = grind (arith, nat_tests)

-- none is passed where a place stays
pub stays_at : (count : ℕ → ℕ) (s : ℕ) → HasPassed count s s
stays_at count s = record { later = omega arith; none = λ q a b. absurd (omega (arith, a, b)) }

-- what is passed after one more that is 0
passed_more : (count : ℕ → ℕ) (s t : ℕ) → count s ≡ 0 → HasPassed count (suc s) t → HasPassed count s t
passed_more count s t zero_here p = record { later = (let l = p.later in omega arith); none = λ q a b. by q (nat_lt s q) refl a b }
  where
    by : (q : ℕ) (more : Bool) → nat_lt s q ≡ more → s ≤ q → q < t → count q ≡ 0
    by q true e a b = p.none q (ltb-true s q e) b
    by q false e a b = let here : q ≡ s = grind (arith, nat_tests) in ap count here ∙ zero_here

-- what is passed up to one place, and then up to another
pub passed_both : (count : ℕ → ℕ) (r s t : ℕ) → HasPassed count r s → HasPassed count s t → HasPassed count r t
passed_both count r s t p q = record { later = (let a = p.later in let b = q.later in omega arith); none = λ k a b. by k (nat_lt k s) refl a b }
  where
    by : (k : ℕ) (before : Bool) → nat_lt k s ≡ before → r ≤ k → k < t → count k ≡ 0
    by k true e a b = p.none k a (ltb-true k s e)
    by k false e a b = q.none k (grind (arith, nat_tests)) b

first_by : (count : ℕ → ℕ) (s n t : ℕ) (none : Bool) → (count s == 0) ≡ none → (first_from count (suc s) n ≡ Some t → IsFirst count (suc s) (suc s + n) t) → (if none then first_from count (suc s) n else Some s) ≡ Some t → IsFirst count s (s + suc n) t
first_by count s n t true is later e = let r = later e in record { some = r.some; below = (let b = r.below in omega arith); passed = passed_more count s t (zero_at (count s) is) r.passed }
first_by count s n t false is later e =
    let here : s ≡ t = cc in
    subst (IsFirst count s (s + suc n)) here (record { some = is; below = omega arith; passed = stays_at count s })

first_is : (count : ℕ → ℕ) (s n t : ℕ) → first_from count s n ≡ Some t → IsFirst count s (s + n) t
first_is count s zero t e = cc
first_is count s (suc n) t e = first_by count s n t (count s == 0) refl (first_is count (suc s) n t) e

-- the same where the end is given
pub first_below : (count : ℕ → ℕ) (s n t : ℕ) → first_from count s (n - s) ≡ Some t → IsFirst count s n t
first_below count s n t e =
    let r = first_is count s (n - s) t e in
    record { some = r.some; below = (let l = r.passed.later in let b = r.below in omega arith); passed = r.passed }

some_at : (k : ℕ) → k ≢ 0 → (k == 0) ≡ false
some_at k n = grind (arith, nat_tests)

-- the search is over where a count isn't 0
found_by : (count : ℕ → ℕ) (s k : ℕ) → count s ≢ 0 → k ≢ 0 → first_from count s k ≡ Some s
found_by count s zero some more = absurd (more refl)
found_by count s (suc k) some more = rw (some_at (count s) some) refl

-- and goes on where it is
next_by : (count : ℕ → ℕ) (s k : ℕ) → count s ≡ 0 → first_from count (suc s) (k - 1) ≡ first_from count s k
next_by count s zero none = refl
next_by count s (suc k) none = let less : suc k - 1 ≡ k = omega arith in rw (less, none) refl

pub search_goes_on : (count : ℕ → ℕ) (s n : ℕ) → count s ≡ 0 → first_from count (s + 1) (n - (s + 1)) ≡ first_from count s (n - s)
search_goes_on count s n none =
    let less : n - (s + 1) ≡ n - s - 1 = omega arith in
    let next : s + 1 ≡ suc s = omega arith in
    ap (first_from count (s + 1)) less ∙ ap (λ k. first_from count k (n - s - 1)) next ∙ next_by count s (n - s) none

pub search_ends : (count : ℕ → ℕ) (s n : ℕ) → s < n → count s ≢ 0 → first_from count s (n - s) ≡ Some s
search_ends count s n l some = found_by count s (n - s) some (omega arith)

-- the search from a place that was reached says what the search from the one before it says
skip_by : (count : ℕ → ℕ) (s k n : ℕ) → HasPassed count s (s + k) → first_from count (s + k) (n - (s + k)) ≡ first_from count s (n - s)
skip_by count s zero n p = let here : s + 0 ≡ s = omega arith in ap (λ j. first_from count j (n - j)) here
skip_by count s (suc k) n p =
    let here : s + suc k ≡ s + k + 1 = omega arith in
    let before : HasPassed count s (s + k) = record { later = omega arith; none = λ q a b. p.none q a (omega (arith, b)) } in
    ap (λ j. first_from count j (n - j)) here ∙ search_goes_on count (s + k) n (p.none (s + k) (omega arith) (omega arith)) ∙ skip_by count s k n before

pub skips : (count : ℕ → ℕ) (s t n : ℕ) → HasPassed count s t → first_from count t (n - t) ≡ first_from count s (n - s)
skips count s t n p =
    let at : s + (t - s) ≡ t = (let l = p.later in omega arith) in
    ap (λ j. first_from count j (n - j)) (sym at) ∙ skip_by count s (t - s) n (subst (HasPassed count s) (sym at) p)

none_by : (count : ℕ → ℕ) (s n : ℕ) (zero_here : Bool) → (count s == 0) ≡ zero_here → (first_from count (suc s) n ≡ None → HasPassed count (suc s) (suc s + n)) → (if zero_here then first_from count (suc s) n else Some s) ≡ None → HasPassed count s (s + suc n)
none_by count s n true is later e =
    let end : suc s + n ≡ s + suc n = omega arith in
    passed_more count s (s + suc n) (zero_at (count s) is) (subst (HasPassed count (suc s)) end (later e))
none_by count s n false is later e = cc

-- where the search finds none, all is passed
pub none_is : (count : ℕ → ℕ) (s n : ℕ) → first_from count s n ≡ None → HasPassed count s (s + n)
none_is count s zero e = let here : s ≡ s + 0 = omega arith in subst (HasPassed count s) here (stays_at count s)
none_is count s (suc n) e = none_by count s n (count s == 0) refl (none_is count (suc s) n) e

-- counts that are all passed have the sum 0
pub sum_passed : (count : ℕ → ℕ) (n : ℕ) → HasPassed count 0 n → sum_below count n ≡ 0
sum_passed count n p = sum_below-same (λ k. 0) count n (λ k l. p.none k (omega arith) l) ∙ sum_below-zero n

-- the same from the first number on
pub first_of : (count : ℕ → ℕ) (n t : ℕ) → first_from count 0 n ≡ Some t → IsFirst count 0 n t
first_of count n t e = let all : 0 + n ≡ n = omega arith in subst (λ m. IsFirst count 0 m t) all (first_is count 0 n t e)

pub skips_all : (count : ℕ → ℕ) (t n : ℕ) → HasPassed count 0 t → first_from count t (n - t) ≡ first_from count 0 n
skips_all count t n p = let all : n - 0 ≡ n = omega arith in skips count 0 t n p ∙ ap (first_from count 0) all
