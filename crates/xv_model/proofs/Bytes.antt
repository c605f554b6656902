-- Bytes of priorities: which bits they have, and the least priority that a test picks.
use Rattle.std.proofs.Common.{ℕ, zero, suc, ◌≡◌, ◌==◌, ◌<◌, ◌≤◌, ◌+◌, ◌-◌, ◌*◌, ◌/◌, ◌%◌, ◌^◌, Bool, true, false, if◌then◌else◌, refl, sym, ◌∙◌, ap, subst, arith, inl, inr}
use Rattle.std.specs.Prelude.{◌⊎◌}
use Rattle.std.specs.Int.{bit_at}
use Rattle.std.proofs.lemmas.Bool.{cases_eq, cases_order, both_ways, eq-eqb, ne_eqb}
use Rattle.std.proofs.lemmas.Bool.Decides.{nat_tests}
use Rattle.std.proofs.lemmas.Nat.{div-mul-add}
use Rattle.std.proofs.lemmas.Nat.Bits.{bit_at-lt, same_from_bits_below}
use Rattle.xv_model.specs.processor.Priorities.{priorities, no_priority, priority_bit, has_priority, byte_below, byte_of, least_below, least_of}

-- Which bits.

-- a bit as a number
abbrev bit : Bool → ℕ
bit true = 1
bit false = 0

bit_small : (b : Bool) → bit b ≤ 1
bit_small true = omega arith
bit_small false = omega arith

weighs : (b : Bool) (w : ℕ) → (if b then w else 0) ≡ w * bit b
weighs true w = omega arith
weighs false w = omega arith

is_bit : (b : Bool) → (bit b == 1) ≡ b
is_bit true = refl
is_bit false = refl

-- a byte of priorities by its bits
digits : (f : ℕ → Bool) → byte_of f ≡ 128 * bit (f 0) + 64 * bit (f 1) + 32 * bit (f 2) + 16 * bit (f 3) + 8 * bit (f 4) + 4 * bit (f 5) + 2 * bit (f 6) + bit (f 7)
digits f =
    let a = weighs (f 0) 128 in
    let b = weighs (f 1) 64 in
    let c = weighs (f 2) 32 in
    let d = weighs (f 3) 16 in
    let e = weighs (f 4) 8 in
    let g = weighs (f 5) 4 in
    let h = weighs (f 6) 2 in
    let k = weighs (f 7) 1 in
    omega arith

-- a bit of a number, by what is above and below it
bit_between : (n w high low : ℕ) (b : Bool) → n ≡ (2 * high + bit b) * w + low → low < w → (n / w % 2 == 1) ≡ b
bit_between n w high low b e l =
    let small = bit_small b in
    let above : n / w ≡ 2 * high + bit b = ap (λ n. n / w) e ∙ div-mul-add (2 * high + bit b) w low l in
    let own : n / w % 2 ≡ bit b = ap (λ n. n % 2) above ∙ omega arith in
    ap (λ n. n == 1) own ∙ is_bit b

-- a byte of priorities has those that the test picks
pub has_byte_of : (f : ℕ → Bool) (p : ℕ) → p < priorities → has_priority (byte_of f) p ≡ f p
has_byte_of f p l = at p l
  where
    n : ℕ
    n = byte_of f

    b : ℕ → ℕ
    b q = bit (f q)

    s : (q : ℕ) → b q ≤ 1
    s q = bit_small (f q)

    d : n ≡ 128 * b 0 + 64 * b 1 + 32 * b 2 + 16 * b 3 + 8 * b 4 + 4 * b 5 + 2 * b 6 + b 7
    d = digits f

    at : (p : ℕ) → p < 8 → has_priority (byte_of f) p ≡ f p
    at zero l = bit_between n 128 (0) (64 * b 1 + 32 * b 2 + 16 * b 3 + 8 * b 4 + 4 * b 5 + 2 * b 6 + 1 * b 7) (f 0) (omega (arith, d)) (omega (arith, s 1, s 2, s 3, s 4, s 5, s 6, s 7))
    at (suc zero) l = bit_between n 64 (1 * b 0) (32 * b 2 + 16 * b 3 + 8 * b 4 + 4 * b 5 + 2 * b 6 + 1 * b 7) (f 1) (omega (arith, d)) (omega (arith, s 2, s 3, s 4, s 5, s 6, s 7))
    at (suc (suc zero)) l = bit_between n 32 (2 * b 0 + 1 * b 1) (16 * b 3 + 8 * b 4 + 4 * b 5 + 2 * b 6 + 1 * b 7) (f 2) (omega (arith, d)) (omega (arith, s 3, s 4, s 5, s 6, s 7))
    at (suc (suc (suc zero))) l = bit_between n 16 (4 * b 0 + 2 * b 1 + 1 * b 2) (8 * b 4 + 4 * b 5 + 2 * b 6 + 1 * b 7) (f 3) (omega (arith, d)) (omega (arith, s 4, s 5, s 6, s 7))
    at (suc (suc (suc (suc zero)))) l = bit_between n 8 (8 * b 0 + 4 * b 1 + 2 * b 2 + 1 * b 3) (4 * b 5 + 2 * b 6 + 1 * b 7) (f 4) (omega (arith, d)) (omega (arith, s 5, s 6, s 7))
    at (suc (suc (suc (suc (suc zero))))) l = bit_between n 4 (16 * b 0 + 8 * b 1 + 4 * b 2 + 2 * b 3 + 1 * b 4) (2 * b 6 + 1 * b 7) (f 5) (omega (arith, d)) (omega (arith, s 6, s 7))
    at (suc (suc (suc (suc (suc (suc zero)))))) l = bit_between n 2 (32 * b 0 + 16 * b 1 + 8 * b 2 + 4 * b 3 + 2 * b 4 + 1 * b 5) (1 * b 7) (f 6) (omega (arith, d)) (omega (arith, s 7))
    at (suc (suc (suc (suc (suc (suc (suc zero))))))) l = bit_between n 1 (64 * b 0 + 32 * b 1 + 16 * b 2 + 8 * b 3 + 4 * b 4 + 2 * b 5 + 1 * b 6) (0) (f 7) (omega (arith, d)) (omega (arith))
    at (suc (suc (suc (suc (suc (suc (suc (suc p)))))))) l = absurd (omega (arith, l))

-- it is a byte
pub byte_of_below : (f : ℕ → Bool) → byte_of f < 2 ^ 8
byte_of_below f =
    omega (arith, digits f, bit_small (f 0), bit_small (f 1), bit_small (f 2), bit_small (f 3), bit_small (f 4), bit_small (f 5), bit_small (f 6), bit_small (f 7))

-- bytes that have the same priorities are one
pub same_priorities : (m n : ℕ) → m < 2 ^ 8 → n < 2 ^ 8 → ((p : ℕ) → p < priorities → has_priority m p ≡ has_priority n p) → m ≡ n
same_priorities m n a b same = same_from_bits_below 8 m n a b (λ i l. one_bit (bit_at m i) (bit_at n i) (bit_at-lt m i) (bit_at-lt n i) (at i l))
  where
    one_bit : (m n : ℕ) → m < 2 → n < 2 → (m == 1) ≡ (n == 1) → m ≡ n
    one_bit m n a b e = grind (arith, nat_tests)

    turned : (i : ℕ) → i < 8 → 7 - (7 - i) ≡ i
    turned i l = omega arith

    at : (i : ℕ) → i < 8 → (bit_at m i == 1) ≡ (bit_at n i == 1)
    at i l = subst (λ k. (bit_at m k == 1) ≡ (bit_at n k == 1)) (turned i l) (same (7 - i) (omega arith))

-- the byte of the priorities that a byte has is that byte
pub byte_of_has : (n : ℕ) → n < 2 ^ 8 → byte_of (has_priority n) ≡ n
byte_of_has n l = same_priorities (byte_of (has_priority n)) n (byte_of_below (has_priority n)) l (has_byte_of (has_priority n))

-- Tests that agree on the priorities.

byte_below-agrees : (f g : ℕ → Bool) (n : ℕ) → ((p : ℕ) → p < n → f p ≡ g p) → byte_below f n ≡ byte_below g n
byte_below-agrees f g zero same = refl
byte_below-agrees f g (suc n) same =
    let fewer = byte_below-agrees f g n (λ p l. same p (omega arith)) in
    λ i. fewer i + (if same n (omega arith) i then priority_bit n else 0)

-- tests that agree on the priorities have one byte
pub byte_of-agrees : (f g : ℕ → Bool) → ((p : ℕ) → p < priorities → f p ≡ g p) → byte_of f ≡ byte_of g
byte_of-agrees f g same = byte_below-agrees f g priorities same

-- the least of those below n, with one more
abbrev or_next : ℕ → Bool → ℕ → ℕ
or_next least next n = if least == no_priority then (if next then n else no_priority) else least

least_below-agrees : (f g : ℕ → Bool) (n : ℕ) → ((p : ℕ) → p < n → f p ≡ g p) → least_below f n ≡ least_below g n
least_below-agrees f g zero same = refl
least_below-agrees f g (suc n) same =
    let fewer = least_below-agrees f g n (λ p l. same p (omega arith)) in
    λ i. or_next (fewer i) (same n (omega arith) i) n

-- and one least priority
pub least_of-agrees : (f g : ℕ → Bool) → ((p : ℕ) → p < priorities → f p ≡ g p) → least_of f ≡ least_of g
least_of-agrees f g same = least_below-agrees f g priorities same

-- The least priority.

-- r is the least below n that a test picks
pub record IsLeast (f : ℕ → Bool) (n r : ℕ) : Type 0 where
  pub below : r < n
  pub picked : f r ≡ true
  pub none_less : (q : ℕ) → q < r → f q ≡ false

-- a test picks none below n, and r says so
pub record IsNone (f : ℕ → Bool) (n r : ℕ) : Type 0 where
  pub none : r ≡ no_priority
  pub picks_none : (q : ℕ) → q < n → f q ≡ false

-- one more that isn't picked
none_more : (f : ℕ → Bool) (n : ℕ) → ((q : ℕ) → q < n → f q ≡ false) → f n ≡ false → (q : ℕ) → q < suc n → f q ≡ false
none_more f n none e q l = elim (cases_eq q n) [
  | inl same ↦ subst (λ q. f q ≡ false) (sym same) e
  | inr other ↦ none q (omega arith)
]

least_more : (f : ℕ → Bool) (n r : ℕ) (next : Bool) → n < no_priority → f n ≡ next → IsLeast f n r ⊎ IsNone f n r → IsLeast f (suc n) (or_next r next n) ⊎ IsNone f (suc n) (or_next r next n)
least_more f n r next w e (inl l) = rw (ne_eqb r no_priority (λ same. omega (arith, l.below))) (inl (record { below = omega (arith, l.below); picked = l.picked; none_less = l.none_less }))
least_more f n r true w e (inr s) = rw (eq-eqb r no_priority s.none) (inl (record { below = omega arith; picked = e; none_less = s.picks_none }))
least_more f n r false w e (inr s) = rw (eq-eqb r no_priority s.none) (inr (record { none = refl; picks_none = none_more f n s.picks_none e }))

least_below-tells : (f : ℕ → Bool) (n : ℕ) → n ≤ no_priority → IsLeast f n (least_below f n) ⊎ IsNone f n (least_below f n)
least_below-tells f zero w = inr (record { none = refl; picks_none = λ q l. absurd (omega arith) })
least_below-tells f (suc n) w = least_more f n (least_below f n) (f n) (omega arith) refl (least_below-tells f n (omega arith))

-- either there is a least priority, or none is picked
pub least_of-tells : (f : ℕ → Bool) → IsLeast f priorities (least_of f) ⊎ IsNone f priorities (least_of f)
least_of-tells f = least_below-tells f priorities (omega arith)

-- the least priority is the one that is picked where none less is
pub least_of-is : (f : ℕ → Bool) (p : ℕ) → IsLeast f priorities p → least_of f ≡ p
least_of-is f p is = by (least_of f) (least_of-tells f)
  where
    by : (r : ℕ) → IsLeast f priorities r ⊎ IsNone f priorities r → r ≡ p
    by r (inl l) = elim (cases_order r p) [
      | inl same ↦ same
      | inr (inl less) ↦ absurd (both_ways (f r) (is.none_less r less) l.picked)
      | inr (inr more) ↦ absurd (both_ways (f p) (l.none_less p more) is.picked)
    ]
    by r (inr s) = absurd (both_ways (f p) (s.picks_none p is.below) is.picked)
