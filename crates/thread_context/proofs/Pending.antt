-- Pending priorities: the least one, and what setting and clearing bits makes of them.
use Rattle.std.proofs.Common.{ℕ, zero, suc, ◌≡◌, ◌<◌, ◌≤◌, ◌+◌, ◌-◌, ◌/◌, ◌^◌, ◌==◌, ◌&&◌, ◌||◌, not, max, min, Bool, true, false, true≢false, if◌then◌else◌, refl, sym, ◌∙◌, ap, subst, inl, inr, arith, eq-eqb, bit_or}
use Rattle.std.specs.Prelude.{◌⊎◌, ◌↔◌}
use Rattle.std.specs.Int.{bit_at, bit_not, w8}
use Rattle.std.specs.Int.Count.{count_leading_zeros}
use Rattle.std.proofs.Math.Nat.{pow-suc}
use Rattle.std.proofs.lemmas.Bool.{cases_eq, cases_order, ne_eqb}
use Rattle.std.proofs.lemmas.Bool.Decides.{nat_tests}
use Rattle.std.proofs.lemmas.Nat.{leading_top, le-div, div_below, pow_below, pow_pos}
use Rattle.std.proofs.lemmas.Nat.Bits.{bit_at_and, bit_at_or, bit_at_not, bit_at_above, bit_at-zero, bit_at-lt, bit_at-pow_same, bit_at-pow_other, same_from_bits_below}
use Rattle.xv_model.specs.processor.Priorities.{has_priority, priority_bit}
use Rattle.thread_context.specs.Priorities.{first_of, least_pending, IsLeast, NonePending, with_pending, without_pending}

-- r is the first of the priorities from p on, below an end, that is pending
record IsFirst (is : ℕ → Bool) (p end r : ℕ) : Type 0 where
  from : p ≤ r
  below : r < end
  pending : is r ≡ true
  none : (q : ℕ) → p ≤ q → q < r → is q ≡ false

-- none of them is
record IsNone (is : ℕ → Bool) (p end r : ℕ) : Type 0 where
  value : r ≡ 0xff
  none : (q : ℕ) → p ≤ q → q < end → is q ≡ false

abbrev First : (ℕ → Bool) → ℕ → ℕ → ℕ → Type 0
First is p end r = IsFirst is p end r ⊎ IsNone is p end r

-- one place earlier, where that isn't pending
beyond : (is : ℕ → Bool) (p end : ℕ) → is p ≡ false → ((q : ℕ) → suc p ≤ q → q < end → is q ≡ false) → (q : ℕ) → p ≤ q → q < end → is q ≡ false
beyond is p end e none q a b = elim (cases_eq q p) [
  | inl same ↦ subst (λ q. is q ≡ false) (sym same) e
  | inr other ↦ none q (omega arith) b
]

later : (is : ℕ → Bool) (p left r : ℕ) → is p ≡ false → First is (suc p) (suc p + left) r → First is p (p + suc left) r
later is p left r e (inl f) = inl (record { from = omega arith; below = omega arith; pending = f.pending; none = beyond is p r e f.none })
later is p left r e (inr n) = inr (record { value = n.value; none = λ q a b. beyond is p (suc p + left) e n.none q a (omega arith) })

here : (is : ℕ → Bool) (p left : ℕ) → is p ≡ true → First is p (p + suc left) p
here is p left e = inl (record { from = omega arith; below = omega arith; pending = e; none = λ q a b. absurd (omega arith) })

one_more : (is : ℕ → Bool) (p left r : ℕ) (t : Bool) → is p ≡ t → First is (suc p) (suc p + left) r → First is p (p + suc left) (if t then p else r)
one_more is p left r true e f = here is p left e
one_more is p left r false e f = later is p left r e f

tells : (left : ℕ) (is : ℕ → Bool) (p : ℕ) → First is p (p + left) (first_of left is p)
tells zero is p = inr (record { value = refl; none = λ q a b. absurd (omega arith) })
tells (suc left) is p = one_more is p left (first_of left is (suc p)) (is p) refl (tells left is (suc p))

least_tells : (ipb : ℕ) → First (has_priority ipb) 0 8 (least_pending ipb)
unfolding least_pending
least_tells ipb = tells 8 (has_priority ipb) 0

-- PIPR is a priority, or 0xff
pub least_range : (ipb : ℕ) → (least_pending ipb < 8) ⊎ (least_pending ipb ≡ 0xff)
least_range ipb = elim (least_tells ipb) [
  | inl f ↦ inl f.below
  | inr n ↦ inr n.value
]

both : (b : Bool) → b ≡ true → b ≡ false → ⊥
both b t f = true≢false (sym t ∙ f)

-- it is p exactly where p is the least that is pending
pub least_exactly : (ipb p : ℕ) → p < 8 → (least_pending ipb ≡ p) ↔ IsLeast ipb p
least_exactly ipb p l = (there (least_tells ipb), back (least_tells ipb))
  where
    there : First (has_priority ipb) 0 8 (least_pending ipb) → least_pending ipb ≡ p → IsLeast ipb p
    there (inl f) e = subst (IsLeast ipb) e (record { pending = f.pending; none_less = λ q b. f.none q (omega arith) b })
    there (inr n) e = absurd (omega arith)

    back : First (has_priority ipb) 0 8 (least_pending ipb) → IsLeast ipb p → least_pending ipb ≡ p
    back (inl f) is = elim (cases_order (least_pending ipb) p) [
      | inl same ↦ same
      | inr (inl less) ↦ absurd (both (has_priority ipb (least_pending ipb)) f.pending (is.none_less (least_pending ipb) less))
      | inr (inr more) ↦ absurd (both (has_priority ipb p) is.pending (f.none p (omega arith) more))
    ]
    back (inr n) is = absurd (both (has_priority ipb p) is.pending (n.none p (omega arith) l))

-- it is 0xff exactly where none is
pub none_exactly : (ipb : ℕ) → (least_pending ipb ≡ 0xff) ↔ NonePending ipb
none_exactly ipb = (there (least_tells ipb), back (least_tells ipb))
  where
    there : First (has_priority ipb) 0 8 (least_pending ipb) → least_pending ipb ≡ 0xff → NonePending ipb
    there (inl f) e = absurd (omega arith)
    there (inr n) e = λ p l. n.none p (omega arith) l

    back : First (has_priority ipb) 0 8 (least_pending ipb) → NonePending ipb → least_pending ipb ≡ 0xff
    back (inl f) is = absurd (both (has_priority ipb (least_pending ipb)) f.pending (is (least_pending ipb) f.below))
    back (inr n) is = n.value

-- no priority is pending in a byte that is 0
pub least_of_zero : least_pending 0 ≡ 0xff
least_of_zero = (none_exactly 0).1 (λ p l. ap (λ b. b == 1) (bit_at-zero (7 - p)))

-- in another the least one is as many as its leading zeros
pub least_leading : (ipb : ℕ) → 0 < ipb → ipb < 2 ^ 8 → least_pending ipb ≡ count_leading_zeros 8 ipb
least_leading ipb some byte = found (leading_top 8 ipb some byte)
  where
    found : (j : ℕ) × (count_leading_zeros 8 ipb + suc j ≡ 8) × (2 ^ j ≤ ipb) × (ipb < 2 ^ suc j) → least_pending ipb ≡ count_leading_zeros 8 ipb
    found (j, e, low, high) = (least_exactly ipb (count_leading_zeros 8 ipb) (omega arith)).1 (record {
      pending = ap (λ i. bit_at ipb i == 1) at ∙ ap (λ b. b == 1) top;
      none_less = λ q l. ap (λ b. b == 1) (bit_at_above ipb (suc j) (7 - q) high (omega arith));
    })
      where
        at : 7 - count_leading_zeros 8 ipb ≡ j
        at = omega arith

        top : bit_at ipb j ≡ 1
        top =
            let one : 1 ≤ ipb / 2 ^ j = le-div 1 ipb (2 ^ j) (pow_pos j) (omega arith) in
            let two : ipb / 2 ^ j < 2 = div_below ipb (2 ^ j) 2 (pow_pos j) (omega (arith, pow-suc 2 j)) in
            omega arith

-- ---- what becomes of each priority
max_one : (m n : ℕ) → m < 2 → n < 2 → (max m n == 1) ≡ ((m == 1) || (n == 1))
max_one zero zero a b = refl
max_one zero (suc zero) a b = refl
max_one zero (suc (suc n)) a b = absurd (omega (arith, b))
max_one (suc zero) zero a b = refl
max_one (suc zero) (suc zero) a b = refl
max_one (suc zero) (suc (suc n)) a b = absurd (omega (arith, b))
max_one (suc (suc m)) n a b = absurd (omega (arith, a))

min_one : (m n : ℕ) → m < 2 → n < 2 → (min m (1 - n) == 1) ≡ ((m == 1) && not (n == 1))
min_one zero zero a b = refl
min_one zero (suc zero) a b = refl
min_one zero (suc (suc n)) a b = absurd (omega (arith, b))
min_one (suc zero) zero a b = refl
min_one (suc zero) (suc zero) a b = refl
min_one (suc zero) (suc (suc n)) a b = absurd (omega (arith, b))
min_one (suc (suc m)) n a b = absurd (omega (arith, a))

same_one : (m n : ℕ) → m < 2 → n < 2 → (m == 1) ≡ (n == 1) → m ≡ n
same_one m n a b e = grind (arith, nat_tests)

-- the bit of a priority is that of no other
bit_is : (p q : ℕ) → p < 8 → q < 8 → has_priority (priority_bit p) q ≡ (q == p)
bit_is p q a b = elim (cases_eq q p) [
  | inl same ↦ ap (λ i. bit_at (priority_bit p) (7 - i) == 1) same ∙ ap (λ n. n == 1) (bit_at-pow_same (7 - p)) ∙ sym (eq-eqb q p same)
  | inr other ↦ ap (λ n. n == 1) (bit_at-pow_other (7 - p) (7 - q) (λ e. other (omega arith))) ∙ sym (ne_eqb q p other)
]

-- in two bytes together
pub either : (m n q : ℕ) → has_priority (bit_or m n) q ≡ (has_priority m q || has_priority n q)
either m n q = ap (λ b. b == 1) (bit_at_or m n (7 - q)) ∙ max_one (bit_at m (7 - q)) (bit_at n (7 - q)) (bit_at-lt m (7 - q)) (bit_at-lt n (7 - q))

-- with one more
pub with_one : (ipb p q : ℕ) → p < 8 → q < 8 → has_priority (with_pending ipb p) q ≡ (has_priority ipb q || (q == p))
with_one ipb p q a b = either ipb (priority_bit p) q ∙ ap (λ t. has_priority ipb q || t) (bit_is p q a b)

-- without one
pub without_one : (ipb p q : ℕ) → p < 8 → q < 8 → has_priority (without_pending ipb p) q ≡ (has_priority ipb q && not (q == p))
without_one ipb p q a b =
    ap (λ b. b == 1) (bit_at_and ipb (bit_not w8 (priority_bit p)) (7 - q) ∙ ap (min (bit_at ipb (7 - q))) (bit_at_not w8 (priority_bit p) (7 - q) (pow_below (7 - p) 8 (omega arith)) (omega arith)))
    ∙ min_one (bit_at ipb (7 - q)) (bit_at (priority_bit p) (7 - q)) (bit_at-lt ipb (7 - q)) (bit_at-lt (priority_bit p) (7 - q))
    ∙ ap (λ t. has_priority ipb q && not t) (bit_is p q a b)

-- two bytes in which the same priorities are pending are one
pub same_pending : (m n : ℕ) → m < 2 ^ 8 → n < 2 ^ 8 → ((q : ℕ) → q < 8 → has_priority m q ≡ has_priority n q) → m ≡ n
same_pending m n a b same = same_from_bits_below 8 m n a b (λ i l. same_one (bit_at m i) (bit_at n i) (bit_at-lt m i) (bit_at-lt n i) (at i l))
  where
    at : (i : ℕ) → i < 8 → (bit_at m i == 1) ≡ (bit_at n i == 1)
    at i l = subst (λ k. (bit_at m k == 1) ≡ (bit_at n k == 1)) (turned i l) (same (7 - i) (omega arith))
      where
        turned : (i : ℕ) → i < 8 → 7 - (7 - i) ≡ i
        turned i l = omega arith
