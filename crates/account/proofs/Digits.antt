-- Decimal numbers, two digits at a time, and hexadecimal numbers, from the first digit on.
use Rattle.std.proofs.Common.{ℕ, zero, suc, ◌≡◌, ◌+◌, ◌-◌, ◌*◌, ◌/◌, ◌%◌, ◌^◌, ◌<◌, ◌≤◌, Bool, true, false, ◌&&◌, T, eqb, List, [], ◌∷◌, ◌++◌, codes, length, get_or, refl, sym, ap, ◌∙◌, inl, inr, arith, eq-zero-or-pos, eqb→eq, append_assoc, length-append}
use Rattle.std.proofs.lemmas.Fmt.{decimal_digit, decimal_step, length-decimal-le, hex_one_digit}
use Rattle.std.specs.Fmt.{decimal, digits, digits_onto, digit_glyph}
use Rattle.std.proofs.lemmas.Bool.{cases_lt}
use Rattle.std.proofs.lemmas.Bool.Decides.{nat_tests}
use Rattle.std.proofs.lemmas.Nat.{leading_top, shr-shr, shr_below, shr_le, shl-shr}
use Rattle.std.proofs.Math.Pow.{pow_mono, shr_mono}
use Rattle.std.specs.Int.Count.{count_leading_zeros}
use lib.Ieee.Fits.{and_l, and_r}
use Rattle.account.specs.text.Numbers.{pair_text}
use Rattle.account.specs.declared.numbers.TheConstants.{PAIRS, GLYPHS}

-- two digits
abbrev pub two_digits : ℕ → List ℕ
two_digits p = (48 + p / 10) ∷ (48 + p % 10) ∷ []

-- the table holds the two digits of each number below n
abbrev are_pairs : ℕ → Bool
are_pairs zero = true
are_pairs (suc p) =
    (eqb (get_or PAIRS (p * 2) 0) (48 + p / 10) && eqb (get_or PAIRS (p * 2 + 1) 0) (48 + p % 10)) && are_pairs p

pairs_below : (n p : ℕ) → T (are_pairs n) → p < n → (get_or PAIRS (p * 2) 0 ≡ 48 + p / 10) × (get_or PAIRS (p * 2 + 1) 0 ≡ 48 + p % 10)
pairs_below zero p t h = absurd (omega arith)
pairs_below (suc n) p t h =
    elim (eq-zero-or-pos (n - p)) [
      | inl z ↦ let e : p ≡ n = omega arith in let a = and_l _ (are_pairs n) t in rw e (eqb→eq _ _ (and_l _ _ a), eqb→eq _ _ (and_r _ _ a))
      | inr g ↦ pairs_below n p (and_r _ (are_pairs n) t) (omega arith)
    ]

pub pairs_at : (p : ℕ) → p < 100 → (get_or PAIRS (p * 2) 0 ≡ 48 + p / 10) × (get_or PAIRS (p * 2 + 1) 0 ≡ 48 + p % 10)
pairs_at p h = pairs_below 100 p tt h

-- a number of two digits
pub decimal_two : (n : ℕ) → 10 ≤ n → n < 100 → decimal n ≡ two_digits n
decimal_two n lo hi = rw (decimal_step n lo (omega arith), decimal_digit (n / 10) (omega arith))

-- a number of three digits or more
pub decimal_pair : (n : ℕ) → 100 ≤ n → n < 2 ^ 64 → decimal n ≡ decimal (n / 100) ++ two_digits (n % 100)
decimal_pair n lo hi =
    let a : n / 10 / 10 ≡ n / 100 = omega arith in
    let b : n / 10 % 10 ≡ n % 100 / 10 = omega arith in
    let c : n % 10 ≡ n % 100 % 10 = omega arith in
    rw (decimal_step n (omega arith) hi, decimal_step (n / 10) (omega arith) (omega arith), append_assoc, a, b, ← c)

-- a number of five digits or more
pub decimal_four : (n : ℕ) → 10000 ≤ n → n < 2 ^ 64 → decimal n ≡ (decimal (n / 10000) ++ two_digits (n % 10000 / 100)) ++ two_digits (n % 10000 % 100)
decimal_four n lo hi =
    let a : n / 100 / 100 ≡ n / 10000 = omega arith in
    let b : n / 100 % 100 ≡ n % 10000 / 100 = omega arith in
    let c : n % 10000 % 100 ≡ n % 100 = omega arith in
    rw (decimal_pair n (omega arith) hi, decimal_pair (n / 100) (omega arith) (omega arith), a, b, c)

-- the lengths of these
pub length_digit : (n : ℕ) → n < 10 → length (decimal n) ≡ 1
length_digit n h = ap length (decimal_digit n h)

pub length_two : (n : ℕ) → 10 ≤ n → n < 100 → length (decimal n) ≡ 2
length_two n lo hi = ap length (decimal_two n lo hi)

pub length_pair : (n : ℕ) → 100 ≤ n → n < 2 ^ 64 → length (decimal n) ≡ length (decimal (n / 100)) + 2
length_pair n lo hi = ap length (decimal_pair n lo hi) ∙ length-append _ _

pub length_four : (n : ℕ) → 10000 ≤ n → n < 2 ^ 64 → length (decimal n) ≡ length (decimal (n / 10000)) + 4
length_four n lo hi =
    let two = length-append (decimal (n / 10000)) (two_digits (n % 10000 / 100)) in
    let four = length-append (decimal (n / 10000) ++ two_digits (n % 10000 / 100)) (two_digits (n % 10000 % 100)) in
    ap length (decimal_four n lo hi) ∙ omega (arith, two, four)

-- the table holds each hexadecimal digit
pub glyph_at : (v : ℕ) → v < 16 → get_or GLYPHS v 0 ≡ digit_glyph false v
glyph_at v h = glyphs_below 16 v tt h
  where
    are_glyphs : ℕ → Bool
    are_glyphs zero = true
    are_glyphs (suc p) = eqb (get_or GLYPHS p 0) (digit_glyph false p) && are_glyphs p

    glyphs_below : (n p : ℕ) → T (are_glyphs n) → p < n → get_or GLYPHS p 0 ≡ digit_glyph false p
    glyphs_below zero p t h = absurd (omega arith)
    glyphs_below (suc n) p t h =
        elim (eq-zero-or-pos (n - p)) [
          | inl z ↦ let e : p ≡ n = omega arith in rw e (eqb→eq _ _ (and_l _ (are_glyphs n) t))
          | inr g ↦ glyphs_below n p (and_r _ (are_glyphs n) t) (omega arith)
        ]

-- hexadecimal digits onto what stands behind them, by a limit of digits
abbrev spell : ℕ → ℕ → List ℕ → List ℕ
spell k n acc = digits_onto k 16 false n acc

abbrev last_glyph : ℕ → ℕ
last_glyph n = digit_glyph false (n % 16)

spell_last : (k n : ℕ) (acc : List ℕ) → n < 16 → spell (suc k) n acc ≡ last_glyph n ∷ acc
spell_last k n acc h = grind (arith, nat_tests)

spell_next : (k n : ℕ) (acc : List ℕ) → 16 ≤ n → spell (suc k) n acc ≡ spell k (n / 16) (last_glyph n ∷ acc)
spell_next k n acc h = grind (arith, nat_tests)

spell-append : (k n : ℕ) (acc : List ℕ) → spell k n acc ≡ spell k n [] ++ acc
spell-append zero n acc = refl
spell-append (suc k) n acc = elim (cases_lt n 16) [
  | inl l ↦ spell_last k n acc l ∙ ap (λ x. x ++ acc) (sym (spell_last k n [] l))
  | inr l ↦ spell_next k n acc l ∙ spell-append k (n / 16) (last_glyph n ∷ acc) ∙ sym (append_assoc (spell k (n / 16) []) (last_glyph n ∷ []) acc)
      ∙ ap (λ x. x ++ acc) (sym (spell_next k n [] l ∙ spell-append k (n / 16) (last_glyph n ∷ [])))
]

-- the limit doesn't matter once it is large enough
spell_enough : (j k n : ℕ) (acc : List ℕ) → n < 16 ^ suc j → n < 16 ^ suc k → spell (suc j) n acc ≡ spell (suc k) n acc
spell_enough zero k n acc p q = spell_last zero n acc (omega arith) ∙ sym (spell_last k n acc (omega arith))
spell_enough (suc j) zero n acc p q = spell_last (suc j) n acc (omega arith) ∙ sym (spell_last zero n acc (omega arith))
spell_enough (suc j) (suc k) n acc p q = elim (cases_lt n 16) [
  | inl l ↦ spell_last (suc j) n acc l ∙ sym (spell_last (suc k) n acc l)
  | inr l ↦ spell_next (suc j) n acc l ∙ spell_enough j k (n / 16) (last_glyph n ∷ acc) (omega arith) (omega arith) ∙ sym (spell_next (suc k) n acc l)
]

-- the last hexadecimal digit stands behind the others
pub hex_step : (n : ℕ) → 16 ≤ n → n < 2 ^ 64 → digits 16 false n ≡ digits 16 false (n / 16) ++ digit_glyph false (n % 16) ∷ []
unfolding digits
hex_step n h small =
    spell_next 63 n [] h ∙ spell_enough 62 63 (n / 16) (last_glyph n ∷ []) (omega arith) (omega arith)
    ∙ spell-append 64 (n / 16) (last_glyph n ∷ [])

-- one more place of a number: what stands to the left of it, and its digit
pub place_more : (n k : ℕ) → n / 2 ^ (4 * k) / 16 ≡ n / 2 ^ (4 * (k + 1))
place_more n k = shr-shr n (4 * k) 4 ∙ ap (λ j. n / 2 ^ j) (omega arith)

-- the places behind the first digit of a number that has more than one
pub first_place : (n zeros : ℕ) → 16 ≤ n → n < 2 ^ 64 → zeros ≡ count_leading_zeros 64 n →
    (n / 2 ^ (4 * ((63 - zeros) / 4)) < 16) × (1 ≤ n / 2 ^ (4 * ((63 - zeros) / 4)))
first_place n zeros more small e =
    let (j, at, low, high) = leading_top 64 n (omega arith) small in
    let q : ℕ = (63 - zeros) / 4 in
    let begins : 4 * q ≤ j = omega (arith, at, e) in
    let ends : suc j ≤ 4 + 4 * q = omega (arith, at, e) in
    let one : 1 * 2 ^ (4 * q) / 2 ^ (4 * q) ≡ 1 = shl-shr 1 (4 * q) in
    let from : 1 * 2 ^ (4 * q) ≤ n = omega (arith, pow_mono begins, low) in
    let to : n < 2 ^ (4 + 4 * q) = omega (arith, pow_mono ends, high) in
    (shr_below n 4 (4 * q) to, omega (arith, one, shr_mono (4 * q) from))

-- before the loop the text ends with the first digit
pub hex_first : (m d : ℕ) (old now new : List ℕ) → m < 16 → d ≡ digit_glyph false m → now ≡ old ++ codes "0x" → new ≡ now ++ d ∷ [] →
    new ≡ old ++ (codes "0x" ++ digits 16 false m)
hex_first m d old now new few glyph prefix last =
    last ∙ (λ i. prefix i ++ glyph i ∷ []) ∙ append_assoc old (codes "0x") (digit_glyph false m ∷ [])
    ∙ ap (λ t. old ++ (codes "0x" ++ t)) (sym (hex_one_digit false m few))

-- and then with one digit more each time
pub hex_more : (n b d : ℕ) (old now new : List ℕ) → n < 2 ^ 64 → 0 < b → 1 ≤ n / 2 ^ (4 * b) → d ≡ digit_glyph false (n / 2 ^ (4 * (b - 1)) % 16) →
    now ≡ old ++ (codes "0x" ++ digits 16 false (n / 2 ^ (4 * b))) → new ≡ now ++ d ∷ [] →
    (new ≡ old ++ (codes "0x" ++ digits 16 false (n / 2 ^ (4 * (b - 1))))) × (1 ≤ n / 2 ^ (4 * (b - 1)))
hex_more n b d old now new small some left glyph before last =
    let m : ℕ = n / 2 ^ (4 * (b - 1)) in
    let front : m / 16 ≡ n / 2 ^ (4 * b) = place_more n (b - 1) ∙ ap (λ k. n / 2 ^ (4 * k)) (omega arith) in
    let many : 16 ≤ m = omega (arith, front, left) in
    let fits : m < 2 ^ 64 = omega (arith, shr_le n (4 * (b - 1)), small) in
    let step : digits 16 false m ≡ digits 16 false (n / 2 ^ (4 * b)) ++ digit_glyph false (m % 16) ∷ [] =
    hex_step m many fits ∙ ap (λ k. digits 16 false k ++ digit_glyph false (m % 16) ∷ []) front in
    let whole : new ≡ old ++ (codes "0x" ++ digits 16 false m) =
    last ∙ (λ i. before i ++ glyph i ∷ [])
    ∙ append_assoc old (codes "0x" ++ digits 16 false (n / 2 ^ (4 * b))) (digit_glyph false (m % 16) ∷ [])
    ∙ ap (λ t. old ++ t) (append_assoc (codes "0x") (digits 16 false (n / 2 ^ (4 * b))) (digit_glyph false (m % 16) ∷ []))
    ∙ ap (λ t. old ++ (codes "0x" ++ t)) (sym step) in
    (whole, omega (arith, many))

-- at the end no digit is left
pub hex_all : (n b : ℕ) (old now : List ℕ) → b ≡ 0 → now ≡ old ++ (codes "0x" ++ digits 16 false (n / 2 ^ (4 * b))) → now ≡ old ++ (codes "0x" ++ digits 16 false n)
hex_all n b old now none before =
    let whole : n / 2 ^ (4 * b) ≡ n = ap (λ k. n / 2 ^ (4 * k)) none ∙ omega arith in
    before ∙ ap (λ k. old ++ (codes "0x" ++ digits 16 false k)) whole

-- a number of 64 bits has at most 20 digits, and one of 32 bits at most 10
pub length_64 : (n : ℕ) → n < 2 ^ 64 → length (decimal n) ≤ 20
length_64 n small = length-decimal-le 20 n (omega arith) (omega arith) small

pub length_32 : (n : ℕ) → n < 2 ^ 32 → length (decimal n) ≤ 10
length_32 n small = length-decimal-le 10 n (omega arith) (omega arith) (omega arith)

-- the two digits of a pair
pair_digits : (q : ℕ) → q < 4 → pair_text q ≡ (48 + q / 2) ∷ (48 + q % 2) ∷ []
pair_digits zero few = refl
pair_digits (suc zero) few = refl
pair_digits (suc (suc zero)) few = refl
pair_digits (suc (suc (suc zero))) few = refl
pair_digits (suc (suc (suc (suc q)))) few = absurd (omega arith)

pub pair_more : (q : ℕ) (old one two : List ℕ) → q < 4 → one ≡ old ++ (48 + q / 2) ∷ [] → two ≡ one ++ (48 + q % 2) ∷ [] → two ≡ old ++ pair_text q
pair_more q old one two few first second =
    second ∙ ap (λ v. v ++ (48 + q % 2) ∷ []) first ∙ append_assoc old ((48 + q / 2) ∷ []) ((48 + q % 2) ∷ [])
    ∙ ap (λ v. old ++ v) (sym (pair_digits q few))
