-- The numbers of a queue's entries: those that are near each other have places of their own, and at each wrap the generation flips.
use Rattle.std.proofs.Common.{ℕ, ◌≡◌, ◌≢◌, ◌==◌, ◌+◌, ◌*◌, ◌^◌, ◌/◌, ◌%◌, ◌<◌, ◌≤◌, ◌-◌, if◌then◌else◌, sym, ◌∙◌, ap, arith, inl, inr, div-add-mod', pow_pos}
use Rattle.std.proofs.Math.Nat.{add-mod_right, add-div_right, mul-le-mul_right}
use Rattle.std.proofs.lemmas.Bool.{cases_lt}
use Rattle.std.proofs.lemmas.Bool.Decides.{nat_tests}
use Rattle.std.proofs.lemmas.Nat.{div-mul-add, mod-mul-add}
use Rattle.xv_model.specs.declared.operations.EndConfig.{EndConfig}
use Rattle.xv_model.specs.end.Memory.{entries, place, generation}
use Rattle.xv_model.specs.end.Reading.{top_bit}

-- a queue has entries
pub some_entries : (c : EndConfig) → 0 < entries c
some_entries c = pow_pos (c.qshift - 2)

-- two numbers of one remainder are a whole n apart, by their quotients
apart_by : (n a b r : ℕ) → a * n + r < b * n + r → b * n + r < a * n + r + n → 0 < 0
apart_by n a b r l m =
    elim (cases_lt a b) [
      | inl less ↦ let far : (a + 1) * n ≤ b * n = mul-le-mul_right n (omega arith) in omega arith
      | inr more ↦ let near : b * n ≤ a * n = mul-le-mul_right n more in omega arith
    ]

-- numbers that are less than n apart have different remainders
pub remainders_differ : (n i j : ℕ) → i < j → j < i + n → i % n ≢ j % n
remainders_differ n i j l m e =
    let first : i / n * n + i % n ≡ i = div-add-mod' i n in
    let second : j / n * n + j % n ≡ j = div-add-mod' j n in
    let none = apart_by n (i / n) (j / n) (i % n) (omega arith) (omega arith) in
    absurd (omega arith)

-- an address has one entry
same_index : (q a b : ℕ) → q + 4 * a ≡ q + 4 * b → a ≡ b
same_index q a b e = omega arith

-- numbers that are less than a queue apart have different places
pub places_differ : (c : EndConfig) (i j : ℕ) → i < j → j < i + entries c → place c i ≢ place c j
places_differ c i j l m e = remainders_differ (entries c) i j l m (same_index c.qaddr (i % entries c) (j % entries c) e)

-- one queue on, the place is the same
pub place-wraps : (c : EndConfig) (j : ℕ) → place c (j + entries c) ≡ place c j
place-wraps c j = ap (λ r. c.qaddr + 4 * r) (add-mod_right j (entries c))

-- the generation of the entries of one time through a queue
abbrev bit_of : ℕ → ℕ
bit_of time = if time % 2 == 0 then 1 else 0

-- the next time through has the other generation
bit_flips : (q : ℕ) → bit_of (q + 1) ≢ bit_of q
bit_flips q = grind (arith, nat_tests)

-- one queue on, the generation is the other
pub generation_flips : (c : EndConfig) (j : ℕ) → generation c (j + entries c) ≢ generation c j
generation_flips c j e = bit_flips (j / entries c) (sym (ap bit_of (add-div_right j (some_entries c))) ∙ e)

-- the top bit of a word is its generation, where the payload is below it
pub top_bit-word : (g payload : ℕ) → payload < 2 ^ 31 → top_bit (g * 2 ^ 31 + payload) ≡ g
top_bit-word g payload l = div-mul-add g (2 ^ 31) payload l

-- the rest of a word is its payload
pub rest-word : (g payload : ℕ) → payload < 2 ^ 31 → (g * 2 ^ 31 + payload) % 2 ^ 31 ≡ payload
rest-word g payload l = mod-mul-add g (2 ^ 31) payload l
