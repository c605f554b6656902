-- Packing a word loses nothing: what the model of a source's word owes.
use Rattle.std.proofs.Common.{ℕ, ◌≡◌, ◌+◌, ◌*◌, ◌/◌, ◌%◌, ◌^◌, ◌==◌, if◌then◌else◌, arith, ◌∙◌, ap}
use Rattle.std.proofs.lemmas.Bool.Decides.{nat_tests}
use Rattle.esb_pq.specs.Word.{packed, unpacked}

-- the flag's share of a packed word
flag_of : (n : ℕ) → (if n % 2 == 1 then 2 ^ 61 else 0) ≡ (n % 2) * 2 ^ 61
flag_of n = grind (arith, nat_tests)

-- a number is its three parts
three : (n : ℕ) → (n / 2 ^ 62) * 2 ^ 62 + (n / 2 ^ 61 % 2) * 2 ^ 61 + n % 2 ^ 61 ≡ n
three n = omega arith

pub packed-unpacked : (n : ℕ) → packed (unpacked n) ≡ n
packed-unpacked n = ap (λ f. (n / 2 ^ 62) * 2 ^ 62 + f + n % 2 ^ 61) (flag_of (n / 2 ^ 61)) ∙ three n
