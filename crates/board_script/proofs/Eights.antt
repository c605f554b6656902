-- Bytes of a line that are passed eight by eight.
use Rattle.std.proofs.Common.{ℕ, zero, suc, ◌≡◌, true, if◌then◌else◌, List, [], ◌∷◌, refl, sym, ◌∙◌, ap}
use Rattle.std.specs.Prelude.{take, drop}
use Rattle.std.specs.List.{list_all}
use Rattle.std.proofs.lemmas.Bool.{and_parts}
use Rattle.board_script.specs.Words.{may_stand, from_unprintable}

-- behind bytes that may all stand in a line the first one that may not is the same
pub behind : (n : ℕ) (xs : List ℕ) → list_all may_stand (take n xs) ≡ true → from_unprintable (drop n xs) ≡ from_unprintable xs
behind zero xs e = refl
behind (suc n) [] e = refl
behind (suc n) (x ∷ xs) e =
    let both = and_parts (may_stand x) (list_all may_stand (take n xs)) e in
    behind n xs both.1 ∙ sym (ap (λ b. if b then from_unprintable xs else x ∷ xs) both.0)
