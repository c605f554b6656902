-- Lemmas for the words of the command line.
use Rattle.std.proofs.Common.{ℕ, ◌≡◌, ◌<◌, ◌+◌, List, [], ◌∷◌, ◌++◌, length, map, take, get_or, sym, ◌∙◌, ap, subst}
use Rattle.std.proofs.lemmas.List.{get_or-map, length-map}
use Rattle.std.proofs.lemmas.Grind.{take_at_read}

-- what is made of one more item stands behind what is made of those before it
mapped_one_more : {X Y : Type 0} (f : X → Y) (xs : List X) (k : ℕ) (x : X) → k < length xs → x ≡ get_or xs k x → take k (map f xs) ++ f x ∷ [] ≡ take (k + 1) (map f xs)
mapped_one_more f xs k x below is =
    let within = subst (λ n. k < n) (sym (length-map xs f)) below in
    let read = get_or-map f xs k x (f x) below ∙ ap f (sym is) in
    sym ((take_at_read (map f xs) k (f x) within).1 ∙ ap (λ y. take k (map f xs) ++ y ∷ []) read)

pub one_more_made : {X Y : Type 0} (f : X → Y) (xs : List X) (k : ℕ) (x : X) (y : Y) (made more : List Y) → k < length xs → x ≡ get_or xs k x → y ≡ f x → made ≡ take k (map f xs) → more ≡ made ++ y ∷ [] → more ≡ take (k + 1) (map f xs)
one_more_made f xs k x y made more below is made_of before pushed =
    pushed ∙ ap (λ v. made ++ v ∷ []) made_of ∙ ap (λ vs. vs ++ f x ∷ []) before ∙ mapped_one_more f xs k x below is
