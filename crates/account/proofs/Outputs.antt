-- The outputs of a reply, one more each time.
use Rattle.std.proofs.Common.{ℕ, ◌≡◌, ◌+◌, ◌<◌, List, [], ◌∷◌, ◌++◌, length, take, slice_index_or, refl, sym, ◌∙◌, ap, append_assoc, append-nil}
use Rattle.account.specs.text.Outcomes.{output_text, outputs_text}
use Rattle.account.proofs.Ranges.{one_taken}

-- the outputs of joined lists
outputs_both : (xs ys : List ℕ) → outputs_text (xs ++ ys) ≡ outputs_text xs ++ outputs_text ys
outputs_both [] ys = refl
outputs_both (x ∷ xs) ys = ap (λ v. output_text x ++ v) (outputs_both xs ys) ∙ sym (append_assoc (output_text x) (outputs_text xs) (outputs_text ys))

-- one more output
pub outputs_more : (old now new : List ℕ) (xs : List ℕ) (i : ℕ) (d : ℕ) → i < length xs →
    now ≡ old ++ outputs_text (take i xs) → new ≡ now ++ output_text (slice_index_or xs i d) → new ≡ old ++ outputs_text (take (i + 1) xs)
outputs_more old now new xs i d l before text =
    let x = slice_index_or xs i d in
    let texts : outputs_text (take (i + 1) xs) ≡ outputs_text (take i xs) ++ output_text x =
    ap outputs_text (one_taken xs i d l) ∙ outputs_both (take i xs) (x ∷ []) ∙ ap (λ v. outputs_text (take i xs) ++ v) (append-nil (output_text x)) in
    text ∙ ap (λ v. v ++ output_text x) before ∙ append_assoc old (outputs_text (take i xs)) (output_text x) ∙ ap (λ v. old ++ v) (sym texts)
