-- The lines of some ranges, one more each time.
use Rattle.std.proofs.Common.{ℕ, ◌≡◌, ◌+◌, ◌<◌, List, [], ◌∷◌, ◌++◌, length, take, slice_index_or, refl, sym, ◌∙◌, ap, arith, append_assoc, append-nil}
use Rattle.std.proofs.lemmas.Grind.{common_steps}
use Rattle.xv_model.specs.declared.board.Span.{Span}
use Rattle.account.specs.text.Header.{range_line, ranges_text}

-- the lines of joined ranges
ranges_both : (word : List ℕ) (xs ys : List Span) → ranges_text word (xs ++ ys) ≡ ranges_text word xs ++ ranges_text word ys
ranges_both word [] ys = refl
ranges_both word (x ∷ xs) ys = ap (λ v. range_line word x ++ v) (ranges_both word xs ys) ∙ sym (append_assoc (range_line word x) (ranges_text word xs) (ranges_text word ys))

-- one more item is taken
pub one_taken : {A : Type 0} (xs : List A) (i : ℕ) (d : A) → i < length xs → take (i + 1) xs ≡ take i xs ++ slice_index_or xs i d ∷ []
one_taken xs i d l = grind (arith, common_steps)

-- the lines of one more range
pub ranges_more : (word old now new : List ℕ) (xs : List Span) (i : ℕ) (d : Span) → i < length xs →
    now ≡ old ++ ranges_text word (take i xs) → new ≡ now ++ range_line word (slice_index_or xs i d) → new ≡ old ++ ranges_text word (take (i + 1) xs)
ranges_more word old now new xs i d l before line =
    let x = slice_index_or xs i d in
    let texts : ranges_text word (take (i + 1) xs) ≡ ranges_text word (take i xs) ++ range_line word x =
    ap (ranges_text word) (one_taken xs i d l) ∙ ranges_both word (take i xs) (x ∷ []) ∙ ap (λ v. ranges_text word (take i xs) ++ v) (append-nil (range_line word x)) in
    line ∙ ap (λ v. v ++ range_line word x) before ∙ append_assoc old (ranges_text word (take i xs)) (range_line word x) ∙ ap (λ v. old ++ v) (sym texts)

-- five texts, one behind the other
pub five_more : (old a b c d e t1 t2 t3 t4 t5 : List ℕ) → t1 ≡ old ++ a → t2 ≡ t1 ++ b → t3 ≡ t2 ++ c → t4 ≡ t3 ++ d → t5 ≡ t4 ++ e → t5 ≡ old ++ (a ++ b ++ c ++ d ++ e)
five_more old a b c d e t1 t2 t3 t4 t5 p1 p2 p3 p4 p5 = rw (p5, p4, p3, p2, p1) (simp append_assoc)
