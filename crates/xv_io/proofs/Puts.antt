-- Texts that are put, one after another.
use Rattle.std.proofs.Common.{ℕ, ◌≡◌, List, [], ◌++◌, Option, refl, sym, ◌∙◌, ap, subst, append_assoc, append-nil}
use Rattle.std.specs.Io.KnownBytes.{Appends}
use Rattle.xv_io.specs.Faults.{AppendsPrefix, AppendsPart}
use Rattle.xv_io.specs.Writer.{Puts}
use Rattle.xv_io.proofs.Appending.{appends_both, appends_none, prefix_after, part_after}

-- nothing was put
pub puts_none : (w : List ℕ) (a : Option (List ℕ)) → Puts w a w a []
puts_none w a = record { sent = []; appended = appends_none a; kept = sym (append-nil w) }

-- one text, and then another
pub puts_both : (w w' w'' : List ℕ) (a b c : Option (List ℕ)) (x y : List ℕ) → Puts w a w' b x → Puts w' b w'' c y → Puts w a w'' c (x ++ y)
puts_both w w' w'' a b c x y p q = record {
  sent = p.sent ++ q.sent;
  appended = appends_both a b c p.sent q.sent p.appended q.appended;
  kept = append_assoc p.sent q.sent w'' ∙ ap (λ v. p.sent ++ v) q.kept ∙ sym (append_assoc p.sent w' y) ∙ ap (λ v. v ++ y) p.kept ∙ append_assoc w x y;
}

-- all that is gathered was written
pub puts_flushed : (w : List ℕ) (a b : Option (List ℕ)) → Appends a b w → Puts w a [] b []
puts_flushed w a b h = record { sent = w; appended = h; kept = refl }

-- where nothing was gathered at first and nothing is now, the sink got the text
pub puts_all : (a b : Option (List ℕ)) (x : List ℕ) → Puts [] a [] b x → Appends a b x
puts_all a b x p = subst (Appends a b) (sym (append-nil p.sent) ∙ p.kept) p.appended

-- after a text, the first bytes of what is gathered and of another
pub prefix_after_put : (w w' : List ℕ) (a b c : Option (List ℕ)) (x y : List ℕ) → Puts w a w' b x → AppendsPrefix b c (w' ++ y) → AppendsPrefix a c (w ++ (x ++ y))
prefix_after_put w w' a b c x y p k =
    let same : p.sent ++ (w' ++ y) ≡ w ++ (x ++ y) = sym (append_assoc p.sent w' y) ∙ ap (λ v. v ++ y) p.kept ∙ append_assoc w x y in
    subst (AppendsPrefix a c) same (prefix_after a b c p.sent (w' ++ y) p.appended k)

-- the same, where not all of them were written
pub part_after_put : (w w' : List ℕ) (a b c : Option (List ℕ)) (x y : List ℕ) → Puts w a w' b x → AppendsPart b c (w' ++ y) → AppendsPart a c (w ++ (x ++ y))
part_after_put w w' a b c x y p k =
    let same : p.sent ++ (w' ++ y) ≡ w ++ (x ++ y) = sym (append_assoc p.sent w' y) ∙ ap (λ v. v ++ y) p.kept ∙ append_assoc w x y in
    subst (AppendsPart a c) same (part_after a b c p.sent (w' ++ y) p.appended k)
