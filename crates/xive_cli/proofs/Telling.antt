-- Texts that are told in turn.
use Rattle.std.proofs.Common.{ℕ, ◌≡◌, ◌≤◌, List, [], ◌++◌, sym, ◌∙◌, subst, append-nil, append_assoc, arith, inl, inr, OnErr, Result, Ok, Err}
use Rattle.xv_io.specs.Faults.{HasRisen, AppendsPart}
use Rattle.std.specs.Io.KnownBytes.{Appends}
use Rattle.xv_io.specs.Writer.{Puts}
use Rattle.xv_io.proofs.Appending.{part_more}
use Rattle.xv_io.proofs.Puts.{puts_none, puts_both, puts_flushed, part_after_put}
use Rattle.xive_cli.specs.Output.{Told, Tells, Fails}

-- a count that increased from a later value increased from an earlier one
pub risen_from : (a b c : ℕ) → a ≤ b → HasRisen b c → HasRisen a c
risen_from a b c l (inl more) = inl (omega arith)
risen_from a b c l (inr last) = inr last

-- what holds anyway holds after an error
pub on_err_anyway : {T E P : Type 0} (r : Result T E) → P → OnErr r P
on_err_anyway (Ok x) p = tt
on_err_anyway (Err e) p = p

-- nothing was told
pub tells_nothing : (a : Told) → Tells a [] a
tells_nothing a = puts_none a.gathered a.held

-- one text, and then another
pub tells_both : (a b c : Told) (x y : List ℕ) → Tells a x b → Tells b y c → Tells a (x ++ y) c
tells_both a b c x y p q = puts_both a.gathered b.gathered c.gathered a.held b.held c.held x y p q

-- a text, and then nothing
pub tells_still : (a b c : Told) (x : List ℕ) → Tells a x b → Tells b [] c → Tells a x c
tells_still a b c x p q = subst (λ t. Tells a t c) (append-nil x) (tells_both a b c x [] p q)

-- after a text the sink failed at another
pub fails_after : (a b c : Told) (x y : List ℕ) → a.faults ≤ b.faults → Tells a x b → Fails b y c → Fails a (x ++ y) c
fails_after a b c x y l p f = record {
  failed = risen_from a.faults b.faults c.faults l f.failed;
  part = part_after_put a.gathered b.gathered a.held b.held c.held x y p f.part;
  lost = f.lost;
}

-- the same, with nothing more to be told
pub fails_still : (a b c : Told) (x : List ℕ) → a.faults ≤ b.faults → Tells a x b → Fails b [] c → Fails a x c
fails_still a b c x l p f = subst (λ t. Fails a t c) (append-nil x) (fails_after a b c x [] l p f)

-- where the sink failed at a text, it failed at a longer one
pub fails_more : (a b : Told) (x y : List ℕ) → Fails a x b → Fails a (x ++ y) b
fails_more a b x y f = record {
  failed = f.failed;
  part = subst (AppendsPart a.held b.held) (append_assoc a.gathered x y) (part_more a.held b.held (a.gathered ++ x) y f.part);
  lost = f.lost;
}

-- all that is gathered was written
pub tells_flushed : (a b : Told) → Appends a.held b.held a.gathered → b.gathered ≡ [] → Tells a [] b
tells_flushed a b h e = subst (λ v. Puts a.gathered a.held v b.held []) (sym e) (puts_flushed a.gathered a.held b.held h)

-- not all of it was written
pub fails_flushed : (a b : Told) → AppendsPart a.held b.held a.gathered → HasRisen a.faults b.faults → b.gathered ≡ [] → Fails a [] b
fails_flushed a b p f e = record { failed = f; part = subst (AppendsPart a.held b.held) (sym (append-nil a.gathered)) p; lost = e }

-- a text was printed behind what was gathered, and what is gathered then was settled
pub tells_printed : (a b : Told) (mid text : List ℕ) → mid ≡ a.gathered ++ text → Puts mid a.held b.gathered b.held [] → Tells a text b
tells_printed a b mid text is p = record { sent = p.sent; appended = p.appended; kept = p.kept ∙ append-nil mid ∙ is }

-- the sink failed at what was printed last
pub fails_printed : (a b : Told) (items text : List ℕ) → items ≡ a.gathered ++ text → AppendsPart a.held b.held items → HasRisen a.faults b.faults → b.gathered ≡ [] → Fails a text b
fails_printed a b items text is p f e = record { failed = f; part = subst (AppendsPart a.held b.held) is p; lost = e }
