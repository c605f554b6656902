-- What memory represents after an entry.
use Rattle.std.proofs.Common.{ℕ, ◌≡◌, ◌≢◌, ◌<◌, ◌+◌, ◌*◌, ◌/◌, ◌%◌, ◌==◌, Bool, true, false, if◌then◌else◌, List, [], ◌∷◌, length, Some, None, refl, sym, ◌∙◌, ap, subst, inl, inr, arith, slice_set, slice_get}
use Rattle.std.specs.Prelude.{◌&&◌, nat_le, nat_lt}
use Rattle.std.specs.Option.{option_map_or}
use Rattle.std.proofs.Math.ListN.{replicate, length-replicate, length-set}
use Rattle.std.proofs.lemmas.Bool.{cases_eq, eq-eqb, ne_eqb}
use Rattle.std.proofs.lemmas.Bool.Decides.{nat_tests}
use Rattle.std.proofs.lemmas.List.{get_or-replicate}
use Rattle.std.proofs.lemmas.Option.{slice_get-get_or}
use Rattle.xv_model.specs.declared.board.Board.{Board}
use Rattle.xv_model.specs.declared.operations.Op.TheVariants as op
use Rattle.xv_model.specs.declared.outcomes.Outcome.TheVariants as out
use Rattle.xv_model.specs.declared.entries.Entry.{Entry}
use Rattle.xv_model.specs.account.Start.{Start, start}
use Rattle.xv_model.specs.board.Validity.{ram_size}
use Rattle.xv_model.specs.end.Memory.{word_by, word_at}
use Rattle.guest_ram.specs.Ram.{Zeroed, StandsFor}
use Rattle.guest_ram.proofs.Zeroing.{set_here, set_there}

-- zeros represent the empty account of a board with so much memory
pub starts : (b : Board) (n : ℕ) → 4 * n ≡ ram_size b → StandsFor (replicate n 0) (start b) []
starts b n is = record {
  size = ap (λ k. 4 * k) (length-replicate n 0) ∙ is;
  words = λ i l. slice_get-get_or (replicate n 0) i 0 l ∙ ap Some (get_or-replicate n i 0 0 (subst (λ k. i < k) (length-replicate n 0) l));
}

-- an entry that changes no word
pub same : (words : List ℕ) (z : Start) (h : List Entry) (x : Entry) → StandsFor words z h → ((a : ℕ) → word_by a x ≡ None) → StandsFor words z (x ∷ h)
same words z h x st none = record {
  size = st.size;
  words = λ i l. st.words i l ∙ ap (λ m. Some (option_map_or (λ w. w) m (word_at z h (4 * i)))) (sym (none (4 * i)));
}

-- the word at an address after an entry that gives one address a word, where it is that address and where it isn't
given : (z : Start) (h : List Entry) (x : Entry) (i w : ℕ) → ((a : ℕ) → word_by a x ≡ (if 4 * i == a then Some w else None)) → word_at z (x ∷ h) (4 * i) ≡ w
given z h x i w by = ap (λ m. option_map_or (λ v. v) m (word_at z h (4 * i))) (by (4 * i)) ∙ rw (eq-eqb (4 * i) (4 * i) refl) refl

kept : (z : Start) (h : List Entry) (x : Entry) (i j w : ℕ) → ((a : ℕ) → word_by a x ≡ (if 4 * i == a then Some w else None)) → j ≢ i → word_at z (x ∷ h) (4 * j) ≡ word_at z h (4 * j)
kept z h x i j w by other = ap (λ m. option_map_or (λ v. v) m (word_at z h (4 * j))) (by (4 * j)) ∙ rw (ne_eqb (4 * i) (4 * j) (λ e. other (omega arith))) refl

-- an entry that gives one word, in memory, and changes no other
pub put : (words : List ℕ) (z : Start) (h : List Entry) (x : Entry) (i w : ℕ) → StandsFor words z h → i < length words →
    ((a : ℕ) → word_by a x ≡ (if 4 * i == a then Some w else None)) → StandsFor (slice_set words i w) z (x ∷ h)
put words z h x i w st l by = record {
  size = ap (λ k. 4 * k) (length-set words i w) ∙ st.size;
  words = λ j m. let inside : j < length words = subst (λ k. j < k) (length-set words i w) m in elim (cases_eq j i) [
    | inl here ↦ subst (λ j. slice_get (slice_set words i w) j ≡ Some (word_at z (x ∷ h) (4 * j))) (sym here) (set_here words i w l ∙ ap Some (sym (given z h x i w by)))
    | inr other ↦ set_there words i j w other ∙ st.words j inside ∙ ap Some (sym (kept z h x i j w by other))
  ];
}

-- what an entry that zeroes gives an address
abbrev zeroing : ℕ → ℕ → ℕ → Entry
zeroing actor addr len = record { actor = actor; op = op.Zero addr len; outcome = out.Fine }

zeroed_word : (z : Start) (h : List Entry) (actor addr len a : ℕ) (b : Bool) → nat_le addr a && nat_lt a (addr + len) ≡ b → word_at z (zeroing actor addr len ∷ h) a ≡ (if b then 0 else word_at z h a)
zeroed_word z h actor addr len a true is = rw is refl
zeroed_word z h actor addr len a false is = rw is refl

-- an entry that zeroes some words
pub zero : (words words' : List ℕ) (z : Start) (h : List Entry) (actor addr len : ℕ) → StandsFor words z h → addr % 4 ≡ 0 → len % 4 ≡ 0 →
    Zeroed words (addr / 4) (addr / 4 + len / 4) words' → StandsFor words' z (zeroing actor addr len ∷ h)
zero words words' z h actor addr len st a4 l4 zd = record {
  size = ap (λ k. 4 * k) zd.len ∙ st.size;
  words = λ i l. by i (subst (λ k. i < k) zd.len l) (nat_le addr (4 * i) && nat_lt (4 * i) (addr + len)) refl;
}
  where
    by : (i : ℕ) → i < length words → (b : Bool) → nat_le addr (4 * i) && nat_lt (4 * i) (addr + len) ≡ b → slice_get words' i ≡ Some (word_at z (zeroing actor addr len ∷ h) (4 * i))
    by i l true is = zd.inside i (grind (arith, nat_tests)) (grind (arith, nat_tests)) ∙ ap Some (sym (zeroed_word z h actor addr len (4 * i) true is))
    by i l false is = zd.outside i (grind (arith, nat_tests)) ∙ st.words i l ∙ ap Some (sym (zeroed_word z h actor addr len (4 * i) false is))
