use Rattle.std.proofs.Common.{ℕ, zero, suc, ◌≡◌, ◌<◌, ◌≤◌, List, ◌∷◌, slice_get, slice_set, replicate, Some, arith, refl, subst}
use Rattle.xv_model.specs.declared.board.Span.{Span}
use Rattle.account.proofs.tests.one_range.Goals as goal

-- the first range alone is one
first_alone : (xs : List Span) (span x : Span) (i : ℕ) → i < 1 → slice_get xs 0 ≡ Some x → slice_get xs i ≡ Some span → x ≡ span
first_alone xs span x zero l first e = cc
first_alone xs span x (suc i) l first e = absurd (omega arith)

-- and the others are like none
all_alike : (n i : ℕ) (none span : Span) → slice_get (replicate n none) i ≡ Some span → none ≡ span
all_alike zero i none span e = cc
all_alike (suc n) zero none span e = cc
all_alike (suc n) (suc i) none span e = all_alike n i none span e

others_unused : (x none span : Span) (i : ℕ) → 1 ≤ i → slice_get (x ∷ replicate 15 none) i ≡ Some span → none ≡ span
others_unused x none span zero l e = absurd (omega arith)
others_unused x none span (suc i) l e = all_alike 15 i none span e

pub returns : goal.returns
returns c limit below =
    let x : Span = record { first = c.args.first; last = c.args.last } in
    let none : Span = record { first = 0; last = 0 } in
    let xs : List Span = slice_set (replicate 16 none) 0 x in
    record {
      few = omega arith;
      ordered = λ i span l e. subst (λ (s : Span). s.first ≤ s.last) (first_alone xs span x i l refl e) c.requires;
      below = λ i span l e. subst (λ (s : Span). s.last < limit) (first_alone xs span x i l refl e) below;
      unused = λ i span l e. subst (λ (s : Span). (s.first ≡ 0) × (s.last ≡ 0)) (others_unused x none span i l e) (refl, refl);
    }
