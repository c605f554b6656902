-- Where a reader that goes on by one entry is.
use Rattle.std.proofs.Common.{ℕ, ◌≡◌, ◌<◌, ◌+◌, ◌-◌, ◌*◌, ◌/◌, ◌%◌, ◌==◌, if◌then◌else◌, sym, ◌∙◌, ap, subst, inl, inr, arith, eq-eqb}
use Rattle.std.proofs.lemmas.Bool.{cases_eq, ne_eqb}
use Rattle.std.proofs.lemmas.Bool.Decides.{nat_tests}
use Rattle.std.proofs.lemmas.Nat.{div-add-mod', div-mul-add, mod-mul-add}
use Rattle.xv_model.specs.declared.operations.EndConfig.{EndConfig}
use Rattle.xv_model.specs.end.Memory.{entries}
use Rattle.end_queue.specs.Reader.{Position, IsAt, one_on}

-- one number on, within a page and at the end of one
within : (j n : ℕ) → j + 1 ≡ j / n * n + (j % n + 1)
within j n = omega (arith, div-add-mod' j n)

past : (j n : ℕ) → j % n + 1 ≡ n → j + 1 ≡ (j / n + 1) * n + 0
past j n e = omega (arith, div-add-mod' j n)

index_within : (j n : ℕ) → j % n + 1 < n → (j + 1) % n ≡ j % n + 1
index_within j n l = ap (λ k. k % n) (within j n) ∙ mod-mul-add (j / n) n (j % n + 1) l

pages_within : (j n : ℕ) → j % n + 1 < n → (j + 1) / n ≡ j / n
pages_within j n l = ap (λ k. k / n) (within j n) ∙ div-mul-add (j / n) n (j % n + 1) l

index_past : (j n : ℕ) → j % n + 1 ≡ n → (j + 1) % n ≡ 0
index_past j n e = ap (λ k. k % n) (past j n e) ∙ mod-mul-add (j / n + 1) n 0 (omega arith)

pages_past : (j n : ℕ) → j % n + 1 ≡ n → (j + 1) / n ≡ j / n + 1
pages_past j n e = ap (λ k. k / n) (past j n e) ∙ div-mul-add (j / n + 1) n 0 (omega arith)

-- what the toggle is in a page: it is 0 in the first one, and flips with each page
abbrev toggle_in : ℕ → ℕ
toggle_in page = 1 - (if page % 2 == 0 then 1 else 0)

flips : (page : ℕ) → toggle_in (page + 1) ≡ 1 - toggle_in page
flips page = grind (arith, nat_tests)

-- a reader that goes on is at the next number
pub goes_on : (r : Position) (c : EndConfig) (j : ℕ) → r.index < r.entries → IsAt r c j → IsAt (one_on r) c (j + 1)
goes_on r c j l at = elim (cases_eq (r.index + 1) r.entries) [
  | inl end ↦ rw (eq-eqb (r.index + 1) r.entries end) (
      let e : j % entries c + 1 ≡ entries c = ap (λ i. i + 1) (sym at.index) ∙ end ∙ at.entries in
      record {
        qaddr = at.qaddr;
        entries = at.entries;
        index = sym (index_past j (entries c) e);
        toggle = ap (λ t. 1 - t) at.toggle ∙ sym (ap toggle_in (pages_past j (entries c) e) ∙ flips (j / entries c));
      })
  | inr more ↦ rw (ne_eqb (r.index + 1) r.entries more) (
      let m : r.index + 1 < r.entries = omega arith in
      let b : j % entries c + 1 < entries c = subst (λ i. i + 1 < entries c) at.index (subst (λ n. r.index + 1 < n) at.entries m) in
      record {
        qaddr = at.qaddr;
        entries = at.entries;
        index = ap (λ i. i + 1) at.index ∙ sym (index_within j (entries c) b);
        toggle = at.toggle ∙ sym (ap toggle_in (pages_within j (entries c) b));
      })
]
