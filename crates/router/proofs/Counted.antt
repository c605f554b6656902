-- How many messages come from a source.
use Rattle.std.proofs.Common.{ℕ, ◌≡◌, ◌<◌, ◌≤◌, ◌+◌, ◌==◌, true, false, Bool, if◌then◌else◌, List, [], ◌∷◌, ◌++◌, length, slice_index_or, take, sym, ◌∙◌, ap, arith}
use Rattle.std.proofs.lemmas.List.{take_more}
use Rattle.xv_model.specs.declared.messages.Message.{Message}
use Rattle.xv_model.specs.route.Flight.{source_of}
use Rattle.xv_model.specs.route.Quiet.{messages_of}

-- one
abbrev one : Message → ℕ → ℕ
one m s = if source_of m == s then 1 else 0

summed : (a p q b : ℕ) → p ≡ q + b → a + p ≡ (a + q) + b
summed a p q b is = omega arith

with_last : (ms : List Message) (m : Message) (s : ℕ) → messages_of (ms ++ (m ∷ [])) s ≡ messages_of ms s + one m s
with_last [] m s = summed_none (one m s)
  where
    summed_none : (b : ℕ) → b + 0 ≡ 0 + b
    summed_none b = omega arith
with_last (n ∷ ms) m s = summed (one n s) (messages_of (ms ++ (m ∷ [])) s) (messages_of ms s) (one m s) (with_last ms m s)

-- with one message more
pub one_more : (ms : List Message) (i s : ℕ) (m : Message) → i < length ms → messages_of (take (i + 1) ms) s ≡ messages_of (take i ms) s + one (slice_index_or ms i m) s
one_more ms i s m l = ap (λ (ns : List Message). messages_of ns s) (take_more ms i m l) ∙ with_last (take i ms) (slice_index_or ms i m) s

-- a count goes on by a message, from s or not
pub counts_on : (ms : List Message) (i s : ℕ) (m : Message) (n more : ℕ) (from : Bool) → i < length ms → m ≡ slice_index_or ms i m → (source_of m == s) ≡ from →
    (n ≡ messages_of (take i ms) s) × (n ≤ i) → more ≡ n + (if from then 1 else 0) → (more ≡ messages_of (take (i + 1) ms) s) × (more ≤ i + 1)
counts_on ms i s m n more from l at is before after = (
  after ∙ ap (λ k. k + (if from then 1 else 0)) before.0 ∙ ap (λ v. messages_of (take i ms) s + (if v then 1 else 0)) (sym is) ∙ ap (λ k. messages_of (take i ms) s + one k s) at ∙ sym (one_more ms i s m l),
  few from after,
)
  where
    few : (v : Bool) → more ≡ n + (if v then 1 else 0) → more ≤ i + 1
    few true is = omega arith
    few false is = omega arith
