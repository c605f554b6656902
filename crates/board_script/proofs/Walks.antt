-- Walks over the words of a line, one read after another.
use Rattle.std.proofs.Common.{ℕ, ◌≡◌, List, Ok, ◌∙◌, ap}
use Rattle.board_script.specs.Words.{rest_of}
use Rattle.board_script.specs.Grammar.{Form, Grammar, Word, read_as, then_read, walk}

-- a word is read, and the walk goes on behind it
pub walk_on : {A : Type 0} (at : List ℕ) (form : Form) (next : ℕ → Grammar A) (rest behind : List ℕ) (n : ℕ) → Ok n ≡ read_as form rest → behind ≡ rest_of rest →
    walk at (next n) behind ≡ walk at (Word form next) rest
walk_on at form next rest behind n e b = ap (λ r. walk at (next n) r) b ∙ ap (λ r. then_read r (λ k. walk at (next k) (rest_of rest))) e
