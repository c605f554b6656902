-- The halves of an account: the entries on a source's word, and those of the fabric.
use Rattle.std.specs.Prelude.{ℕ, List, filter}
use Rattle.xv_model.specs.declared.entries.Entry.{Entry}
use Rattle.xv_model.specs.declared.board.Board.{Board}
use Rattle.xv_model.specs.account.Kinds.{is_word, is_fabric}

-- the entries on the word of s
abbrev pub words_of : Board → ℕ → List Entry → List Entry
words_of b s h = filter (λ x. is_word b s x.op) h

-- the entries of the fabric
abbrev pub fabric_of : Board → List Entry → List Entry
fabric_of b h = filter (λ x. is_fabric b x.op) h
