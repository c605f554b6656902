-- Memory as a list of words, and which account it represents.
use Rattle.std.specs.Prelude.{ℕ, ◌≡◌, ◌*◌, ◌^◌, ◌<◌, ◌≤◌, ◌⊎◌, List, length, Some, slice_get}
use Rattle.xv_base.specs.Limits.{most_ram_mib}
use Rattle.xv_model.specs.declared.entries.Entry.{Entry}
use Rattle.xv_model.specs.account.Start.{Start}
use Rattle.xv_model.specs.board.Validity.{ram_size}
use Rattle.xv_model.specs.end.Memory.{word_at}

-- the words of the largest memory
abbrev pub most_words : ℕ
most_words = most_ram_mib * 2 ^ 18

-- the words from one on, up to another one, are zero now, and all others are as they were
pub record Zeroed (before : List ℕ) (from to : ℕ) (after : List ℕ) : Type 0 where
  pub len : length after ≡ length before
  pub inside : (i : ℕ) → from ≤ i → i < to → slice_get after i ≡ Some 0
  pub outside : (i : ℕ) → (i < from) ⊎ (to ≤ i) → slice_get after i ≡ slice_get before i

-- the memory represents the account: it is as large as the board's, and each word is the one that its address was given last
pub record StandsFor (memory : List ℕ) (z : Start) (h : List Entry) : Type 0 where
  pub size : 4 * length memory ≡ ram_size z.board
  pub words : (i : ℕ) → i < length memory → slice_get memory i ≡ Some (word_at z h (4 * i))
