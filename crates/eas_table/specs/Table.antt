-- What is kept of sources: the EAS of each, how it starts, what is in range, and which account it represents.
use Rattle.std.specs.Prelude.{ℕ, ◌≡◌, ◌<◌, ◌^◌, true, if◌then◌else◌, List, length, Some, slice_get, slice_index_or}
use Rattle.xv_model.specs.declared.board.Board.{Board}
use Rattle.xv_model.specs.declared.eas.Eas.{Eas}
use Rattle.xv_model.specs.declared.entries.Entry.{Entry}
use Rattle.xv_model.specs.account.Start.{Start, first_eas}
use Rattle.xv_model.specs.board.Validity.{end_count}
use Rattle.xv_model.specs.source.Eas.{eas, masked_off}

-- the number of the END has 16 bits, and the EISN 31
pub record IsNarrow (a : Eas) : Type 0 where
  pub end : a.end < 2 ^ 16
  pub eisn : a.eisn < 2 ^ 31

-- the END is one of the board's, and the EISN has 31 bits
pub record IsEas (b : Board) (a : Eas) : Type 0 where
  pub end : a.end < end_count b
  pub eisn : a.eisn < 2 ^ 31

-- each of these is the one that its source starts with
abbrev pub AreFirst : Board → List Eas → Type 0
AreFirst b eases = (s : ℕ) (d : Eas) → s < length eases → slice_index_or eases s d ≡ first_eas b s

-- the EAS of source s
abbrev pub eas_in : List Eas → ℕ → Eas
eas_in eases s = slice_index_or eases s masked_off

-- an EAS that is masked, with all else as it was
abbrev pub masked : Eas → Eas
masked a = record { valid = a.valid; masked = true; end = a.end; eisn = a.eisn }

-- an EAS that is masked off where it was valid
abbrev pub cleared : Eas → Eas
cleared a = if a.valid then masked_off else a

-- the EASes represent the account: that of each source is what the account gives
abbrev pub StandsFor : List Eas → Start → List Entry → Type 0
StandsFor eases z h = (s : ℕ) → s < z.board.limits.sources → slice_get eases s ≡ Some (eas z h s)
