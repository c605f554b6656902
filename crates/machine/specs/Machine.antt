-- What a machine keeps, and which account it represents.
use Rattle.std.specs.Prelude.{ℕ, ◌≡◌, ◌+◌, ◌*◌, ◌<◌, ◌≤◌, Bool, List, length, Some, slice_get, slice_index_or}
use Rattle.xv_model.specs.declared.board.Board.{Board}
use Rattle.xv_model.specs.declared.entries.Entry.{Entry}
use Rattle.xv_model.specs.board.Boards.{is_level}
use Rattle.xv_model.specs.account.Start.{Start}
use Rattle.xv_model.specs.account.Burden.{weight}
use Rattle.xv_model.specs.source.Pairs.{pq, asserted, old_pair}
use Rattle.xv_model.specs.source.Notices.{forwards, routes, all_outstanding}
use Rattle.xv_model.specs.account.Index.{next_index}
use Rattle.esb_pq.specs.Word.{SourceParts}
use Rattle.fabric_core.specs.Fabric.{Held as FabricHeld, StandsFor as FabricStandsFor}

-- what a machine keeps: the fabric, the words of sources and the pair of each before the last set of it, how many
-- entries were made, and how many notices are outstanding
pub record Held : Type 0 where
  pub fabric : FabricHeld
  pub words : List SourceParts
  pub old_pairs : List ℕ
  pub count : ℕ
  pub notices : ℕ

-- what an account gives for the word of a source
abbrev pub word_of : Start → List Entry → ℕ → SourceParts
word_of z h s = record { pq = pq z h s; asserted = asserted z h s; count = forwards z h s }

-- each of these says whether its source is a level source
abbrev pub AreLevels : Board → List Bool → Type 0
AreLevels b levels = (s : ℕ) (d : Bool) → s < length levels → slice_index_or levels s d ≡ is_level b s

-- the fabric and the words of sources keep what the account gives, which routed no more notices than it forwarded
pub record AreParts (f : FabricHeld) (ws : List SourceParts) (z : Start) (h : List Entry) : Type 0 where
  pub fabric : FabricStandsFor f z h
  pub words : (s : ℕ) → s < z.board.limits.sources → slice_get ws s ≡ Some (word_of z h s)
  pub forwarded : (s : ℕ) → routes z h s ≤ forwards z h s

-- each of these is the pair that its source had before the last set of it
abbrev pub AreOldPairs : List ℕ → Start → List Entry → Type 0
AreOldPairs pairs z h = (s : ℕ) → s < z.board.limits.sources → slice_get pairs s ≡ Some (old_pair z h s)

-- the machine represents the account: its parts and its counts are what the account gives
pub record StandsFor (m : Held) (z : Start) (h : List Entry) : Type 0 where
  pub parts : AreParts m.fabric m.words z h
  pub old_pairs : AreOldPairs m.old_pairs z h
  pub index : m.count ≡ next_index z h
  pub notices : m.notices ≡ all_outstanding z h

-- what is still to be done with the notices and messages of a machine: the burden of the account that it
-- represents
abbrev pub burden_of : Held → ℕ
burden_of m = 4 * m.notices + weight m.fabric.tables.messages

-- the machine after one more entry, with all else as it was
abbrev pub one_more : Held → Held
one_more m = record { fabric = m.fabric; words = m.words; old_pairs = m.old_pairs; count = m.count + 1; notices = m.notices }
