-- What becomes of what was written into a queue: it is read in order.
use Rattle.std.specs.Prelude.{ℕ, ◌≡◌, ◌≢◌, ◌<◌, ◌≤◌, ◌+◌, ◌*◌, true, List, [], ◌∷◌, ◌++◌, Some, None, All, slice_get}
use Rattle.std.specs.Option.{option_map_or}
use Rattle.xv_model.specs.declared.operations.EndConfig.{EndConfig}
use Rattle.xv_model.specs.declared.operations.Op.TheVariants as op
use Rattle.xv_model.specs.declared.outcomes.Outcome.{Outcome}
use Rattle.xv_model.specs.declared.outcomes.Outcome.TheVariants as out
use Rattle.xv_model.specs.declared.entries.Entry.{Entry}
use Rattle.xv_model.specs.declared.board.Board.{Board}
use Rattle.xv_model.specs.account.Start.{Start, start}
use Rattle.xv_model.specs.account.Kinds.{run_of}
use Rattle.xv_model.specs.account.Legal.{IsLegal}
use Rattle.xv_model.specs.end.Flags.{is_valid, enqueues}
use Rattle.xv_model.specs.end.Descriptors.{config_by, end_config}
use Rattle.xv_model.specs.end.Memory.{entries, place, generation, word_by, word_at}
use Rattle.xv_model.specs.end.Written.{wrote_in, written, written_count}
use Rattle.xv_model.specs.end.Reading.{top_bit, taken, taken_count}

-- the page of a queue is fresh: no word has for its top bit the generation of the first entry that will be written there
abbrev pub IsFresh : Start → List Entry → EndConfig → Type 0
IsFresh z h c = (k : ℕ) → k < entries c → top_bit (word_at z h (place c (c.start + k))) ≢ generation c (c.start + k)

-- the reader of e is at most a whole queue behind
abbrev pub KeepsUp : Start → List Entry → ℕ → Type 0
KeepsUp z h e = written_count z h e ≤ taken_count z h e + entries (end_config z h e)

-- an entry leaves e its queue: it doesn't configure e, and where it changes a word of the page it is a pass that wrote into the queue
pub record LeavesQueue (e : ℕ) (c : EndConfig) (x : Entry) : Type 0 where
  pub config : config_by e x ≡ None
  pub words : (j word : ℕ) → word_by (place c j) x ≡ Some word → wrote_in (run_of x.op x.outcome) ≡ Some e

-- What the law asks of an account in which, after some entries before, one configures e with v and q:
-- the page is fresh then, all entries since leave e its queue, and the reader keeps up.
pub record IsOwnQueue (z : Start) (before : List Entry) (x : Entry) (since : List Entry) (e : ℕ) (c : EndConfig) : Type 0 where
  pub configured : config_by e x ≡ Some c
  pub is_on : is_valid c ≡ true
  pub has_queue : enqueues c ≡ true
  pub fresh : IsFresh z (x ∷ before) c
  pub own : All (LeavesQueue e c) since
  pub keeps_up : (later earlier : List Entry) (y : Entry) → since ≡ later ++ y ∷ earlier → y.op ≡ op.Read e → KeepsUp z (earlier ++ x ∷ before) e

-- what a read answers of which so many were taken: the next payload, or empty where all were taken
abbrev pub next_item : List ℕ → ℕ → Outcome
next_item payloads count = option_map_or out.Item (slice_get payloads count) out.Empty

-- The laws, of an account of a board.

-- each read of e since then answers the next payload of those that were written, and is empty where all were taken
abbrev pub ReadsNext : Board → List Entry → Type 0
ReadsNext b h = (before since : List Entry) (x : Entry) (e : ℕ) (c : EndConfig) →
    h ≡ since ++ x ∷ before → IsOwnQueue (start b) before x since e c →
    (later earlier : List Entry) (y : Entry) → since ≡ later ++ y ∷ earlier → y.op ≡ op.Read e →
    y.outcome ≡ next_item (written (start b) (earlier ++ x ∷ before) e) (taken_count (start b) (earlier ++ x ∷ before) e)

-- what was read is a beginning of what was written
abbrev pub ReadsAsWritten : Board → List Entry → Type 0
ReadsAsWritten b h = (before since : List Entry) (x : Entry) (e : ℕ) (c : EndConfig) →
    h ≡ since ++ x ∷ before → IsOwnQueue (start b) before x since e c →
    (unread : List ℕ) × (written (start b) h e ≡ taken h e ++ unread)

-- The laws hold of every legal account of a board.

abbrev pub EachReadsNext : Type 0
EachReadsNext = (b : Board) (h : List Entry) → IsLegal (start b) h → ReadsNext b h

abbrev pub EachReadsAsWritten : Type 0
EachReadsAsWritten = (b : Board) (h : List Entry) → IsLegal (start b) h → ReadsAsWritten b h

-- When a page is fresh.

-- a page of zeros is fresh for a queue whose first entry has the number 0: the generation 1, and the index 0
abbrev pub ZerosAreFresh : Type 0
ZerosAreFresh = (z : Start) (h : List Entry) (c : EndConfig) → c.start ≡ 0 → ((j : ℕ) → word_at z h (place c j) ≡ 0) → IsFresh z h c

-- so is each page at the start of a board
abbrev pub StartIsFresh : Type 0
StartIsFresh = (b : Board) (c : EndConfig) → c.start ≡ 0 → IsFresh (start b) [] c

-- and each page that was zeroed just before
abbrev pub ZeroedIsFresh : Type 0
ZeroedIsFresh = (z : Start) (h : List Entry) (actor : ℕ) (c : EndConfig) → c.start ≡ 0 →
    IsFresh z (record { actor = actor; op = op.Zero c.qaddr (4 * entries c); outcome = out.Fine } ∷ h) c
