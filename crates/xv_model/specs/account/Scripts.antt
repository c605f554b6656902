-- Lines, and the accounts that follow them.
use Rattle.std.specs.Prelude.{ℕ, ◌≡◌, ◌<◌, true, List, [], ◌∷◌, ◌++◌, All, Option, Some, None}
use Rattle.xv_model.specs.declared.operations.Op.{Op}
use Rattle.xv_model.specs.declared.entries.Entry.{Entry}
use Rattle.xv_model.specs.account.Start.{Start}
use Rattle.xv_model.specs.account.Legal.{IsLegal}
use Rattle.xv_model.specs.board.Validity.{valid}

-- a line: its actor, and its next operation: from a start record, by the account before the line and the entries that the line has made so far
pub record Line : Type 0 where
  pub actor : ℕ
  pub next : Start → List Entry → List Entry → Option Op

-- the part is a beginning of the line's entries after an account
abbrev pub Begins : Start → Line → List Entry → List Entry → Type 0
Begins z line before [] = Unit {0}
Begins z line before (x ∷ part) = Begins z line before part × (x.actor ≡ line.actor) × (line.next z before part ≡ Some x.op)

-- the part is all of the line's entries after an account
pub record IsPart (z : Start) (line : Line) (before part : List Entry) : Type 0 where
  pub begins : Begins z line before part
  pub ends : line.next z before part ≡ None

-- the account has a part for each line, of which the last one comes first
abbrev pub Follows : Start → List Line → List Entry → Type 0
Follows z [] h = h ≡ []
Follows z (line ∷ lines) h = (before : List Entry) × (part : List Entry) × (h ≡ part ++ before) × Follows z lines before × IsPart z line before part

-- no two legal accounts follow the same lines
abbrev pub OneAccount : Type 0
OneAccount = (z : Start) (lines : List Line) (h g : List Entry) → IsLegal z h → IsLegal z g → Follows z lines h → Follows z lines g → h ≡ g

-- a line ends: each entry that it makes in a legal account brings a measure down; the operations that it makes there are valid on the board, and its actor is one of the board's
pub record Ends (z : Start) (line : Line) : Type 0 where
  pub measure : List Entry → List Entry → ℕ
  pub actor : line.actor < z.board.limits.actors
  pub valid_ops : (before part : List Entry) (o : Op) → Begins z line before part → IsLegal z (part ++ before) → line.next z before part ≡ Some o → valid z.board o ≡ true
  pub falls : (before part : List Entry) (x : Entry) → Begins z line before (x ∷ part) → IsLegal z (x ∷ (part ++ before)) → measure before (x ∷ part) < measure before part

-- lines have a legal account that follows them
abbrev pub HasAccount : Start → List Line → Type 0
HasAccount z lines = (h : List Entry) × Follows z lines h × IsLegal z h

-- lines that end have a legal account
abbrev pub EachHasAccount : Type 0
EachHasAccount = (z : Start) (lines : List Line) → All (Ends z) lines → HasAccount z lines

-- g is a beginning of h: h is g, and then later entries
pub record IsBeginning (g h : List Entry) : Type 0 where
  pub later : List Entry
  pub whole : h ≡ later ++ g
