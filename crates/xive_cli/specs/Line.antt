-- Entries that are made and told.
use Rattle.std.specs.Prelude.{ℕ, ◌≡◌, List, [], ◌∷◌, ◌++◌, None}
use Rattle.xv_model.specs.declared.operations.Op.{Op}
use Rattle.xv_model.specs.declared.outcomes.Outcome.{Outcome}
use Rattle.xv_model.specs.declared.entries.Entry.{Entry}
use Rattle.xv_model.specs.account.Start.{Start}
use Rattle.xv_model.specs.account.Fit.{IsFitStart}
use Rattle.xv_model.specs.account.Index.{next_index}
use Rattle.xv_model.specs.account.Legal.{IsLegal, legal}
use Rattle.xv_model.specs.account.Scripts.{Line, Begins}
use Rattle.account.specs.text.Entry.{entry_line}
use Rattle.machine.specs.Machine.{Held, StandsFor}
use Rattle.board_script.specs.Script.{WorkLine, line_for}
use Rattle.board_script.specs.Work.{next_op}
use Rattle.xive_cli.specs.Output.{Told, Tells, Fails}

-- the machine represents a legal account, which goes on from a start record in which escalations end
abbrev pub IsLegalMachine : Held → Type 0
IsLegalMachine m = (z : Start) × (h : List Entry) × StandsFor m z h × IsLegal z h × IsFitStart z

abbrev pub entry_of : ℕ → Op → Outcome → Entry
entry_of actor o outcome = record { actor = actor; op = o; outcome = outcome }

-- a machine made an entry: whatever account it represented, the outcome is the legal one after it, and the machine represents it with the entry
pub record Makes (m : Held) (x : Entry) (m' : Held) : Type 0 where
  pub outcome : (z : Start) (h : List Entry) → StandsFor m z h → x.outcome ≡ legal z h x.op
  pub stands : (z : Start) (h : List Entry) → StandsFor m z h → StandsFor m' z (x ∷ h)

-- an entry was made, and its line was told
pub record TellsEntry (m : Held) (t : Told) (x : Entry) (m' : Held) (t' : Told) : Type 0 where
  pub makes : Makes m x m'
  pub tells : Tells t (entry_line m.count x) t'

-- an entry was made, and the sink failed at its line
pub record FailsEntry (m : Held) (t : Told) (actor : ℕ) (o : Op) (m' : Held) (t' : Told) : Type 0 where
  pub outcome : Outcome
  pub makes : Makes m (entry_of actor o outcome) m'
  pub fails : Fails t (entry_line m.count (entry_of actor o outcome)) t'

-- the lines of some entries after an account
abbrev pub part_text : Start → List Entry → List Entry → List ℕ
part_text z before [] = []
part_text z before (x ∷ part) = part_text z before part ++ entry_line (next_index z (part ++ before)) x

-- these are the first entries of a line after an account, and legal
pub record IsLegalPart (z : Start) (line : Line) (before part : List Entry) : Type 0 where
  pub begins : Begins z line before part
  pub legal : IsLegal z (part ++ before)

-- the entries of a work line were made after an account, and told
pub record RunsPart (w : WorkLine) (m' : Held) (t t' : Told) (z : Start) (before part : List Entry) : Type 0 where
  pub is_part : IsLegalPart z (line_for w) before part
  pub stands : StandsFor m' z (part ++ before)
  pub tells : Tells t (part_text z before part) t'

-- whatever legal account the machine represented, all entries of a work line were made after it, and told
abbrev pub RunsLine : WorkLine → Held → Told → Held → Told → Type 0
RunsLine w m t m' t' =
    (z : Start) (before : List Entry) → StandsFor m z before → IsLegal z before →
    (part : List Entry) × RunsPart w m' t t' z before part × (next_op w.work z before part ≡ None)

-- whatever legal account the machine represented, entries of a work line are legal after it at whose lines the sink failed
abbrev pub FailsLine : WorkLine → Held → Told → Told → Type 0
FailsLine w m t t' =
    (z : Start) (before : List Entry) → StandsFor m z before → IsLegal z before →
    (part : List Entry) × IsLegalPart z (line_for w) before part × Fails t (part_text z before part) t'
