-- What acknowledgements accept.
use Rattle.std.specs.Prelude.{ℕ, ◌≡◌, ◌==◌, ◌<◌, ◌+◌, ◌^◌, ◌&&◌, ◌↔◌, true, false, not, List, ◌∷◌, ◌++◌, Some, None}
use Rattle.xv_model.specs.declared.outcomes.Phase.TheVariants.{On}
use Rattle.xv_model.specs.declared.outcomes.Outcome.TheVariants as out
use Rattle.xv_model.specs.declared.entries.Entry.{Entry}
use Rattle.xv_model.specs.declared.board.Board.{Board}
use Rattle.xv_model.specs.account.Start.{Start, start}
use Rattle.xv_model.specs.account.Legal.{IsLegal}
use Rattle.xv_model.specs.declared.tima.RingOp.TheVariants.{Accept}
use Rattle.xv_model.specs.processor.Priorities.{priorities}
use Rattle.xv_model.specs.processor.RingOps.{ring_access}
use Rattle.xv_model.specs.processor.Phases.{phase}
use Rattle.xv_model.specs.processor.Pending.{accepted_in, pending}
use Rattle.xv_model.specs.processor.Registers.{cppr}

-- an entry is an acknowledgement on a thread
abbrev pub IsAcknowledgement : ℕ → Entry → Type 0
IsAcknowledgement t x = ring_access x.op ≡ Some (record { thread = t; op = Accept })

-- p is the most favoured priority that is pending for v, and it is more favoured than CPPR
pub record IsMostFavoured (z : Start) (h : List Entry) (v p : ℕ) : Type 0 where
  pub is_priority : p < priorities
  pub is_pending : pending z h v p ≡ true
  pub none_less : (q : ℕ) → q < p → pending z h v q ≡ false
  pub passes : p < cppr z h v

-- The laws, of an account of a board.

-- an acknowledgement on a thread accepts a priority exactly where a processor is on it, for which that one is the most favoured
abbrev pub AcceptMostFavoured : Board → List Entry → Type 0
AcceptMostFavoured b h = (before later : List Entry) (x : Entry) (t p : ℕ) → h ≡ later ++ x ∷ before → IsAcknowledgement t x →
    (accepted_in Accept x.outcome ≡ Some p) ↔ ((v : ℕ) × (phase (start b) before v ≡ On t) × IsMostFavoured (start b) before v p)

-- where it accepts one it answers NSR with its bit, and the priority as CPPR
abbrev pub AnswerAccepted : Board → List Entry → Type 0
AnswerAccepted b h = (before later : List Entry) (x : Entry) (t p : ℕ) → h ≡ later ++ x ∷ before → IsAcknowledgement t x →
    accepted_in Accept x.outcome ≡ Some p → x.outcome ≡ out.Value (2 ^ 15 + p)

-- where it accepts one of v that one alone isn't pending afterwards: each other one of v, and each one of another processor, is pending as it was before
abbrev pub LeaveAlone : Board → List Entry → Type 0
LeaveAlone b h = (before later : List Entry) (x : Entry) (t v p : ℕ) → h ≡ later ++ x ∷ before → IsAcknowledgement t x →
    phase (start b) before v ≡ On t → accepted_in Accept x.outcome ≡ Some p →
    (w q : ℕ) → pending (start b) (x ∷ before) w q ≡ (pending (start b) before w q && not ((w == v) && (q == p)))

-- where it accepts none each is pending as it was before
abbrev pub LeaveAll : Board → List Entry → Type 0
LeaveAll b h = (before later : List Entry) (x : Entry) (t : ℕ) → h ≡ later ++ x ∷ before → IsAcknowledgement t x →
    accepted_in Accept x.outcome ≡ None → (w q : ℕ) → pending (start b) (x ∷ before) w q ≡ pending (start b) before w q

-- The laws hold of every legal account of a board.

abbrev pub EachAcceptsMostFavoured : Type 0
EachAcceptsMostFavoured = (b : Board) (h : List Entry) → IsLegal (start b) h → AcceptMostFavoured b h

abbrev pub EachAnswersAccepted : Type 0
EachAnswersAccepted = (b : Board) (h : List Entry) → IsLegal (start b) h → AnswerAccepted b h

abbrev pub EachLeavesAlone : Type 0
EachLeavesAlone = (b : Board) (h : List Entry) → IsLegal (start b) h → LeaveAlone b h

abbrev pub EachLeavesAll : Type 0
EachLeavesAll = (b : Board) (h : List Entry) → IsLegal (start b) h → LeaveAll b h
