-- Work lines end, and make valid operations.
use Rattle.std.proofs.Common.{ℕ, IfSome, ◌≡◌, ◌+◌, ◌*◌, ◌<◌, ◌≤◌, ◌++◌, true, List, [], ◌∷◌, Option, Some, None, arith}
use Rattle.xv_model.specs.declared.board.Board.{Board}
use Rattle.xv_model.specs.declared.operations.Op.{Op}
use Rattle.xv_model.specs.declared.outcomes.Outcome.{Outcome}
use Rattle.xv_model.specs.declared.entries.Entry.{Entry}
use Rattle.xv_model.specs.account.Start.{Start}
use Rattle.xv_model.specs.account.Fit.{IsFitStart}
use Rattle.xv_model.specs.account.Legal.{IsLegal}
use Rattle.xv_model.specs.account.Scripts.{Begins, Ends}
use Rattle.xv_model.specs.board.Validity.{valid}
use Rattle.xv_model.proofs.SmallPairs.{old_pair-below}
use Rattle.board_script.specs.declared.steps.Steps.{Steps}
use Rattle.board_script.specs.declared.work.Work.{Work}
use Rattle.board_script.specs.declared.work.Work.TheVariants.{Simple, Migrate}
use Rattle.board_script.specs.Steps.{reset_place, op_from_place, last_outcome, place_of, at_place}
use Rattle.board_script.specs.Work.{next_op, AreSteps, IsAt, IsLast, load, Falls, HasValidSteps, AsksBelow}
use Rattle.board_script.specs.Lines.{IsWork}
use Rattle.board_script.specs.Script.{WorkLine, line_for}
use Rattle.board_script.proofs.Migrations.{migration_load, migration_falls, migration_valid}
use Rattle.board_script.proofs.StepLines.{Moves, next_at, after_next, next_falls, load_at, falls_by, valid_by, few_steps, steps_ask_below}

-- ---- what is said of a line that makes its next operation

abbrev pub NextIs : Work → Option Op → Option Outcome → (Start → List Entry → Type 0) → Type 0
NextIs old m last Knows = (w : Work) (z : Start) (before part : List Entry) → IsAt old w z before part → Knows z (part ++ before) → IsLast part last → m ≡ next_op w z before part

abbrev pub StandsAfter : Work → Work → Option Op → Option Outcome → (Start → List Entry → Type 0) → Type 0
StandsAfter old new m last Knows =
    IfSome m (λ o. (w : Work) (z : Start) (before part : List Entry) (x : Entry) → IsAt old w z before part → Knows z (part ++ before) → IsLast part last → x.op ≡ o → IsAt new w z before (x ∷ part))

abbrev pub FallsAfter : Work → Work → Option Op → Option Outcome → (Start → List Entry → Type 0) → Type 0
FallsAfter old new m last Knows =
    IfSome m (λ o. (w : Work) (z : Start) (before part : List Entry) → IsAt old w z before part → Knows z (part ++ before) → IsLast part last → (b : Board) → HasValidSteps b old → Falls old new last z (part ++ before) o)

-- ---- a line of an operation and what it goes on with, as a work line

-- the operation that it makes after its last one
pub simple_next : (now : Steps) (m : Option Op) (last : Option Outcome) (u : Outcome) (Knows : Start → List Entry → Type 0) → last ≡ Some u → ((z : Start) (h : List Entry) → Knows z h → m ≡ op_from_place now.then z h u) →
    NextIs (Simple now) m last Knows
simple_next now m last u Knows is value (Simple w) z before part at known l = next_at now m last u Knows is value w z before part at known l
simple_next now m last u Knows is value (Migrate w) z before [] at known l = cc
simple_next now m last u Knows is value (Migrate w) z before (y ∷ part) at known l = absurd at.0

-- where it stands after its next entry
pub simple_after : (old new : Steps) (m : Option Op) (last : Option Outcome) (u : Outcome) (Knows : Start → List Entry → Type 0) → last ≡ Some u → ((z : Start) (h : List Entry) → Knows z h → m ≡ op_from_place old.then z h u) → new ≡ at_place (place_of new.then) old →
    IfSome m (λ o. Moves old new o Knows) →
    StandsAfter (Simple old) (Simple new) m last Knows
simple_after old new None last u Knows is value same moves = tt
simple_after old new (Some o) last u Knows is value same moves = by
  where
    by : (w : Work) (z : Start) (before part : List Entry) (x : Entry) → IsAt (Simple old) w z before part → Knows z (part ++ before) → IsLast part last → x.op ≡ o → IsAt (Simple new) w z before (x ∷ part)
    by (Simple w) z before part x at known l e = after_next old new (Some o) last u Knows is value same moves w z before part x at known l e
    by (Migrate w) z before [] x at known l e = cc
    by (Migrate w) z before (y ∷ part) x at known l e = absurd at.0

-- each later operation brings its load down
pub simple_falls : (old new : Steps) (m : Option Op) (last : Option Outcome) (u : Outcome) (Knows : Start → List Entry → Type 0) → last ≡ Some u → ((z : Start) (h : List Entry) → Knows z h → m ≡ op_from_place old.then z h u) → new ≡ at_place (place_of new.then) old →
    IfSome m (λ o. Moves old new o Knows) →
    FallsAfter (Simple old) (Simple new) m last Knows
simple_falls old new None last u Knows is value same moves = tt
simple_falls old new (Some o) last u Knows is value same moves = by
  where
    by : (w : Work) (z : Start) (before part : List Entry) → IsAt (Simple old) w z before part → Knows z (part ++ before) → IsLast part last → (b : Board) → HasValidSteps b (Simple old) → Falls (Simple old) (Simple new) last z (part ++ before) o
    by (Simple w) z before part at known l b v = next_falls old new (Some o) last u Knows is value same moves w z before part at known l b v
    by (Migrate w) z before [] at known l b v = cc
    by (Migrate w) z before (y ∷ part) at known l b v = absurd at.0

-- ---- each work line

-- the load of a line that begins is little more than twice the burden, beside the sources that it may set, twice in a migration
pub few : (w : Work) (b : ℕ) (board : Board) → HasValidSteps board w → load w None b ≤ 2 * b + 30 + 20 * board.limits.sources
few (Simple w) b board v = let less = few_steps w b board v in omega arith
few (Migrate m) b board v = omega (arith, v)

-- a line whose steps are valid on a board asks for sources of the board
pub asks_below : (b : Board) (w : Work) → HasValidSteps b w → AsksBelow b.limits.sources w
asks_below b (Simple w) v = steps_ask_below b w v
asks_below b (Migrate m) v = v

-- what begins a line is its steps
pub are_steps : (z : Start) (w : WorkLine) (before part : List Entry) → Begins z (line_for w) before part → AreSteps w.work z before part
are_steps z w before [] b = tt
are_steps z w before (x ∷ part) b = (are_steps z w before part b.0, b.2)

-- the load of a line after its entries
abbrev work_load : Work → Start → List Entry → List Entry → ℕ
work_load (Simple w) z before part = load_at w z before part
work_load (Migrate m) z before part = migration_load m z before part

work_falls : (w : Work) (b : Board) (z : Start) (before part : List Entry) (x : Entry) → IsFitStart z → HasValidSteps b w → AreSteps w z before part → next_op w z before part ≡ Some x.op → IsLegal z (x ∷ (part ++ before)) →
    work_load w z before (x ∷ part) < work_load w z before part
work_falls (Simple w) b z before part x fit v steps e l = falls_by w b z before part x fit v steps e l
work_falls (Migrate m) b z before part x fit v steps e l = migration_falls m z before part x fit steps e l

work_valid : (w : Work) (b : Board) (z : Start) (before part : List Entry) (o : Op) → IsFitStart z → IsLegal z (part ++ before) → HasValidSteps b w → next_op w z before part ≡ Some o → valid b o ≡ true
work_valid (Simple w) b z before part o fit l v e = valid_by w (reset_place part) z (part ++ before) (last_outcome part) b o e v
work_valid (Migrate m) b z before part o fit l v e = migration_valid m z before part o b v (λ s. old_pair-below z (part ++ before) s l (fit.pairs s) (fit.old_pairs s)) e

-- a work line on a board ends
pub ends : (z : Start) (w : WorkLine) → IsFitStart z → IsWork z.board w.actor w.work → Ends z (line_for w)
ends z w fit is = record {
  measure = λ before part. work_load w.work z before part;
  actor = is.actor_is;
  valid_ops = λ before part o begins legal next. work_valid w.work z.board z before part o fit legal is.valid_steps next;
  falls = λ before part x begins legal. work_falls w.work z.board z before part x fit is.valid_steps (are_steps z w before part begins.0) begins.2 legal;
}
