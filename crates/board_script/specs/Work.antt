-- Work lines: the operations that they make.
use Rattle.std.specs.Prelude.{ℕ, ◌≡◌, ◌≤◌, ◌<◌, ◌+◌, ◌*◌, ◌++◌, List, [], ◌∷◌, Option, Some}
use Rattle.xv_model.specs.declared.board.Board.{Board}
use Rattle.xv_model.specs.declared.operations.PqOp.{PqOp}
use Rattle.xv_model.specs.declared.operations.Op.{Op}
use Rattle.xv_model.specs.declared.operations.Op.TheVariants as op
use Rattle.xv_model.specs.declared.outcomes.Outcome.{Outcome}
use Rattle.xv_model.specs.declared.entries.Entry.{Entry}
use Rattle.xv_model.specs.account.Start.{Start}
use Rattle.xv_model.specs.account.Burden.{burden}
use Rattle.xv_model.specs.account.Fit.{IsFitStart}
use Rattle.xv_model.specs.account.Legal.{IsLegal}
use Rattle.xv_model.specs.source.Notices.{outstanding}
use Rattle.board_script.specs.declared.migrating.Migration.TheVariants.{Masks}
use Rattle.board_script.specs.declared.steps.Then.{Then}
use Rattle.board_script.specs.declared.steps.Then.TheVariants.{Done, Route, Take, Sync, Drain}
use Rattle.board_script.specs.declared.work.Work.{Work}
use Rattle.board_script.specs.declared.work.Work.TheVariants.{Simple, Migrate}
use Rattle.board_script.specs.Migrating.{sources_of, migration_at, migrating, as_told, HasDrained, migration_left}
use Rattle.board_script.specs.Steps.{next_step, last_outcome, place_of, at_place, HasComeTo, steps_left, WithThen, StepsAskBelow}

-- a line of an operation, and of what that goes on with
abbrev pub with_then : Op → Then → Work
with_then first t = Simple (record { first = first; then = t })

-- a line of one operation
abbrev pub once : Op → Work
once o = with_then o Done

-- a line of an operation on the word of a source, and the route of what it forwards
abbrev pub then_route : ℕ → PqOp → Work
then_route s o = with_then (op.Pq s o) (Route s)

-- a line that takes messages until there is none
abbrev pub settle : Work
settle = with_then (op.Take 0) Take

-- a line that settles, and then routes the notices of a source that are outstanding, and settles after each; then it asks whether the source is quiet
abbrev pub sync : ℕ → Work
sync s = with_then (op.Take 0) (Sync s)

-- a line that settles, and then does so for each of so many sources, rising: it routes the notices that are outstanding, and settles after each
abbrev pub drain : ℕ → Work
drain sources = with_then (op.Take 0) (Drain 0 sources)

-- a migration of so many sources
abbrev pub migrate : ℕ → Work
migrate sources = Migrate (Masks 0 sources)

-- from a start record, the next operation of a line after an account and the entries that the line has made, the newest first
abbrev pub next_op : Work → Start → List Entry → List Entry → Option Op
next_op (Simple w) z before part = next_step w z before part
next_op (Migrate m) z before part = migrating (migration_at (sources_of m) part) z (part ++ before) (last_outcome part)

-- each entry after an account is of the operation that the line made next
abbrev pub AreSteps : Work → Start → List Entry → List Entry → Type 0
AreSteps w z before [] = Unit {0}
AreSteps w z before (x ∷ part) = AreSteps w z before part × (next_op w z before part ≡ Some x.op)

-- a line that has made entries is now as it was when it was read, but for its place, or for where it is in a migration
abbrev pub HasMoved : Work → Work → Start → List Entry → List Entry → Type 0
HasMoved (Simple now) (Simple w) z before part = (now ≡ at_place (place_of now.then) w) × HasComeTo now.then z before part
HasMoved (Migrate now) (Migrate m) z before part = (as_told now ≡ migration_at (sources_of m) part) × HasDrained now (outstanding z (part ++ before))
HasMoved _ _ z before part = ⊥

-- the line is now as it was when it was read, but for what its entries tell, once it has made some
abbrev pub IsMoved : Work → Work → Start → List Entry → List Entry → Type 0
IsMoved now w z before [] = now ≡ w
IsMoved now w z before (x ∷ part) = HasMoved now w z before (x ∷ part)

-- the line is now where its entries tell, which are its first ones
abbrev pub IsAt : Work → Work → Start → List Entry → List Entry → Type 0
IsAt now w z before part = IsMoved now w z before part × AreSteps w z before part

-- this is the outcome of the last entry that a line has made, if it has made one
abbrev pub IsLast : List Entry → Option Outcome → Type 0
IsLast part last = last ≡ last_outcome part

-- what a line still has to do at most by the outcome of its last operation, if any, beside what the burden counts
abbrev pub left : Work → Option Outcome → ℕ
left (Simple w) last = steps_left w last
left (Migrate m) last = migration_left m last

-- what a line still has to do, by the outcome of its last operation, if any, and the burden of the account. Each operation brings it
-- down: a take that finds a message and a route that routes a notice bring the burden down, of which each unit stands for two
-- operations, since each route is followed by a take that may find nothing; any other operation is counted as 10, and raises the burden by 4 at most
abbrev pub load : Work → Option Outcome → ℕ → ℕ
load w last b = 2 * b + left w last

-- each legal entry of an operation brings the load of its line down, where escalations end: no account may begin with some that don't
abbrev pub Falls : Work → Work → Option Outcome → Start → List Entry → Op → Type 0
Falls old new last z h o =
    IsFitStart z → (x : Entry) → x.op ≡ o → IsLegal z (x ∷ h) →
    load new (Some x.outcome) (burden z (x ∷ h)) < load old last (burden z h)

-- each operation that a line may make is valid on a board
abbrev pub HasValidSteps : Board → Work → Type 0
HasValidSteps b (Simple w) = WithThen b w.first w.then
HasValidSteps b (Migrate m) = sources_of m ≤ b.limits.sources

-- the sources that a line asks for are below a number
abbrev pub AsksBelow : ℕ → Work → Type 0
AsksBelow n (Simple w) = StepsAskBelow n w.then
AsksBelow n (Migrate m) = sources_of m ≤ n
