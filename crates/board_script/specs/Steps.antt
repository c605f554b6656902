-- Lines of an operation and of what it goes on with: the operations that they make.
use Rattle.std.specs.Prelude.{ℕ, zero, suc, ◌≤◌, ◌≡◌, ◌+◌, ◌*◌, ◌<◌, ◌∷◌, ◌++◌, ◌-◌, ◌==◌, Bool, true, false, if◌then◌else◌, List, [], Option, Some, None}
use Rattle.std.specs.Option.{option_map_or}
use Rattle.xv_model.specs.declared.board.Board.{Board}
use Rattle.xv_model.specs.declared.operations.Op.{Op}
use Rattle.xv_model.specs.declared.operations.PqOp.TheVariants.{Set}
use Rattle.xv_model.specs.declared.operations.PqOp.TheVariants as pqs
use Rattle.xv_model.specs.declared.operations.AttrValue.TheVariants.{Number}
use Rattle.xv_model.specs.declared.operations.Op.TheVariants as op
use Rattle.xv_model.specs.declared.outcomes.Outcome.{Outcome}
use Rattle.xv_model.specs.declared.outcomes.Outcome.TheVariants as out
use Rattle.xv_model.specs.declared.entries.Entry.{Entry}
use Rattle.xv_model.specs.account.Start.{Start}
use Rattle.xv_model.specs.source.Notices.{outstanding}
use Rattle.xv_model.specs.source.Eas.{initialised}
use Rattle.xv_model.specs.call.Accepted.{is_success}
use Rattle.xv_model.specs.route.Flight.{taken_in}
use Rattle.xv_model.specs.laws.Triggers.{is_forwarded}
use Rattle.xv_model.specs.board.Validity.{valid}
use Rattle.board_script.specs.declared.steps.Steps.{Steps}
use Rattle.board_script.specs.declared.steps.Then.{Then}
use Rattle.board_script.specs.declared.steps.Then.TheVariants.{Done, Route, Take, Sync, Drain, Esb, Reset, Init}

-- whether a take with this outcome found a message
abbrev pub has_found : Outcome → Bool
has_found outcome = option_map_or (λ i. true) (taken_in (op.Take 0) outcome) false

-- whether an outcome is the answer to a call that was accepted
abbrev pub is_accepted : Outcome → Bool
is_accepted (out.Reply reply) = is_success reply.code
is_accepted (out.Code code) = is_success code
is_accepted _ = false

-- the operation of a line that settles, after one with this outcome: takes until there is no message, and then this one, if any; none
-- after a call that was refused
abbrev pub settling : Option Op → Outcome → Option Op
settling o out.NoMessage = o
settling o out.Quiet = None
settling o (out.Busy notices messages) = None
settling o (out.Reply reply) = if is_success reply.code then Some (op.Take 0) else None
settling o (out.Code code) = if is_success code then Some (op.Take 0) else None
settling o _ = Some (op.Take 0)

-- what a line that brings a source to rest does once it has settled, by how many of the source's notices are outstanding
abbrev pub resting : ℕ → ℕ → Op
resting s notices = if notices == 0 then op.Quiet s else op.Route s

-- the first number from s on, of so many, at which a count isn't 0
abbrev pub first_from : (ℕ → ℕ) → ℕ → ℕ → Option ℕ
first_from count s zero = None
first_from count s (suc n) = if count s == 0 then first_from count (suc s) n else Some s

-- what a line that drains does once it has settled, by the first source with a notice that is outstanding
abbrev pub draining : Option ℕ → Option Op
draining None = None
draining (Some s) = Some (op.Route s)

-- how many pairs of a source a reset sets: that of a source that is initialised
abbrev pub resets : Start → List Entry → ℕ → ℕ
resets z h s = if initialised z h s then 1 else 0

-- the pair of a source is set to 01, if there is such a source
abbrev pub setting_off : Option ℕ → Option Op
setting_off None = None
setting_off (Some s) = Some (op.Pq s (Set 1))

-- the operation of a line that resets, after one with this outcome: this one, if any; none after a call that was refused
abbrev pub resetting : Option Op → Outcome → Option Op
resetting o (out.Reply reply) = if is_success reply.code then o else None
resetting o (out.Code code) = if is_success code then o else None
resetting o _ = o

-- the number behind a source whose pair is set
abbrev pub behind : Op → ℕ
behind (op.Pq s o) = suc s
behind _ = 0

-- the first source that a line which resets still looks at, after its entries: the one behind the source that it has set last. The first
-- entry is the call
abbrev pub reset_place : List Entry → ℕ
reset_place [] = 0
reset_place (x ∷ []) = 0
reset_place (x ∷ (y ∷ part)) = behind x.op

-- the operation of a line after an account and one with this outcome: the route of what an operation on a word forwarded, or the
-- take of one more message where one was found, or what brings sources to rest; after an accepted call the access to a page, the
-- initialisation of a source, or the pair of the next source that is initialised, from this place on
abbrev pub op_after : Then → ℕ → Start → List Entry → Outcome → Option Op
op_after Done place z h outcome = None
op_after (Route s) place z h outcome = if is_forwarded outcome then Some (op.Route s) else None
op_after Take place z h outcome = if has_found outcome then Some (op.Take 0) else None
op_after (Sync s) place z h outcome = settling (Some (resting s (outstanding z h s))) outcome
op_after (Drain from sources) place z h outcome = settling (draining (first_from (outstanding z h) 0 sources)) outcome
op_after (Esb s page offset store) place z h outcome = if is_accepted outcome then Some (op.Esb s page offset store) else None
op_after (Init s asserted) place z h outcome = if is_accepted outcome then Some (op.Pq s (pqs.Init asserted)) else None
op_after (Reset from sources) place z h outcome = resetting (setting_off (first_from (resets z h) place (sources - place))) outcome

-- the same of a line that knows its place, and where it drains looks at no source before it
abbrev pub op_from_place : Then → Start → List Entry → Outcome → Option Op
op_from_place (Drain from sources) z h outcome = settling (draining (first_from (outstanding z h) from (sources - from))) outcome
op_from_place (Reset from sources) z h outcome = op_after (Reset from sources) from z h outcome
op_from_place t z h outcome = op_after t 0 z h outcome

-- the operation of a line after an account, by the place of one that resets, and by the outcome of its last one, if it has made one
abbrev pub op_by : Steps → ℕ → Start → List Entry → Option Outcome → Option Op
op_by w place z h None = Some w.first
op_by w place z h (Some outcome) = op_after w.then place z h outcome

-- the outcome of the last entry, if there is one
abbrev pub last_outcome : List Entry → Option Outcome
last_outcome [] = None
last_outcome (x ∷ part) = Some x.outcome

-- from a start record, the next operation of a line after an account and the entries that the line has made, the newest first
abbrev pub next_step : Steps → Start → List Entry → List Entry → Option Op
next_step w z before part = op_by w (reset_place part) z (part ++ before) (last_outcome part)

-- the place of a line that drains or resets: it looks at no source before it
abbrev pub place_of : Then → ℕ
place_of (Drain from sources) = from
place_of (Reset from sources) = from
place_of _ = 0

-- how a line that is at another place goes on
abbrev pub then_from : ℕ → Then → Then
then_from place (Drain from sources) = Drain place sources
then_from place (Reset from sources) = Reset place sources
then_from place t = t

-- the line at another place
abbrev pub at_place : ℕ → Steps → Steps
at_place place w = record { first = w.first; then = then_from place w.then }

-- the second place isn't before the first, and no source from the first up to the second has a notice outstanding
pub record HasPassed (notices : ℕ → ℕ) (first second : ℕ) : Type 0 where
  pub later : first ≤ second
  pub none : (s : ℕ) → first ≤ s → s < second → notices s ≡ 0

-- how a line goes on with an operation from its next place: where it drains, it passes sources without notices; where it resets, it has come
-- behind the source that it sets
abbrev pub MovesTo : Then → ℕ → Start → List Entry → Op → Type 0
MovesTo (Drain from sources) place z h o = HasPassed (outstanding z h) from place
MovesTo (Reset from sources) place z h o = place ≡ behind o
MovesTo _ place z h o = Unit {0}

-- where a line is after an account and its entries: where it drains, no source before its place has a notice outstanding; where it resets, its
-- place is the one that its entries tell
abbrev pub HasComeTo : Then → Start → List Entry → List Entry → Type 0
HasComeTo (Drain from sources) z before part = HasPassed (outstanding z (part ++ before)) 0 from
HasComeTo (Reset from sources) z before part = from ≡ reset_place part
HasComeTo _ z before part = Unit {0}

-- what a line that settles still has to do at most, beside what the burden counts
abbrev pub settling_left : Outcome → ℕ
settling_left out.NoMessage = 10
settling_left out.Quiet = 0
settling_left (out.Busy notices messages) = 0
settling_left _ = 11

-- what a line still has to do at most after one with this outcome, beside what the burden counts
abbrev pub left_after : Then → Outcome → ℕ
left_after Done outcome = 0
left_after (Route s) outcome = if is_forwarded outcome then 10 else 0
left_after Take outcome = if has_found outcome then 10 else 0
left_after (Sync s) outcome = settling_left outcome
left_after (Drain from sources) outcome = settling_left outcome
left_after (Esb s page offset store) outcome = if is_accepted outcome then 10 else 0
left_after (Init s asserted) outcome = if is_accepted outcome then 10 else 0
left_after (Reset from sources) outcome = 10 * (sources - from)

-- the same when it begins
abbrev pub first_left : Then → ℕ
first_left Done = 10
first_left (Reset from sources) = 20 + 10 * sources
first_left _ = 20

-- the same by the outcome of its last operation, if any
abbrev pub steps_left : Steps → Option Outcome → ℕ
steps_left w last = option_map_or (left_after w.then) last (first_left w.then)

-- a line that brings sources to rest begins with a take of the oldest message, with a hypercall, or with an attribute that is set to a number
abbrev pub BeginsRest : Op → Type 0
BeginsRest (op.Take i) = i ≡ 0
BeginsRest (op.Hcall number args) = Unit {0}
BeginsRest (op.AttrSet group number (Number value)) = Unit {0}
BeginsRest _ = ⊥

-- what a line goes on with is valid on a board, as its first operation is
abbrev pub WithThen : Board → Op → Then → Type 0
WithThen b first Done = valid b first ≡ true
WithThen b first (Route s) = (valid b first ≡ true) × (valid b (op.Route s) ≡ true)
WithThen b first Take = valid b first ≡ true
WithThen b first (Sync s) = BeginsRest first × (valid b (op.Route s) ≡ true)
WithThen b first (Drain from sources) = BeginsRest first × (sources ≤ b.limits.sources)
WithThen b first (Esb s page offset store) = (valid b first ≡ true) × (valid b (op.Esb s page offset store) ≡ true)
WithThen b first (Reset from sources) = (valid b first ≡ true) × (sources ≤ b.limits.sources)
WithThen b first (Init s asserted) = (valid b first ≡ true) × (valid b (op.Pq s (pqs.Init asserted)) ≡ true)

-- the sources whose notices a line asks for are below a number
abbrev pub StepsAskBelow : ℕ → Then → Type 0
StepsAskBelow n (Sync s) = s < n
StepsAskBelow n (Drain from sources) = sources ≤ n
StepsAskBelow n (Reset from sources) = sources ≤ n
StepsAskBelow n _ = Unit {0}
