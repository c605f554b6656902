-- The lines of a migration: the operations that they make. The first half masks the sources that are initialised, and drains all; the second half sets
-- the pairs again that were there before.
use Rattle.std.specs.Prelude.{ℕ, ◌≡◌, ◌+◌, ◌*◌, ◌-◌, List, [], ◌∷◌, Option, Some, None, option_and_then}
use Rattle.std.specs.Option.{option_map_or}
use Rattle.xv_model.specs.declared.operations.PqOp.TheVariants.{Set}
use Rattle.xv_model.specs.declared.operations.Op.{Op}
use Rattle.xv_model.specs.declared.operations.Op.TheVariants as op
use Rattle.xv_model.specs.declared.outcomes.Outcome.{Outcome}
use Rattle.xv_model.specs.declared.entries.Entry.{Entry}
use Rattle.xv_model.specs.account.Start.{Start}
use Rattle.xv_model.specs.source.Notices.{outstanding}
use Rattle.xv_model.specs.source.Pairs.{old_pair}
use Rattle.board_script.specs.declared.migrating.Migration.{Migration}
use Rattle.board_script.specs.declared.migrating.Migration.TheVariants.{Masks, Drains, Restores}
use Rattle.board_script.specs.Steps.{first_from, resets, settling, settling_left, HasPassed}

-- how many sources a migration has
abbrev pub sources_of : Migration → ℕ
sources_of (Masks from n) = n
sources_of (Drains from n) = n
sources_of (Restores from n) = n

-- a migration after one more operation: behind the source whose pair it has set; it drains from the first operation on that sets none, and its second
-- half begins with the first pair that it sets after that
abbrev pub moved : Migration → Op → Migration
moved (Masks from n) (op.Pq s o) = Masks (s + 1) n
moved (Masks from n) _ = Drains 0 n
moved (Drains from n) (op.Pq s o) = Restores (s + 1) n
moved (Drains from n) _ = Drains from n
moved (Restores from n) (op.Pq s o) = Restores (s + 1) n
moved (Restores from n) _ = Restores from n

-- where a migration of so many sources is after its entries
abbrev pub migration_at : ℕ → List Entry → Migration
migration_at n [] = Masks 0 n
migration_at n (x ∷ part) = moved (migration_at n part) x.op

-- the first source from one on, of so many, that is initialised
abbrev pub next_initialised : Start → List Entry → ℕ → ℕ → Option ℕ
next_initialised z h from n = first_from (resets z h) from (n - from)

-- the first source from one on, of so many, with a notice that is outstanding
abbrev pub next_outstanding : Start → List Entry → ℕ → ℕ → Option ℕ
next_outstanding z h from n = first_from (outstanding z h) from (n - from)

-- the pair of a source is set to 01; behind the last source the oldest message is taken
abbrev pub masking : Option ℕ → Op
masking (Some s) = op.Pq s (Set 1)
masking None = op.Take 0

-- the pair is set that a source had before it was set last, if there is such a source
abbrev pub restoring : Start → List Entry → Option ℕ → Option Op
restoring z h (Some s) = Some (op.Pq s (Set (old_pair z h s)))
restoring z h None = None

-- a notice of a source is routed, if there is such a source, and else this is done, if anything
abbrev pub routing_or : Option Op → Option ℕ → Option Op
routing_or rest (Some s) = Some (op.Route s)
routing_or rest None = rest

-- what a migration that drains does once it has settled
abbrev pub draining_on : Start → List Entry → ℕ → ℕ → Option Op
draining_on z h from n = routing_or (restoring z h (next_initialised z h 0 n)) (next_outstanding z h from n)

-- the operation of a migration after an account, by the outcome of its last one, if it has made one
abbrev pub migrating : Migration → Start → List Entry → Option Outcome → Option Op
migrating (Masks from n) z h last = Some (masking (next_initialised z h from n))
migrating (Drains from n) z h last = option_and_then (settling (draining_on z h from n)) last
migrating (Restores from n) z h last = restoring z h (next_initialised z h from n)

-- a migration, as its entries tell where it is: while it drains they don't tell which sources it has passed
abbrev pub as_told : Migration → Migration
as_told (Drains from n) = Drains 0 n
as_told m = m

-- no source that a migration has passed while it drains has a notice outstanding
abbrev pub HasDrained : Migration → (ℕ → ℕ) → Type 0
HasDrained (Drains from n) notices = HasPassed notices 0 from
HasDrained _ notices = Unit {0}

-- a migration that drains passes sources without notices, from the first one on
abbrev pub PassesOn : (ℕ → ℕ) → Migration → Migration → Type 0
PassesOn notices (Drains from n) (Drains to m) = HasPassed notices from to
PassesOn notices _ (Drains to m) = to ≡ 0
PassesOn notices _ _ = Unit {0}

-- how a migration goes on with an operation
pub record MovesOn (notices : ℕ → ℕ) (old : Migration) (o : Op) (new : Migration) : Type 0 where
  pub told : as_told new ≡ moved (as_told old) o
  pub passes : PassesOn notices old new

-- a migration of so many sources has set a pair again, and is behind its source
abbrev pub IsBehind : ℕ → Op → Migration → Type 0
IsBehind n (op.Pq s o) m = m ≡ Restores (s + 1) n
IsBehind n _ m = ⊥

-- what a migration still has to do at most after one with this outcome, beside what the burden counts
abbrev pub migrating_left : Migration → Outcome → ℕ
migrating_left (Masks from n) outcome = 10 * (n - from) + (20 + 10 * n)
migrating_left (Drains from n) outcome = settling_left outcome + 10 * n
migrating_left (Restores from n) outcome = 10 * (n - from)

-- the same by the outcome of its last operation, if any
abbrev pub migration_left : Migration → Option Outcome → ℕ
migration_left m last = option_map_or (migrating_left m) last (30 + 20 * sources_of m)
