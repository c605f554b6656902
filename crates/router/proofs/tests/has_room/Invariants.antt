use Rattle.std.proofs.Common.{ℕ, ◌<◌}
use Rattle.end_queue.specs.Ends.{HasRoom, end_in}
use Rattle.router.proofs.tests.has_room.Given as goal

-- the ENDs so far have room
abbrev pub invariant-loop-e : goal.invariant-loop-e
invariant-loop-e l = (k : ℕ) → k < l.e → HasRoom (end_in l.tables.ends k)
