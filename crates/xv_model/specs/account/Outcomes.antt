-- Well-formed outcomes. What belongs here is what each operation's outcome keeps to whatever account it answers: its pairs are pairs, and its reply has
-- the outputs that its call may have. A number is one of its field's type anyway.
use Rattle.std.specs.Prelude.{◌<◌, ◌≤◌}
use Rattle.xv_model.specs.declared.outcomes.Outcome.{Outcome}
use Rattle.xv_model.specs.declared.outcomes.Outcome.TheVariants as out

-- a reply has room for four outputs
abbrev pub IsWellFormed : Outcome → Type 0
IsWellFormed (out.Pq old new forward) = (old < 4) × (new < 4)
IsWellFormed (out.EndPq old new) = (old < 4) × (new < 4)
IsWellFormed (out.Reply reply) = reply.outs ≤ 4
IsWellFormed _ = Unit {0}
