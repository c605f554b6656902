use Rattle.std.proofs.Common.{ℕ, ◌<◌}
use Rattle.presenter.specs.Contexts.{Uses}
use Rattle.presenter.proofs.moves.user.Given as goal

abbrev pub invariant-loop-v : goal.invariant-loop-v
invariant-loop-v l = (w : ℕ) → w < l.v → ¬ Uses l.vps.vps w l.t
