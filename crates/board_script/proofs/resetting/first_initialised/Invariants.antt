use Rattle.std.proofs.Common.{◌-◌, ◌≡◌, List}
use Rattle.xv_model.specs.declared.entries.Entry.{Entry}
use Rattle.xv_model.specs.account.Start.{Start}
use Rattle.board_script.specs.Steps.{first_from, resets}
use Rattle.board_script.proofs.resetting.first_initialised.Given as goal

abbrev pub invariant-loop-s : goal.invariant-loop-s
invariant-loop-s g l =
    (z : Start) (h : List Entry) → g.N.Known.knows l.known z h →
    first_from (resets z h) l.s (l.sources - l.s) ≡ first_from (resets z h) l.from (l.sources - l.from)

abbrev pub decreases-loop-s : goal.decreases-loop-s
decreases-loop-s g l = l.sources - l.s
