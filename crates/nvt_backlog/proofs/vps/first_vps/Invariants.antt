use Rattle.std.proofs.Common.{◌≡◌, length}
use Rattle.nvt_backlog.specs.Vps.{AreFirst}
use Rattle.nvt_backlog.proofs.vps.first_vps.Given as goal

abbrev pub invariant-loop-v : goal.invariant-loop-v
invariant-loop-v l = (length l.vps.items ≡ l.v) × AreFirst l.board l.vps.items
