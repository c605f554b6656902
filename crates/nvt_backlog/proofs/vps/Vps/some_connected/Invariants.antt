use Rattle.std.proofs.Common.{◌≡◌}
use Rattle.xv_model.specs.device.Checks.{some_below}
use Rattle.nvt_backlog.specs.Vps.{vp_in}
use Rattle.nvt_backlog.proofs.vps.Vps.some_connected.Given as goal

-- one of the processors so far is connected, or none is
abbrev pub invariant-loop-v : goal.invariant-loop-v
invariant-loop-v l = l.some ≡ some_below (λ v. (vp_in l.fn.self.vps v).valid) l.v
