use Rattle.std.proofs.Common.{◌≡◌, ◌<◌, length, ◌∙◌, ap, subst, rules}
use Rattle.xv_model.specs.device.Checks.{some_below}
use Rattle.xv_model.specs.processor.Phases.{is_connected}
use Rattle.nvt_backlog.specs.Vps.{vp_in}
use Rattle.nvt_backlog.proofs.Connected.{some_below-agrees}
use Rattle.nvt_backlog.proofs.vps.Vps.some_connected.Goals as goal

pub returns-clause-account : goal.returns-clause-account
returns-clause-account c = λ z h same are.
    let vps = c.args.self.now.vps in
    let all : c.loop-v.some ≡ some_below (λ v. (vp_in vps v).valid) (length vps) = search rules in
    all ∙ some_below-agrees (λ v. (vp_in vps v).valid) (is_connected z h) (length vps) (λ v l. are v (subst (λ n. v < n) same l)) ∙ ap (some_below (is_connected z h)) same
