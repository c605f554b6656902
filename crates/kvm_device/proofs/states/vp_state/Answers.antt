use Rattle.std.proofs.Common.{pos, ◌≡◌, true, rules, sym, ◌∙◌, subst, ap}
use Rattle.xv_model.specs.call.Accepted.{is_success}
use Rattle.xv_model.specs.processor.Phases.{is_saved}
use Rattle.nvt_backlog.specs.Accounts.{IsVp}
use Rattle.nvt_backlog.specs.Vps.{vp_in}
use Rattle.nvt_backlog.specs.declared.vp.Vp.{Vp}
use Rattle.kvm_device.proofs.Shown.{state_shown}
use Rattle.kvm_device.proofs.states.vp_state.Goals as goal

pub returns-clause-outcome : goal.returns-clause-outcome
returns-clause-outcome c = λ z h is.
    let v = c.args.v in
    let before : vp_in c.args.vps.now.vps v ≡ c.get-vp.result = search rules in
    let code : c.state_code-code.result ≡ pos 0 = search rules in
    let saved = c.state_code-code.ensures.saved (ap is_success code) in
    state_shown c.get-vp.result z h v (search rules) (search rules) (subst (λ vp. IsVp vp z h v) before is)
    (sym (c.state_code-code.ensures.value z h is.valid is.at) ∙ code) (subst (λ (vp : Vp). is_saved vp.phase ≡ true) before saved)
