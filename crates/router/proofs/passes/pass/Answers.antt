use Rattle.std.proofs.Common.{ℕ, ◌≡◌, ◌&&◌, if◌then◌else◌, true, ap, sym, subst, rules}
use Rattle.xv_model.specs.declared.operations.EndConfig.{EndConfig}
use Rattle.xv_model.specs.source.PqTable.{trigger_row}
use Rattle.xv_model.specs.end.EventStates.{asks_state}
use Rattle.xv_model.specs.end.Flags.{is_valid}
use Rattle.end_escalate.specs.Decisions.{state_after}
use Rattle.end_queue.specs.Ends.{end_in}
use Rattle.router.proofs.Passed.{passed}
use Rattle.router.proofs.passes.pass.Goals as goal

pub returns-clause-ends : goal.returns-clause-ends
returns-clause-ends c =
    let r = end_in c.args.ends.now c.args.e in
    let valid : is_valid r.config ≡ true = search rules in
    let is = subst (λ (n : ℕ). state_after c.decide-step.result n ≡ (if is_valid r.config && asks_state r.config then (trigger_row n).pair else n)) c.esn.ensures.value
    (c.decide-step.ensures.state r.config (ap (λ (k : EndConfig). k.flags) (sym c.config.ensures))) in
    passed c.args.ends.now c.go_on.new.ends c.write-wrote.new.ends c.args.e (state_after c.decide-step.result r.esn) c.requires.end valid is c.go_on.ensures.ends c.write-wrote.ensures.ends
