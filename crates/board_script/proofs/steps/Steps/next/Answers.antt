use Rattle.std.proofs.Common.{Some, ◌∙◌, ap}
use Rattle.board_script.specs.Steps.{settling}
use Rattle.board_script.proofs.StepLines.{sync_says_valid}
use Rattle.board_script.proofs.steps.Steps.next.Goals as goal

pub returns-in-Sync-clause-valid : goal.returns-in-Sync-clause-valid
returns-in-Sync-clause-valid g c =
    sync_says_valid c.args.self.now.first c.args.self.now.then c.in-Sync.s c.out.result c.args.outcome.now c.settling.result c.in-Sync.is
    (c.settling.ensures ∙ ap (λ o. settling (Some o) c.args.outcome.now) c.resting.ensures)
