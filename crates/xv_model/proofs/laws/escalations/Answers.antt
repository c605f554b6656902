use Rattle.xv_model.proofs.EscalationLaws.{undelivered_escalates, silent_escalates, escalation_runs}
use Rattle.xv_model.proofs.laws.escalations.Goals as goal

pub returns-clause-undelivered : goal.returns-clause-undelivered
returns-clause-undelivered c = undelivered_escalates

pub returns-clause-silent : goal.returns-clause-silent
returns-clause-silent c = silent_escalates

pub returns-clause-runs : goal.returns-clause-runs
returns-clause-runs c = escalation_runs
