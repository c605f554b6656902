use Rattle.std.proofs.Common.{sym, ◌∙◌, ap, arith}
use Rattle.thread_context.specs.Priorities.{least_pending}
use Rattle.thread_context.proofs.Pending.{least_of_zero, least_leading}
use Rattle.thread_context.proofs.priorities.least_pending.Goals as goal

pub returns-then-ipb-eq0-clause-value : goal.returns-then-ipb-eq0-clause-value
returns-then-ipb-eq0-clause-value c = sym (ap least_pending c.if-ipb-eq0.true ∙ least_of_zero)

pub returns-else-ipb-eq0-clause-value : goal.returns-else-ipb-eq0-clause-value
returns-else-ipb-eq0-clause-value c = sym (least_leading c.args.ipb (omega arith) (omega arith))
