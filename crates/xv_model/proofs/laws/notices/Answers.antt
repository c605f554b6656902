use Rattle.xv_model.proofs.FewMessages.{quiet_is_quiet, takes_are_few, messages_are_few}
use Rattle.xv_model.proofs.RouteLaws.{routed_in_order, once_forwarded}
use Rattle.xv_model.proofs.laws.notices.Goals as goal

pub returns-clause-routed_in_order : goal.returns-clause-routed_in_order
returns-clause-routed_in_order c = routed_in_order

pub returns-clause-once_forwarded : goal.returns-clause-once_forwarded
returns-clause-once_forwarded c = once_forwarded

pub returns-clause-quiet : goal.returns-clause-quiet
returns-clause-quiet c = quiet_is_quiet

pub returns-clause-few_takes : goal.returns-clause-few_takes
returns-clause-few_takes c = takes_are_few

pub returns-clause-few_messages : goal.returns-clause-few_messages
returns-clause-few_messages c = messages_are_few
