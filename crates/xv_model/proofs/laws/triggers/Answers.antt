use Rattle.xv_model.proofs.TriggerLaws.{numbered_in_order, each_accounted, comes_again}
use Rattle.xv_model.proofs.laws.triggers.Goals as goal

pub returns-clause-numbered_in_order : goal.returns-clause-numbered_in_order
returns-clause-numbered_in_order c = numbered_in_order

pub returns-clause-each_accounted : goal.returns-clause-each_accounted
returns-clause-each_accounted c = each_accounted

pub returns-clause-comes_again : goal.returns-clause-comes_again
returns-clause-comes_again c = comes_again
