use Rattle.xv_model.proofs.MigrationLaws.{each_tells_old_pairs, each_queue_goes_on, each_state_goes_on}
use Rattle.xv_model.proofs.laws.migrations.Goals as goal

pub returns-clause-old_pairs : goal.returns-clause-old_pairs
returns-clause-old_pairs c = each_tells_old_pairs

pub returns-clause-queues : goal.returns-clause-queues
returns-clause-queues c = each_queue_goes_on

pub returns-clause-states : goal.returns-clause-states
returns-clause-states c = each_state_goes_on
