use Rattle.xv_model.proofs.QueueLaws.{each_reads_next, each_reads_as_written}
use Rattle.xv_model.proofs.laws.queues.Goals as goal

pub returns-clause-reads_next : goal.returns-clause-reads_next
returns-clause-reads_next c = each_reads_next

pub returns-clause-as_written : goal.returns-clause-as_written
returns-clause-as_written c = each_reads_as_written
