use Rattle.xv_model.proofs.QueueExample.{reads_two_queues}
use Rattle.xv_model.proofs.laws.queue_example.Goals as goal

pub returns : goal.returns
returns c = record { example = reads_two_queues }
