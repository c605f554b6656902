-- The example of the KVM device: each answer is computed.
use Rattle.std.proofs.Common.{refl}
use Rattle.xv_model.specs.laws.DeviceExample.{AnswerInTurn}

pub answer_in_turn : AnswerInTurn
answer_in_turn = record {
  sources_and_queues = record { valid_ops = refl; outcomes = refl };
  processors_and_states = record { valid_ops = refl; outcomes = refl };
  a_queue_again = record { valid_ops = refl; outcomes = refl };
  a_late_processor = record { valid_ops = refl; outcomes = refl };
  a_line_that_is_up = record { valid_ops = refl; outcomes = refl };
}
