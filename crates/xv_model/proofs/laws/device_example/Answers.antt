use Rattle.xv_model.proofs.DeviceExample.{answer_in_turn}
use Rattle.xv_model.proofs.laws.device_example.Goals as goal

pub returns : goal.returns
returns c = record { example = answer_in_turn }
