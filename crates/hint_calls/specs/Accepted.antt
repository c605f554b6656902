-- What the arguments of a call that is accepted are.
use Rattle.std.specs.Prelude.{◌≡◌, ◌<◌, ◌||◌, true, false}
use Rattle.xv_model.specs.declared.board.Board.{Board}
use Rattle.xv_model.specs.declared.hypercalls.arguments.SetSourceConfigArgs.{SetSourceConfigArgs}
use Rattle.xv_model.specs.declared.hypercalls.arguments.SetQueueConfigArgs.{SetQueueConfigArgs}
use Rattle.xv_model.specs.board.Validity.{is_queue}
use Rattle.xv_model.specs.call.Checks.{is_priority}
use Rattle.xv_model.specs.source.Eas.{masks}
use Rattle.xv_model.specs.end.Descriptors.{resets}

-- the source is one of the board's, and so are the target and the priority, where they are looked at
pub record IsSourceAccepted (b : Board) (c : SetSourceConfigArgs) : Type 0 where
  pub source : c.lisn < b.limits.sources
  pub target : masks c ≡ false → c.target < b.limits.processors
  pub priority : masks c ≡ false → is_priority c.priority ≡ true

-- the target and the priority are those of one of the board's ENDs, and so is the queue, where it is looked at
pub record IsQueueAccepted (b : Board) (c : SetQueueConfigArgs) : Type 0 where
  pub target : c.target < b.limits.processors
  pub priority : is_priority c.priority ≡ true
  pub queue : (resets c || is_queue b c.address c.size) ≡ true
