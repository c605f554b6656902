-- What stays in range.
use Rattle.std.proofs.Common.{◌≡◌, ◌<◌, Bool, true, false, if◌then◌else◌, arith}
use Rattle.xv_model.specs.declared.board.Board.{Board}
use Rattle.xv_model.specs.declared.operations.EndConfig.{EndConfig}
use Rattle.xv_model.specs.board.Validity.{valid_config}
use Rattle.xv_model.specs.end.Flags.{is_valid}
use Rattle.end_queue.specs.Accounts.{IsEnd}
use Rattle.end_queue.specs.Ends.{configured}

small_first : (valid : Bool) → (if valid then 0 else 1) < 4
small_first true = omega arith
small_first false = omega arith

-- an END that is told a valid configuration
pub configured_in_range : (b : Board) (c : EndConfig) → valid_config b c ≡ true → IsEnd b (configured c)
configured_in_range b c v = record { config = v; esn = small_first (is_valid c); ese = small_first (is_valid c) }
