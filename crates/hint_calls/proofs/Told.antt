-- What accepted arguments tell an END, and what that makes of the ENDs.
use Rattle.std.proofs.Common.{ℕ, ◌≡◌, ◌==◌, ◌&&◌, not, Bool, true, false, if◌then◌else◌, Some, None, refl, sym, subst}
use Rattle.std.proofs.lemmas.Bool.{and_parts, lt-ltb}
use Rattle.std.specs.Option.{option_map_or}
use Rattle.xv_model.specs.declared.hypercalls.arguments.SetQueueConfigArgs.{SetQueueConfigArgs}
use Rattle.xv_model.specs.declared.hypercalls.Call.TheVariants.{SetQueueConfig}
use Rattle.xv_model.specs.declared.board.Board.{Board}
use Rattle.xv_model.specs.declared.operations.EndConfig.{EndConfig}
use Rattle.xv_model.specs.board.Validity.{valid_config, is_escalation_end}
use Rattle.xv_model.specs.call.Arguments.{end_of}
use Rattle.xv_model.specs.end.Descriptors.{config_told}
use Rattle.xv_model.specs.end.Flags.{escalates}
use Rattle.xv_model.proofs.ToldConfigs.{told_may_be}
use Rattle.end_queue.specs.declared.ends.EndRecord.{EndRecord}
use Rattle.end_queue.specs.Ends.{configured}
use Rattle.hint_calls.specs.Accepted.{IsQueueAccepted}
use Rattle.hint_calls.specs.Changes.{end_by_call}

-- the END of its target and priority is told
pub told_at : (c : SetQueueConfigArgs) (j : ℕ) (r : EndRecord) →
    (if end_of c.target c.priority == j then configured (config_told c) else r) ≡ end_by_call (Some (SetQueueConfig c)) j r
told_at c j r = by (end_of c.target c.priority == j)
  where
    by : (same : Bool) → (if same then configured (config_told c) else r) ≡ option_map_or configured (if same then Some (config_told c) else None) r
    by true = refl
    by false = refl

-- what it is told is valid
pub told_is_valid : (b : Board) (c : SetQueueConfigArgs) (config : EndConfig) → config ≡ config_told c → IsQueueAccepted b c → valid_config b config ≡ true
told_is_valid b c config is ok =
    let told = config_told c in
    let may = told_may_be b 0 c (lt-ltb c.target b.limits.processors ok.target) ok.priority ok.queue in
    subst (λ k. valid_config b k ≡ true) (sym is) (and_parts (valid_config b told) (not (escalates told && is_escalation_end 0)) may).0
