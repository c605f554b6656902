-- What accepted fields make of the ENDs.
use Rattle.std.proofs.Common.{ℕ, ◌≡◌, ◌==◌, Bool, true, false, if◌then◌else◌, Some, None, refl}
use Rattle.std.specs.Option.{option_map_or}
use Rattle.xv_model.specs.declared.kvm.arguments.EqArgs.{EqArgs}
use Rattle.xv_model.specs.declared.kvm.Setting.TheVariants.{EqConfig}
use Rattle.xv_model.specs.call.Arguments.{end_of}
use Rattle.xv_model.specs.end.Descriptors.{config_set}
use Rattle.end_queue.specs.declared.ends.EndRecord.{EndRecord}
use Rattle.end_queue.specs.Ends.{configured}
use Rattle.kvm_device.specs.Changes.{end_by_setting}

-- the END of their server and priority is set
pub set_at : (c : EqArgs) (j : ℕ) (r : EndRecord) →
    (if end_of c.id.server c.id.priority == j then configured (config_set c) else r) ≡ end_by_setting (Some (EqConfig c)) j r
set_at c j r = by (end_of c.id.server c.id.priority == j)
  where
    by : (same : Bool) → (if same then configured (config_set c) else r) ≡ option_map_or configured (if same then Some (config_set c) else None) r
    by true = refl
    by false = refl
