-- The settings of the KVM device's attributes that were accepted.
use Rattle.std.specs.Prelude.{ℕ, if◌then◌else◌, Option, Some, None, option_and_then}
use Rattle.xv_model.specs.declared.kvm.Setting.{Setting}
use Rattle.xv_model.specs.declared.kvm.Setting.TheVariants as setting
use Rattle.xv_model.specs.declared.operations.Op.{Op}
use Rattle.xv_model.specs.declared.operations.Op.TheVariants as op
use Rattle.xv_model.specs.declared.outcomes.Outcome.{Outcome}
use Rattle.xv_model.specs.declared.outcomes.Outcome.TheVariants as out
use Rattle.xv_model.specs.call.Accepted.{is_success}
use Rattle.xv_model.specs.device.Attributes.{setting_by}

-- the setting, where an entry is one that was accepted
abbrev pub setting_in : Op → Outcome → Option Setting
setting_in (op.AttrSet group number value) (out.Code code) = if is_success code then setting_by group number value else None
setting_in _ _ = None

-- the number of servers that a setting gives
abbrev pub servers_set : Setting → Option ℕ
servers_set (setting.NrServers n) = Some n
servers_set _ = None

-- the number of servers, where an entry sets it
abbrev pub servers_in : Op → Outcome → Option ℕ
servers_in o u = option_and_then servers_set (setting_in o u)
