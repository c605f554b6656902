-- The attributes of the KVM device, and what they are set to (Linux's Documentation/virt/kvm/devices/xive.rst).
use Rattle.std.specs.Prelude.{ℕ, ◌==◌, if◌then◌else◌, Option, Some, None, option_and_then}
use Rattle.xv_model.specs.declared.kvm.TheConstants.{GRP_CTRL, CTRL_RESET, CTRL_EQ_SYNC, CTRL_NR_SERVERS, GRP_SOURCE, GRP_SOURCE_CONFIG, GRP_EQ_CONFIG, GRP_SOURCE_SYNC}
use Rattle.xv_model.specs.declared.kvm.Attribute.{Attribute}
use Rattle.xv_model.specs.declared.kvm.Attribute.TheVariants as attribute
use Rattle.xv_model.specs.declared.kvm.Setting.{Setting}
use Rattle.xv_model.specs.declared.kvm.Setting.TheVariants as setting
use Rattle.xv_model.specs.declared.operations.EqFields.{EqFields}
use Rattle.xv_model.specs.declared.operations.AttrValue.{AttrValue}
use Rattle.xv_model.specs.declared.operations.AttrValue.TheVariants.{Number, Queue}
use Rattle.xv_model.specs.device.Arguments.{eq_id, source_args, source_config_args}

-- the attribute of the device as a whole that a number names
abbrev pub control_of : ℕ → Option Attribute
control_of number =
    if number == CTRL_RESET then Some attribute.Reset
    else (if number == CTRL_EQ_SYNC then Some attribute.EqSync
    else (if number == CTRL_NR_SERVERS then Some attribute.NrServers else None))

-- the attribute that a group and a number name, where there is one
abbrev pub attribute_of : ℕ → ℕ → Option Attribute
attribute_of group number =
    if group == GRP_CTRL then control_of number
    else (if group == GRP_SOURCE then Some (attribute.Source number)
    else (if group == GRP_SOURCE_CONFIG then Some (attribute.SourceConfig number)
    else (if group == GRP_EQ_CONFIG then Some (attribute.EqConfig (eq_id number))
    else (if group == GRP_SOURCE_SYNC then Some (attribute.SourceSync number) else None))))

-- what a number sets an attribute to: each one but a queue
abbrev pub number_setting : Attribute → ℕ → Option Setting
number_setting attribute.Reset n = Some setting.Reset
number_setting attribute.EqSync n = Some setting.EqSync
number_setting attribute.NrServers n = Some (setting.NrServers n)
number_setting (attribute.Source s) n = Some (setting.Source (source_args s n))
number_setting (attribute.SourceConfig s) n = Some (setting.SourceConfig (source_config_args s n))
number_setting (attribute.EqConfig id) n = None
number_setting (attribute.SourceSync s) n = Some (setting.SourceSync s)

-- what the fields of a queue set an attribute to: a queue alone
abbrev pub queue_setting : Attribute → EqFields → Option Setting
queue_setting (attribute.EqConfig id) eq = Some (setting.EqConfig (record { id = id; eq = eq }))
queue_setting _ eq = None

-- what a value sets an attribute to, where it has the attribute's form
abbrev pub setting_of : Attribute → AttrValue → Option Setting
setting_of a (Number n) = number_setting a n
setting_of a (Queue eq) = queue_setting a eq

-- what is set by a group, a number and a value, where there is such an attribute, and the value has its form
abbrev pub setting_by : ℕ → ℕ → AttrValue → Option Setting
setting_by group number value = option_and_then (λ a. setting_of a value) (attribute_of group number)
