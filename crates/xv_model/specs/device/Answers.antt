-- What calls to the KVM device answer.
use Rattle.std.specs.Prelude.{ℕ, ℤ, ◌+◌, ◌%◌, if◌then◌else◌, List, Option, Some}
use Rattle.std.specs.Option.{option_map_or}
use Rattle.xv_model.specs.declared.kvm.errors.TheConstants.{ENXIO, EINVAL}
use Rattle.xv_model.specs.declared.kvm.fields.TheConstants.{EQ_ALWAYS_NOTIFY}
use Rattle.xv_model.specs.declared.kvm.Attribute.{Attribute}
use Rattle.xv_model.specs.declared.kvm.Attribute.TheVariants as attribute
use Rattle.xv_model.specs.declared.kvm.Setting.{Setting}
use Rattle.xv_model.specs.declared.operations.EndConfig.{EndConfig}
use Rattle.xv_model.specs.declared.operations.EqFields.{EqFields}
use Rattle.xv_model.specs.declared.operations.AttrValue.{AttrValue}
use Rattle.xv_model.specs.declared.outcomes.Outcome.{Outcome}
use Rattle.xv_model.specs.declared.outcomes.Outcome.TheVariants as out
use Rattle.xv_model.specs.declared.entries.Entry.{Entry}
use Rattle.xv_model.specs.account.Start.{Start}
use Rattle.xv_model.specs.call.Arguments.{end_of}
use Rattle.xv_model.specs.call.Accepted.{is_success}
use Rattle.xv_model.specs.call.Checks.{code_of}
use Rattle.xv_model.specs.end.Flags.{always_notifies, has_event_queue}
use Rattle.xv_model.specs.end.Descriptors.{end_config}
use Rattle.xv_model.specs.end.Memory.{entries, generation}
use Rattle.xv_model.specs.end.Written.{written_count}
use Rattle.xv_model.specs.processor.Priorities.{byte_of}
use Rattle.xv_model.specs.processor.Pending.{pending}
use Rattle.xv_model.specs.processor.Registers.{cppr}
use Rattle.xv_model.specs.device.Attributes.{attribute_of, setting_of}
use Rattle.xv_model.specs.device.Checks.{eq_id_checks, setting_checks, vp_state_checks}

-- the code of a setting, where the value has the attribute's form
abbrev pub setting_code : Start → List Entry → Option Setting → ℤ
setting_code z h m = option_map_or (λ c. code_of (setting_checks z h c)) m EINVAL

-- the code of setting an attribute: first there has to be one, and then the value has to have its form
abbrev pub attribute_code : Start → List Entry → ℕ → ℕ → AttrValue → ℤ
attribute_code z h group number value = option_map_or (λ a. setting_code z h (setting_of a value)) (attribute_of group number) ENXIO

-- the fields of a queue with this configuration, whose next entry has this number
abbrev pub queue_fields : EndConfig → ℕ → EqFields
queue_fields c next = record {
  flags = if always_notifies c then EQ_ALWAYS_NOTIFY else 0;
  qshift = c.qshift;
  qaddr = c.qaddr;
  qtoggle = generation c next;
  qindex = next % entries c;
}

-- the fields of an END without a queue
abbrev pub no_fields : EqFields
no_fields = record { flags = 0; qshift = 0; qaddr = 0; qtoggle = 0; qindex = 0 }

-- the fields of the queue of e: the toggle and the index are those of the entry that is written next
abbrev pub fields_of : Start → List Entry → ℕ → EqFields
fields_of z h e =
    let c = end_config z h e in
    if has_event_queue c then queue_fields c (c.start + written_count z h e) else no_fields

-- the answer of a call that ends with a code: what it gets where it is accepted, and else the code
abbrev pub got_by : ℤ → Outcome → Outcome
got_by code got = if is_success code then got else out.Code code

-- what getting an attribute answers: a queue alone can be got
abbrev pub got_of : Start → List Entry → Option Attribute → Outcome
got_of z h (Some (attribute.EqConfig id)) = got_by (code_of (eq_id_checks z h id)) (out.Queue (fields_of z h (end_of id.server id.priority)))
got_of z h _ = out.Code ENXIO

abbrev pub attribute_outcome : Start → List Entry → ℕ → ℕ → Outcome
attribute_outcome z h group number = got_of z h (attribute_of group number)

-- the code of setting the state of v
abbrev pub vp_state_code : Start → List Entry → ℕ → ℤ
vp_state_code z h v = code_of (vp_state_checks z h v)

-- what getting the state of v answers: its CPPR and all that is pending for it
abbrev pub vp_state_outcome : Start → List Entry → ℕ → Outcome
vp_state_outcome z h v = got_by (vp_state_code z h v) (out.Context (cppr z h v) (byte_of (pending z h v)))
