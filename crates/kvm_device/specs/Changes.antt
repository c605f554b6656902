-- What a setting makes of an EAS, of what is kept of an END, and of the number of servers; and what is shown of an END.
use Rattle.std.specs.Prelude.{ℕ, ℤ, if◌then◌else◌, Option, Some, None, option_and_then}
use Rattle.std.specs.Option.{option_map_or}
use Rattle.xv_model.specs.declared.eas.Eas.{Eas}
use Rattle.xv_model.specs.declared.kvm.Setting.{Setting}
use Rattle.xv_model.specs.declared.operations.EqFields.{EqFields}
use Rattle.xv_model.specs.call.Accepted.{is_success}
use Rattle.xv_model.specs.device.Accepted.{servers_set}
use Rattle.xv_model.specs.device.Answers.{no_fields, queue_fields}
use Rattle.xv_model.specs.source.Eas.{eas_after_setting}
use Rattle.xv_model.specs.end.Descriptors.{config_at, configuration_set}
use Rattle.end_queue.specs.declared.ends.EndRecord.{EndRecord}
use Rattle.end_queue.specs.Ends.{configured, has_queue}
use Rattle.end_queue.specs.Queues.{next_number}

-- the setting, where its code says that it is accepted
abbrev pub accepted_by : ℤ → Setting → Option Setting
accepted_by code c = if is_success code then Some c else None

-- the EAS of s after a setting that was accepted, if one was
abbrev pub eas_by_setting : Option Setting → ℕ → Eas → Eas
eas_by_setting m s a = option_map_or (λ c. eas_after_setting c s a) m a

-- what is kept of END e then
abbrev pub end_by_setting : Option Setting → ℕ → EndRecord → EndRecord
end_by_setting m e r = option_map_or configured (config_at e (option_and_then configuration_set m)) r

-- the number of servers then
abbrev pub servers_by_setting : Option Setting → ℕ → ℕ
servers_by_setting m n = option_map_or (λ servers. servers) (option_and_then servers_set m) n

-- the fields of the queue of an END, as that is kept: the toggle and the index are those of the entry that is written next
abbrev pub fields_in : EndRecord → EqFields
fields_in r = if has_queue r.config then queue_fields r.config (next_number r) else no_fields
