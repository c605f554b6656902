-- What a call makes of an EAS, and of what is kept of an END.
use Rattle.std.specs.Prelude.{ℕ, ℤ, if◌then◌else◌, Option, Some, None, option_and_then}
use Rattle.std.specs.Option.{option_map_or}
use Rattle.xv_model.specs.declared.eas.Eas.{Eas}
use Rattle.xv_model.specs.declared.hypercalls.Call.{Call}
use Rattle.xv_model.specs.call.Accepted.{is_success}
use Rattle.xv_model.specs.source.Eas.{eas_after}
use Rattle.xv_model.specs.end.Descriptors.{config_at, configuration_by}
use Rattle.end_queue.specs.declared.ends.EndRecord.{EndRecord}
use Rattle.end_queue.specs.Ends.{configured}

-- the call, where its code says that it is accepted
abbrev pub accepted_by : ℤ → Call → Option Call
accepted_by code call = if is_success code then Some call else None

-- the EAS of s after a call that was accepted, if one was
abbrev pub eas_by_call : Option Call → ℕ → Eas → Eas
eas_by_call m s a = option_map_or (λ call. eas_after call s a) m a

-- what is kept of END e then
abbrev pub end_by_call : Option Call → ℕ → EndRecord → EndRecord
end_by_call m e r = option_map_or configured (config_at e (option_and_then configuration_by m)) r
