-- The configuration of an END: what it was told last.
use Rattle.std.specs.Prelude.{ℕ, ◌==◌, ◌+◌, Bool, if◌then◌else◌, List, [], ◌∷◌, Option, Some, None, option_and_then}
use Rattle.std.specs.Option.{option_map_or}
use Rattle.xv_model.specs.declared.hypercalls.flags.TheConstants.{END_ALWAYS_NOTIFY}
use Rattle.xv_model.specs.declared.hypercalls.arguments.SetQueueConfigArgs.{SetQueueConfigArgs}
use Rattle.xv_model.specs.declared.hypercalls.Call.{Call}
use Rattle.xv_model.specs.declared.hypercalls.Call.TheVariants as call
use Rattle.xv_model.specs.declared.kvm.arguments.EqArgs.{EqArgs}
use Rattle.xv_model.specs.declared.kvm.Setting.{Setting}
use Rattle.xv_model.specs.declared.kvm.Setting.TheVariants as setting
use Rattle.xv_model.specs.declared.operations.EqFields.{EqFields}
use Rattle.xv_model.specs.declared.operations.EndConfig.{EndConfig}
use Rattle.xv_model.specs.declared.operations.EndFlags.{EndFlags}
use Rattle.xv_model.specs.declared.operations.Op.{Op}
use Rattle.xv_model.specs.declared.operations.Op.TheVariants as op
use Rattle.xv_model.specs.declared.outcomes.Outcome.{Outcome}
use Rattle.xv_model.specs.declared.outcomes.Outcome.TheVariants as out
use Rattle.xv_model.specs.declared.entries.Entry.{Entry}
use Rattle.xv_model.specs.account.Start.{Start, no_config}
use Rattle.xv_model.specs.call.Arguments.{end_of}
use Rattle.xv_model.specs.call.Accepted.{call_in}
use Rattle.xv_model.specs.device.Accepted.{setting_in}
use Rattle.xv_model.specs.end.Flags.{has_bit}
use Rattle.xv_model.specs.board.Validity.{entries_of}

-- a configuration: an END is told what to do, or each one is reset
pub data Configuration : Type 0 where
  Told : (end : ℕ) → (config : EndConfig) → Configuration
  EachReset : Configuration

-- whether H_INT_SET_QUEUE_CONFIG resets an END by its size
abbrev pub resets : SetQueueConfigArgs → Bool
resets c = c.size == 0

-- the flags that H_INT_SET_QUEUE_CONFIG gives an END: v, q and b, and n where it always notifies
abbrev pub flags_told : SetQueueConfigArgs → EndFlags
flags_told c = record { 0 = 1 + 2 + 8 + (if has_bit c.flags END_ALWAYS_NOTIFY then 4 else 0) }

-- the configuration with a queue that it gives an END
abbrev pub queue_told : SetQueueConfigArgs → EndConfig
queue_told c = record {
  flags = flags_told c;
  vp = c.target;
  priority = c.priority;
  qaddr = c.address;
  qshift = c.size;
  start = 0;
  esc = 0;
  esc_eisn = 0;
}

-- what an accepted H_INT_SET_QUEUE_CONFIG tells its END (QEMU's hw/intc/spapr_xive.c, h_int_set_queue_config)
abbrev pub config_told : SetQueueConfigArgs → EndConfig
config_told c = if resets c then no_config else queue_told c

-- the configuration that an accepted call is, where it is one: H_INT_RESET resets each END (spapr_xive_reset)
abbrev pub configuration_by : Call → Option Configuration
configuration_by (call.SetQueueConfig c) = Some (Told (end_of c.target c.priority) (config_told c))
configuration_by (call.Reset c) = Some EachReset
configuration_by _ = None

-- whether the KVM device's queue attribute resets an END by its size
abbrev pub resets_end : EqFields → Bool
resets_end eq = eq.qshift == 0

-- the number of the entry that has a toggle and an index: the toggle is the generation, which is 1 the first time through the queue
abbrev pub first_entry : EqFields → ℕ
first_entry eq = if eq.qtoggle == 1 then eq.qindex else entries_of eq.qshift + eq.qindex

-- the configuration with a queue that it gives an END: v, q, n and b
abbrev pub queue_set : EqArgs → EndConfig
queue_set c = record {
  flags = record { 0 = 1 + 2 + 4 + 8 };
  vp = c.id.server;
  priority = c.id.priority;
  qaddr = c.eq.qaddr;
  qshift = c.eq.qshift;
  start = first_entry c.eq;
  esc = 0;
  esc_eisn = 0;
}

-- what it sets an END to (Linux's arch/powerpc/kvm/book3s_xive_native.c, kvmppc_xive_native_set_queue_config)
abbrev pub config_set : EqArgs → EndConfig
config_set c = if resets_end c.eq then no_config else queue_set c

-- the configuration that an accepted setting is, where it is one: a reset resets each END (kvmppc_xive_reset)
abbrev pub configuration_set : Setting → Option Configuration
configuration_set (setting.EqConfig c) = Some (Told (end_of c.id.server c.id.priority) (config_set c))
configuration_set setting.Reset = Some EachReset
configuration_set _ = None

-- the configuration, where an entry is one
abbrev pub configuration_in : Op → Outcome → Option Configuration
configuration_in (op.EndSet e c) out.Fine = Some (Told e c)
configuration_in (op.AttrSet group number value) u = option_and_then configuration_set (setting_in (op.AttrSet group number value) u)
configuration_in o u = option_and_then configuration_by (call_in o u)

-- what a configuration says of e, where it is one of e
abbrev pub config_at : ℕ → Option Configuration → Option EndConfig
config_at e (Some (Told end c)) = if end == e then Some c else None
config_at e (Some EachReset) = Some no_config
config_at e None = None

-- what an entry tells e, where it configures it
abbrev pub config_by : ℕ → Entry → Option EndConfig
config_by e x = config_at e (configuration_in x.op x.outcome)

-- what the last configuration of e says
abbrev pub end_config : Start → List Entry → ℕ → EndConfig
end_config z [] e = z.end_config e
end_config z (x ∷ h) e = option_map_or (λ c. c) (config_by e x) (end_config z h e)

-- the entries since the last configuration of e, or all of them where there is none
abbrev pub since_config : List Entry → ℕ → List Entry
since_config [] e = []
since_config (x ∷ h) e = option_map_or (λ c. []) (config_by e x) (x ∷ since_config h e)

-- a number of e that goes on from the start record until e is configured
abbrev pub until_config : ℕ → List Entry → ℕ → ℕ
until_config n [] e = n
until_config n (x ∷ h) e = option_map_or (λ c. 0) (config_by e x) (until_config n h e)
