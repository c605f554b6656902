-- The EAS of a source: what the hypercalls and the settings of the KVM device say of it that were accepted (QEMU's hw/intc/spapr_xive.c, h_int_set_source_config and spapr_xive_reset;
-- Linux's arch/powerpc/kvm/book3s_xive_native.c, kvmppc_xive_native_set_source and kvmppc_xive_native_set_source_config).
use Rattle.std.specs.Prelude.{ℕ, ◌==◌, ◌^◌, ◌%◌, Bool, true, false, if◌then◌else◌, List, [], ◌∷◌}
use Rattle.std.specs.Option.{option_map_or}
use Rattle.xv_model.specs.declared.hypercalls.flags.TheConstants.{SRC_MASK, SRC_SET_EISN, PRIORITY_MASKED}
use Rattle.xv_model.specs.declared.hypercalls.arguments.SetSourceConfigArgs.{SetSourceConfigArgs}
use Rattle.xv_model.specs.declared.hypercalls.Call.{Call}
use Rattle.xv_model.specs.declared.hypercalls.Call.TheVariants as call
use Rattle.xv_model.specs.declared.kvm.arguments.SourceConfigArgs.{SourceConfigArgs}
use Rattle.xv_model.specs.declared.kvm.Setting.{Setting}
use Rattle.xv_model.specs.declared.kvm.Setting.TheVariants as setting
use Rattle.xv_model.specs.declared.eas.Eas.{Eas}
use Rattle.xv_model.specs.declared.entries.Entry.{Entry}
use Rattle.xv_model.specs.account.Start.{Start}
use Rattle.xv_model.specs.call.Arguments.{end_of}
use Rattle.xv_model.specs.call.Accepted.{call_in}
use Rattle.xv_model.specs.device.Accepted.{setting_in}
use Rattle.xv_model.specs.end.Flags.{has_bit}

-- a valid EAS that is masked, and has no END
abbrev pub masked_off : Eas
masked_off = record { valid = true; masked = true; end = 0; eisn = 0 }

-- whether H_INT_SET_SOURCE_CONFIG masks a source off by its priority
abbrev pub masks : SetSourceConfigArgs → Bool
masks c = c.priority == PRIORITY_MASKED

-- an EAS after an accepted H_INT_SET_SOURCE_CONFIG: one priority masks it off; one flag masks it, and one sets the EISN, of which the low 31 bits count
abbrev pub eas_by : SetSourceConfigArgs → Eas → Eas
eas_by c before =
    if masks c then masked_off
    else record {
      valid = true;
      masked = has_bit c.flags SRC_MASK;
      end = end_of c.target c.priority;
      eisn = if has_bit c.flags SRC_SET_EISN then c.eisn % 2 ^ 31 else before.eisn;
    }

-- the EAS of s after an accepted call: H_INT_RESET masks off each one that is valid
abbrev pub eas_after : Call → ℕ → Eas → Eas
eas_after (call.SetSourceConfig c) s before = if c.lisn == s then eas_by c before else before
eas_after (call.Reset c) s before = if before.valid then masked_off else before
eas_after _ s before = before

-- an EAS after an accepted setting of where its notices go: it is masked, and else as it was; or it has an END and an EISN, and isn't masked
abbrev pub eas_set : SourceConfigArgs → Eas → Eas
eas_set c before =
    if c.masked then record { valid = before.valid; masked = true; end = before.end; eisn = before.eisn }
    else record { valid = true; masked = false; end = end_of c.server c.priority; eisn = c.eisn }

-- the EAS of s after an accepted setting: a source that is initialised is masked off, and a reset masks off each one that is valid
abbrev pub eas_after_setting : Setting → ℕ → Eas → Eas
eas_after_setting (setting.Source c) s before = if c.source == s then masked_off else before
eas_after_setting (setting.SourceConfig c) s before = if c.source == s then eas_set c before else before
eas_after_setting setting.Reset s before = if before.valid then masked_off else before
eas_after_setting _ s before = before

-- the EAS of s is what the last accepted call or setting says of it
abbrev pub eas : Start → List Entry → ℕ → Eas
eas z [] s = z.eas s
eas z (x ∷ h) s =
    let before = eas z h s in
    option_map_or (λ c. eas_after_setting c s before) (setting_in x.op x.outcome)
    (option_map_or (λ c. eas_after c s before) (call_in x.op x.outcome) before)

-- whether a source is initialised: its EAS is valid
abbrev pub initialised : Start → List Entry → ℕ → Bool
initialised z h s = (eas z h s).valid
