-- The fields in the numbers and values of the KVM device's attributes (Linux's arch/powerpc/include/uapi/asm/kvm.h).
use Rattle.std.specs.Prelude.{ℕ, ◌^◌, ◌/◌, ◌%◌, ◌&&◌}
use Rattle.xv_model.specs.declared.kvm.fields.TheConstants.{LEVEL_SENSITIVE, LEVEL_ASSERTED, SOURCE_MASKED}
use Rattle.xv_model.specs.declared.kvm.arguments.EqId.{EqId}
use Rattle.xv_model.specs.declared.kvm.arguments.SourceArgs.{SourceArgs}
use Rattle.xv_model.specs.declared.kvm.arguments.SourceConfigArgs.{SourceConfigArgs}
use Rattle.xv_model.specs.end.Flags.{has_bit}

-- bits 0 to 2
abbrev pub priority_in : ℕ → ℕ
priority_in number = number % 2 ^ 3

-- bits 3 to 31
abbrev pub server_in : ℕ → ℕ
server_in number = number % 2 ^ 32 / 2 ^ 3

-- bits 33 to 63
abbrev pub eisn_in : ℕ → ℕ
eisn_in value = value % 2 ^ 64 / 2 ^ 33

-- the identifier of an event queue
abbrev pub eq_id : ℕ → EqId
eq_id number = record { server = server_in number; priority = priority_in number }

-- what a source is initialised as
abbrev pub source_args : ℕ → ℕ → SourceArgs
source_args s value = record { source = s; level = has_bit value LEVEL_SENSITIVE; asserted = has_bit value LEVEL_ASSERTED }

-- where the notices of a source go
abbrev pub source_config_args : ℕ → ℕ → SourceConfigArgs
source_config_args s value = record {
  source = s;
  priority = priority_in value;
  server = server_in value;
  masked = has_bit value SOURCE_MASKED;
  eisn = eisn_in value;
}
