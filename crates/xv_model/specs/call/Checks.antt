-- The checks of hypercalls (QEMU's hw/intc/spapr_xive.c). Those of a call stand in the order in which they are made.
use Rattle.std.specs.Prelude.{ℕ, ℤ, ◌&&◌, ◌||◌, nat_lt, nat_le, Bool, if◌then◌else◌, List, [], ◌∷◌}
use Rattle.xv_model.specs.declared.hypercalls.codes.TheConstants.{H_SUCCESS, H_PARAMETER, H_P2, H_P3, H_P4, H_P5}
use Rattle.xv_model.specs.declared.hypercalls.flags.TheConstants.{SRC_FLAGS, END_ALWAYS_NOTIFY, END_DEBUG, ESB_STORE, PRIORITY_RESERVED}
use Rattle.xv_model.specs.declared.hypercalls.arguments.GetSourceInfoArgs.{GetSourceInfoArgs}
use Rattle.xv_model.specs.declared.hypercalls.arguments.SetSourceConfigArgs.{SetSourceConfigArgs}
use Rattle.xv_model.specs.declared.hypercalls.arguments.GetSourceConfigArgs.{GetSourceConfigArgs}
use Rattle.xv_model.specs.declared.hypercalls.arguments.GetQueueInfoArgs.{GetQueueInfoArgs}
use Rattle.xv_model.specs.declared.hypercalls.arguments.SetQueueConfigArgs.{SetQueueConfigArgs}
use Rattle.xv_model.specs.declared.hypercalls.arguments.GetQueueConfigArgs.{GetQueueConfigArgs}
use Rattle.xv_model.specs.declared.hypercalls.arguments.EsbArgs.{EsbArgs}
use Rattle.xv_model.specs.declared.hypercalls.arguments.SyncArgs.{SyncArgs}
use Rattle.xv_model.specs.declared.hypercalls.arguments.ResetArgs.{ResetArgs}
use Rattle.xv_model.specs.declared.hypercalls.Call.{Call}
use Rattle.xv_model.specs.declared.hypercalls.Call.TheVariants as call
use Rattle.xv_model.specs.declared.pages.TheConstants.{PAGE_SIZE}
use Rattle.xv_model.specs.declared.entries.Entry.{Entry}
use Rattle.xv_model.specs.account.Start.{Start}
use Rattle.xv_model.specs.board.Validity.{is_queue_shift, is_queue}
use Rattle.xv_model.specs.source.Eas.{masks, initialised}
use Rattle.xv_model.specs.end.Descriptors.{resets}
use Rattle.xv_model.specs.processor.Phases.{is_connected}

-- a check: whether it holds, and the code of a call for which it doesn't
abbrev pub Check : Type 0
Check = Bool × ℤ

-- the code of a call with these checks: that of the first one that fails
abbrev pub code_of : List Check → ℤ
code_of [] = H_SUCCESS
code_of (check ∷ checks) = if check.0 then code_of checks else check.1

-- whether flags have no bit but these, which are the lowest ones
abbrev pub are_within : ℕ → ℕ → Bool
are_within known flags = nat_le flags known

-- whether a LISN is that of a source with a valid EAS
abbrev pub is_source : Start → List Entry → ℕ → Bool
is_source z h s = nat_lt s z.board.limits.sources && initialised z h s

-- whether a number is that of a connected processor
abbrev pub is_target : Start → List Entry → ℕ → Bool
is_target z h v = nat_lt v z.board.limits.processors && is_connected z h v

-- whether a guest can have a priority
abbrev pub is_priority : ℕ → Bool
is_priority priority = nat_lt priority PRIORITY_RESERVED

-- h_int_get_source_info
abbrev pub get_source_info_checks : Start → List Entry → GetSourceInfoArgs → List Check
get_source_info_checks z h c =
    (are_within 0 c.flags, H_PARAMETER)
    ∷ (is_source z h c.lisn, H_P2)
    ∷ []

-- h_int_set_source_config: where the priority masks, neither it nor the target is looked at
abbrev pub set_source_config_checks : Start → List Entry → SetSourceConfigArgs → List Check
set_source_config_checks z h c =
    (are_within SRC_FLAGS c.flags, H_PARAMETER)
    ∷ (is_source z h c.lisn, H_P2)
    ∷ (masks c || is_priority c.priority, H_P4)
    ∷ (masks c || is_target z h c.target, H_P3)
    ∷ []

-- h_int_get_source_config
abbrev pub get_source_config_checks : Start → List Entry → GetSourceConfigArgs → List Check
get_source_config_checks z h c =
    (are_within 0 c.flags, H_PARAMETER)
    ∷ (is_source z h c.lisn, H_P2)
    ∷ []

-- h_int_get_queue_info
abbrev pub get_queue_info_checks : Start → List Entry → GetQueueInfoArgs → List Check
get_queue_info_checks z h c =
    (are_within 0 c.flags, H_PARAMETER)
    ∷ (is_priority c.priority, H_P3)
    ∷ (is_target z h c.target, H_P2)
    ∷ []

-- h_int_set_queue_config: where the END is reset, its queue isn't looked at
abbrev pub set_queue_config_checks : Start → List Entry → SetQueueConfigArgs → List Check
set_queue_config_checks z h c =
    (are_within END_ALWAYS_NOTIFY c.flags, H_PARAMETER)
    ∷ (is_priority c.priority, H_P3)
    ∷ (is_target z h c.target, H_P2)
    ∷ (resets c || is_queue_shift c.size, H_P5)
    ∷ (resets c || is_queue z.board c.address c.size, H_P4)
    ∷ []

-- h_int_get_queue_config
abbrev pub get_queue_config_checks : Start → List Entry → GetQueueConfigArgs → List Check
get_queue_config_checks z h c =
    (are_within END_DEBUG c.flags, H_PARAMETER)
    ∷ (is_priority c.priority, H_P3)
    ∷ (is_target z h c.target, H_P2)
    ∷ []

-- h_int_esb
abbrev pub esb_checks : Start → List Entry → EsbArgs → List Check
esb_checks z h c =
    (are_within ESB_STORE c.flags, H_PARAMETER)
    ∷ (is_source z h c.lisn, H_P2)
    ∷ (nat_lt c.offset PAGE_SIZE, H_P3)
    ∷ []

-- h_int_sync
abbrev pub sync_checks : Start → List Entry → SyncArgs → List Check
sync_checks z h c =
    (are_within 0 c.flags, H_PARAMETER)
    ∷ (is_source z h c.lisn, H_P2)
    ∷ []

-- h_int_reset
abbrev pub reset_checks : ResetArgs → List Check
reset_checks c = (are_within 0 c.flags, H_PARAMETER) ∷ []

-- the checks of a call
abbrev pub checks : Start → List Entry → Call → List Check
checks z h (call.GetSourceInfo c) = get_source_info_checks z h c
checks z h (call.SetSourceConfig c) = set_source_config_checks z h c
checks z h (call.GetSourceConfig c) = get_source_config_checks z h c
checks z h (call.GetQueueInfo c) = get_queue_info_checks z h c
checks z h (call.SetQueueConfig c) = set_queue_config_checks z h c
checks z h (call.GetQueueConfig c) = get_queue_config_checks z h c
checks z h (call.Esb c) = esb_checks z h c
checks z h (call.Sync c) = sync_checks z h c
checks z h (call.Reset c) = reset_checks c
