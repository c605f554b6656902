-- The checks of calls to the KVM device (Linux's arch/powerpc/kvm/book3s_xive_native.c). Those of a call stand in the order in which they are made.
use Rattle.std.specs.Prelude.{ℕ, zero, suc, ◌==◌, ◌&&◌, ◌||◌, not, nat_lt, nat_le, Bool, false, if◌then◌else◌, List, [], ◌∷◌}
use Rattle.xv_model.specs.declared.kvm.errors.TheConstants.{ENOENT, ENXIO, E2BIG, EBUSY, EINVAL}
use Rattle.xv_model.specs.declared.kvm.fields.TheConstants.{EQ_ALWAYS_NOTIFY}
use Rattle.xv_model.specs.declared.kvm.arguments.EqId.{EqId}
use Rattle.xv_model.specs.declared.kvm.arguments.EqArgs.{EqArgs}
use Rattle.xv_model.specs.declared.kvm.arguments.SourceArgs.{SourceArgs}
use Rattle.xv_model.specs.declared.kvm.arguments.SourceConfigArgs.{SourceConfigArgs}
use Rattle.xv_model.specs.declared.kvm.Setting.{Setting}
use Rattle.xv_model.specs.declared.kvm.Setting.TheVariants as setting
use Rattle.xv_model.specs.declared.board.Board.{Board}
use Rattle.xv_model.specs.declared.operations.EqFields.{EqFields}
use Rattle.xv_model.specs.declared.entries.Entry.{Entry}
use Rattle.xv_model.specs.account.Start.{Start}
use Rattle.xv_model.specs.board.Boards.{is_level}
use Rattle.xv_model.specs.board.Validity.{is_queue_shift, is_queue, entries_of}
use Rattle.xv_model.specs.call.Arguments.{end_of}
use Rattle.xv_model.specs.call.Checks.{Check, is_target, is_priority}
use Rattle.xv_model.specs.source.Eas.{initialised}
use Rattle.xv_model.specs.end.Flags.{has_event_queue}
use Rattle.xv_model.specs.end.Descriptors.{end_config, resets_end}
use Rattle.xv_model.specs.processor.Phases.{is_connected, is_saved, phase}

-- whether a board has a source of this number
abbrev pub has_source : Board → ℕ → Bool
has_source b s = nat_lt s b.limits.sources

-- whether one of the processors below n is connected
abbrev pub some_below : (ℕ → Bool) → ℕ → Bool
some_below connected zero = false
some_below connected (suc n) = connected n || some_below connected n

-- whether a processor is connected
abbrev pub some_connected : Start → List Entry → Bool
some_connected z h = some_below (is_connected z h) z.board.limits.processors

-- KVM_DEV_XIVE_NR_SERVERS: 1 to all processors, while none is connected
abbrev pub nr_servers_checks : Start → List Entry → ℕ → List Check
nr_servers_checks z h n =
    (nat_lt 0 n && nat_le n z.board.limits.processors, EINVAL)
    ∷ (not (some_connected z h), EBUSY)
    ∷ []

-- whether a source is of the kind that it is initialised as
abbrev pub is_kind : Board → SourceArgs → Bool
is_kind b c = if is_level b c.source then c.level else not c.level

-- KVM_DEV_XIVE_GRP_SOURCE: a source that is initialised may be so again
abbrev pub source_checks : Board → SourceArgs → List Check
source_checks b c =
    (has_source b c.source, E2BIG)
    ∷ (is_kind b c, EINVAL)
    ∷ []

-- KVM_DEV_XIVE_GRP_SOURCE_CONFIG: where the EAS is masked, neither the server nor the END is looked at
abbrev pub source_config_checks : Start → List Entry → SourceConfigArgs → List Check
source_config_checks z h c =
    (has_source z.board c.source, ENOENT)
    ∷ (initialised z h c.source, EINVAL)
    ∷ (is_priority c.priority, EINVAL)
    ∷ (c.masked || is_target z h c.server, EINVAL)
    ∷ (c.masked || has_event_queue (end_config z h (end_of c.server c.priority)), ENXIO)
    ∷ []

-- a queue that a guest has: that of a connected processor, with a priority that a guest can have
abbrev pub eq_id_checks : Start → List Entry → EqId → List Check
eq_id_checks z h id =
    (is_target z h id.server, ENOENT)
    ∷ (is_priority id.priority, EINVAL)
    ∷ []

-- whether a toggle and an index are those of an entry of the queue
abbrev pub is_entry : EqFields → Bool
is_entry eq = nat_le eq.qtoggle 1 && nat_lt eq.qindex (entries_of eq.qshift)

-- KVM_DEV_XIVE_GRP_EQ_CONFIG: where the END is reset, the other fields aren't looked at
abbrev pub eq_config_checks : Start → List Entry → EqArgs → List Check
eq_config_checks z h c =
    (is_target z h c.id.server, ENOENT)
    ∷ (is_priority c.id.priority, EINVAL)
    ∷ (resets_end c.eq || (c.eq.flags == EQ_ALWAYS_NOTIFY), EINVAL)
    ∷ (resets_end c.eq || is_queue_shift c.eq.qshift, EINVAL)
    ∷ (resets_end c.eq || is_queue z.board c.eq.qaddr c.eq.qshift, EINVAL)
    ∷ (resets_end c.eq || is_entry c.eq, EINVAL)
    ∷ []

-- KVM_DEV_XIVE_GRP_SOURCE_SYNC
abbrev pub source_sync_checks : Start → List Entry → ℕ → List Check
source_sync_checks z h s =
    (has_source z.board s, ENOENT)
    ∷ (initialised z h s, EINVAL)
    ∷ []

-- the checks of a setting; KVM_DEV_XIVE_RESET and KVM_DEV_XIVE_EQ_SYNC have none
abbrev pub setting_checks : Start → List Entry → Setting → List Check
setting_checks z h (setting.NrServers n) = nr_servers_checks z h n
setting_checks z h (setting.Source c) = source_checks z.board c
setting_checks z h (setting.SourceConfig c) = source_config_checks z h c
setting_checks z h (setting.EqConfig c) = eq_config_checks z h c
setting_checks z h (setting.SourceSync s) = source_sync_checks z h s
setting_checks z h _ = []

-- KVM_REG_PPC_VP_STATE, the state of a processor, while its context is saved (kvmppc_xive_native_get_vp, kvmppc_xive_native_set_vp)
abbrev pub vp_state_checks : Start → List Entry → ℕ → List Check
vp_state_checks z h v =
    (is_connected z h v, EINVAL)
    ∷ (is_saved (phase z h v), EBUSY)
    ∷ []
