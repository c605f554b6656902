-- What the KVM device answers after an account it answers after its fabric entries alone.
use Rattle.std.proofs.Common.{ℕ, ◌≡◌, ◌+◌, ◌&&◌, ◌||◌, ◌==◌, nat_lt, nat_le, not, if◌then◌else◌, List, [], ◌∷◌, Option, Some, None, refl, ap}
use Rattle.std.specs.Option.{option_map_or}
use Rattle.xv_model.specs.declared.kvm.errors.TheConstants.{ENOENT, ENXIO, EBUSY, EINVAL}
use Rattle.xv_model.specs.declared.kvm.fields.TheConstants.{EQ_ALWAYS_NOTIFY}
use Rattle.xv_model.specs.declared.kvm.Attribute.{Attribute}
use Rattle.xv_model.specs.declared.kvm.Attribute.TheVariants as attribute
use Rattle.xv_model.specs.declared.kvm.Setting.{Setting}
use Rattle.xv_model.specs.declared.kvm.Setting.TheVariants as setting
use Rattle.xv_model.specs.declared.kvm.arguments.EqId.{EqId}
use Rattle.xv_model.specs.declared.operations.AttrValue.{AttrValue}
use Rattle.xv_model.specs.declared.outcomes.Outcome.TheVariants as out
use Rattle.xv_model.specs.declared.entries.Entry.{Entry}
use Rattle.xv_model.specs.account.Start.{Start}
use Rattle.xv_model.specs.account.Halves.{fabric_of}
use Rattle.xv_model.specs.board.Validity.{is_queue_shift, is_queue}
use Rattle.xv_model.specs.call.Arguments.{end_of}
use Rattle.xv_model.specs.call.Checks.{code_of, is_priority}
use Rattle.xv_model.specs.end.Flags.{has_event_queue}
use Rattle.xv_model.specs.end.Descriptors.{resets_end}
use Rattle.xv_model.specs.processor.Phases.{is_saved}
use Rattle.xv_model.specs.processor.Priorities.{byte_of}
use Rattle.xv_model.specs.device.Attributes.{attribute_of, setting_of}
use Rattle.xv_model.specs.device.Checks.{has_source, some_below, some_connected, is_entry, eq_id_checks, setting_checks, vp_state_checks}
use Rattle.xv_model.specs.device.Answers.{setting_code, attribute_code, queue_fields, no_fields, fields_of, got_by, got_of, attribute_outcome, vp_state_code, vp_state_outcome}
use Rattle.xv_model.proofs.FabricHalves.{eas-half, is_connected-half, end_config-half, written_count-half}
use Rattle.xv_model.proofs.CallHalves.{is_target-half}
use Rattle.xv_model.proofs.ProcessorHalves.{phase-half, pending-half, cppr-half}

-- whether a processor is connected is what the fabric's entries say
some_connected-half : (z : Start) (h : List Entry) → some_connected z (fabric_of z.board h) ≡ some_connected z h
some_connected-half z h = λ i. some_below (λ v. is_connected-half z v h i) z.board.limits.processors

-- the checks of a setting after the fabric's entries are those after the account
pub setting_checks-half : (z : Start) (c : Setting) (h : List Entry) → setting_checks z (fabric_of z.board h) c ≡ setting_checks z h c
setting_checks-half z (setting.NrServers n) h = λ i. (nat_lt 0 n && nat_le n z.board.limits.processors, EINVAL) ∷ (not (some_connected-half z h i), EBUSY) ∷ []
setting_checks-half z (setting.SourceConfig c) h =
    λ i. (has_source z.board c.source, ENOENT) ∷ ((eas-half z c.source h i).valid, EINVAL) ∷ (is_priority c.priority, EINVAL)
    ∷ (c.masked || is_target-half z c.server h i, EINVAL) ∷ (c.masked || has_event_queue (end_config-half z (end_of c.server c.priority) h i), ENXIO) ∷ []
setting_checks-half z (setting.EqConfig c) h =
    λ i. (is_target-half z c.id.server h i, ENOENT) ∷ (is_priority c.id.priority, EINVAL) ∷ (resets_end c.eq || (c.eq.flags == EQ_ALWAYS_NOTIFY), EINVAL)
    ∷ (resets_end c.eq || is_queue_shift c.eq.qshift, EINVAL) ∷ (resets_end c.eq || is_queue z.board c.eq.qaddr c.eq.qshift, EINVAL) ∷ (resets_end c.eq || is_entry c.eq, EINVAL) ∷ []
setting_checks-half z (setting.SourceSync s) h = λ i. (has_source z.board s, ENOENT) ∷ ((eas-half z s h i).valid, EINVAL) ∷ []
setting_checks-half z _ h = refl

-- so is the code of a setting
setting_code-half : (z : Start) (m : Option Setting) (h : List Entry) → setting_code z (fabric_of z.board h) m ≡ setting_code z h m
setting_code-half z (Some c) h = ap code_of (setting_checks-half z c h)
setting_code-half z None h = refl

-- and the code of setting an attribute
pub attribute_code-half : (z : Start) (group number : ℕ) (value : AttrValue) (h : List Entry) → attribute_code z (fabric_of z.board h) group number value ≡ attribute_code z h group number value
attribute_code-half z group number value h = by (attribute_of group number)
  where
    by : (m : Option Attribute) → option_map_or (λ a. setting_code z (fabric_of z.board h) (setting_of a value)) m ENXIO ≡ option_map_or (λ a. setting_code z h (setting_of a value)) m ENXIO
    by (Some a) = setting_code-half z (setting_of a value) h
    by None = refl

-- the fields of the queue of e are those of the fabric's entries
pub fields_of-half : (z : Start) (e : ℕ) (h : List Entry) → fields_of z (fabric_of z.board h) e ≡ fields_of z h e
fields_of-half z e h =
    λ i. if has_event_queue (end_config-half z e h i)
    then queue_fields (end_config-half z e h i) ((end_config-half z e h i).start + written_count-half z e h i)
    else no_fields

eq_id_checks-half : (z : Start) (id : EqId) (h : List Entry) → eq_id_checks z (fabric_of z.board h) id ≡ eq_id_checks z h id
eq_id_checks-half z id h = λ i. (is_target-half z id.server h i, ENOENT) ∷ (is_priority id.priority, EINVAL) ∷ []

-- what getting an attribute answers after the fabric's entries is what it answers after the account
got_of-half : (z : Start) (m : Option Attribute) (h : List Entry) → got_of z (fabric_of z.board h) m ≡ got_of z h m
got_of-half z (Some (attribute.EqConfig id)) h = λ i. got_by (code_of (eq_id_checks-half z id h i)) (out.Queue (fields_of-half z (end_of id.server id.priority) h i))
got_of-half z (Some _) h = refl
got_of-half z None h = refl

pub attribute_outcome-half : (z : Start) (group number : ℕ) (h : List Entry) → attribute_outcome z (fabric_of z.board h) group number ≡ attribute_outcome z h group number
attribute_outcome-half z group number h = got_of-half z (attribute_of group number) h

-- the code of setting the state of v
vp_state_checks-half : (z : Start) (v : ℕ) (h : List Entry) → vp_state_checks z (fabric_of z.board h) v ≡ vp_state_checks z h v
vp_state_checks-half z v h = λ i. (is_connected-half z v h i, EINVAL) ∷ (is_saved (phase-half z v h i), EBUSY) ∷ []

pub vp_state_code-half : (z : Start) (v : ℕ) (h : List Entry) → vp_state_code z (fabric_of z.board h) v ≡ vp_state_code z h v
vp_state_code-half z v h = ap code_of (vp_state_checks-half z v h)

-- and what getting it answers
pub vp_state_outcome-half : (z : Start) (v : ℕ) (h : List Entry) → vp_state_outcome z (fabric_of z.board h) v ≡ vp_state_outcome z h v
vp_state_outcome-half z v h = λ i. got_by (vp_state_code-half z v h i) (out.Context (cppr-half z v h i) (byte_of (λ p. pending-half z v p h i)))
