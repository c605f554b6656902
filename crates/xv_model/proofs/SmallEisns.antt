-- The EISNs of sources have 31 bits.
use Rattle.std.proofs.Common.{ℕ, ◌<◌, ◌^◌, ◌%◌, ◌==◌, Bool, true, false, if◌then◌else◌, List, [], ◌∷◌, Option, Some, None, option_and_then, arith, lit<}
use Rattle.std.specs.Option.{option_map_or}
use Rattle.xv_model.specs.declared.eas.Eas.{Eas}
use Rattle.xv_model.specs.declared.board.Board.{Board}
use Rattle.xv_model.specs.declared.hypercalls.flags.TheConstants.{SRC_SET_EISN}
use Rattle.xv_model.specs.declared.hypercalls.arguments.SetSourceConfigArgs.{SetSourceConfigArgs}
use Rattle.xv_model.specs.declared.hypercalls.Call.{Call}
use Rattle.xv_model.specs.declared.hypercalls.Call.TheVariants as call
use Rattle.xv_model.specs.declared.kvm.arguments.SourceConfigArgs.{SourceConfigArgs}
use Rattle.xv_model.specs.declared.kvm.Attribute.{Attribute}
use Rattle.xv_model.specs.declared.kvm.Attribute.TheVariants as attribute
use Rattle.xv_model.specs.declared.kvm.Setting.{Setting}
use Rattle.xv_model.specs.declared.kvm.Setting.TheVariants as setting
use Rattle.xv_model.specs.declared.operations.AttrValue.{AttrValue}
use Rattle.xv_model.specs.declared.operations.AttrValue.TheVariants.{Number, Queue}
use Rattle.xv_model.specs.declared.operations.Op.{Op}
use Rattle.xv_model.specs.declared.operations.Op.TheVariants as op
use Rattle.xv_model.specs.declared.outcomes.Outcome.{Outcome}
use Rattle.xv_model.specs.declared.outcomes.Outcome.TheVariants as out
use Rattle.xv_model.specs.declared.entries.Entry.{Entry}
use Rattle.xv_model.specs.account.Start.{Start, start}
use Rattle.xv_model.specs.call.Accepted.{is_success, call_in}
use Rattle.xv_model.specs.device.Attributes.{attribute_of, setting_of, setting_by}
use Rattle.xv_model.specs.device.Accepted.{setting_in}
use Rattle.xv_model.specs.source.Eas.{masked_off, masks, eas_by, eas_after, eas_set, eas_after_setting, eas}
use Rattle.xv_model.specs.end.Flags.{has_bit}

-- an EISN that a call sets, or leaves, is below 2 to the power of 31
small_eisn_by : (sets : Bool) (n before : ℕ) → before < 2 ^ 31 → (if sets then n % 2 ^ 31 else before) < 2 ^ 31
small_eisn_by true n before l = omega arith
small_eisn_by false n before l = l

-- so is that of an EAS that is masked off, or isn't
small_unless : (off : Bool) (a : Eas) → a.eisn < 2 ^ 31 → (if off then masked_off else a).eisn < 2 ^ 31
small_unless true a l = lit< tt
small_unless false a l = l

-- an EAS after a call has a small EISN, by whether the call is of its source
small_if : (same : Bool) (c : SetSourceConfigArgs) (before : Eas) → before.eisn < 2 ^ 31 → (if same then eas_by c before else before).eisn < 2 ^ 31
small_if true c before l = small_unless (masks c) _ (small_eisn_by (has_bit c.flags SRC_SET_EISN) c.eisn before.eisn l)
small_if false c before l = l

-- an EAS after any call has one
small_after : (s : ℕ) (c : Call) (before : Eas) → before.eisn < 2 ^ 31 → (eas_after c s before).eisn < 2 ^ 31
small_after s (call.SetSourceConfig c) before l = small_if (c.lisn == s) c before l
small_after s (call.Reset c) before l = small_unless before.valid before l
small_after s _ before l = l

-- so has one after an accepted call, or none
small_called : (s : ℕ) (m : Option Call) (before : Eas) → before.eisn < 2 ^ 31 → (option_map_or (λ c. eas_after c s before) m before).eisn < 2 ^ 31
small_called s None before l = l
small_called s (Some c) before l = small_after s c before l

-- what is set has a small EISN
abbrev HasSmall : Option Setting → Type 0
HasSmall (Some (setting.SourceConfig c)) = c.eisn < 2 ^ 31
HasSmall _ = Unit {0}

small_value : (a : Attribute) (value : AttrValue) → HasSmall (setting_of a value)
small_value (attribute.SourceConfig s) (Number n) = omega arith
small_value _ (Number n) = tt
small_value (attribute.EqConfig id) (Queue eq) = tt
small_value _ (Queue eq) = tt

small_setting_by : (m : Option Attribute) (value : AttrValue) → HasSmall (option_and_then (λ a. setting_of a value) m)
small_setting_by (Some a) value = small_value a value
small_setting_by None value = tt

small_accepted : (accepted : Bool) (m : Option Setting) → HasSmall m → HasSmall (if accepted then m else None)
small_accepted true m w = w
small_accepted false m w = tt

small_setting : (o : Op) (u : Outcome) → HasSmall (setting_in o u)
small_setting (op.AttrSet group number value) (out.Code code) = small_accepted (is_success code) (setting_by group number value) (small_setting_by (attribute_of group number) value)
small_setting _ u = tt

-- an EAS after it has one, by whether it masks, and whether it is of its source
small_either : (masked : Bool) (a b : Eas) → a.eisn < 2 ^ 31 → b.eisn < 2 ^ 31 → (if masked then a else b).eisn < 2 ^ 31
small_either true a b l w = l
small_either false a b l w = w

small_set_if : (same : Bool) (c : SourceConfigArgs) (before : Eas) → c.eisn < 2 ^ 31 → before.eisn < 2 ^ 31 → (if same then eas_set c before else before).eisn < 2 ^ 31
small_set_if true c before w l = small_either c.masked _ _ l w
small_set_if false c before w l = l

-- an EAS after an entry has a small EISN, by what was set
small_more : (s : ℕ) (m : Option Setting) (before after : Eas) → HasSmall m → before.eisn < 2 ^ 31 → after.eisn < 2 ^ 31 → (option_map_or (λ c. eas_after_setting c s before) m after).eisn < 2 ^ 31
small_more s None before after w l k = k
small_more s (Some (setting.Source c)) before after w l k = small_unless (c.source == s) before l
small_more s (Some (setting.SourceConfig c)) before after w l k = small_set_if (c.source == s) c before w l
small_more s (Some setting.Reset) before after w l k = small_unless before.valid before l
small_more s (Some _) before after w l k = l

-- the EISN of each source is below 2 to the power of 31, where it is so in the start record
pub small_eisn : (z : Start) (h : List Entry) (s : ℕ) → (z.eas s).eisn < 2 ^ 31 → (eas z h s).eisn < 2 ^ 31
small_eisn z [] s l = l
small_eisn z (x ∷ h) s l =
    let before = small_eisn z h s l in
    small_more s (setting_in x.op x.outcome) (eas z h s) _ (small_setting x.op x.outcome) before (small_called s (call_in x.op x.outcome) (eas z h s) before)

-- the EISNs of a board's start are small
pub small_start : (b : Board) (s : ℕ) → ((start b).eas s).eisn < 2 ^ 31
small_start b s = lit< tt
