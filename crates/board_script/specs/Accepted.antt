-- What follows a hypercall, or a setting of the KVM device, on its line: where it is accepted, and where it is refused.
use Rattle.std.specs.Prelude.{ℕ, ℤ, ◌&&◌, ◌≡◌, false, List, [], ◌∷◌, Option, Some, None}
use Rattle.xv_model.specs.declared.hypercalls.Call.{Call}
use Rattle.xv_model.specs.declared.hypercalls.Call.TheVariants as call
use Rattle.xv_model.specs.declared.hypercalls.flags.TheConstants.{ESB_STORE}
use Rattle.xv_model.specs.declared.kvm.Setting.{Setting}
use Rattle.xv_model.specs.declared.kvm.Setting.TheVariants as setting
use Rattle.xv_model.specs.declared.operations.AttrValue.TheVariants.{Number}
use Rattle.xv_model.specs.declared.operations.PqOp.TheVariants.{Init}
use Rattle.xv_model.specs.declared.operations.Op.{Op}
use Rattle.xv_model.specs.declared.operations.Op.TheVariants as op
use Rattle.xv_model.specs.declared.outcomes.HReply.{HReply}
use Rattle.xv_model.specs.declared.outcomes.Outcome.TheVariants as out
use Rattle.xv_model.specs.declared.entries.Entry.{Entry}
use Rattle.xv_model.specs.account.Start.{Start}
use Rattle.xv_model.specs.account.Legal.{IsNext}
use Rattle.xv_model.specs.board.Boards.{is_level}
use Rattle.xv_model.specs.call.Accepted.{is_success, call_in}
use Rattle.xv_model.specs.device.Accepted.{setting_in}
use Rattle.xv_model.specs.end.Flags.{has_bit}
use Rattle.board_script.specs.Steps.{first_from, resets, setting_off}
use Rattle.board_script.specs.Work.{next_op}
use Rattle.board_script.specs.Calling.{management_number, calls}
use Rattle.board_script.specs.Setting.{sets}

-- the first operation after an account with an accepted call: the access that H_INT_ESB names, the first take of H_INT_SYNC, or the first pair that
-- H_INT_RESET sets
abbrev pub first_after : Start → List Entry → Call → Option Op
first_after z h (call.Esb c) = Some (op.Esb c.lisn (management_number z.board) c.offset (has_bit c.flags ESB_STORE))
first_after z h (call.Sync c) = Some (op.Take 0)
first_after z h (call.Reset c) = setting_off (first_from (resets z h) 0 z.board.limits.sources)
first_after z h _ = None

-- each call that is accepted is followed by its first operation
abbrev pub EachAcceptedGoesOn : Type 0
EachAcceptedGoesOn =
    (z : Start) (before : List Entry) (x : Entry) (number : ℕ) (args : List ℕ) (c : Call) → IsNext z before x → x.op ≡ op.Hcall number args → call_in x.op x.outcome ≡ Some c →
    next_op (calls z.board number args) z before (x ∷ []) ≡ first_after z (x ∷ before) c

-- a line whose call is refused has ended with it
abbrev pub EachRefusedEnds : Type 0
EachRefusedEnds =
    (z : Start) (before : List Entry) (x : Entry) (number : ℕ) (args : List ℕ) (reply : HReply) → x.outcome ≡ out.Reply reply → is_success reply.code ≡ false →
    next_op (calls z.board number args) z before (x ∷ []) ≡ None

-- the first operation after an account with an accepted setting: the first pair that KVM_DEV_XIVE_RESET sets, the first take of KVM_DEV_XIVE_EQ_SYNC and of
-- KVM_DEV_XIVE_GRP_SOURCE_SYNC, or the initialisation of the word of a source, whose line is up where the value says so of a level source
abbrev pub first_after_setting : Start → List Entry → Setting → Option Op
first_after_setting z h setting.Reset = setting_off (first_from (resets z h) 0 z.board.limits.sources)
first_after_setting z h setting.EqSync = Some (op.Take 0)
first_after_setting z h (setting.Source c) = Some (op.Pq c.source (Init (is_level z.board c.source && c.asserted)))
first_after_setting z h (setting.SourceSync s) = Some (op.Take 0)
first_after_setting z h _ = None

-- each setting that is accepted is followed by its first operation
abbrev pub EachSettingGoesOn : Type 0
EachSettingGoesOn =
    (z : Start) (before : List Entry) (x : Entry) (group number value : ℕ) (c : Setting) → IsNext z before x → x.op ≡ op.AttrSet group number (Number value) → setting_in x.op x.outcome ≡ Some c →
    next_op (sets z.board group number value) z before (x ∷ []) ≡ first_after_setting z (x ∷ before) c

-- a line whose setting is refused has ended with it
abbrev pub EachRefusedSettingEnds : Type 0
EachRefusedSettingEnds =
    (z : Start) (before : List Entry) (x : Entry) (group number value : ℕ) (code : ℤ) → x.outcome ≡ out.Code code → is_success code ≡ false →
    next_op (sets z.board group number value) z before (x ∷ []) ≡ None
