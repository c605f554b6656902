-- The lines of the KVM device: what they go on with, where an attribute is set.
use Rattle.std.specs.Prelude.{ℕ, ◌≡◌, ◌&&◌, nat_lt, Bool, true, if◌then◌else◌, List, Some}
use Rattle.std.specs.Option.{option_map_or}
use Rattle.xv_model.specs.declared.board.Board.{Board}
use Rattle.xv_model.specs.declared.kvm.TheConstants.{GRP_EQ_CONFIG}
use Rattle.xv_model.specs.declared.kvm.Setting.{Setting}
use Rattle.xv_model.specs.declared.kvm.Setting.TheVariants as setting
use Rattle.xv_model.specs.declared.operations.AttrValue.TheVariants.{Number, Queue}
use Rattle.xv_model.specs.declared.operations.EqFields.{EqFields}
use Rattle.xv_model.specs.declared.operations.Op.TheVariants as op
use Rattle.xv_model.specs.declared.entries.Entry.{Entry}
use Rattle.xv_model.specs.account.Start.{Start}
use Rattle.xv_model.specs.board.Boards.{is_level}
use Rattle.xv_model.specs.call.Accepted.{is_success}
use Rattle.xv_model.specs.device.Answers.{attribute_code}
use Rattle.xv_model.specs.device.Attributes.{setting_by}
use Rattle.board_script.specs.declared.work.Work.{Work}
use Rattle.board_script.specs.declared.steps.Then.{Then}
use Rattle.board_script.specs.declared.steps.Then.TheVariants.{Done, Sync, Drain, Reset, Init}
use Rattle.board_script.specs.Work.{once, with_then}

-- a source is initialised, with its line up where the value says so; a message source has no line
abbrev pub initialisation : Board → ℕ → Bool → Then
initialisation b s asserted = Init s (is_level b s && asserted)

-- what a setting goes on with where it is accepted, which it isn't for a source that the board doesn't have: KVM_DEV_XIVE_RESET sets the pairs of the
-- sources, KVM_DEV_XIVE_EQ_SYNC drains all of them, KVM_DEV_XIVE_GRP_SOURCE initialises the word of a source, and KVM_DEV_XIVE_GRP_SOURCE_SYNC brings
-- one to rest
abbrev pub then_set : Board → Setting → Then
then_set b setting.Reset = Reset 0 b.limits.sources
then_set b setting.EqSync = Drain 0 b.limits.sources
then_set b (setting.Source c) = if nat_lt c.source b.limits.sources then initialisation b c.source c.asserted else Done
then_set b (setting.SourceSync s) = if nat_lt s b.limits.sources then Sync s else Done
then_set b _ = Done

-- the line that sets an attribute of a group to a number
abbrev pub sets : Board → ℕ → ℕ → ℕ → Work
sets b group number value = with_then (op.AttrSet group number (Number value)) (option_map_or (then_set b) (setting_by group number (Number value)) Done)

-- the line that sets a queue
abbrev pub sets_queue : ℕ → EqFields → Work
sets_queue number eq = once (op.AttrSet GRP_EQ_CONFIG number (Queue eq))

-- a group, an attribute and a number name a setting that is accepted after an account
pub record IsSet (z : Start) (h : List Entry) (group number value : ℕ) (c : Setting) : Type 0 where
  pub names : setting_by group number (Number value) ≡ Some c
  pub succeeds : is_success (attribute_code z h group number (Number value)) ≡ true
