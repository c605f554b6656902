-- Lines that bring to rest, and those that reset: what they leave once they have ended.
use Rattle.std.specs.Prelude.{ℕ, ◌≡◌, ◌<◌, ◌++◌, true, false, List, [], Some}
use Rattle.xv_model.specs.declared.outcomes.Outcome.TheVariants.{Quiet}
use Rattle.xv_model.specs.declared.entries.Entry.{Entry}
use Rattle.xv_model.specs.declared.hypercalls.TheConstants.{H_INT_RESET}
use Rattle.xv_model.specs.declared.hypercalls.arguments.ResetArgs.{ResetArgs}
use Rattle.xv_model.specs.declared.hypercalls.arguments.SyncArgs.{SyncArgs}
use Rattle.xv_model.specs.declared.hypercalls.Call.TheVariants as call
use Rattle.xv_model.specs.declared.kvm.Setting.TheVariants as setting
use Rattle.xv_model.specs.account.Start.{Start, no_config}
use Rattle.xv_model.specs.account.Legal.{IsLegal}
use Rattle.xv_model.specs.account.Scripts.{IsPart}
use Rattle.xv_model.specs.source.Notices.{outstanding, all_outstanding}
use Rattle.xv_model.specs.source.Eas.{masked_off, eas, initialised}
use Rattle.xv_model.specs.source.Pairs.{pq}
use Rattle.xv_model.specs.route.Flight.{flight}
use Rattle.xv_model.specs.end.Descriptors.{end_config}
use Rattle.xv_model.specs.end.EventStates.{esn, ese}
use Rattle.xv_model.specs.end.Reading.{taken_count}
use Rattle.xv_model.specs.end.Written.{written_count}
use Rattle.board_script.specs.declared.work.Work.{Work}
use Rattle.board_script.specs.Steps.{last_outcome}
use Rattle.board_script.specs.Work.{settle, sync, drain}
use Rattle.board_script.specs.Calling.{IsAccepted, calls, no_args, reset}
use Rattle.board_script.specs.Setting.{IsSet, sets}
use Rattle.board_script.specs.Script.{line_for}

-- a line of an actor has ended: the part is all of its entries after an account, and legal there
pub record HasEnded (z : Start) (actor : ℕ) (work : Work) (before part : List Entry) : Type 0 where
  pub part_is : IsPart z (line_for (record { actor = actor; work = work })) before part
  pub legal : IsLegal z (part ++ before)

-- a line that settles leaves no message in flight
abbrev pub SettlesLeaveNoMessage : Type 0
SettlesLeaveNoMessage =
    (z : Start) (actor : ℕ) (before part : List Entry) → HasEnded z actor settle before part → flight z (part ++ before) ≡ []

-- a source is at rest after an account: no notice of it is outstanding, and no message of any source is in flight
pub record IsAtRest (z : Start) (h : List Entry) (s : ℕ) : Type 0 where
  pub no_message : flight z h ≡ []
  pub no_notice : outstanding z h s ≡ 0

-- a sync of a source leaves it at rest, and is answered last that the source is quiet
abbrev pub SyncsEndQuiet : Type 0
SyncsEndQuiet =
    (z : Start) (actor s : ℕ) (before part : List Entry) → HasEnded z actor (sync s) before part →
    IsAtRest z (part ++ before) s × (last_outcome part ≡ Some Quiet)

-- a drain of all sources leaves no message in flight, and no notice of any source outstanding
abbrev pub DrainsLeaveNothing : Type 0
DrainsLeaveNothing =
    (z : Start) (actor : ℕ) (before part : List Entry) → HasEnded z actor (drain z.board.limits.sources) before part →
    (flight z (part ++ before) ≡ []) × (all_outstanding z (part ++ before) ≡ 0)

-- a source after an account that turned it off: its EAS is masked, and its pair is 01
pub record IsOff (z : Start) (h : List Entry) (s : ℕ) : Type 0 where
  pub masked : eas z h s ≡ masked_off
  pub pair : pq z h s ≡ 1

-- a source as it was
pub record IsKept (z : Start) (before h : List Entry) (s : ℕ) : Type 0 where
  pub same_eas : eas z h s ≡ eas z before s
  pub same_pair : pq z h s ≡ pq z before s

-- the line of an H_INT_SYNC that is accepted leaves its source at rest, and is answered last that the source is quiet
abbrev pub SyncCallsEndQuiet : Type 0
SyncCallsEndQuiet =
    (z : Start) (actor number : ℕ) (args : List ℕ) (c : SyncArgs) (before part : List Entry) →
    IsAccepted z before number args (call.Sync c) → HasEnded z actor (calls z.board number args) before part →
    IsAtRest z (part ++ before) c.lisn × (last_outcome part ≡ Some Quiet)

-- and so does that of a KVM_DEV_XIVE_GRP_SOURCE_SYNC that is accepted
abbrev pub SourceSyncsEndQuiet : Type 0
SourceSyncsEndQuiet =
    (z : Start) (actor group number value s : ℕ) (before part : List Entry) →
    IsSet z before group number value (setting.SourceSync s) → HasEnded z actor (sets z.board group number value) before part →
    IsAtRest z (part ++ before) s × (last_outcome part ≡ Some Quiet)

-- the line of a KVM_DEV_XIVE_EQ_SYNC, which is accepted wherever it is made, leaves what a drain of all sources leaves
abbrev pub EqSyncsLeaveNothing : Type 0
EqSyncsLeaveNothing =
    (z : Start) (actor group number value : ℕ) (before part : List Entry) →
    IsSet z before group number value setting.EqSync → HasEnded z actor (sets z.board group number value) before part →
    (flight z (part ++ before) ≡ []) × (all_outstanding z (part ++ before) ≡ 0)

-- a source after a reset: where it was initialised it is off, and else as it was
abbrev pub IsTurnedOff : Start → List Entry → List Entry → ℕ → Type 0
IsTurnedOff z before h s = (initialised z before s ≡ true → IsOff z h s) × (initialised z before s ≡ false → IsKept z before h s)

-- the line of an H_INT_RESET that is accepted turns each source off that was initialised, and leaves every other one as it was
abbrev pub ResetsTurnOff : Type 0
ResetsTurnOff =
    (z : Start) (actor number s : ℕ) (args : List ℕ) (c : ResetArgs) (before part : List Entry) →
    IsAccepted z before number args (call.Reset c) → HasEnded z actor (calls z.board number args) before part → s < z.board.limits.sources →
    IsTurnedOff z before (part ++ before) s

-- and so does that of a KVM_DEV_XIVE_RESET
abbrev pub SettingsTurnOff : Type 0
SettingsTurnOff =
    (z : Start) (actor group number value s : ℕ) (before part : List Entry) →
    IsSet z before group number value setting.Reset → HasEnded z actor (sets z.board group number value) before part → s < z.board.limits.sources →
    IsTurnedOff z before (part ++ before) s

-- an END after an account that reset it: it isn't valid and has no queue, its states are 01, and nothing was written into a queue of it or taken
-- from one since
pub record IsCleared (z : Start) (h : List Entry) (e : ℕ) : Type 0 where
  pub config : end_config z h e ≡ no_config
  pub notifications_off : esn z h e ≡ 1
  pub escalations_off : ese z h e ≡ 1
  pub none_written : written_count z h e ≡ 0
  pub none_taken : taken_count z h e ≡ 0

-- each of the two lines clears each END
abbrev pub ResetsClearEnds : Type 0
ResetsClearEnds =
    (z : Start) (actor number e : ℕ) (args : List ℕ) (c : ResetArgs) (before part : List Entry) →
    IsAccepted z before number args (call.Reset c) → HasEnded z actor (calls z.board number args) before part →
    IsCleared z (part ++ before) e

abbrev pub SettingsClearEnds : Type 0
SettingsClearEnds =
    (z : Start) (actor group number value e : ℕ) (before part : List Entry) →
    IsSet z before group number value setting.Reset → HasEnded z actor (sets z.board group number value) before part →
    IsCleared z (part ++ before) e

-- a line that resets is that of an H_INT_RESET without flags, which is accepted after every account
abbrev pub ResetsAreAccepted : Type 0
ResetsAreAccepted =
    (z : Start) (before : List Entry) →
    (reset z.board ≡ calls z.board H_INT_RESET no_args) × IsAccepted z before H_INT_RESET no_args (call.Reset (record { flags = 0 }))
