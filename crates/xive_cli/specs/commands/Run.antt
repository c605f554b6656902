-- What the command `run` writes of a script.
use Rattle.std.specs.Prelude.{ℕ, ◌≡◌, ◌<◌, List, [], ◌++◌, map, length, Option, Some, None, IsSome, ⊤}
use Rattle.std.specs.Io.KnownBytes.{Appends, Consumes}
use Rattle.xv_base.specs.Limits.{byte_limit}
use Rattle.xv_base.specs.declared.status.Status.{Status}
use Rattle.xv_base.specs.declared.status.Status.TheVariants as status
use Rattle.xv_io.specs.Faults.{AppendsPart}
use Rattle.xv_model.specs.declared.board.Board.{Board}
use Rattle.xv_model.specs.declared.entries.Entry.{Entry}
use Rattle.xv_model.specs.account.Start.{start}
use Rattle.xv_model.specs.board.Boards.{IsBoard}
use Rattle.xv_model.specs.account.Legal.{IsLegal}
use Rattle.xv_model.specs.account.Scripts.{Follows}
use Rattle.xv_model.specs.laws.Triggers.{AreNumbered, AreAccounted, ComeAgain}
use Rattle.xv_model.specs.laws.Entering.{RoutesAreNumbered, RoutesAreForwarded, EntersOnce}
use Rattle.xv_model.specs.laws.Notices.{QuietIsQuiet, TakesAreFew, MessagesAreFew}
use Rattle.xv_model.specs.laws.Escalations.{UndeliveredEscalates, SilentEscalates, EscalationRuns}
use Rattle.xv_model.specs.laws.Acknowledgements.{AcceptMostFavoured, AnswerAccepted, LeaveAlone, LeaveAll}
use Rattle.xv_model.specs.laws.Pending.{HaveOneUser, AreUsers, AreKeptOff, AreInRing, AreShown, StayPending}
use Rattle.xv_model.specs.laws.Queues.{ReadsNext, ReadsAsWritten}
use Rattle.xv_model.specs.laws.Hypercalls.{RefusedDoNothing}
use Rattle.xv_model.specs.laws.Migrations.{TellOldPairs, StatesGoOn}
use Rattle.xv_model.specs.laws.Servers.{AreServers}
use Rattle.account.specs.Account.{header_text, entries_text, account_text}
use Rattle.account.specs.text.Refusal.{refusal_line, too_long_line}
use Rattle.board_script.specs.declared.faults.ScriptFault.{ScriptFault}
use Rattle.board_script.specs.Script.{Script, Accepted, Refused, TooLong, SoFar, WorkLine, line_for, script_of, script_so_far, board_in, IsAccountOn, IsAccountOf}
use Rattle.board_script.specs.Faults.{cause_text}

-- the known bytes are this script
abbrev pub AreScript : Option (List ℕ) → Script → Type 0
AreScript None script = ⊤
AreScript (Some bytes) script = script_of bytes ≡ script

abbrev pub told_by : Option Board → List Entry → List ℕ
told_by (Some b) h = header_text b ++ entries_text (start b) h
told_by None h = []

-- what a run writes of an account of what was read so far: nothing before the header is whole
abbrev pub told_so_far : SoFar → List Entry → List ℕ
told_so_far so_far h = told_by so_far.board h

-- the line that a run ends with where a line is refused
abbrev pub refusal_of : ScriptFault → List ℕ
refusal_of fault = refusal_line fault.line fault.byte (cause_text fault.cause)

-- all that a run writes of a script, for an account of it
abbrev pub output_of : Script → List Entry → List ℕ
output_of (Accepted b work) h = account_text b h
output_of (Refused fault so_far) h = told_so_far so_far h ++ refusal_of fault
output_of (TooLong so_far) h = told_so_far so_far h ++ too_long_line

-- the status of a script, where memory is had, and neither its source nor its sink fails
abbrev pub status_of : Script → Status
status_of (Accepted b work) = status.Done
status_of (Refused fault so_far) = status.Refused
status_of (TooLong so_far) = status.TooLong

-- the known bytes are a script of a board and work lines, and what was appended is the text of that board and of an account that follows the lines and is legal from the board's start record; the forwards, triggers, coalesced triggers and routes of this account, its messages and what is quiet in it, what these write, what is read of it, what is pending and acknowledged in it, what escalates, the hypercalls that are refused in it, the pairs, processors' states and servers that it tells, are as the laws say
pub record WritesAccount (bytes held held' : Option (List ℕ)) : Type 0 where
  pub board : Board
  pub work : List WorkLine
  pub account : List Entry
  pub is_script : AreScript bytes (Accepted board work)
  pub is_board : IsBoard board
  pub follows : Follows (start board) (map line_for work) account
  pub legal : IsLegal (start board) account
  pub numbered : AreNumbered board account
  pub accounted : AreAccounted board account
  pub come_again : ComeAgain board account
  pub routed_in_order : RoutesAreNumbered board account
  pub once_forwarded : RoutesAreForwarded board account
  pub quiet_is_quiet : QuietIsQuiet board account
  pub takes_are_few : TakesAreFew board account
  pub messages_are_few : MessagesAreFew board account
  pub enter_once : EntersOnce board account
  pub reads_next : ReadsNext board account
  pub reads_as_written : ReadsAsWritten board account
  pub one_user : HaveOneUser board account
  pub users : AreUsers board account
  pub kept_off : AreKeptOff board account
  pub in_ring : AreInRing board account
  pub shown : AreShown board account
  pub stay_pending : StayPending board account
  pub accept_most_favoured : AcceptMostFavoured board account
  pub answer_accepted : AnswerAccepted board account
  pub leave_alone : LeaveAlone board account
  pub leave_all : LeaveAll board account
  pub undelivered_escalate : UndeliveredEscalates board account
  pub silent_escalate : SilentEscalates board account
  pub escalations_run : EscalationRuns board account
  pub refused_do_nothing : RefusedDoNothing board account
  pub tell_old_pairs : TellOldPairs board account
  pub states_go_on : StatesGoOn board account
  pub servers : AreServers board account
  pub written : Appends held held' (account_text board account)

-- a line of the known bytes is refused, and what was appended is what the lines before it give, and the refusal
pub record WritesRefusal (bytes held held' : Option (List ℕ)) : Type 0 where
  pub fault : ScriptFault
  pub so_far : SoFar
  pub account : List Entry
  pub is_script : AreScript bytes (Refused fault so_far)
  pub ran : IsAccountOn so_far.board so_far.work account
  pub written : Appends held held' (told_so_far so_far account ++ refusal_of fault)

-- the known bytes have too many bytes of lines, and what was appended is what the lines in them give, and `too-long`
pub record WritesTooLong (bytes held held' : Option (List ℕ)) : Type 0 where
  pub so_far : SoFar
  pub account : List Entry
  pub is_script : AreScript bytes (TooLong so_far)
  pub ran : IsAccountOn so_far.board so_far.work account
  pub written : Appends held held' (told_so_far so_far account ++ too_long_line)

-- what was consumed of the known bytes is below the limit, and no whole line of it is refused or is the end; what was appended is all that these lines give
pub record WritesSoFar (bytes left held held' : Option (List ℕ)) : Type 0 where
  pub consumed : List ℕ
  pub so_far : SoFar
  pub account : List Entry
  pub is_consumed : Consumes bytes left consumed
  pub short : length consumed < byte_limit
  pub is_so_far : script_so_far consumed ≡ Some so_far
  pub ran : IsAccountOn so_far.board so_far.work account
  pub written : Appends held held' (told_so_far so_far account)

-- what was appended is some of the first bytes of the output of the account of the known bytes, and not all of them
abbrev pub WritesPart : Option (List ℕ) → Option (List ℕ) → Option (List ℕ) → Type 0
WritesPart None held held' = ⊤
WritesPart (Some bytes) held held' =
    (h : List Entry) × IsAccountOf (script_of bytes) h × AppendsPart held held' (output_of (script_of bytes) h)

-- the header of the known bytes is whole
abbrev pub HasHeader : Option (List ℕ) → Type 0
HasHeader None = ⊤
HasHeader (Some bytes) = IsSome (board_in (script_of bytes))

-- the statuses of the command
abbrev pub IsOfRun : Status → Type 0
IsOfRun status.Illegal = ⊥
IsOfRun status.BadState = ⊥
IsOfRun status.Usage = ⊥
IsOfRun _ = Unit {0}
