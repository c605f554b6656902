-- The lines of hypercalls: what they go on with, where the call is accepted.
use Rattle.std.specs.Prelude.{ℕ, ◌≡◌, ◌-◌, ◌&&◌, nat_lt, true, if◌then◌else◌, List, [], ◌∷◌, Some}
use Rattle.std.specs.Option.{option_map_or}
use Rattle.xv_model.specs.declared.board.Board.{Board}
use Rattle.xv_model.specs.declared.hypercalls.TheConstants.{H_INT_RESET}
use Rattle.xv_model.specs.declared.hypercalls.Call.{Call}
use Rattle.xv_model.specs.declared.hypercalls.Call.TheVariants as call
use Rattle.xv_model.specs.declared.hypercalls.arguments.EsbArgs.{EsbArgs}
use Rattle.xv_model.specs.declared.hypercalls.flags.TheConstants.{ESB_STORE}
use Rattle.xv_model.specs.declared.operations.Op.TheVariants as op
use Rattle.xv_model.specs.declared.pages.TheConstants.{PAGE_SIZE}
use Rattle.xv_model.specs.declared.entries.Entry.{Entry}
use Rattle.xv_model.specs.account.Start.{Start}
use Rattle.xv_model.specs.board.Boards.{source_pages}
use Rattle.xv_model.specs.call.Accepted.{is_success}
use Rattle.xv_model.specs.call.Arguments.{call_of}
use Rattle.xv_model.specs.call.Hypercalls.{hcall_reply}
use Rattle.xv_model.specs.end.Flags.{has_bit}
use Rattle.board_script.specs.declared.work.Work.{Work}
use Rattle.board_script.specs.declared.steps.Then.{Then}
use Rattle.board_script.specs.declared.steps.Then.TheVariants.{Done, Sync, Esb, Reset}
use Rattle.board_script.specs.Work.{with_then}

-- the management page of a source is its last one
abbrev pub management_number : Board → ℕ
management_number b = source_pages b - 1

-- H_INT_ESB accesses the management page of a source
abbrev pub esb_access : Board → EsbArgs → Then
esb_access b c = Esb c.lisn (management_number b) c.offset (has_bit c.flags ESB_STORE)

-- what a call goes on with where it is accepted, which it isn't for a source or an offset that the board doesn't have: H_INT_ESB accesses a page,
-- H_INT_SYNC brings a source to rest, and H_INT_RESET sets the pairs of the sources
abbrev pub then_called : Board → Call → Then
then_called b (call.Esb c) = if nat_lt c.lisn b.limits.sources && nat_lt c.offset PAGE_SIZE then esb_access b c else Done
then_called b (call.Sync c) = if nat_lt c.lisn b.limits.sources then Sync c.lisn else Done
then_called b (call.Reset c) = Reset 0 b.limits.sources
then_called b _ = Done

-- the line of a hypercall
abbrev pub calls : Board → ℕ → List ℕ → Work
calls b number args = with_then (op.Hcall number args) (option_map_or (then_called b) (call_of number args) Done)

-- a number and its arguments name a call that is accepted after an account
pub record IsAccepted (z : Start) (h : List Entry) (number : ℕ) (args : List ℕ) (c : Call) : Type 0 where
  pub names : call_of number args ≡ Some c
  pub succeeds : is_success (hcall_reply z h number args).code ≡ true

-- no flags, and no other arguments
abbrev pub no_args : List ℕ
no_args = 0 ∷ 0 ∷ 0 ∷ 0 ∷ 0 ∷ []

-- the line of H_INT_RESET without flags
abbrev pub reset : Board → Work
reset b = calls b H_INT_RESET no_args
