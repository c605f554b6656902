-- How a pass of an END goes on, and what becomes of its state.
use Rattle.std.specs.Prelude.{ℕ, Option, Some, None}
use Rattle.xv_model.specs.declared.outcomes.Then.{Then}
use Rattle.xv_model.specs.declared.outcomes.Then.TheVariants as then
use Rattle.end_escalate.specs.declared.decisions.EndStep.{EndStep}
use Rattle.end_escalate.specs.declared.decisions.EndStep.TheVariants.{Invalid, Coalesced, Silent, Escalate, Present}

-- what a pass says of how it goes on; there is none of an END that isn't valid
abbrev pub then_of : EndStep → Option Then
then_of Invalid = None
then_of (Coalesced esn) = Some then.Coalesced
then_of Silent = Some then.Silent
then_of Escalate = Some then.Escalate
then_of (Present esn) = Some then.Present

-- the state of notifications after a step that found it so
abbrev pub state_after : EndStep → ℕ → ℕ
state_after (Coalesced esn) old = esn
state_after (Present esn) old = esn
state_after _ old = old
