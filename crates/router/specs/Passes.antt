-- What a pass makes of what is kept of an END, and of memory.
use Rattle.std.specs.Prelude.{ℕ, ◌+◌, ◌/◌, if◌then◌else◌, List, [], Option, Some, None, slice_set}
use Rattle.xv_model.specs.declared.messages.Message.{Message}
use Rattle.xv_model.specs.declared.operations.EndConfig.{EndConfig}
use Rattle.xv_model.specs.declared.outcomes.Wrote.{Wrote}
use Rattle.xv_model.specs.declared.outcomes.EndRun.{EndRun}
use Rattle.xv_model.specs.declared.outcomes.EndRun.TheVariants.{Ran, NoEnd}
use Rattle.xv_model.specs.source.PqTable.{trigger_row}
use Rattle.xv_model.specs.end.EventStates.{asks_state}
use Rattle.xv_model.specs.end.Flags.{is_valid, enqueues}
use Rattle.xv_model.specs.route.Routing.{next_by, write_by}
use Rattle.xv_model.specs.route.Flight.{messages_by}
use Rattle.end_escalate.specs.declared.decisions.EndStep.{EndStep}
use Rattle.end_escalate.specs.Decisions.{state_after}
use Rattle.end_queue.specs.declared.ends.EndRecord.{EndRecord}
use Rattle.end_queue.specs.Ends.{with_esn}

-- an END after a pass wrote into its queue, where it has one
abbrev pub enqueued : EndRecord → EndRecord
enqueued r = record {
  config = r.config;
  written = if enqueues r.config then r.written + 1 else r.written;
  taken = r.taken;
  esn = r.esn;
  ese = r.ese;
}

-- an END after a step made its state of notifications what it says
abbrev pub with_step : EndStep → EndRecord → EndRecord
with_step step r = with_esn (state_after step r.esn) r

-- an END after a pass went on: where that asks its state, it is triggered
abbrev pub notified : EndRecord → EndRecord
notified r = record {
  config = r.config;
  written = r.written;
  taken = r.taken;
  esn = if asks_state r.config then (trigger_row r.esn).pair else r.esn;
  ese = r.ese;
}

-- an END after a pass
abbrev pub after_pass : EndRecord → EndRecord
after_pass r = if is_valid r.config then notified (enqueued r) else r

-- what a pass of END e answers
abbrev pub pass_by : EndRecord → ℕ → ℕ → EndRun
pass_by r e payload =
    if is_valid r.config
    then Ran e (write_by r.config r.written payload) (next_by r.config r.esn)
    else NoEnd e

-- the message that a pass of an END makes for a source
abbrev pub made_for : ℕ → EndConfig → EndRun → List Message
made_for s c (Ran e wrote next) = messages_by next e c s
made_for s c (NoEnd e) = []

-- memory after a pass wrote this, or nothing
abbrev pub with_write : Option Wrote → List ℕ → List ℕ
with_write (Some w) memory = slice_set memory (w.addr / 4) w.word
with_write None memory = memory
