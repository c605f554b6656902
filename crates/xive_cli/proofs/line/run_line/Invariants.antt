use Rattle.std.proofs.Common.{◌≡◌, ◌+◌, ◌≤◌, List, None, Some}
use Rattle.xv_model.specs.declared.entries.Entry.{Entry}
use Rattle.xv_model.specs.account.Start.{Start}
use Rattle.xv_model.specs.account.Legal.{IsLegal}
use Rattle.machine.specs.Machine.{StandsFor, burden_of}
use Rattle.board_script.specs.Work.{load, IsAt, IsLast, HasValidSteps}
use Rattle.xive_cli.specs.Line.{RunsPart}
use Rattle.xive_cli.specs.Output.{told}
use Rattle.xive_cli.proofs.line.run_line.Given as goal

abbrev pub invariant-loop-op : goal.invariant-loop-op
invariant-loop-op g l = record {
  runs : (z : Start) (before : List Entry) → StandsFor l.fn.machine z before → IsLegal z before →
      (part : List Entry) × RunsPart (record { actor = l.actor; work = l.fn.work }) l.machine (told l.fn.output) (told l.output) z before part × IsAt l.going l.fn.work z before part × IsLast part (Some l.last);
  steps : HasValidSteps l.fn.machine.fabric.tables.board l.going;
  board : l.machine.fabric.tables.board ≡ l.fn.machine.fabric.tables.board;
  few : l.machine.count + load l.going (Some l.last) (burden_of l.machine) ≤ l.fn.machine.count + load l.fn.work None (burden_of l.fn.machine);
  sink : l.output.sink.ghost_name ≡ l.fn.output.sink.ghost_name;
  sink_count : g.K.Sink.faults l.fn.output.sink.now ≤ g.K.Sink.faults l.output.sink.now;
}

abbrev pub decreases-loop-op : goal.decreases-loop-op
decreases-loop-op g l = load l.going (Some l.last) (burden_of l.machine)
