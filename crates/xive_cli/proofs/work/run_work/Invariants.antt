use Rattle.std.proofs.Common.{◌≡◌, ◌≤◌, ◌+◌, ◌*◌, ◌-◌}
use Rattle.xv_base.specs.Limits.{byte_limit, most_sources}
use Rattle.board_script.specs.Stage.{IsWorking}
use Rattle.machine.specs.Machine.{burden_of}
use Rattle.xive_cli.specs.Input.{unread}
use Rattle.xive_cli.specs.Output.{told}
use Rattle.xive_cli.specs.Work.{RunsSoFar}
use Rattle.xive_cli.proofs.work.run_work.Given as goal

abbrev pub invariant-lines : goal.invariant-lines
invariant-lines g l = record {
  runs : RunsSoFar l.fn.input.parser.board (unread l.fn.input) (told l.fn.output) l.machine (unread l.input) (told l.output);
  stage : IsWorking l.input.parser.stage;
  board : l.input.parser.board ≡ l.fn.input.parser.board;
  machine : l.machine.fabric.tables.board ≡ l.fn.input.parser.board;
  few : l.machine.count + 2 * burden_of l.machine ≤ (30 + 20 * most_sources) * l.input.reader.given;
  source : l.input.source.ghost_name ≡ l.fn.input.source.ghost_name;
  sink : l.output.sink.ghost_name ≡ l.fn.output.sink.ghost_name;
  source_count : g.S.Source.faults l.fn.input.source.now ≤ g.S.Source.faults l.input.source.now;
  sink_count : g.K.Sink.faults l.fn.output.sink.now ≤ g.K.Sink.faults l.output.sink.now;
}

abbrev pub decreases-lines : goal.decreases-lines
decreases-lines g l = byte_limit - l.input.reader.given
