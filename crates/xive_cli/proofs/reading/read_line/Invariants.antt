use Rattle.std.proofs.Common.{◌≡◌, ◌≤◌, ◌-◌, ◌+◌, [], length, if◌then◌else◌}
use Rattle.xv_base.specs.Limits.{longest_line}
use Rattle.xive_cli.specs.Input.{unread}
use Rattle.xive_cli.specs.Output.{told, Tells}
use Rattle.board_script.specs.Stage.{IsOpen}
use Rattle.xive_cli.specs.Reading.{GoesTo}
use Rattle.xive_cli.proofs.reading.read_line.Given as goal

abbrev pub invariant-loop-input : goal.invariant-loop-input
invariant-loop-input g l = record {
  goes : GoesTo (unread l.fn.input) (unread l.input);
  open_yet : IsOpen l.input.parser.stage;
  parser : l.input.parser ≡ l.fn.input.parser;
  given : l.input.reader.given ≡ l.fn.input.reader.given;
  tells : Tells (told l.fn.output) [] (told l.output);
  source : l.input.source.ghost_name ≡ l.fn.input.source.ghost_name;
  sink : l.output.sink.ghost_name ≡ l.fn.output.sink.ghost_name;
  source_count : g.S.Source.faults l.fn.input.source.now ≤ g.S.Source.faults l.input.source.now;
  sink_count : g.K.Sink.faults l.fn.output.sink.now ≤ g.K.Sink.faults l.output.sink.now;
}

abbrev pub decreases-loop-input : goal.decreases-loop-input
decreases-loop-input g l = if l.input.reader.ended then 0 else 1 + (longest_line + 1 - length l.input.reader.ahead)
