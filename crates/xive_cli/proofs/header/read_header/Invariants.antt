use Rattle.std.proofs.Common.{◌≡◌, ◌≤◌, ◌-◌, []}
use Rattle.xv_base.specs.Limits.{byte_limit}
use Rattle.xive_cli.specs.Input.{unread}
use Rattle.xive_cli.specs.Output.{told, Tells}
use Rattle.xive_cli.specs.Reading.{GoesOn, IsInHeader}
use Rattle.xive_cli.proofs.header.read_header.Given as goal

abbrev pub invariant-lines : goal.invariant-lines
invariant-lines g l = record {
  goes : GoesOn (unread l.fn.input) [] (unread l.input) [];
  header : IsInHeader l.input.parser.stage;
  tells : Tells (told l.fn.output) [] (told l.output);
  source : l.input.source.ghost_name ≡ l.fn.input.source.ghost_name;
  sink : l.output.sink.ghost_name ≡ l.fn.output.sink.ghost_name;
  source_count : g.S.Source.faults l.fn.input.source.now ≤ g.S.Source.faults l.input.source.now;
  sink_count : g.K.Sink.faults l.fn.output.sink.now ≤ g.K.Sink.faults l.output.sink.now;
}

abbrev pub decreases-lines : goal.decreases-lines
decreases-lines g l = byte_limit - l.input.reader.given
