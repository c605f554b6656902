use Rattle.std.proofs.Common.{◌≡◌, ◌≤◌}
use Rattle.account.specs.Account.{texts_below, processor_line_of}
use Rattle.xive_cli.specs.Output.{told}
use Rattle.xive_cli.specs.Report.{TellsOf}
use Rattle.xive_cli.proofs.report.put_processors.Given as goal

abbrev pub invariant-loop-v : goal.invariant-loop-v
invariant-loop-v g l = record {
  tells : TellsOf l.machine (λ z h. texts_below (processor_line_of z h) l.v) (told l.fn.output) (told l.output);
  sink : l.output.sink.ghost_name ≡ l.fn.output.sink.ghost_name;
  count : g.K.Sink.faults l.fn.output.sink.now ≤ g.K.Sink.faults l.output.sink.now;
}
