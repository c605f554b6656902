use Rattle.std.proofs.Common.{[], ◌∙◌, arith}
use Rattle.xive_cli.specs.Input.{unread}
use Rattle.xive_cli.specs.Output.{told}
use Rattle.xive_cli.proofs.Going.{goes_further}
use Rattle.xive_cli.proofs.Heading.{header_stops, header_line, header_goes_on}
use Rattle.xive_cli.proofs.Stopping.{at_stop}
use Rattle.xive_cli.proofs.Telling.{tells_both}
use Rattle.xive_cli.proofs.header.read_header.Goals as goal

pub returns-in_err-read_line-clause-stop : goal.returns-in_err-read_line-clause-stop
returns-in_err-read_line-clause-stop g c =
    let i = c.lines.invariant in
    let stop = c.in_err-read_line.field-0.0 in
    at_stop c.from_residual.result _ stop c.from_residual.ensures.1
    (header_stops stop (unread c.args.input.now) (unread c.lines.input) (unread c.read_line.new.input) (told c.args.output.now) (told c.lines.output) (told c.read_line.new.output) i.goes i.header i.source_count i.sink_count i.tells (c.in_err-read_line.ensures {u = tt}).stop)

pub returns-in-Go-clause-goes : goal.returns-in-Go-clause-goes
returns-in-Go-clause-goes g c =
    let i = c.lines.invariant in
    let l = header_line (unread c.lines.input) (unread c.read_line.new.input) c.read_line.new.said i.header (c.in_ok-read_line.ensures {u = tt}).says in
    goes_further (unread c.args.input.now) (unread c.lines.input) (unread c.read_line.new.input) [] [] [] i.goes l.goes

pub returns-in-Go-clause-tells : goal.returns-in-Go-clause-tells
returns-in-Go-clause-tells g c = tells_both (told c.args.output.now) (told c.lines.output) (told c.read_line.new.output) [] [] c.lines.invariant.tells (c.in_ok-read_line.ensures {u = tt}).tells

pub lines-preserved : goal.lines-preserved
lines-preserved g c =
    let i = c.lines.invariant in
    let e = c.in_ok-read_line.ensures {u = tt} in
    let l = header_line (unread c.lines.input) (unread c.read_line.new.input) c.read_line.new.said i.header e.says in
    record {
      goes = goes_further (unread c.args.input.now) (unread c.lines.input) (unread c.read_line.new.input) [] [] [] i.goes l.goes;
      header = header_goes_on c.read_line.new.said c.read_line.new.input.parser.stage c.in_default.not-Go l.stage;
      tells = tells_both (told c.args.output.now) (told c.lines.output) (told c.read_line.new.output) [] [] i.tells e.tells;
      source = c.read_line.ensures.source ∙ i.source;
      sink = c.read_line.ensures.sink ∙ i.sink;
      source_count = omega (arith, i.source_count, c.read_line.ensures.source_count);
      sink_count = omega (arith, i.sink_count, c.read_line.ensures.sink_count);
    }
