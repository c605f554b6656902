use Rattle.std.proofs.Common.{[], sym, ◌∙◌, ap, subst, arith}
use Rattle.board_script.specs.Parser.{Parsing}
use Rattle.xive_cli.specs.Input.{unread}
use Rattle.xive_cli.specs.Output.{told}
use Rattle.board_script.specs.Stage.{IsOpen}
use Rattle.xive_cli.specs.Reading.{Fills, StopsReading}
use Rattle.xive_cli.proofs.Going.{goes_further}
use Rattle.xive_cli.proofs.Saying.{says_from, stops_from, stops_again}
use Rattle.xive_cli.proofs.Stopping.{at_stop}
use Rattle.xive_cli.proofs.Telling.{tells_both}
use Rattle.xive_cli.proofs.reading.read_line.Goals as goal

pub returns-in_err-next_said-clause-stop : goal.returns-in_err-next_said-clause-stop
returns-in_err-next_said-clause-stop g c =
    let i = c.loop-input.invariant in
    at_stop c.from_residual.result _ c.in_err-next_said.field-0.0 c.from_residual.ensures.1
    (stops_from c.in_err-next_said.field-0.0 (unread c.args.input.now) (unread c.loop-input.input) (unread c.next_said.new.input) (told c.args.output.now) (told c.loop-input.output) i.goes i.parser i.tells (c.in_err-next_said.ensures {u = tt}).stop)

pub returns-clause-says : goal.returns-clause-says
returns-clause-says g c =
    let i = c.loop-input.invariant in
    says_from (unread c.args.input.now) (unread c.loop-input.input) (unread c.next_said.new.input) c.next_said.new.said i.goes i.parser i.given
    ((c.in_ok-next_said.ensures {u = tt}).says c.if-not-branch.false)

pub loop-input-preserved : goal.loop-input-preserved
loop-input-preserved g c =
    let i = c.loop-input.invariant in
    let w = (c.in_ok-next_said.ensures {u = tt}).waits c.if-not-branch.true in
    let e = c.in_ok-read_more.ensures {u = tt} in
    let f = subst (λ v. Fills v (unread c.read_more.new.input)) w.0 e.fills in
    record {
      goes = λ work. goes_further (unread c.args.input.now) (unread c.loop-input.input) (unread c.read_more.new.input) work work work (i.goes work) (f.goes work);
      open_yet = subst (λ (q : Parsing). IsOpen q.stage) (sym f.parser) i.open_yet;
      parser = f.parser ∙ i.parser;
      given = f.given ∙ i.given;
      tells = tells_both (told c.args.output.now) (told c.loop-input.output) (told c.read_more.new.output) [] [] i.tells e.tells;
      source = c.read_more.ensures.source ∙ c.next_said.ensures.source ∙ i.source;
      sink = c.read_more.ensures.sink ∙ i.sink;
      source_count = omega (arith, i.source_count, c.read_more.ensures.source_count, ap (λ v. g.S.Source.faults v) c.next_said.ensures.stays);
      sink_count = omega (arith, i.sink_count, c.read_more.ensures.sink_count);
    }

pub returns-in_err-read_more-clause-stop : goal.returns-in_err-read_more-clause-stop
returns-in_err-read_more-clause-stop g c =
    let i = c.loop-input.invariant in
    let w = (c.in_ok-next_said.ensures {u = tt}).waits c.if-not-branch.true in
    let stop = c.in_err-read_more.field-0.0 in
    let b = unread c.read_more.new.input in
    let t' = told c.read_more.new.output in
    at_stop c.from_residual-in_err-read_more.result _ stop c.from_residual-in_err-read_more.ensures.1
    (stops_again stop (unread c.args.input.now) (unread c.loop-input.input) b (told c.args.output.now) (told c.loop-input.output) t' i.goes i.parser i.source_count i.sink_count i.tells
    (subst (λ v. StopsReading stop v (told c.loop-input.output) b t') w.0 (c.in_err-read_more.ensures {u = tt}).stop))
