use Rattle.std.proofs.Common.{refl, sym, ◌∙◌, subst, arith}
use Rattle.xv_model.specs.declared.board.Board.{Board}
use Rattle.xv_model.specs.board.Boards.{IsBoard}
use Rattle.account.specs.Account.{header_text}
use Rattle.board_script.specs.declared.lines.Said.TheVariants as said
use Rattle.board_script.specs.Script.{WorkLine}
use Rattle.board_script.specs.Stage.{IsWorking}
use Rattle.machine.proofs.Burdens.{burden_of-none}
use Rattle.board_script.proofs.WorkLines.{few}
use Rattle.machine.specs.Machine.{burden_of}
use Rattle.xive_cli.specs.declared.stop.Stop.TheVariants.{WriteFault}
use Rattle.xive_cli.specs.Input.{unread}
use Rattle.xive_cli.specs.Output.{told, Tells, Fails}
use Rattle.xive_cli.specs.Reading.{Says}
use Rattle.xive_cli.proofs.Stopping.{at_stop}
use Rattle.xive_cli.proofs.Working.{whole_at, is_work, works_after, no_work, nothing_ran, nothing_more, line_ran, all_ran, header_failed, line_failed, work_stops}
use Rattle.xive_cli.proofs.work.run_work.Goals as goal

pub returns-in_err-put_header-clause-stop : goal.returns-in_err-put_header-clause-stop
returns-in_err-put_header-clause-stop g c =
    let b = c.args.input.now.parser.board in
    let t = told c.args.output.now in
    let t' = told c.put_header.new.output in
    at_stop c.from_residual.result _ WriteFault c.from_residual.ensures.1
    (header_failed b (unread c.args.input.now) t t' (whole_at c.args.input.now.parser b (subst IsWorking (sym c.requires.stage) tt) refl)
    (subst (λ (board : Board). Fails t (header_text board) t') (c.board.ensures.value ∙ c.requires.board) (c.in_err-put_header.ensures {u = tt}).err))

pub lines-init : goal.lines-init
lines-init g c =
    let t = told c.args.output.now in
    let t' = told c.put_header.new.output in
    record {
      runs = nothing_ran c.args.input.now.parser.board (unread c.args.input.now) c.args.machine.now t t' c.requires.stands
          (subst (λ (board : Board). Tells t (header_text board) t') (c.board.ensures.value ∙ c.requires.board) (c.in_ok-put_header.ensures {u = tt}).ok);
      stage = subst IsWorking (sym c.requires.stage) tt;
      board = refl;
      machine = c.requires.board;
      few = omega (arith, c.requires.count, burden_of-none c.args.machine.now c.args.input.now.parser.board c.requires.stands);
      source = refl;
      sink = c.put_header.ensures.sink;
      source_count = omega arith;
      sink_count = c.put_header.ensures.count;
    }

pub returns-in_err-read_line-clause-stop : goal.returns-in_err-read_line-clause-stop
returns-in_err-read_line-clause-stop g c =
    let i = c.lines.invariant in
    let stop = c.in_err-read_line.field-0.0 in
    let b = c.args.input.now.parser.board in
    at_stop c.from_residual-in_err-read_line.result _ stop c.from_residual-in_err-read_line.ensures.1
    (work_stops stop b (unread c.args.input.now) (unread c.lines.input) (unread c.read_line.new.input) c.lines.machine (told c.args.output.now) (told c.lines.output) (told c.read_line.new.output)
    (whole_at c.lines.input.parser b i.stage i.board) i.source_count i.sink_count i.runs (c.in_err-read_line.ensures {u = tt}).stop)

pub lines-preserved-in-Continue-branch-3 : goal.lines-preserved-in-Continue-branch-3
lines-preserved-in-Continue-branch-3 g c =
    let i = c.lines.invariant in
    let e = c.in_ok-read_line.ensures {u = tt} in
    let r = c.in_ok-run_line-in-Work.ensures {u = tt} in
    let u = unread c.lines.input in
    let v = unread c.read_line.new.input in
    let w : WorkLine = record { actor = c.in-Work.actor; work = c.in-Work.work } in
    let it = said.Work c.in-Work.actor c.in-Work.work in
    let says = subst (λ it. Says u it v) c.in-Work.is e.says in
    let works = works_after u v it says.next i.stage tt in
    let is_board : IsBoard u.parser.board = subst IsBoard (c.board.ensures.value ∙ c.requires.board ∙ sym i.board) c.board.ensures.board in
    record {
      runs = line_ran c.args.input.now.parser.board (unread c.args.input.now) u v c.lines.machine c.run_line.new.machine (told c.args.output.now) (told c.lines.output) (told c.read_line.new.output) (told c.run_line.new.output) w i.runs says.next e.tells r.runs;
      stage = works.0;
      board = works.1 ∙ i.board;
      machine = c.run_line.ensures.board ∙ i.machine;
      few = omega (arith, i.few, r.few, says.next.rises, is_board.sources, few c.in-Work.work (burden_of c.lines.machine) u.parser.board (is_work u c.in-Work.actor c.in-Work.work says.fits i.stage).valid_steps);
      source = c.read_line.ensures.source ∙ i.source;
      sink = c.run_line.ensures.sink ∙ c.read_line.ensures.sink ∙ i.sink;
      source_count = omega (arith, i.source_count, c.read_line.ensures.source_count);
      sink_count = omega (arith, i.sink_count, c.read_line.ensures.sink_count, c.run_line.ensures.sink_count);
    }

pub returns-in_err-run_line-in-Work-clause-stop : goal.returns-in_err-run_line-in-Work-clause-stop
returns-in_err-run_line-in-Work-clause-stop g c =
    let i = c.lines.invariant in
    let e = c.in_ok-read_line.ensures {u = tt} in
    let u = unread c.lines.input in
    let v = unread c.read_line.new.input in
    let b = c.args.input.now.parser.board in
    let w : WorkLine = record { actor = c.in-Work.actor; work = c.in-Work.work } in
    let it = said.Work c.in-Work.actor c.in-Work.work in
    let says = subst (λ it. Says u it v) c.in-Work.is e.says in
    let works = works_after u v it says.next i.stage tt in
    at_stop c.from_residual-in_err-run_line-in-Work.result _ WriteFault c.from_residual-in_err-run_line-in-Work.ensures.1
    (line_failed b (unread c.args.input.now) u v c.lines.machine (told c.args.output.now) (told c.lines.output) (told c.read_line.new.output) (told c.run_line.new.output) w
    (whole_at c.read_line.new.input.parser b works.0 (works.1 ∙ i.board)) (omega (arith, i.sink_count, c.read_line.ensures.sink_count)) i.runs says.next e.tells (c.in_err-run_line-in-Work.ensures {u = tt}).fails)

pub returns-in-End-clause-done : goal.returns-in-End-clause-done
returns-in-End-clause-done g c =
    let i = c.lines.invariant in
    let e = c.in_ok-read_line.ensures {u = tt} in
    let u = unread c.lines.input in
    let v = unread c.read_line.new.input in
    let says = subst (λ it. Says u it v) c.in-End.is e.says in
    all_ran c.args.input.now.parser.board (unread c.args.input.now) u v c.lines.machine (told c.args.output.now) (told c.lines.output) (told c.read_line.new.output)
    (subst IsBoard (c.board.ensures.value ∙ c.requires.board) c.board.ensures.board) i.board i.runs says.next e.tells

pub lines-preserved : goal.lines-preserved
lines-preserved g c =
    let i = c.lines.invariant in
    let e = c.in_ok-read_line.ensures {u = tt} in
    let u = unread c.lines.input in
    let v = unread c.read_line.new.input in
    let n = no_work u v c.read_line.new.said e.says c.in-Nothing.is i.stage in
    record {
      runs = nothing_more c.args.input.now.parser.board (unread c.args.input.now) u v c.lines.machine (told c.args.output.now) (told c.lines.output) (told c.read_line.new.output) i.runs n.goes e.tells;
      stage = n.stage;
      board = n.board ∙ i.board;
      machine = i.machine;
      few = omega (arith, i.few, n.rises);
      source = c.read_line.ensures.source ∙ i.source;
      sink = c.read_line.ensures.sink ∙ i.sink;
      source_count = omega (arith, i.source_count, c.read_line.ensures.source_count);
      sink_count = omega (arith, i.sink_count, c.read_line.ensures.sink_count);
    }
