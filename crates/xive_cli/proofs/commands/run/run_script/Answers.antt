use Rattle.std.proofs.Common.{arith}
use Rattle.xive_cli.specs.declared.stop.Stop.TheVariants.{WriteFault}
use Rattle.xive_cli.specs.Input.{unread}
use Rattle.xive_cli.specs.Output.{Told, told}
use Rattle.xive_cli.proofs.Closing.{stops_after, all_after, all_told, report_failed, flush_failed}
use Rattle.xive_cli.proofs.Stopping.{at_stop}
use Rattle.xive_cli.proofs.Telling.{tells_flushed, fails_flushed}
use Rattle.xive_cli.proofs.commands.run.run_script.Goals as goal

pub returns-in_err-run_work-clause-stop : goal.returns-in_err-run_work-clause-stop
returns-in_err-run_work-clause-stop g c =
    let h = c.in_ok-read_header.ensures {u = tt} in
    let stop = c.in_err-run_work.field-0.0 in
    at_stop c.from_residual-in_err-run_work.result _ stop c.from_residual-in_err-run_work.ensures.1
    (stops_after stop (unread c.args.input.now) (unread c.read_header.new.input) (unread c.run_work.new.input) (told c.args.output.now) (told c.read_header.new.output) (told c.run_work.new.output)
    h.goes c.read_header.ensures.source_count c.read_header.ensures.sink_count h.tells (c.in_err-run_work.ensures {u = tt}).stop)

pub returns-in_err-put_report-clause-stop : goal.returns-in_err-put_report-clause-stop
returns-in_err-put_report-clause-stop g c =
    let h = c.in_ok-read_header.ensures {u = tt} in
    let r = c.in_ok-run_work.ensures {u = tt} in
    let u = unread c.read_header.new.input in
    let v = unread c.run_work.new.input in
    let t1 = told c.read_header.new.output in
    let t2 = told c.run_work.new.output in
    let t3 = told c.put_report.new.output in
    at_stop c.from_residual-in_err-put_report.result _ WriteFault c.from_residual-in_err-put_report.ensures.1
    (stops_after WriteFault (unread c.args.input.now) u v (told c.args.output.now) t1 t3 h.goes c.read_header.ensures.source_count c.read_header.ensures.sink_count h.tells
    (report_failed c.read_header.new.input.parser.board u v c.run_work.new.machine t1 t2 t3 c.run_work.ensures.board c.run_work.ensures.sink_count r.done (c.in_err-put_report.ensures {u = tt}).err))

pub returns-in_err-flush-clause-stop : goal.returns-in_err-flush-clause-stop
returns-in_err-flush-clause-stop g c =
    let h = c.in_ok-read_header.ensures {u = tt} in
    let r = c.in_ok-run_work.ensures {u = tt} in
    let e = c.in_err-flush.ensures {u = tt} in
    let u = unread c.read_header.new.input in
    let v = unread c.run_work.new.input in
    let t1 = told c.read_header.new.output in
    let t2 = told c.run_work.new.output in
    let t3 = told c.put_report.new.output in
    let t4 : Told = record { gathered = c.flush.new.self.gathered.items; held = g.K.Sink.held c.flush.new.sink; faults = g.K.Sink.faults c.flush.new.sink } in
    at_stop c.from_residual-in_err-flush.result _ WriteFault c.from_residual-in_err-flush.ensures.1
    (stops_after WriteFault (unread c.args.input.now) u v (told c.args.output.now) t1 t4 h.goes c.read_header.ensures.source_count c.read_header.ensures.sink_count h.tells
    (flush_failed c.read_header.new.input.parser.board u v c.run_work.new.machine t1 t2 t3 t4 c.run_work.ensures.board (omega (arith, c.run_work.ensures.sink_count, c.put_report.ensures.count)) r.done
    (c.in_ok-put_report.ensures {u = tt}).ok (fails_flushed t3 t4 e.err e.failed c.flush.ensures.empty)))

pub returns-clause-done : goal.returns-clause-done
returns-clause-done g c =
    let h = c.in_ok-read_header.ensures {u = tt} in
    let r = c.in_ok-run_work.ensures {u = tt} in
    let e = c.in_ok-flush.ensures {u = tt} in
    let u = unread c.read_header.new.input in
    let v = unread c.run_work.new.input in
    let t1 = told c.read_header.new.output in
    let t2 = told c.run_work.new.output in
    let t3 = told c.put_report.new.output in
    let t4 : Told = record { gathered = c.flush.new.self.gathered.items; held = g.K.Sink.held c.flush.new.sink; faults = g.K.Sink.faults c.flush.new.sink } in
    all_after (unread c.args.input.now) u v (told c.args.output.now) t1 t4 h.goes h.tells
    (all_told c.read_header.new.input.parser.board u v c.run_work.new.machine t1 t2 t3 t4 c.run_work.ensures.board r.done (c.in_ok-put_report.ensures {u = tt}).ok (tells_flushed t3 t4 e.ok c.flush.ensures.empty) c.flush.ensures.empty)
