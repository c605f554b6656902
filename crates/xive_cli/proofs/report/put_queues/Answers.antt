use Rattle.std.proofs.Common.{◌<◌, ap, subst, arith}
use Rattle.xv_model.specs.declared.board.Board.{Board}
use Rattle.std.proofs.Common.{◌*◌}
use Rattle.xv_model.specs.account.Start.{start}
use Rattle.fabric_core.specs.declared.views.QueueView.{QueueView}
use Rattle.account.specs.text.Report.{queue_line}
use Rattle.account.specs.Account.{queue_line_of}
use Rattle.xive_cli.specs.Output.{told}
use Rattle.xive_cli.proofs.Telling.{on_err_anyway}
use Rattle.xive_cli.proofs.Printed.{one_told, one_failed}
use Rattle.xive_cli.proofs.report.put_queues.Goals as goal

pub returns-in_err-settle-clause-err : goal.returns-in_err-settle-clause-err
returns-in_err-settle-clause-err g c =
    let e = c.in_err-settle.ensures {u = tt} in
    let P : Board → Type 0 = λ b. c.loop-e.e < 8 * b.limits.processors in
    on_err_anyway _ (one_failed c.args.machine.now queue_line_of c.loop-e.e _ (told c.args.output.now) (told c.loop-e.output) _ c.add_queue.new.text.items _
    (subst P c.board.ensures.value c.loop-e-test.true) c.loop-e.invariant.count c.loop-e.invariant.tells
    (λ h st. ap (λ (q : QueueView). queue_line c.loop-e.e q.config.flags.0 q.written q.taken q.esn q.ese) (c.queue-queue.ensures.value (start c.args.machine.now.fabric.tables.board) h st)) c.add_queue.ensures.items e.err e.failed e.lost)

pub loop-e-preserved : goal.loop-e-preserved
loop-e-preserved g c =
    let e = c.in_ok-settle.ensures {u = tt} in
    record {
      tells = one_told c.args.machine.now queue_line_of c.loop-e.e (told c.args.output.now) (told c.loop-e.output) (record { gathered = c.settle.new.self.gathered.items; held = g.K.Sink.held c.settle.new.sink; faults = g.K.Sink.faults c.settle.new.sink }) c.add_queue.new.text.items _ c.loop-e.invariant.tells
          (λ h st. ap (λ (q : QueueView). queue_line c.loop-e.e q.config.flags.0 q.written q.taken q.esn q.ese) (c.queue-queue.ensures.value (start c.args.machine.now.fabric.tables.board) h st)) c.add_queue.ensures.items e.ok;
      sink = c.loop-e.invariant.sink;
      count = omega (arith, c.loop-e.invariant.count, c.settle.ensures.count);
    }
