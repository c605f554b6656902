use Rattle.std.proofs.Common.{◌<◌, subst, arith}
use Rattle.xv_model.specs.declared.board.Board.{Board}
use Rattle.xv_model.specs.account.Start.{start}
use Rattle.account.specs.Account.{processor_line_of}
use Rattle.xive_cli.specs.Output.{told}
use Rattle.xive_cli.proofs.Telling.{on_err_anyway}
use Rattle.xive_cli.proofs.Printed.{one_told, one_failed, processor_printed}
use Rattle.xive_cli.proofs.report.put_processors.Goals as goal

pub returns-in_err-settle-clause-err : goal.returns-in_err-settle-clause-err
returns-in_err-settle-clause-err g c =
    let e = c.in_err-settle.ensures {u = tt} in
    let P : Board → Type 0 = λ b. c.loop-v.v < b.limits.processors in
    on_err_anyway _ (one_failed c.args.machine.now processor_line_of c.loop-v.v _ (told c.args.output.now) (told c.loop-v.output) _ c.add_connected.new.text.items _
    (subst P c.board.ensures.value c.loop-v-test.true) c.loop-v.invariant.count c.loop-v.invariant.tells
    (λ h st. processor_printed c.args.machine.now.fabric.tables.board h c.loop-v.v c.processor.result (c.processor.ensures (start c.args.machine.now.fabric.tables.board) h st)) c.add_connected.ensures.items e.err e.failed e.lost)

pub loop-v-preserved : goal.loop-v-preserved
loop-v-preserved g c =
    let e = c.in_ok-settle.ensures {u = tt} in
    record {
      tells = one_told c.args.machine.now processor_line_of c.loop-v.v (told c.args.output.now) (told c.loop-v.output) (record { gathered = c.settle.new.self.gathered.items; held = g.K.Sink.held c.settle.new.sink; faults = g.K.Sink.faults c.settle.new.sink }) c.add_connected.new.text.items _ c.loop-v.invariant.tells
          (λ h st. processor_printed c.args.machine.now.fabric.tables.board h c.loop-v.v c.processor.result (c.processor.ensures (start c.args.machine.now.fabric.tables.board) h st)) c.add_connected.ensures.items e.ok;
      sink = c.loop-v.invariant.sink;
      count = omega (arith, c.loop-v.invariant.count, c.settle.ensures.count);
    }
