use Rattle.std.proofs.Common.{◌<◌, subst, arith}
use Rattle.xv_model.specs.declared.board.Board.{Board}
use Rattle.xv_model.specs.account.Start.{start}
use Rattle.account.specs.Account.{ring_line_of}
use Rattle.xive_cli.specs.Output.{told}
use Rattle.xive_cli.proofs.Telling.{on_err_anyway}
use Rattle.xive_cli.proofs.Printed.{one_told, one_failed, ring_printed}
use Rattle.xive_cli.proofs.report.put_rings.Goals as goal

pub returns-in_err-settle-clause-err : goal.returns-in_err-settle-clause-err
returns-in_err-settle-clause-err g c =
    let e = c.in_err-settle.ensures {u = tt} in
    let P : Board → Type 0 = λ b. c.loop-t.t < b.limits.threads in
    on_err_anyway _ (one_failed c.args.machine.now ring_line_of c.loop-t.t _ (told c.args.output.now) (told c.loop-t.output) _ c.add_ring.new.text.items _
    (subst P c.board.ensures.value c.loop-t-test.true) c.loop-t.invariant.count c.loop-t.invariant.tells
    (λ h st. ring_printed c.args.machine.now.fabric.tables.board h c.loop-t.t c.ring-ring.result (c.ring-ring.ensures (start c.args.machine.now.fabric.tables.board) h st)) c.add_ring.ensures.items e.err e.failed e.lost)

pub loop-t-preserved : goal.loop-t-preserved
loop-t-preserved g c =
    let e = c.in_ok-settle.ensures {u = tt} in
    record {
      tells = one_told c.args.machine.now ring_line_of c.loop-t.t (told c.args.output.now) (told c.loop-t.output) (record { gathered = c.settle.new.self.gathered.items; held = g.K.Sink.held c.settle.new.sink; faults = g.K.Sink.faults c.settle.new.sink }) c.add_ring.new.text.items _ c.loop-t.invariant.tells
          (λ h st. ring_printed c.args.machine.now.fabric.tables.board h c.loop-t.t c.ring-ring.result (c.ring-ring.ensures (start c.args.machine.now.fabric.tables.board) h st)) c.add_ring.ensures.items e.ok;
      sink = c.loop-t.invariant.sink;
      count = omega (arith, c.loop-t.invariant.count, c.settle.ensures.count);
    }
