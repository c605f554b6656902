use Rattle.std.proofs.Common.{◌<◌, ap, subst, arith}
use Rattle.xv_model.specs.declared.board.Board.{Board}
use Rattle.xv_model.specs.account.Start.{start}
use Rattle.machine.specs.declared.views.SourceView.{SourceView}
use Rattle.account.specs.text.Report.{source_line}
use Rattle.account.specs.Account.{source_line_of}
use Rattle.xive_cli.specs.Output.{told}
use Rattle.xive_cli.proofs.Telling.{on_err_anyway}
use Rattle.xive_cli.proofs.Printed.{one_told, one_failed}
use Rattle.xive_cli.proofs.report.put_sources.Goals as goal

pub returns-in_err-settle-clause-err : goal.returns-in_err-settle-clause-err
returns-in_err-settle-clause-err g c =
    let e = c.in_err-settle.ensures {u = tt} in
    let P : Board → Type 0 = λ b. c.loop-s.s < b.limits.sources in
    on_err_anyway _ (one_failed c.args.machine.now source_line_of c.loop-s.s _ (told c.args.output.now) (told c.loop-s.output) _ c.add_source.new.text.items _
    (subst P c.board.ensures.value c.loop-s-test.true) c.loop-s.invariant.count c.loop-s.invariant.tells
    (λ h st. ap (λ (w : SourceView). source_line c.loop-s.s w.pq w.asserted w.forwards w.routes) (c.source-source.ensures.value (start c.args.machine.now.fabric.tables.board) h st)) c.add_source.ensures.items e.err e.failed e.lost)

pub loop-s-preserved : goal.loop-s-preserved
loop-s-preserved g c =
    let e = c.in_ok-settle.ensures {u = tt} in
    record {
      tells = one_told c.args.machine.now source_line_of c.loop-s.s (told c.args.output.now) (told c.loop-s.output) (record { gathered = c.settle.new.self.gathered.items; held = g.K.Sink.held c.settle.new.sink; faults = g.K.Sink.faults c.settle.new.sink }) c.add_source.new.text.items _ c.loop-s.invariant.tells
          (λ h st. ap (λ (w : SourceView). source_line c.loop-s.s w.pq w.asserted w.forwards w.routes) (c.source-source.ensures.value (start c.args.machine.now.fabric.tables.board) h st)) c.add_source.ensures.items e.ok;
      sink = c.loop-s.invariant.sink;
      count = omega (arith, c.loop-s.invariant.count, c.settle.ensures.count);
    }
