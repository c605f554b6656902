use Rattle.std.proofs.Common.{◌∷◌, ◌++◌, sym, ◌∙◌, ap, subst}
use Rattle.account.specs.text.Entry.{entry_line}
use Rattle.machine.specs.Machine.{StandsFor}
use Rattle.xive_cli.specs.Output.{told}
use Rattle.xive_cli.specs.Line.{entry_of}
use Rattle.xive_cli.proofs.Entries.{entry_is}
use Rattle.xive_cli.proofs.Telling.{on_err_anyway, tells_printed, fails_printed}
use Rattle.xive_cli.proofs.line.make_entry.Goals as goal

pub returns-in_err-settle-clause-fails : goal.returns-in_err-settle-clause-fails
returns-in_err-settle-clause-fails g c =
    let x = c.step-outcome.result in
    let e = c.in_err-settle.ensures {u = tt} in
    let same = entry_is x c.args.actor c.args.op.now c.step-outcome.ensures.actor c.step-outcome.ensures.op in
    on_err_anyway c.from_residual.result (record {
      outcome = x.outcome;
      makes = record {
        outcome = λ z h st. c.step-outcome.ensures.outcome z h st;
        stands = λ z h st. subst (λ y. StandsFor c.step-outcome.new.self z (y ∷ h)) (sym same) (c.step-outcome.ensures.stands z h st);
      };
      fails = fails_printed (told c.args.output.now) _ c.add_entry.new.text.items _
          (c.add_entry.ensures.items ∙ ap (λ text. c.args.output.now.writer.gathered.items ++ text) (ap (λ i. entry_line i (entry_of c.args.actor c.args.op.now x.outcome)) c.count-index.ensures))
          e.err e.failed e.lost;
    })

pub returns-clause-tells : goal.returns-clause-tells
returns-clause-tells g c =
    let x = c.step-outcome.result in
    let e = c.in_ok-settle.ensures {u = tt} in
    let same = entry_is x c.args.actor c.args.op.now c.step-outcome.ensures.actor c.step-outcome.ensures.op in
    record {
      makes = record {
        outcome = λ z h st. c.step-outcome.ensures.outcome z h st;
        stands = λ z h st. subst (λ y. StandsFor c.step-outcome.new.self z (y ∷ h)) (sym same) (c.step-outcome.ensures.stands z h st);
      };
      tells = tells_printed (told c.args.output.now) (record { gathered = c.settle.new.self.gathered.items; held = g.K.Sink.held c.settle.new.sink; faults = g.K.Sink.faults c.settle.new.sink }) c.add_entry.new.text.items _
          (c.add_entry.ensures.items ∙ ap (λ text. c.args.output.now.writer.gathered.items ++ text) (ap (λ i. entry_line i (entry_of c.args.actor c.args.op.now x.outcome)) c.count-index.ensures))
          e.ok;
    }
