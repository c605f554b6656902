use Rattle.std.proofs.Common.{refl, sym, ◌∙◌, ap}
use Rattle.board_script.specs.Words.{answer_with}
use Rattle.board_script.specs.Parser.{read_of, parsing_after}
use Rattle.xive_cli.specs.declared.stop.Stop.TheVariants.{Refused}
use Rattle.xive_cli.proofs.Going.{refused_by_line, refused_by_length, refused_by_end, exceeds}
use Rattle.xive_cli.proofs.Saying.{says_line, says_end, same_place, waits}
use Rattle.xive_cli.proofs.Stopping.{at_stop}
use Rattle.xive_cli.proofs.reading.next_said.Goals as goal

pub returns-in_err-read-in-Line-clause-stop : goal.returns-in_err-read-in-Line-clause-stop
returns-in_err-read-in-Line-clause-stop g c =
    let reads = ap (read_of c.args.input.now.parser) (sym c.line.ensures) ∙ sym c.read.ensures.value ∙ ap (λ r. answer_with r c.read.new.said) c.in_err-read-in-Line.was in
    at_stop c.from_residual.result _ (Refused c.in_err-read-in-Line.field-0.0) c.from_residual.ensures.1
    (refused_by_line _ _ c.in_err-read-in-Line.field-0.0 (c.next.ensures.line c.in-Line.is) c.next.ensures.ended refl reads)

pub returns-in_err-finish-in-End-clause-stop : goal.returns-in_err-finish-in-End-clause-stop
returns-in_err-finish-in-End-clause-stop g c =
    at_stop c.from_residual-in_err-finish-in-End.result _ (Refused c.in_err-finish-in-End.field-0.0) c.from_residual-in_err-finish-in-End.ensures.1
    (refused_by_end _ _ c.in_err-finish-in-End.field-0.0 (c.next.ensures.end c.in-End.is) c.next.ensures.ended refl (sym c.finish.ensures.value ∙ c.in_err-finish-in-End.was))

pub returns-in_ok-read-in-Line-clause-says : goal.returns-in_ok-read-in-Line-clause-says
returns-in_ok-read-in-Line-clause-says g c =
    λ _. says_line _ _ c.read.new.said (record {
      gives = c.next.ensures.line c.in-Line.is;
      whole = c.next.ensures.whole c.in-Line.is;
      counts = c.next.ensures.counts c.in-Line.is;
      ended = c.next.ensures.ended;
      left = refl;
      reads = ap (read_of c.args.input.now.parser) (sym c.line.ensures) ∙ sym c.read.ensures.value ∙ ap (λ r. answer_with r c.read.new.said) c.in_ok-read-in-Line.was;
      after = c.read.ensures.after ∙ ap (parsing_after c.args.input.now.parser) c.line.ensures;
      rises = c.next.ensures.rises c.in-Line.is;
    }) (c.in_ok-read-in-Line.ensures {u = tt}).fits

pub returns-in-Long-clause-stop : goal.returns-in-Long-clause-stop
returns-in-Long-clause-stop g c =
    refused_by_length _ _ c.refuse_long.result (c.next.ensures.long c.in-Long.is) c.next.ensures.ended refl (λ line long. c.refuse_long.ensures.value line long)

pub returns-in-TooMany-clause-stop : goal.returns-in-TooMany-clause-stop
returns-in-TooMany-clause-stop g c = exceeds _ _ (c.next.ensures.too_many c.in-TooMany.is) c.next.ensures.ended refl

pub returns-in_ok-finish-in-End-clause-says : goal.returns-in_ok-finish-in-End-clause-says
returns-in_ok-finish-in-End-clause-says g c = λ _. says_end _ _ (c.next.ensures.end c.in-End.is) c.next.ensures.ended refl c.requires (sym c.finish.ensures.value ∙ c.in_ok-finish-in-End.was)

pub returns-in-More-clause-waits : goal.returns-in-More-clause-waits
returns-in-More-clause-waits g c = λ _.
    let m = c.next.ensures.more c.in-More.is in
    (same_place _ _ m.0 refl refl refl, waits _ m.1 (c.next.ensures.waits c.in-More.is) m.2 (c.next.ensures.below c.in-More.is))
