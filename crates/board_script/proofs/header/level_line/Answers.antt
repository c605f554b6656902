use Rattle.std.proofs.Common.{◌≡◌, ◌∙◌, Err, codes, rules}
use Rattle.board_script.specs.declared.lines.Said.TheVariants.{Level}
use Rattle.board_script.proofs.HeaderLines.{refused_range}
use Rattle.board_script.proofs.header.level_line.Goals as goal

pub returns-in_err-span : goal.returns-in_err-span
returns-in_err-span c = λ at l w r.
    let b = c.args.board.now in
    let is : c.from_residual.result ≡ Err c.in_err-span.field-0.0 = search rules in
    rw (← c.if-same.ensures) (is ∙ refused_range (codes "level") at b.level b.limits.sources Level c.args.words.now c.in_err-span.field-0.0 r (c.in_err-span.ensures at l))
