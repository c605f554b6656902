use Rattle.std.proofs.Common.{◌∙◌}
use Rattle.board_script.specs.Grammar.{AnyNumber, Word}
use Rattle.board_script.specs.Operations.{escalation, word32}
use Rattle.board_script.proofs.Walks.{walk_on}
use Rattle.board_script.proofs.configuring.queue.Goals as goal

pub returns : goal.returns
returns c = λ at l.
    let b = c.args.board.now in let e = c.args.e in let q = c.in_ok-qaddr in let s = c.in_ok-qshift in
    c.escalation.ensures at l
    ∙ walk_on at word32 (λ shift. escalation b e (record c.args.config { qaddr = q.qaddr; qshift = shift })) c.number.new.self c.bounded.new.self s.qshift s.ensures.value s.ensures.rest
    ∙ walk_on at AnyNumber (λ addr. Word word32 (λ shift. escalation b e (record c.args.config { qaddr = addr; qshift = shift }))) c.args.words.now c.number.new.self q.qaddr q.ensures.value q.ensures.rest
