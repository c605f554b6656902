use Rattle.std.proofs.Common.{◌∙◌}
use Rattle.board_script.specs.Grammar.{AnyNumber, Word}
use Rattle.board_script.specs.Operations.{last_args}
use Rattle.board_script.proofs.Walks.{walk_on}
use Rattle.board_script.proofs.calling.hcall.Goals as goal

pub returns : goal.returns
returns c = λ at.
    let n = c.in_ok-number in let a = c.in_ok-a in let b = c.in_ok-b in let board = c.args.board.now in
    c.last_args.ensures at
    ∙ walk_on at AnyNumber (λ b. last_args board n.number a.a b) c.number-2.new.self c.number-3.new.self b.b b.ensures.value b.ensures.rest
    ∙ walk_on at AnyNumber (λ a. Word AnyNumber (λ b. last_args board n.number a b)) c.number.new.self c.number-2.new.self a.a a.ensures.value a.ensures.rest
    ∙ walk_on at AnyNumber (λ n. Word AnyNumber (λ a. Word AnyNumber (λ b. last_args board n a b))) c.args.words.now c.number.new.self n.number n.ensures.value n.ensures.rest
