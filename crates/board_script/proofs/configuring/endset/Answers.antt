use Rattle.std.proofs.Common.{◌∙◌}
use Rattle.board_script.specs.Grammar.{Flags, Word}
use Rattle.board_script.specs.Operations.{end_number, target}
use Rattle.board_script.proofs.Walks.{walk_on}
use Rattle.board_script.proofs.configuring.endset.Goals as goal

pub returns : goal.returns
returns c = λ at l.
    let b = c.args.board.now in let e = c.in_ok-e in let f = c.in_ok-flags in
    c.target.ensures at l
    ∙ walk_on at Flags (λ flags. target b e.e flags) c.end_number.new.self c.flags.new.self f.flags f.ensures.value f.ensures.rest
    ∙ walk_on at (end_number b) (λ k. Word Flags (λ flags. target b k flags)) c.args.words.now c.end_number.new.self e.e e.ensures.value e.ensures.rest
