use Rattle.std.proofs.Common.{◌∙◌}
use Rattle.board_script.specs.Grammar.{AnyNumber, Word}
use Rattle.board_script.specs.Operations.{next_entry, word32}
use Rattle.board_script.proofs.Walks.{walk_on}
use Rattle.board_script.proofs.attributes.kvmeq_line.Goals as goal

pub returns : goal.returns
returns c = λ at.
    let n = c.in_ok-attr in let f = c.in_ok-flags in let s = c.in_ok-qshift in let q = c.in_ok-qaddr in
    c.next_entry.ensures at
    ∙ walk_on at AnyNumber (λ addr. next_entry n.attr (record { flags = f.flags; qshift = s.qshift; qaddr = addr; qtoggle = 0; qindex = 0 })) c.bounded-2.new.self c.number-2.new.self q.qaddr q.ensures.value q.ensures.rest
    ∙ walk_on at word32 (λ shift. Word AnyNumber (λ addr. next_entry n.attr (record { flags = f.flags; qshift = shift; qaddr = addr; qtoggle = 0; qindex = 0 }))) c.bounded.new.self c.bounded-2.new.self s.qshift s.ensures.value s.ensures.rest
    ∙ walk_on at word32 (λ flags. Word word32 (λ shift. Word AnyNumber (λ addr. next_entry n.attr (record { flags = flags; qshift = shift; qaddr = addr; qtoggle = 0; qindex = 0 })))) c.number.new.self c.bounded.new.self f.flags f.ensures.value f.ensures.rest
    ∙ walk_on at AnyNumber (λ n. Word word32 (λ flags. Word word32 (λ shift. Word AnyNumber (λ addr. next_entry n (record { flags = flags; qshift = shift; qaddr = addr; qtoggle = 0; qindex = 0 }))))) c.args.words.now c.number.new.self n.attr n.ensures.value n.ensures.rest
