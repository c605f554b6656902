use Rattle.std.proofs.Common.{◌∙◌, ap}
use Rattle.xv_model.specs.account.Start.{no_config}
use Rattle.board_script.specs.Grammar.{Word, walk}
use Rattle.board_script.specs.Operations.{byte, notifying, processor, queue}
use Rattle.board_script.proofs.Walks.{walk_on}
use Rattle.board_script.proofs.configuring.target.Goals as goal

pub returns : goal.returns
returns c = λ at l.
    let b = c.args.board.now in let e = c.args.e in let v = c.in_ok-vp in let p = c.in_ok-priority in
    c.queue.ensures at l
    ∙ ap (λ f. walk at (queue b e (record no_config { flags = f; vp = v.vp; priority = p.priority })) c.bounded-2.new.self) c.with_bits.ensures
    ∙ walk_on at byte (λ priority. queue b e (notifying c.args.flags v.vp priority)) c.bounded.new.self c.bounded-2.new.self p.priority p.ensures.value p.ensures.rest
    ∙ walk_on at (processor b) (λ vp. Word byte (λ priority. queue b e (notifying c.args.flags vp priority))) c.args.words.now c.bounded.new.self v.vp v.ensures.value v.ensures.rest
