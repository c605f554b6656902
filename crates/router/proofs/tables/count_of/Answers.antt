use Rattle.std.proofs.Common.{◌≡◌, ◌<◌, true, false, length, slice_index_or, rules}
use Rattle.router.proofs.Counted.{counts_on}
use Rattle.router.proofs.tables.count_of.Goals as goal
use Rattle.router.proofs.tables.count_of.Goals.{then-origin-s, else-origin-s}

pub loop-i-preserved : goal.loop-i-preserved
loop-i-preserved c =
    let ms = c.args.messages.now.items in
    let inside : c.loop-i.i < length ms = search rules in
    let found : c.index.result.now ≡ slice_index_or ms c.loop-i.i c.index.result.now = search rules in elim c.if-origin-s.branch [
      | then-origin-s w ↦ counts_on ms c.loop-i.i c.args.s c.index.result.now c.loop-i.n c.if-origin-s.n true inside found (search rules) c.loop-i.invariant (search rules)
      | else-origin-s w ↦ counts_on ms c.loop-i.i c.args.s c.index.result.now c.loop-i.n c.if-origin-s.n false inside found (search rules) c.loop-i.invariant (search rules)
    ]
