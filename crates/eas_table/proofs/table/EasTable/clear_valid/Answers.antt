use Rattle.std.proofs.Common.{◌<◌, length, rules}
use Rattle.std.proofs.lemmas.Option.{slice_get_within}
use Rattle.eas_table.proofs.InRange.{all_cleared}
use Rattle.eas_table.proofs.table.EasTable.clear_valid.Goals as goal

pub returns-clause-in_range : goal.returns-clause-in_range
returns-clause-in_range c = λ is before.
    all_cleared c.args.board.now c.args.self.now c.loop-s.self is before (λ s a there.
    let inside : s < length c.args.self.now = slice_get_within c.args.self.now s a there in
    c.loop-s.invariant.1 s a (search rules) there) c.loop-s.invariant.0
