use Rattle.std.proofs.Common.{arith, rules}
use Rattle.account.proofs.tests.ranged_board.Goals as goal

pub returns : goal.returns
returns c =
    let level = c.one_range.ensures 8192 (omega arith) in
    let unclaimed = c.one_range-2.ensures 8192 (omega arith) in
    let unconnected = c.one_range-3.ensures 64 (omega arith) in
    search rules
