use Rattle.std.proofs.Common.{arith, rules, append_assoc}
use Rattle.account.proofs.Digits.{length_pair, decimal_pair}
use Rattle.account.proofs.numbers.add_short.Goals as goal

pub add_first-requires-else-n-lt100 : goal.add_first-requires-else-n-lt100
add_first-requires-else-n-lt100 g c = let long = length_pair c.args.n c.if-n-lt100.false (omega arith) in search rules

pub add_two-requires : goal.add_two-requires
add_two-requires g c = let long = length_pair c.args.n c.if-n-lt100.false (omega arith) in search rules

pub returns-else-n-lt100-clause-items : goal.returns-else-n-lt100-clause-items
returns-else-n-lt100-clause-items g c =
    rw (c.add_two.ensures.items, c.add_first-else-n-lt100.ensures.items, append_assoc, decimal_pair c.args.n c.if-n-lt100.false (omega arith))

pub returns-else-n-lt100-clause-len : goal.returns-else-n-lt100-clause-len
returns-else-n-lt100-clause-len g c = omega (arith, length_pair c.args.n c.if-n-lt100.false (omega arith))
