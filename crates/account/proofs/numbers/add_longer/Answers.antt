use Rattle.std.proofs.Common.{arith, rules, append_assoc}
use Rattle.account.proofs.Digits.{length_four, decimal_four}
use Rattle.account.proofs.numbers.add_longer.Goals as goal

pub add_short-requires-then-n-lt100000000 : goal.add_short-requires-then-n-lt100000000
add_short-requires-then-n-lt100000000 g c = let long = length_four c.args.n c.if-n-lt10000.false (omega arith) in search rules

pub add_two-requires : goal.add_two-requires
add_two-requires g c = let long = length_four c.args.n c.if-n-lt10000.false (omega arith) in search rules

pub add_two-requires-then-n-lt100000000 : goal.add_two-requires-then-n-lt100000000
add_two-requires-then-n-lt100000000 g c = let long = length_four c.args.n c.if-n-lt10000.false (omega arith) in search rules

pub returns-then-n-lt100000000-clause-items : goal.returns-then-n-lt100000000-clause-items
returns-then-n-lt100000000-clause-items g c =
    rw (c.add_two-then-n-lt100000000.ensures.items, c.add_two.ensures.items, c.add_short-then-n-lt100000000.ensures.items, decimal_four c.args.n c.if-n-lt10000.false (omega arith))
    (simp append_assoc)

pub returns-then-n-lt100000000-clause-len : goal.returns-then-n-lt100000000-clause-len
returns-then-n-lt100000000-clause-len g c = omega (arith, length_four c.args.n c.if-n-lt10000.false (omega arith))
