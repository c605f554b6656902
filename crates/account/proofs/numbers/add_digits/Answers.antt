use Rattle.std.proofs.Common.{arith, rules}
use Rattle.std.proofs.lemmas.Fmt.{decimal_digit}
use Rattle.account.proofs.Digits.{length_digit}
use Rattle.account.proofs.numbers.add_digits.Goals as goal

pub push-requires : goal.push-requires
push-requires g c = let one = length_digit c.args.n c.if-n-lt10.true in (search rules, omega arith)

pub returns-then-n-lt10-clause-items : goal.returns-then-n-lt10-clause-items
returns-then-n-lt10-clause-items g c = rw (c.push.ensures.items, decimal_digit c.args.n c.if-n-lt10.true)

pub returns-then-n-lt10-clause-len : goal.returns-then-n-lt10-clause-len
returns-then-n-lt10-clause-len g c = omega (arith, length_digit c.args.n c.if-n-lt10.true)
