use Rattle.std.proofs.Common.{arith, rules}
use Rattle.account.proofs.Digits.{length_64}
use Rattle.account.proofs.numbers.add_number.Goals as goal

pub add_digits-requires : goal.add_digits-requires
add_digits-requires g c = let short = length_64 c.args.n (omega arith) in search rules

pub returns-clause-len : goal.returns-clause-len
returns-clause-len g c = omega (arith, length_64 c.args.n (omega arith))
