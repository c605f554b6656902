use Rattle.std.proofs.Common.{arith, rules}
use Rattle.account.proofs.Digits.{length_32}
use Rattle.account.proofs.numbers.add_short_number.Goals as goal

pub add_digits-requires : goal.add_digits-requires
add_digits-requires g c = let short = length_32 c.args.n (omega arith) in search rules

pub returns-clause-len : goal.returns-clause-len
returns-clause-len g c = omega (arith, length_32 c.args.n (omega arith))
