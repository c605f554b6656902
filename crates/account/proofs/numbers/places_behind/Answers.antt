use Rattle.std.proofs.Common.{arith, refl}
use Rattle.account.proofs.Digits.{first_place}
use Rattle.account.proofs.numbers.places_behind.Goals as goal

pub returns-else-n-lt16-clause-first : goal.returns-else-n-lt16-clause-first
returns-else-n-lt16-clause-first c = (first_place c.args.n _ c.if-n-lt16.false (omega arith) refl).0

pub returns-else-n-lt16-clause-some : goal.returns-else-n-lt16-clause-some
returns-else-n-lt16-clause-some c more = (first_place c.args.n _ c.if-n-lt16.false (omega arith) refl).1
