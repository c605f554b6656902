use Rattle.std.proofs.Common.{append_assoc}
use Rattle.account.proofs.Digits.{pairs_at}
use Rattle.account.proofs.numbers.add_two.Goals as goal

pub returns-clause-items : goal.returns-clause-items
returns-clause-items g c =
    let two = pairs_at c.args.n c.requires.small in
    rw (c.push-2.ensures.items, c.push.ensures.items, append_assoc, two.0, two.1)
