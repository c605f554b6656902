use Rattle.account.proofs.Digits.{pair_more}
use Rattle.account.proofs.numbers.add_pair.Goals as goal

pub returns-clause-items : goal.returns-clause-items
returns-clause-items g c =
    pair_more c.args.pair c.args.text.now.items c.push.new.self.items c.push-2.new.self.items c.requires.pair c.push.ensures.items c.push-2.ensures.items
