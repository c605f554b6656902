use Rattle.std.proofs.Common.{rules, length}
use Rattle.presenter.proofs.Moved.{named_is, pushes}
use Rattle.presenter.proofs.moves.push.Goals as goal

pub returns-clause-fit : goal.returns-clause-fit
returns-clause-fit c = (pushes c.args.vps.now.vps c.set.new.self.vps c.args.rings.now c.push.new.self c.in-Some.v c.args.t c.args.cam c.requires.fit (search rules) (search rules) (named_is (length c.args.vps.now.vps) c.args.cam c.in-Some.v c.in-Some.ensures) (search rules) (search rules)).fit

pub returns-clause-pending : goal.returns-clause-pending
returns-clause-pending c = (pushes c.args.vps.now.vps c.set.new.self.vps c.args.rings.now c.push.new.self c.in-Some.v c.args.t c.args.cam c.requires.fit (search rules) (search rules) (named_is (length c.args.vps.now.vps) c.args.cam c.in-Some.v c.in-Some.ensures) (search rules) (search rules)).pending
