use Rattle.std.proofs.Common.{rules, length, ap, ◌∙◌}
use Rattle.presenter.specs.Contexts.{named_by}
use Rattle.presenter.proofs.Moved.{named_on, pulls}
use Rattle.presenter.proofs.moves.pull.Goals as goal

pub returns-clause-fit : goal.returns-clause-fit
returns-clause-fit c =
    let is = c.in-Some.ensures ∙ ap (λ r. named_by (length c.args.vps.now.vps) r.cam) c.get.ensures.value in
    (pulls c.args.vps.now.vps c.set.new.self.vps c.args.rings.now c.pull-cam.new.self c.in-Some.v c.args.t c.requires.fit (search rules) (named_on c.args.vps.now.vps c.args.rings.now c.args.t c.in-Some.v c.requires.fit is) (search rules) (search rules)).fit

pub returns-clause-pending : goal.returns-clause-pending
returns-clause-pending c =
    let is = c.in-Some.ensures ∙ ap (λ r. named_by (length c.args.vps.now.vps) r.cam) c.get.ensures.value in
    (pulls c.args.vps.now.vps c.set.new.self.vps c.args.rings.now c.pull-cam.new.self c.in-Some.v c.args.t c.requires.fit (search rules) (named_on c.args.vps.now.vps c.args.rings.now c.args.t c.in-Some.v c.requires.fit is) (search rules) (search rules)).pending
