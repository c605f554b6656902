use Rattle.std.proofs.Common.{rules, ap, sym, ◌∙◌}
use Rattle.xv_model.specs.processor.Phases.{thread_of}
use Rattle.presenter.proofs.Moved.{backlogs, finds}
use Rattle.presenter.proofs.presenting.present.Goals as goal

pub add_pending-requires : goal.add_pending-requires
add_pending-requires c = c.requires.fit.threads c.args.vp c.in-On.t (ap (λ x. thread_of x.phase) (sym c.get-found.ensures) ∙ ap thread_of c.in-On.is)

pub returns-in-On-clause-fit : goal.returns-in-On-clause-fit
returns-in-On-clause-fit c = (finds c.args.vps.now.vps c.args.rings.now c.add_pending.new.self c.args.vp c.in-On.t c.args.priority c.requires.fit (ap (λ x. x.phase) (sym c.get-found.ensures) ∙ c.in-On.is) c.add_pending.ensures.ring).fit

pub returns-in-On-clause-pending : goal.returns-in-On-clause-pending
returns-in-On-clause-pending c = (finds c.args.vps.now.vps c.args.rings.now c.add_pending.new.self c.args.vp c.in-On.t c.args.priority c.requires.fit (ap (λ x. x.phase) (sym c.get-found.ensures) ∙ c.in-On.is) c.add_pending.ensures.ring).pending

pub returns-clause-fit : goal.returns-clause-fit
returns-clause-fit c = (backlogs c.args.vps.now.vps c.set.new.self.vps c.args.rings.now c.args.vp c.args.priority c.requires.fit c.requires.processor c.requires.priority (search rules)).fit

pub returns-clause-pending : goal.returns-clause-pending
returns-clause-pending c = (backlogs c.args.vps.now.vps c.set.new.self.vps c.args.rings.now c.args.vp c.args.priority c.requires.fit c.requires.processor c.requires.priority (search rules)).pending
