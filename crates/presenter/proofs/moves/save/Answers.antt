use Rattle.std.proofs.Common.{rules, ap, sym, ◌∙◌}
use Rattle.xv_model.specs.processor.Phases.{thread_of}
use Rattle.presenter.proofs.Moved.{saves}
use Rattle.presenter.proofs.moves.save.Goals as goal

pub get-ring-requires : goal.get-ring-requires
get-ring-requires c = c.requires.fit.threads c.args.v c.in-Pulled.t (ap (λ x. thread_of x.phase) (sym c.get-found.ensures) ∙ ap thread_of c.in-Pulled.is)

pub returns-clause-fit : goal.returns-clause-fit
returns-clause-fit c = (saves c.args.vps.now.vps c.set.new.self.vps c.args.rings.now c.clear.new.self c.args.v c.in-Pulled.t c.requires.fit c.requires.processor (search rules) (search rules) (search rules)).fit

pub returns-clause-pending : goal.returns-clause-pending
returns-clause-pending c = (saves c.args.vps.now.vps c.set.new.self.vps c.args.rings.now c.clear.new.self c.args.v c.in-Pulled.t c.requires.fit c.requires.processor (search rules) (search rules) (search rules)).pending
