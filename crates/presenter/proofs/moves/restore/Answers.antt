use Rattle.std.proofs.Common.{rules, ap, sym, ◌∙◌, refl, Err}
use Rattle.nvt_backlog.specs.Vps.{vp_in}
use Rattle.presenter.specs.Moves.{restore_refused}
use Rattle.xv_model.specs.declared.outcomes.MoveRefused.TheVariants.{RingBusy}
use Rattle.presenter.proofs.Moved.{restores}
use Rattle.presenter.proofs.Users.{user_is, busy, holds, told}
use Rattle.presenter.proofs.moves.restore.Goals as goal

pub returns-in-Some-clause-refused : goal.returns-in-Some-clause-refused
returns-in-Some-clause-refused c = λ u why is.
    told (Err (RingBusy c.in-Some.vp)) (RingBusy c.in-Some.vp) why (restore_refused (vp_in c.args.vps.now.vps c.args.v).valid (vp_in c.args.vps.now.vps c.args.v).phase u) refl (busy (vp_in c.args.vps.now.vps c.args.v).valid (vp_in c.args.vps.now.vps c.args.v).phase c.in-Some.vp u (ap (λ x. x.valid) (sym c.get-found.ensures) ∙ holds c.get-found.result.valid c.if-not-found.false) (ap (λ x. x.phase) (sym c.get-found.ensures) ∙ c.in-Saved.is) (user_is c.args.vps.now.vps c.args.rings.now c.requires.fit c.args.t c.in-Some.vp (c.in-Some.ensures.some c.in-Some.vp refl) u is))

pub returns-clause-fit : goal.returns-clause-fit
returns-clause-fit c = (restores c.args.vps.now.vps c.set.new.self.vps c.args.rings.now c.load.new.self c.args.v c.args.t c.requires.fit c.requires.processor c.requires.thread (search rules) (search rules) (search rules) (search rules)).fit

pub returns-clause-pending : goal.returns-clause-pending
returns-clause-pending c = (restores c.args.vps.now.vps c.set.new.self.vps c.args.rings.now c.load.new.self c.args.v c.args.t c.requires.fit c.requires.processor c.requires.thread (search rules) (search rules) (search rules) (search rules)).pending
