use Rattle.std.proofs.Common.{None, sym, ap, subst, ◌≡◌, true}
use Rattle.xv_model.specs.board.Validity.{valid}
use Rattle.board_script.specs.declared.work.Work.TheVariants.{Simple, Migrate}
use Rattle.board_script.specs.Work.{Falls, HasValidSteps}
use Rattle.board_script.proofs.Migrations.{migration_begin_falls}
use Rattle.board_script.proofs.StepLines.{first_falls, first_valid}
use Rattle.board_script.proofs.work.Work.begin.Goals as goal

pub returns-in-Simple-clause-falls : goal.returns-in-Simple-clause-falls
returns-in-Simple-clause-falls g c = λ z before known.
    subst (λ w. Falls w (Simple c.begin.new.self) None z before c.begin.new.self.first) (sym c.in-Simple.is) (first_falls c.in-Simple.steps c.begin.new.self c.begin.ensures z before)

pub returns-in-Simple-clause-valid : goal.returns-in-Simple-clause-valid
returns-in-Simple-clause-valid g c = λ b v.
    subst (λ o. valid b o ≡ true) (sym (ap (λ s. s.first) c.begin.ensures)) (first_valid c.in-Simple.steps b (subst (HasValidSteps b) c.in-Simple.is v))

pub returns-in-Migrate-clause-falls : goal.returns-in-Migrate-clause-falls
returns-in-Migrate-clause-falls g c = λ z before known.
    let e = c.begin-in-Migrate.ensures in
    subst (λ w. Falls w (Migrate c.begin-in-Migrate.new.self) None z before c.begin-in-Migrate.result) (sym c.in-Migrate.is)
    (migration_begin_falls c.in-Migrate.migration c.begin-in-Migrate.new.self c.begin-in-Migrate.result z before (e.value z before known) e.moves)
