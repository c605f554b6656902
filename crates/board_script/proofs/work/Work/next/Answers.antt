use Rattle.std.proofs.Common.{sym, ap, subst, option_copied}
use Rattle.board_script.specs.declared.work.Work.TheVariants.{Simple, Migrate}
use Rattle.board_script.proofs.Migrations.{migrates_at, after_migrates, migrating_falls}
use Rattle.board_script.proofs.WorkLines.{NextIs, StandsAfter, FallsAfter, simple_next, simple_after, simple_falls}
use Rattle.board_script.proofs.work.Work.next.Goals as goal

pub returns-in-Simple-clause-value : goal.returns-in-Simple-clause-value
returns-in-Simple-clause-value g c =
    let last = option_copied c.args.last in let knows = g.N.Known.knows c.args.known.now in
    subst (λ w. NextIs w c.next.result last knows) (sym c.in-Simple.is)
    (simple_next c.in-Simple.steps c.next.result last c.in-Some.outcome.now knows (ap option_copied c.in-Some.is) c.next.ensures.value)

pub returns-in-Simple-clause-after : goal.returns-in-Simple-clause-after
returns-in-Simple-clause-after g c =
    let last = option_copied c.args.last in let knows = g.N.Known.knows c.args.known.now in let e = c.next.ensures in
    subst (λ w. StandsAfter w (Simple c.next.new.self) c.next.result last knows) (sym c.in-Simple.is)
    (simple_after c.in-Simple.steps c.next.new.self c.next.result last c.in-Some.outcome.now knows (ap option_copied c.in-Some.is) e.value e.place e.moves)

pub returns-in-Simple-clause-falls : goal.returns-in-Simple-clause-falls
returns-in-Simple-clause-falls g c =
    let last = option_copied c.args.last in let knows = g.N.Known.knows c.args.known.now in let e = c.next.ensures in
    subst (λ w. FallsAfter w (Simple c.next.new.self) c.next.result last knows) (sym c.in-Simple.is)
    (simple_falls c.in-Simple.steps c.next.new.self c.next.result last c.in-Some.outcome.now knows (ap option_copied c.in-Some.is) e.value e.place e.moves)

pub returns-in-Migrate-clause-value : goal.returns-in-Migrate-clause-value
returns-in-Migrate-clause-value g c =
    let last = option_copied c.args.last in let knows = g.N.Known.knows c.args.known.now in
    subst (λ w. NextIs w c.next-in-Migrate.result last knows) (sym c.in-Migrate.is)
    (migrates_at c.in-Migrate.migration c.next-in-Migrate.result last c.in-Some.outcome.now knows (ap option_copied c.in-Some.is) c.next-in-Migrate.ensures.value)

pub returns-in-Migrate-clause-after : goal.returns-in-Migrate-clause-after
returns-in-Migrate-clause-after g c =
    let last = option_copied c.args.last in let knows = g.N.Known.knows c.args.known.now in let e = c.next-in-Migrate.ensures in
    subst (λ w. StandsAfter w (Migrate c.next-in-Migrate.new.self) c.next-in-Migrate.result last knows) (sym c.in-Migrate.is)
    (after_migrates c.in-Migrate.migration c.next-in-Migrate.new.self c.next-in-Migrate.result last c.in-Some.outcome.now knows (ap option_copied c.in-Some.is) e.value e.moves)

pub returns-in-Migrate-clause-falls : goal.returns-in-Migrate-clause-falls
returns-in-Migrate-clause-falls g c =
    let last = option_copied c.args.last in let knows = g.N.Known.knows c.args.known.now in let e = c.next-in-Migrate.ensures in
    subst (λ w. FallsAfter w (Migrate c.next-in-Migrate.new.self) c.next-in-Migrate.result last knows) (sym c.in-Migrate.is)
    (migrating_falls c.in-Migrate.migration c.next-in-Migrate.new.self c.next-in-Migrate.result last c.in-Some.outcome.now knows (ap option_copied c.in-Some.is) e.value e.moves)
