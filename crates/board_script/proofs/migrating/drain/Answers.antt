use Rattle.xv_model.specs.source.Notices.{outstanding}
use Rattle.board_script.proofs.Migrations.{takes_on}
use Rattle.board_script.proofs.migrating.drain.Goals as goal

pub returns-in_default-clause-moves : goal.returns-in_default-clause-moves
returns-in_default-clause-moves g c = λ z h known. takes_on (outstanding z h) c.args.from c.args.sources c.args.migration.now c.requires.stage

pub returns-in_default-2-clause-moves : goal.returns-in_default-2-clause-moves
returns-in_default-2-clause-moves g c = λ z h known. takes_on (outstanding z h) c.args.from c.args.sources c.args.migration.now c.requires.stage
