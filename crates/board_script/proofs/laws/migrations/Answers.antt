use Rattle.board_script.proofs.Migrated.{migrations_rest, migrations_keep}
use Rattle.board_script.proofs.laws.migrations.Goals as goal

pub returns : goal.returns
returns c = record { rest = migrations_rest; keep = migrations_keep }
