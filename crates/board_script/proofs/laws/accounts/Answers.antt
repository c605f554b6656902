use Rattle.board_script.proofs.Accounts.{each_has_account, one_of_each}
use Rattle.board_script.proofs.laws.accounts.Goals as goal

pub returns-clause-each_has_account : goal.returns-clause-each_has_account
returns-clause-each_has_account c = each_has_account

pub returns-clause-one_of_each : goal.returns-clause-one_of_each
returns-clause-one_of_each c = one_of_each
