use Rattle.xv_model.proofs.Accounts.{has_account}
use Rattle.xv_model.proofs.OneAccount.{one_account}
use Rattle.xv_model.proofs.laws.scripts.Goals as goal

pub returns-clause-one_account : goal.returns-clause-one_account
returns-clause-one_account c = one_account

pub returns-clause-has_account : goal.returns-clause-has_account
returns-clause-has_account c = has_account
