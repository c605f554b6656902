use Rattle.xv_model.proofs.KeptOff.{each_is_kept_off}
use Rattle.xv_model.proofs.PendingLaws.{each_is_in_ring, each_stays_pending}
use Rattle.xv_model.proofs.ShownLaws.{each_is_shown}
use Rattle.xv_model.proofs.SoundMoves.{each_has_one_user, each_is_user}
use Rattle.xv_model.proofs.laws.pending.Goals as goal

pub returns-clause-one_user : goal.returns-clause-one_user
returns-clause-one_user c = each_has_one_user

pub returns-clause-users : goal.returns-clause-users
returns-clause-users c = each_is_user

pub returns-clause-kept_off : goal.returns-clause-kept_off
returns-clause-kept_off c = each_is_kept_off

pub returns-clause-in_ring : goal.returns-clause-in_ring
returns-clause-in_ring c = each_is_in_ring

pub returns-clause-shown : goal.returns-clause-shown
returns-clause-shown c = each_is_shown

pub returns-clause-stays : goal.returns-clause-stays
returns-clause-stays c = each_stays_pending
