use Rattle.board_script.proofs.AcceptedSettings.{each_setting_goes_on, each_refused_setting_ends}
use Rattle.board_script.proofs.laws.settings.Goals as goal

pub returns : goal.returns
returns c = record { accepted = each_setting_goes_on; refused = each_refused_setting_ends }
