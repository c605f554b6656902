use Rattle.board_script.proofs.Resting.{settles_leave_no_message, syncs_end_quiet, sync_calls_end_quiet, source_syncs_end_quiet, drains_leave_nothing, eq_syncs_leave_nothing}
use Rattle.board_script.proofs.Resets.{resets_turn_off, settings_turn_off, resets_clear_ends, settings_clear_ends, resets_are_accepted}
use Rattle.board_script.proofs.laws.resting.Goals as goal

pub returns-clause-settles : goal.returns-clause-settles
returns-clause-settles c = settles_leave_no_message

pub returns-clause-syncs : goal.returns-clause-syncs
returns-clause-syncs c = syncs_end_quiet

pub returns-clause-sync_calls : goal.returns-clause-sync_calls
returns-clause-sync_calls c = sync_calls_end_quiet

pub returns-clause-drains : goal.returns-clause-drains
returns-clause-drains c = drains_leave_nothing

pub returns-clause-resets : goal.returns-clause-resets
returns-clause-resets c = resets_turn_off

pub returns-clause-ends : goal.returns-clause-ends
returns-clause-ends c = resets_clear_ends

pub returns-clause-accepted : goal.returns-clause-accepted
returns-clause-accepted c = resets_are_accepted

pub returns-clause-source_syncs : goal.returns-clause-source_syncs
returns-clause-source_syncs c = source_syncs_end_quiet

pub returns-clause-eq_syncs : goal.returns-clause-eq_syncs
returns-clause-eq_syncs c = eq_syncs_leave_nothing

pub returns-clause-settings : goal.returns-clause-settings
returns-clause-settings c = settings_turn_off

pub returns-clause-setting_ends : goal.returns-clause-setting_ends
returns-clause-setting_ends c = settings_clear_ends
