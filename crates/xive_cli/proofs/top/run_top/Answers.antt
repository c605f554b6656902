use Rattle.xv_model.proofs.MigrationLaws.{each_queue_goes_on}
use Rattle.xv_model.proofs.RefusalLaws.{refusal_leaves_all, look_leaves_all}
use Rattle.board_script.proofs.AcceptedCalls.{each_accepted_goes_on, each_refused_ends}
use Rattle.board_script.proofs.AcceptedSettings.{each_setting_goes_on, each_refused_setting_ends}
use Rattle.board_script.proofs.Accounts.{each_has_account, one_of_each}
use Rattle.board_script.proofs.Migrated.{migrations_rest, migrations_keep}
use Rattle.board_script.proofs.Resting.{settles_leave_no_message, syncs_end_quiet, sync_calls_end_quiet, source_syncs_end_quiet, drains_leave_nothing, eq_syncs_leave_nothing}
use Rattle.board_script.proofs.Resets.{resets_turn_off, settings_turn_off, resets_clear_ends, settings_clear_ends, resets_are_accepted}
use Rattle.xive_cli.proofs.top.run_top.Goals as goal

pub returns-in-Some-clause-account : goal.returns-in-Some-clause-account
returns-in-Some-clause-account g c = each_has_account

pub returns-in-Some-clause-one_account : goal.returns-in-Some-clause-one_account
returns-in-Some-clause-one_account g c = one_of_each

pub returns-in-Some-clause-settles : goal.returns-in-Some-clause-settles
returns-in-Some-clause-settles g c = settles_leave_no_message

pub returns-in-Some-clause-syncs : goal.returns-in-Some-clause-syncs
returns-in-Some-clause-syncs g c = syncs_end_quiet

pub returns-in-Some-clause-sync_calls : goal.returns-in-Some-clause-sync_calls
returns-in-Some-clause-sync_calls g c = sync_calls_end_quiet

pub returns-in-Some-clause-source_syncs : goal.returns-in-Some-clause-source_syncs
returns-in-Some-clause-source_syncs g c = source_syncs_end_quiet

pub returns-in-Some-clause-drains : goal.returns-in-Some-clause-drains
returns-in-Some-clause-drains g c = drains_leave_nothing

pub returns-in-Some-clause-eq_syncs : goal.returns-in-Some-clause-eq_syncs
returns-in-Some-clause-eq_syncs g c = eq_syncs_leave_nothing

pub returns-in-Some-clause-resets : goal.returns-in-Some-clause-resets
returns-in-Some-clause-resets g c = resets_turn_off

pub returns-in-Some-clause-setting_resets : goal.returns-in-Some-clause-setting_resets
returns-in-Some-clause-setting_resets g c = settings_turn_off

pub returns-in-Some-clause-ends : goal.returns-in-Some-clause-ends
returns-in-Some-clause-ends g c = resets_clear_ends

pub returns-in-Some-clause-setting_ends : goal.returns-in-Some-clause-setting_ends
returns-in-Some-clause-setting_ends g c = settings_clear_ends

pub returns-in-Some-clause-reset_accepted : goal.returns-in-Some-clause-reset_accepted
returns-in-Some-clause-reset_accepted g c = resets_are_accepted

pub returns-in-Some-clause-calls : goal.returns-in-Some-clause-calls
returns-in-Some-clause-calls g c = each_accepted_goes_on

pub returns-in-Some-clause-refused_calls : goal.returns-in-Some-clause-refused_calls
returns-in-Some-clause-refused_calls g c = each_refused_ends

pub returns-in-Some-clause-settings : goal.returns-in-Some-clause-settings
returns-in-Some-clause-settings g c = each_setting_goes_on

pub returns-in-Some-clause-refused_settings : goal.returns-in-Some-clause-refused_settings
returns-in-Some-clause-refused_settings g c = each_refused_setting_ends

pub returns-in-Some-clause-refusals : goal.returns-in-Some-clause-refusals
returns-in-Some-clause-refusals g c = refusal_leaves_all

pub returns-in-Some-clause-looks : goal.returns-in-Some-clause-looks
returns-in-Some-clause-looks g c = look_leaves_all

pub returns-in-Some-clause-migrations_rest : goal.returns-in-Some-clause-migrations_rest
returns-in-Some-clause-migrations_rest g c = migrations_rest

pub returns-in-Some-clause-migrations_keep : goal.returns-in-Some-clause-migrations_keep
returns-in-Some-clause-migrations_keep g c = migrations_keep

pub returns-in-Some-clause-queues : goal.returns-in-Some-clause-queues
returns-in-Some-clause-queues g c = each_queue_goes_on

pub returns-in-None-clause-account : goal.returns-in-None-clause-account
returns-in-None-clause-account g c = each_has_account

pub returns-in-None-clause-one_account : goal.returns-in-None-clause-one_account
returns-in-None-clause-one_account g c = one_of_each

pub returns-in-None-clause-settles : goal.returns-in-None-clause-settles
returns-in-None-clause-settles g c = settles_leave_no_message

pub returns-in-None-clause-syncs : goal.returns-in-None-clause-syncs
returns-in-None-clause-syncs g c = syncs_end_quiet

pub returns-in-None-clause-sync_calls : goal.returns-in-None-clause-sync_calls
returns-in-None-clause-sync_calls g c = sync_calls_end_quiet

pub returns-in-None-clause-source_syncs : goal.returns-in-None-clause-source_syncs
returns-in-None-clause-source_syncs g c = source_syncs_end_quiet

pub returns-in-None-clause-drains : goal.returns-in-None-clause-drains
returns-in-None-clause-drains g c = drains_leave_nothing

pub returns-in-None-clause-eq_syncs : goal.returns-in-None-clause-eq_syncs
returns-in-None-clause-eq_syncs g c = eq_syncs_leave_nothing

pub returns-in-None-clause-resets : goal.returns-in-None-clause-resets
returns-in-None-clause-resets g c = resets_turn_off

pub returns-in-None-clause-setting_resets : goal.returns-in-None-clause-setting_resets
returns-in-None-clause-setting_resets g c = settings_turn_off

pub returns-in-None-clause-ends : goal.returns-in-None-clause-ends
returns-in-None-clause-ends g c = resets_clear_ends

pub returns-in-None-clause-setting_ends : goal.returns-in-None-clause-setting_ends
returns-in-None-clause-setting_ends g c = settings_clear_ends

pub returns-in-None-clause-reset_accepted : goal.returns-in-None-clause-reset_accepted
returns-in-None-clause-reset_accepted g c = resets_are_accepted

pub returns-in-None-clause-calls : goal.returns-in-None-clause-calls
returns-in-None-clause-calls g c = each_accepted_goes_on

pub returns-in-None-clause-refused_calls : goal.returns-in-None-clause-refused_calls
returns-in-None-clause-refused_calls g c = each_refused_ends

pub returns-in-None-clause-settings : goal.returns-in-None-clause-settings
returns-in-None-clause-settings g c = each_setting_goes_on

pub returns-in-None-clause-refused_settings : goal.returns-in-None-clause-refused_settings
returns-in-None-clause-refused_settings g c = each_refused_setting_ends

pub returns-in-None-clause-refusals : goal.returns-in-None-clause-refusals
returns-in-None-clause-refusals g c = refusal_leaves_all

pub returns-in-None-clause-looks : goal.returns-in-None-clause-looks
returns-in-None-clause-looks g c = look_leaves_all

pub returns-in-None-clause-migrations_rest : goal.returns-in-None-clause-migrations_rest
returns-in-None-clause-migrations_rest g c = migrations_rest

pub returns-in-None-clause-migrations_keep : goal.returns-in-None-clause-migrations_keep
returns-in-None-clause-migrations_keep g c = migrations_keep

pub returns-in-None-clause-queues : goal.returns-in-None-clause-queues
returns-in-None-clause-queues g c = each_queue_goes_on
