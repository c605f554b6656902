-- The calls that the numbers of hypercalls name, with their arguments in the order of the argument registers. Arguments are taken whole.
use Rattle.std.specs.Prelude.{ℕ, ◌==◌, ◌+◌, ◌*◌, if◌then◌else◌, List, slice_index_or, Option, Some, None}
use Rattle.xv_base.specs.Limits.{ends_per_processor}
use Rattle.xv_model.specs.declared.hypercalls.TheConstants.{H_INT_GET_SOURCE_INFO, H_INT_SET_SOURCE_CONFIG, H_INT_GET_SOURCE_CONFIG, H_INT_GET_QUEUE_INFO, H_INT_SET_QUEUE_CONFIG, H_INT_GET_QUEUE_CONFIG, H_INT_ESB, H_INT_SYNC, H_INT_RESET}
use Rattle.xv_model.specs.declared.hypercalls.arguments.GetSourceInfoArgs.{GetSourceInfoArgs}
use Rattle.xv_model.specs.declared.hypercalls.arguments.SetSourceConfigArgs.{SetSourceConfigArgs}
use Rattle.xv_model.specs.declared.hypercalls.arguments.GetSourceConfigArgs.{GetSourceConfigArgs}
use Rattle.xv_model.specs.declared.hypercalls.arguments.GetQueueInfoArgs.{GetQueueInfoArgs}
use Rattle.xv_model.specs.declared.hypercalls.arguments.SetQueueConfigArgs.{SetQueueConfigArgs}
use Rattle.xv_model.specs.declared.hypercalls.arguments.GetQueueConfigArgs.{GetQueueConfigArgs}
use Rattle.xv_model.specs.declared.hypercalls.arguments.EsbArgs.{EsbArgs}
use Rattle.xv_model.specs.declared.hypercalls.arguments.SyncArgs.{SyncArgs}
use Rattle.xv_model.specs.declared.hypercalls.arguments.ResetArgs.{ResetArgs}
use Rattle.xv_model.specs.declared.hypercalls.Call.{Call}
use Rattle.xv_model.specs.declared.hypercalls.Call.TheVariants as call

-- the arguments of H_INT_GET_SOURCE_INFO
abbrev pub get_source_info_args : List ℕ → GetSourceInfoArgs
get_source_info_args args = record { flags = slice_index_or args 0 0; lisn = slice_index_or args 1 0 }

-- the arguments of H_INT_SET_SOURCE_CONFIG
abbrev pub set_source_config_args : List ℕ → SetSourceConfigArgs
set_source_config_args args = record {
  flags = slice_index_or args 0 0;
  lisn = slice_index_or args 1 0;
  target = slice_index_or args 2 0;
  priority = slice_index_or args 3 0;
  eisn = slice_index_or args 4 0;
}

-- the arguments of H_INT_GET_SOURCE_CONFIG
abbrev pub get_source_config_args : List ℕ → GetSourceConfigArgs
get_source_config_args args = record { flags = slice_index_or args 0 0; lisn = slice_index_or args 1 0 }

-- the arguments of H_INT_GET_QUEUE_INFO
abbrev pub get_queue_info_args : List ℕ → GetQueueInfoArgs
get_queue_info_args args = record { flags = slice_index_or args 0 0; target = slice_index_or args 1 0; priority = slice_index_or args 2 0 }

-- the arguments of H_INT_SET_QUEUE_CONFIG
abbrev pub set_queue_config_args : List ℕ → SetQueueConfigArgs
set_queue_config_args args = record {
  flags = slice_index_or args 0 0;
  target = slice_index_or args 1 0;
  priority = slice_index_or args 2 0;
  address = slice_index_or args 3 0;
  size = slice_index_or args 4 0;
}

-- the arguments of H_INT_GET_QUEUE_CONFIG
abbrev pub get_queue_config_args : List ℕ → GetQueueConfigArgs
get_queue_config_args args = record { flags = slice_index_or args 0 0; target = slice_index_or args 1 0; priority = slice_index_or args 2 0 }

-- the arguments of H_INT_ESB
abbrev pub esb_args : List ℕ → EsbArgs
esb_args args = record { flags = slice_index_or args 0 0; lisn = slice_index_or args 1 0; offset = slice_index_or args 2 0 }

-- the arguments of H_INT_SYNC
abbrev pub sync_args : List ℕ → SyncArgs
sync_args args = record { flags = slice_index_or args 0 0; lisn = slice_index_or args 1 0 }

-- the arguments of H_INT_RESET
abbrev pub reset_args : List ℕ → ResetArgs
reset_args args = record { flags = slice_index_or args 0 0 }

-- the call of a number, with its arguments, where there is one
abbrev pub call_of : ℕ → List ℕ → Option Call
call_of number args =
    if number == H_INT_GET_SOURCE_INFO then Some (call.GetSourceInfo (get_source_info_args args))
    else (if number == H_INT_SET_SOURCE_CONFIG then Some (call.SetSourceConfig (set_source_config_args args))
    else (if number == H_INT_GET_SOURCE_CONFIG then Some (call.GetSourceConfig (get_source_config_args args))
    else (if number == H_INT_GET_QUEUE_INFO then Some (call.GetQueueInfo (get_queue_info_args args))
    else (if number == H_INT_SET_QUEUE_CONFIG then Some (call.SetQueueConfig (set_queue_config_args args))
    else (if number == H_INT_GET_QUEUE_CONFIG then Some (call.GetQueueConfig (get_queue_config_args args))
    else (if number == H_INT_ESB then Some (call.Esb (esb_args args))
    else (if number == H_INT_SYNC then Some (call.Sync (sync_args args))
    else (if number == H_INT_RESET then Some (call.Reset (reset_args args)) else None))))))))

-- the END of a target and a priority
abbrev pub end_of : ℕ → ℕ → ℕ
end_of target priority = ends_per_processor * target + priority
