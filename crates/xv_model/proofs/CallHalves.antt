-- What hypercalls reply after an account they reply after its fabric entries alone.
use Rattle.std.proofs.Common.{ℕ, ◌≡◌, ◌+◌, ◌/◌, ◌%◌, ◌&&◌, ◌||◌, nat_lt, if◌then◌else◌, List, [], ◌∷◌, Option, Some, None, refl}
use Rattle.std.specs.Option.{option_map_or}
use Rattle.xv_base.specs.Limits.{ends_per_processor}
use Rattle.xv_model.specs.declared.hypercalls.codes.TheConstants.{H_FUNCTION, H_PARAMETER, H_P2, H_P3, H_P4, H_P5}
use Rattle.xv_model.specs.declared.hypercalls.flags.TheConstants.{SRC_FLAGS, END_ALWAYS_NOTIFY, END_DEBUG, ESB_STORE, PRIORITY_MASKED}
use Rattle.xv_model.specs.declared.hypercalls.Call.{Call}
use Rattle.xv_model.specs.declared.hypercalls.Call.TheVariants as call
use Rattle.xv_model.specs.declared.pages.TheConstants.{PAGE_SIZE}
use Rattle.xv_model.specs.declared.entries.Entry.{Entry}
use Rattle.xv_model.specs.account.Start.{Start}
use Rattle.xv_model.specs.account.Halves.{fabric_of}
use Rattle.xv_model.specs.board.Validity.{is_queue_shift, is_queue}
use Rattle.xv_model.specs.source.Eas.{masks}
use Rattle.xv_model.specs.end.Flags.{has_bit, enqueues}
use Rattle.xv_model.specs.end.Descriptors.{resets}
use Rattle.xv_model.specs.call.Arguments.{call_of, end_of}
use Rattle.xv_model.specs.call.Checks.{code_of, are_within, is_source, is_target, is_priority, checks}
use Rattle.xv_model.specs.call.Outputs.{shown_queue, outputs}
use Rattle.xv_model.specs.call.Hypercalls.{reply_with, reply_by, call_reply, hcall_reply}
use Rattle.xv_model.proofs.FabricHalves.{eas-half, is_connected-half, end_config-half, written_count-half}

-- whether a LISN is that of a source is what the fabric's entries say
is_source-half : (z : Start) (s : ℕ) (h : List Entry) → is_source z (fabric_of z.board h) s ≡ is_source z h s
is_source-half z s h = λ i. nat_lt s z.board.limits.sources && (eas-half z s h i).valid

-- so is whether a number is that of a connected processor
pub is_target-half : (z : Start) (v : ℕ) (h : List Entry) → is_target z (fabric_of z.board h) v ≡ is_target z h v
is_target-half z v h = λ i. nat_lt v z.board.limits.processors && is_connected-half z v h i

-- the checks of a call after the fabric's entries are those after the account
pub checks-half : (z : Start) (c : Call) (h : List Entry) → checks z (fabric_of z.board h) c ≡ checks z h c
checks-half z (call.GetSourceInfo c) h = λ i. (are_within 0 c.flags, H_PARAMETER) ∷ (is_source-half z c.lisn h i, H_P2) ∷ []
checks-half z (call.SetSourceConfig c) h =
    λ i. (are_within SRC_FLAGS c.flags, H_PARAMETER) ∷ (is_source-half z c.lisn h i, H_P2)
    ∷ (masks c || is_priority c.priority, H_P4) ∷ (masks c || is_target-half z c.target h i, H_P3) ∷ []
checks-half z (call.GetSourceConfig c) h = λ i. (are_within 0 c.flags, H_PARAMETER) ∷ (is_source-half z c.lisn h i, H_P2) ∷ []
checks-half z (call.GetQueueInfo c) h = λ i. (are_within 0 c.flags, H_PARAMETER) ∷ (is_priority c.priority, H_P3) ∷ (is_target-half z c.target h i, H_P2) ∷ []
checks-half z (call.SetQueueConfig c) h =
    λ i. (are_within END_ALWAYS_NOTIFY c.flags, H_PARAMETER) ∷ (is_priority c.priority, H_P3) ∷ (is_target-half z c.target h i, H_P2)
    ∷ (resets c || is_queue_shift c.size, H_P5) ∷ (resets c || is_queue z.board c.address c.size, H_P4) ∷ []
checks-half z (call.GetQueueConfig c) h = λ i. (are_within END_DEBUG c.flags, H_PARAMETER) ∷ (is_priority c.priority, H_P3) ∷ (is_target-half z c.target h i, H_P2) ∷ []
checks-half z (call.Esb c) h = λ i. (are_within ESB_STORE c.flags, H_PARAMETER) ∷ (is_source-half z c.lisn h i, H_P2) ∷ (nat_lt c.offset PAGE_SIZE, H_P3) ∷ []
checks-half z (call.Sync c) h = λ i. (are_within 0 c.flags, H_PARAMETER) ∷ (is_source-half z c.lisn h i, H_P2) ∷ []
checks-half z (call.Reset c) h = refl

-- and so are its outputs
pub outputs-half : (z : Start) (c : Call) (h : List Entry) → outputs z (fabric_of z.board h) c ≡ outputs z h c
outputs-half z (call.GetSourceConfig c) h =
    λ i. (eas-half z c.lisn h i).end / ends_per_processor
    ∷ (if (eas-half z c.lisn h i).masked then PRIORITY_MASKED else (eas-half z c.lisn h i).end % ends_per_processor)
    ∷ (eas-half z c.lisn h i).eisn ∷ []
outputs-half z (call.GetQueueConfig c) h =
    let e = end_of c.target c.priority in
    λ i. shown_queue (end_config-half z e h i) ((end_config-half z e h i).start + written_count-half z e h i) (has_bit c.flags END_DEBUG && enqueues (end_config-half z e h i))
outputs-half z _ h = refl

-- what a call replies after the fabric's entries is what it replies after the account
call_reply-half : (z : Start) (c : Call) (h : List Entry) → call_reply z (fabric_of z.board h) c ≡ call_reply z h c
call_reply-half z c h = λ i. reply_by (code_of (checks-half z c h i)) (outputs-half z c h i)

-- so is what a hypercall replies to its arguments
pub hcall_reply-half : (z : Start) (number : ℕ) (args : List ℕ) (h : List Entry) → hcall_reply z (fabric_of z.board h) number args ≡ hcall_reply z h number args
hcall_reply-half z number args h = by (call_of number args)
  where
    by : (m : Option Call) → option_map_or (call_reply z (fabric_of z.board h)) m (reply_with H_FUNCTION []) ≡ option_map_or (call_reply z h) m (reply_with H_FUNCTION [])
    by (Some c) = call_reply-half z c h
    by None = refl
