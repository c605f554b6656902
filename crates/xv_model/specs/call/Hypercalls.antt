-- What hypercalls reply.
use Rattle.std.specs.Prelude.{ℕ, ℤ, ◌-◌, if◌then◌else◌, List, [], ◌++◌, length, replicate}
use Rattle.std.specs.Option.{option_map_or}
use Rattle.xv_model.specs.declared.hypercalls.codes.TheConstants.{H_FUNCTION}
use Rattle.xv_model.specs.declared.hypercalls.Call.{Call}
use Rattle.xv_model.specs.declared.outcomes.HReply.{HReply}
use Rattle.xv_model.specs.declared.entries.Entry.{Entry}
use Rattle.xv_model.specs.account.Start.{Start}
use Rattle.xv_model.specs.call.Arguments.{call_of}
use Rattle.xv_model.specs.call.Accepted.{is_success}
use Rattle.xv_model.specs.call.Checks.{code_of, checks}
use Rattle.xv_model.specs.call.Outputs.{outputs}

-- a reply with outputs; it has room for four, and where one isn't used it is 0
abbrev pub reply_with : ℤ → List ℕ → HReply
reply_with code shown = record { code = code; outs = length shown; out = shown ++ replicate (4 - length shown) 0 }

-- what a call replies that ends with a code: outputs where it is accepted, and none where it is refused
abbrev pub reply_by : ℤ → List ℕ → HReply
reply_by code shown = reply_with code (if is_success code then shown else [])

-- what a call replies
abbrev pub call_reply : Start → List Entry → Call → HReply
call_reply z h c = reply_by (code_of (checks z h c)) (outputs z h c)

-- what a hypercall replies to its arguments
abbrev pub hcall_reply : Start → List Entry → ℕ → List ℕ → HReply
hcall_reply z h number args = option_map_or (call_reply z h) (call_of number args) (reply_with H_FUNCTION [])
