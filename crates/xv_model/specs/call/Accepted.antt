-- The calls that were accepted.
use Rattle.std.specs.Prelude.{ℤ, pos, negsuc, ◌==◌, Bool, false, if◌then◌else◌, Option, None}
use Rattle.xv_model.specs.declared.hypercalls.Call.{Call}
use Rattle.xv_model.specs.declared.operations.Op.{Op}
use Rattle.xv_model.specs.declared.operations.Op.TheVariants as op
use Rattle.xv_model.specs.declared.outcomes.Outcome.{Outcome}
use Rattle.xv_model.specs.declared.outcomes.Outcome.TheVariants as out
use Rattle.xv_model.specs.call.Arguments.{call_of}

-- whether a code says that a call is accepted
abbrev pub is_success : ℤ → Bool
is_success (pos n) = n == 0
is_success (negsuc n) = false

-- the hypercall, where an entry is one that was accepted
abbrev pub call_in : Op → Outcome → Option Call
call_in (op.Hcall number args) (out.Reply reply) = if is_success reply.code then call_of number args else None
call_in _ _ = None
