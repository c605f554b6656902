-- What an access to a page of the TIMA is.
use Rattle.std.specs.Prelude.{◌≤◌, ◌+◌, Option, Some, None, Ok, Err}
use Rattle.std.specs.declared.result.Result.{Result}
use Rattle.xv_model.specs.declared.tima.RingOp.{RingOp}
use Rattle.xv_model.specs.declared.tima.RingOp.TheVariants.{Load}
use Rattle.tima_access.specs.declared.accesses.BadAccess.{BadAccess}

-- an access that does nothing to a ring is bad
abbrev pub decoded : Option RingOp → Result RingOp BadAccess
decoded (Some o) = Ok o
decoded None = Err (record {})

-- what is loaded from a ring lies in it
abbrev pub IsInRing : RingOp → Type 0
IsInRing (Load at size) = (size ≤ 8) × (at + size ≤ 16)
IsInRing _ = Unit {0}
