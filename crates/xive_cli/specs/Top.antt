-- The statuses of the program.
use Rattle.xv_base.specs.declared.status.Status.{Status}
use Rattle.xv_base.specs.declared.status.Status.TheVariants as status

-- the statuses that the program has so far
abbrev pub IsBuilt : Status → Type 0
IsBuilt status.Illegal = ⊥
IsBuilt status.BadState = ⊥
IsBuilt _ = Unit {0}
