-- The numbers of statuses.
use Rattle.std.specs.Prelude.{ℕ}
use Rattle.xv_base.specs.declared.status.Status.{Status}
use Rattle.xv_base.specs.declared.status.Status.TheVariants.{Done, Illegal, Refused, ReadFault, WriteFault, NoMemory, Usage, TooLong, BadState}

-- the number that a program ends with
abbrev pub status_number : Status → ℕ
status_number Done = 0
status_number Illegal = 1
status_number Refused = 2
status_number ReadFault = 3
status_number WriteFault = 4
status_number NoMemory = 5
status_number Usage = 6
status_number TooLong = 7
status_number BadState = 9
