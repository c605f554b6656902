-- The end of a run that stopped early.
use Rattle.std.specs.Prelude.{ℕ, List, []}
use Rattle.xv_base.specs.declared.status.Status.{Status}
use Rattle.xv_base.specs.declared.status.Status.TheVariants as status
use Rattle.account.specs.text.Refusal.{too_long_line}
use Rattle.xive_cli.specs.declared.stop.Stop.{Stop}
use Rattle.xive_cli.specs.declared.stop.Stop.TheVariants.{ReadFault, WriteFault, Refused, TooLong, NoMemory}
use Rattle.xive_cli.specs.commands.Run.{refusal_of}

-- the status of a stop
abbrev pub status_of_stop : Stop → Status
status_of_stop ReadFault = status.ReadFault
status_of_stop WriteFault = status.WriteFault
status_of_stop (Refused fault) = status.Refused
status_of_stop TooLong = status.TooLong
status_of_stop NoMemory = status.NoMemory

-- the last line of the output of a run that stopped, where it has one
abbrev pub last_line : Stop → List ℕ
last_line (Refused fault) = refusal_of fault
last_line TooLong = too_long_line
last_line _ = []
