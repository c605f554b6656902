-- What standard error says of how a run ends.
use Rattle.std.specs.Prelude.{ℕ, List, [], codes}
use Rattle.std.specs.declared.io.ErrorKind.{ErrorKind}
use Rattle.std.specs.declared.io.ErrorKind.TheVariants.{InvalidData}
use Rattle.xv_base.specs.declared.status.Status.{Status}
use Rattle.xv_base.specs.declared.status.Status.TheVariants.{Done, Illegal, Refused, ReadFault, WriteFault, NoMemory, Usage, TooLong, BadState}

-- how a run ends whose words can't be read: where one isn't UTF-8 they are no command, and else there was no memory
abbrev pub unreadable_words : ErrorKind → Status
unreadable_words InvalidData = Usage
unreadable_words _ = NoMemory

-- what a user reads where a run ends so; nothing at a run that is done
abbrev pub complaint_of : Status → List ℕ
complaint_of Done = []
complaint_of Illegal = []
complaint_of Refused = codes "xive_cli: a line of the script is refused; the last line of the output says which"
complaint_of ReadFault = codes "xive_cli: reading standard input failed"
complaint_of WriteFault = codes "xive_cli: writing standard output failed"
complaint_of NoMemory = codes "xive_cli: not enough memory for the board"
complaint_of Usage = codes "usage: xive_cli run < SCRIPT\nexamples are in boards/, the format is in docs/FORMATS.md"
complaint_of TooLong = codes "xive_cli: the script has 16,777,216 bytes of lines or more"
complaint_of BadState = []
