-- Why and where a line is refused.
use Rattle.std.specs.Prelude.{ℕ, ◌+◌, ◌-◌, List, length, codes}
use Rattle.board_script.specs.declared.faults.Cause.{Cause}
use Rattle.board_script.specs.declared.faults.Cause.TheVariants.{LongLine, BadByte, WrongPlace, UnknownWord, MissingWord, ExtraWord, BadNumber, OutOfRange, NotLevel, BadEnd, NoGo, NotInLive, TooManyLines, TooManyForwards}
use Rattle.board_script.specs.declared.faults.Misread.{Misread}
use Rattle.board_script.specs.declared.faults.ScriptFault.{ScriptFault}

-- the name of a cause
abbrev pub cause_text : Cause → List ℕ
cause_text LongLine = codes "long-line"
cause_text BadByte = codes "bad-byte"
cause_text WrongPlace = codes "wrong-place"
cause_text UnknownWord = codes "unknown-word"
cause_text MissingWord = codes "missing-word"
cause_text ExtraWord = codes "extra-word"
cause_text BadNumber = codes "bad-number"
cause_text OutOfRange = codes "out-of-range"
cause_text NotLevel = codes "not-level"
cause_text BadEnd = codes "bad-end"
cause_text NoGo = codes "no-go"
cause_text NotInLive = codes "not-in-live"
cause_text TooManyLines = codes "too-many-lines"
cause_text TooManyForwards = codes "too-many-forwards"

-- the byte, from 1, at which a line is refused
abbrev pub place : List ℕ → Misread → ℕ
place line m = length line - m.left + 1

-- the fault of a line of this number
abbrev pub fault_of : ℕ → List ℕ → Misread → ScriptFault
fault_of n line m = record { line = n; byte = place line m; cause = m.cause }
