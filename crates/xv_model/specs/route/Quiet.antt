-- Whether a source is quiet: no notice of it is outstanding, and no message that comes of one is in flight.
use Rattle.std.specs.Prelude.{ℕ, ◌==◌, ◌+◌, ◌&&◌, if◌then◌else◌, List, [], ◌∷◌}
use Rattle.xv_model.specs.declared.outcomes.Outcome.{Outcome}
use Rattle.xv_model.specs.declared.outcomes.Outcome.TheVariants as out
use Rattle.xv_model.specs.declared.messages.Message.{Message}
use Rattle.xv_model.specs.declared.entries.Entry.{Entry}
use Rattle.xv_model.specs.account.Start.{Start}
use Rattle.xv_model.specs.source.Notices.{outstanding}
use Rattle.xv_model.specs.route.Flight.{source_of, flight}

-- how many of some messages come from s
abbrev pub messages_of : List Message → ℕ → ℕ
messages_of [] s = 0
messages_of (m ∷ ms) s = (if source_of m == s then 1 else 0) + messages_of ms s

-- the answer for so many notices and messages
abbrev pub quiet_by : ℕ → ℕ → Outcome
quiet_by notices messages = if (notices == 0) && (messages == 0) then out.Quiet else out.Busy notices messages

-- what asking whether s is quiet answers: how much is still on its way, if anything
abbrev pub quiet_answer : Start → List Entry → ℕ → Outcome
quiet_answer z h s = quiet_by (outstanding z h s) (messages_of (flight z h) s)
