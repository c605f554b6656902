-- What is still to be done with the notices and messages of an account: the measure by which lines that take messages or route notices end.
-- A Take removes a message and makes at most one, which is lighter: a message without e has no further one, an escalation presents without e,
-- and a presentation with e may escalate. A Route consumes a notice and makes at most one message.
use Rattle.std.specs.Prelude.{ℕ, ◌+◌, ◌*◌, if◌then◌else◌, List, [], ◌∷◌}
use Rattle.xv_model.specs.declared.messages.Message.{Message}
use Rattle.xv_model.specs.declared.messages.Message.TheVariants as message
use Rattle.xv_model.specs.declared.entries.Entry.{Entry}
use Rattle.xv_model.specs.account.Start.{Start}
use Rattle.xv_model.specs.source.Notices.{all_outstanding}
use Rattle.xv_model.specs.end.Flags.{may_escalate}
use Rattle.xv_model.specs.route.Flight.{flight}

-- how many messages may come of a message, itself among them
abbrev pub weight_of : Message → ℕ
weight_of (message.Present e flags vp priority esc esc_eisn origin) = if may_escalate flags then 3 else 1
weight_of (message.Escalate e flags esc esc_eisn origin) = 2

abbrev pub weight : List Message → ℕ
weight [] = 0
weight (m ∷ ms) = weight_of m + weight ms

-- each notice that is outstanding weighs more than any message that is made of it
abbrev pub burden : Start → List Entry → ℕ
burden z h = 4 * all_outstanding z h + weight (flight z h)
