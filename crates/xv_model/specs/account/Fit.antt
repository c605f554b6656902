-- Which start records are fit to go on from: what escalates there has an escalation END, which doesn't escalate; and pairs are pairs.
use Rattle.std.specs.Prelude.{ℕ, ◌≡◌, ◌<◌, ◌^◌, Bool, true, false, All}
use Rattle.xv_model.specs.declared.operations.EndConfig.{EndConfig}
use Rattle.xv_model.specs.declared.messages.Message.{Message}
use Rattle.xv_model.specs.declared.messages.Message.TheVariants as message
use Rattle.xv_model.specs.account.Start.{Start}
use Rattle.xv_model.specs.board.Validity.{is_escalation_end}
use Rattle.xv_model.specs.end.Flags.{may_escalate, escalates}

-- a configuration of END e: where it escalates it has an escalation END, and then e isn't one
pub record IsFitConfig (e : ℕ) (c : EndConfig) : Type 0 where
  pub payload : c.esc_eisn < 2 ^ 31
  pub escalation : escalates c ≡ true → is_escalation_end c.esc ≡ true
  pub last : is_escalation_end e ≡ true → escalates c ≡ false

-- what a message may escalate to is an escalation END
pub record IsFitMessage (flags : Bool) (esc esc_eisn : ℕ) : Type 0 where
  pub payload : esc_eisn < 2 ^ 31
  pub escalation : flags ≡ true → is_escalation_end esc ≡ true

abbrev pub IsFit : Message → Type 0
IsFit (message.Present e flags vp priority esc esc_eisn origin) = IsFitMessage (may_escalate flags) esc esc_eisn
IsFit (message.Escalate e flags esc esc_eisn origin) = IsFitMessage true esc esc_eisn

-- what an account begins with is so
pub record IsFitStart (z : Start) : Type 0 where
  pub configs : (e : ℕ) → IsFitConfig e (z.end_config e)
  pub messages : All IsFit z.flight
  pub pairs : (s : ℕ) → z.pair s < 4
  pub old_pairs : (s : ℕ) → z.old_pair s < 4
