-- Which messages a board's ENDs make.
use Rattle.std.specs.Prelude.{ℕ, ◌<◌, ◌^◌, Option, Some, ⊤}
use Rattle.xv_model.specs.declared.board.Board.{Board}
use Rattle.xv_model.specs.declared.messages.Message.{Message}
use Rattle.xv_model.specs.declared.messages.Message.TheVariants as message
use Rattle.xv_model.specs.board.Validity.{end_count}
use Rattle.xv_model.specs.processor.Priorities.{priorities}

-- an END and the one that it escalates to are the board's, and the payload has 31 bits
pub record IsEscalation (b : Board) (e other payload : ℕ) : Type 0 where
  pub end : e < end_count b
  pub esc : other < end_count b
  pub esc_eisn : payload < 2 ^ 31

-- the processor is one of the board's, and the priority one of eight
pub record IsTarget (b : Board) (processor level : ℕ) : Type 0 where
  pub vp : processor < b.limits.processors
  pub priority : level < priorities

-- the fields of a message are in range
abbrev pub IsMessage : Board → Message → Type 0
IsMessage b (message.Present e flags vp priority esc esc_eisn origin) = IsTarget b vp priority × IsEscalation b e esc esc_eisn
IsMessage b (message.Escalate e flags esc esc_eisn origin) = IsEscalation b e esc esc_eisn

-- a message is a presentation, and one is an escalation
abbrev pub IsPresent : Option Message → Type 0
IsPresent (Some (message.Present e flags vp priority esc esc_eisn origin)) = ⊤
IsPresent _ = ⊥

abbrev pub IsEscalate : Option Message → Type 0
IsEscalate (Some (message.Escalate e flags esc esc_eisn origin)) = ⊤
IsEscalate _ = ⊥
