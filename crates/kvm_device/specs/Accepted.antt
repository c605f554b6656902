-- What a setting has that is accepted, and what each has.
use Rattle.std.specs.Prelude.{⊤, ◌≡◌, ◌<◌, ◌||◌, ◌^◌, true, false}
use Rattle.xv_model.specs.declared.board.Board.{Board}
use Rattle.xv_model.specs.declared.kvm.arguments.EqArgs.{EqArgs}
use Rattle.xv_model.specs.declared.kvm.arguments.SourceConfigArgs.{SourceConfigArgs}
use Rattle.xv_model.specs.declared.kvm.Setting.{Setting}
use Rattle.xv_model.specs.declared.kvm.Setting.TheVariants as setting
use Rattle.xv_model.specs.board.Validity.{is_queue}
use Rattle.xv_model.specs.call.Checks.{is_priority}
use Rattle.xv_model.specs.device.Checks.{is_entry}
use Rattle.xv_model.specs.end.Descriptors.{resets_end}

-- the EISN has 31 bits
abbrev pub IsNarrow : Setting → Type 0
IsNarrow (setting.SourceConfig c) = c.eisn < 2 ^ 31
IsNarrow _ = ⊤

-- the source is one of the board's, the priority is one of a guest's, and so is the server, where it is looked at
pub record IsSourceAccepted (b : Board) (c : SourceConfigArgs) : Type 0 where
  pub source : c.source < b.limits.sources
  pub priority : is_priority c.priority ≡ true
  pub server : c.masked ≡ false → c.server < b.limits.processors

-- the server and the priority are those of one of the board's ENDs, and so are the queue and its first entry, where they are looked at
pub record IsQueueAccepted (b : Board) (c : EqArgs) : Type 0 where
  pub server : c.id.server < b.limits.processors
  pub priority : is_priority c.id.priority ≡ true
  pub queue : (resets_end c.eq || is_queue b c.eq.qaddr c.eq.qshift) ≡ true
  pub entry : (resets_end c.eq || is_entry c.eq) ≡ true
