-- Where an account begins.
use Rattle.std.specs.Prelude.{ℕ, Bool, false, not, List, []}
use Rattle.xv_model.specs.declared.board.Board.{Board}
use Rattle.xv_model.specs.declared.eas.Eas.{Eas}
use Rattle.xv_model.specs.declared.operations.EndConfig.{EndConfig}
use Rattle.xv_model.specs.declared.outcomes.Phase.{Phase}
use Rattle.xv_model.specs.declared.outcomes.Phase.TheVariants.{Saved}
use Rattle.xv_model.specs.declared.messages.Message.{Message}
use Rattle.xv_model.specs.board.Boards.{is_in}

-- a start record: the board, and what each definition says before the first entry
pub record Start : Type 0 where
  pub board : Board
  -- of a source
  pub pair : ℕ → ℕ
  pub asserted : ℕ → Bool
  pub old_pair : ℕ → ℕ
  pub forwards : ℕ → ℕ
  pub routes : ℕ → ℕ
  pub eas : ℕ → Eas
  -- of an END
  pub end_config : ℕ → EndConfig
  pub esn : ℕ → ℕ
  pub ese : ℕ → ℕ
  pub written_count : ℕ → ℕ
  pub taken_count : ℕ → ℕ
  -- of an address in memory
  pub word_at : ℕ → ℕ
  -- of a processor; its CPPR and IPB are those of its thread's ring where its context uses one, and else those that are saved
  pub servers : ℕ
  pub is_connected : ℕ → Bool
  pub phase : ℕ → Phase
  pub cppr : ℕ → ℕ
  pub ipb : ℕ → ℕ
  pub backlog : ℕ → ℕ
  -- the messages in flight, and the index of the first entry
  pub flight : List Message
  pub index : ℕ

-- a source's EAS is valid and masked, unless the board has the source unclaimed
abbrev pub first_eas : Board → ℕ → Eas
first_eas b s = record { valid = not (is_in b.unclaimed s); masked = not (is_in b.unclaimed s); end = 0; eisn = 0 }

-- an END that isn't valid
abbrev pub no_config : EndConfig
no_config = record { flags = record { 0 = 0 }; vp = 0; priority = 0; qaddr = 0; qshift = 0; start = 0; esc = 0; esc_eisn = 0 }

-- how a board starts: its sources are off, its ENDs not valid, its memory zero, its processors saved
abbrev pub start : Board → Start
start b = record {
  board = b;
  pair = λ s. 1;
  asserted = λ s. false;
  old_pair = λ s. 1;
  forwards = λ s. 0;
  routes = λ s. 0;
  eas = first_eas b;
  end_config = λ e. no_config;
  esn = λ e. 1;
  ese = λ e. 1;
  written_count = λ e. 0;
  taken_count = λ e. 0;
  word_at = λ a. 0;
  servers = b.limits.processors;
  is_connected = λ v. not (is_in b.unconnected v);
  phase = λ v. Saved;
  cppr = λ v. 0;
  ipb = λ v. 0;
  backlog = λ v. 0;
  flight = [];
  index = 0;
}
