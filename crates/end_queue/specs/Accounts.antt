-- Which ENDs are a board's, and which account they represent.
use Rattle.std.specs.Prelude.{ℕ, ◌≡◌, ◌<◌, true, List, Some, slice_get}
use Rattle.xv_model.specs.declared.board.Board.{Board}
use Rattle.xv_model.specs.declared.entries.Entry.{Entry}
use Rattle.xv_model.specs.account.Start.{Start}
use Rattle.xv_model.specs.board.Validity.{end_count, valid_config}
use Rattle.xv_model.specs.end.Descriptors.{end_config}
use Rattle.xv_model.specs.end.EventStates.{esn, ese}
use Rattle.xv_model.specs.end.Written.{written_count}
use Rattle.xv_model.specs.end.Reading.{taken_count}
use Rattle.end_queue.specs.declared.ends.EndRecord.{EndRecord}

-- the configuration is valid on the board, and the states are pairs
pub record IsEnd (b : Board) (r : EndRecord) : Type 0 where
  pub config : valid_config b r.config ≡ true
  pub esn : r.esn < 4
  pub ese : r.ese < 4

-- what an account gives for an END
abbrev pub record_of : Start → List Entry → ℕ → EndRecord
record_of z h e = record {
  config = end_config z h e;
  written = written_count z h e;
  taken = taken_count z h e;
  esn = esn z h e;
  ese = ese z h e;
}

-- the ENDs represent the account: each is what the account gives
abbrev pub StandsFor : List EndRecord → Start → List Entry → Type 0
StandsFor ends z h = (e : ℕ) → e < end_count z.board → slice_get ends e ≡ Some (record_of z h e)
