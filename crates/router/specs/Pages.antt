-- What a load of a page makes of what is kept of an END.
use Rattle.std.specs.Prelude.{ℕ, ◌==◌, if◌then◌else◌}
use Rattle.xv_model.specs.end.Pages.{load_row}
use Rattle.end_queue.specs.declared.ends.EndRecord.{EndRecord}

-- the state that a page is of
abbrev pub state_in : EndRecord → ℕ → ℕ
state_in r page = if page == 0 then r.esn else r.ese

-- an END whose state of a page is this one
abbrev pub with_state : EndRecord → ℕ → ℕ → EndRecord
with_state r page state = record {
  config = r.config;
  written = r.written;
  taken = r.taken;
  esn = if page == 0 then state else r.esn;
  ese = if page == 0 then r.ese else state;
}

-- an END after a load at an offset of a page
abbrev pub after_load : EndRecord → ℕ → ℕ → EndRecord
after_load r page offset = with_state r page (load_row offset (state_in r page)).pair
