-- What writing and reading make of what is kept of an END.
use Rattle.std.specs.Prelude.{ℕ, ◌+◌, ◌/◌, if◌then◌else◌, Bool, true, false, List, slice_index_or, slice_set}
use Rattle.xv_model.specs.declared.outcomes.Outcome.{Outcome}
use Rattle.xv_model.specs.declared.outcomes.Outcome.TheVariants as out
use Rattle.xv_model.specs.end.Memory.{place}
use Rattle.xv_model.specs.end.Reading.{read_by}
use Rattle.end_queue.specs.declared.ends.EndRecord.{EndRecord}
use Rattle.end_queue.specs.Ends.{end_in, has_queue}

-- the number of the entry that is written next
abbrev pub next_number : EndRecord → ℕ
next_number r = r.config.start + r.written

-- an END into whose queue one more entry was written
abbrev pub entered : EndRecord → EndRecord
entered r = record { config = r.config; written = r.written + 1; taken = r.taken; esn = r.esn; ese = r.ese }

-- an END from whose queue one more entry was taken
abbrev pub one_taken : EndRecord → EndRecord
one_taken r = record { config = r.config; written = r.written; taken = r.taken + 1; esn = r.esn; ese = r.ese }

-- what a read of an END answers, with this memory
abbrev pub read_in : EndRecord → List ℕ → Outcome
read_in r memory =
    let j = r.config.start + r.taken in
    if has_queue r.config then read_by r.config j (slice_index_or memory (place r.config j / 4) 0) else out.NoQueue

-- whether a read answered an entry
abbrev pub is_item : Outcome → Bool
is_item (out.Item payload) = true
is_item _ = false

-- the ENDs after a read of e that answered this
abbrev pub after_read : List EndRecord → ℕ → Outcome → List EndRecord
after_read ends e answer = if is_item answer then slice_set ends e (one_taken (end_in ends e)) else ends
