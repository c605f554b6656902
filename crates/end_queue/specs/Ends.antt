-- What is kept of an END: how it starts, what a configuration makes of it, and what is in range.
use Rattle.std.specs.Prelude.{ℕ, ◌≡◌, ◌<◌, ◌≤◌, ◌+◌, ◌*◌, ◌^◌, ◌%◌, ◌&&◌, Bool, true, List, slice_index_or}
use Rattle.xv_model.specs.declared.operations.EndConfig.{EndConfig}
use Rattle.xv_model.specs.account.Start.{no_config}
use Rattle.xv_model.specs.end.EventStates.{first_state}
use Rattle.xv_model.specs.end.Flags.{is_valid, enqueues}
use Rattle.xv_model.specs.end.Memory.{entries}
use Rattle.end_queue.specs.declared.ends.EndRecord.{EndRecord}

-- an END that isn't valid, and into whose queue nothing was written
abbrev pub first_end : EndRecord
first_end = record { config = no_config; written = 0; taken = 0; esn = 1; ese = 1 }

-- what is kept of END e
abbrev pub end_in : List EndRecord → ℕ → EndRecord
end_in ends e = slice_index_or ends e first_end

-- an END that is configured so
abbrev pub configured : EndConfig → EndRecord
configured c = record {
  config = c;
  written = 0;
  taken = 0;
  esn = first_state c;
  ese = first_state c;
}

-- an END whose state of notifications is this
abbrev pub with_esn : ℕ → EndRecord → EndRecord
with_esn state r = record { config = r.config; written = r.written; taken = r.taken; esn = state; ese = r.ese }

-- an END whose state of escalations is this
abbrev pub with_ese : ℕ → EndRecord → EndRecord
with_ese state r = record { config = r.config; written = r.written; taken = r.taken; esn = r.esn; ese = state }

-- whether an END with this configuration has a queue: it is valid, and writes what is routed to it
abbrev pub has_queue : EndConfig → Bool
has_queue c = is_valid c && enqueues c

-- the size of the queue is in range, and its place far from the width of numbers
pub record IsSized (c : EndConfig) : Type 0 where
  pub least : 2 ≤ c.qshift
  pub most : c.qshift ≤ 24
  pub addr : c.qaddr ≤ 2 ^ 26

-- where a configuration has a queue, the queue's size is in range, and the number of its first entry and its place are far from the widths of numbers
pub record IsNarrow (c : EndConfig) : Type 0 where
  pub start : c.start < 2 ^ 62
  pub sized : enqueues c ≡ true → IsSized c

-- the configuration is narrow, and the states are pairs
pub record IsKept (r : EndRecord) : Type 0 where
  pub config : IsNarrow r.config
  pub esn : r.esn < 4
  pub ese : r.ese < 4

-- one more entry can be counted as written, and one more as taken
pub record HasRoom (r : EndRecord) : Type 0 where
  pub written : r.written < 2 ^ 63
  pub taken : r.taken < 2 ^ 63

-- at most n entries are counted as written, and at most n as taken
pub record HasCountsAtMost (n : ℕ) (r : EndRecord) : Type 0 where
  pub written : r.written ≤ n
  pub taken : r.taken ≤ n

-- the page of a queue lies in memory of so many words, at a whole word
pub record HasPage (words : ℕ) (c : EndConfig) : Type 0 where
  pub aligned : c.qaddr % 4 ≡ 0
  pub inside : c.qaddr + 4 * entries c ≤ 4 * words
