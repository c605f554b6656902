-- What a source and a sink in memory were told, and how far they are.
use Rattle.std.specs.Prelude.{ℕ, ◌-◌, List, length}
use Rattle.xv_io.specs.declared.memory.MemSource.{MemSource}
use Rattle.xv_io.specs.declared.memory.MemSink.{MemSink}

-- the most bytes that a source gives at a call
abbrev pub piece_of : MemSource → ℕ
piece_of s = s.piece

-- the numbers of a source's calls that fail
abbrev pub failing_reads : MemSource → List ℕ
failing_reads s = s.failing.items

-- the number of a source's next call, which stays at its last value
abbrev pub next_read : MemSource → ℕ
next_read s = s.calls

-- how many bytes a sink has room for yet
abbrev pub space_of : MemSink → ℕ
space_of s = s.room - length s.held.items

-- the numbers of a sink's calls that fail
abbrev pub failing_writes : MemSink → List ℕ
failing_writes s = s.failing.items

-- the number of a sink's next call, which stays at its last value
abbrev pub next_write : MemSink → ℕ
next_write s = s.calls
