-- The bounds of boards, scripts and accounts, as the source has them.
use Rattle.std.specs.Prelude.{ℕ}
use Rattle.xv_base.specs.declared.limits.TheConstants.{MOST_SOURCES, MOST_PROCESSORS, MOST_THREADS, MOST_ACTORS, MOST_RAM_MIB, ENDS_PER_PROCESSOR, MOST_RANGES, MOST_MESSAGES, LONGEST_LINE, BYTE_LIMIT, MOST_FORWARDS, MOST_ENTRIES}

-- sources of a board
abbrev pub most_sources : ℕ
most_sources = MOST_SOURCES

-- processors of a board
abbrev pub most_processors : ℕ
most_processors = MOST_PROCESSORS

-- threads of a board
abbrev pub most_threads : ℕ
most_threads = MOST_THREADS

-- actors of a board
abbrev pub most_actors : ℕ
most_actors = MOST_ACTORS

-- RAM of a board, in MiB
abbrev pub most_ram_mib : ℕ
most_ram_mib = MOST_RAM_MIB

-- ENDs of a processor
abbrev pub ends_per_processor : ℕ
ends_per_processor = ENDS_PER_PROCESSOR

-- ranges of one kind
abbrev pub most_ranges : ℕ
most_ranges = MOST_RANGES

-- messages in flight
abbrev pub most_messages : ℕ
most_messages = MOST_MESSAGES

-- bytes of a line, without its newline
abbrev pub longest_line : ℕ
longest_line = LONGEST_LINE

-- this many bytes of lines are too many
abbrev pub byte_limit : ℕ
byte_limit = BYTE_LIMIT

-- forwards of a source
abbrev pub most_forwards : ℕ
most_forwards = MOST_FORWARDS

-- entries of an account
abbrev pub most_entries : ℕ
most_entries = MOST_ENTRIES
