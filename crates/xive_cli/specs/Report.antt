-- What a report says of a machine.
use Rattle.std.specs.Prelude.{ℕ, ◌*◌, if◌then◌else◌, List, [], ◌++◌, length}
use Rattle.xv_base.specs.Limits.{ends_per_processor}
use Rattle.xv_model.specs.declared.entries.Entry.{Entry}
use Rattle.xv_model.specs.account.Start.{Start, start}
use Rattle.xv_model.specs.source.Notices.{all_outstanding}
use Rattle.xv_model.specs.route.Flight.{flight}
use Rattle.xv_model.specs.account.Index.{next_index}
use Rattle.account.specs.Account.{texts_below, source_line_of, queue_line_of, processor_line_of, ring_line_of}
use Rattle.account.specs.text.Report.{end_line, processor_line, flight_line, notices_line, done_line}
use Rattle.nvt_backlog.specs.declared.vp.Vp.{Vp}
use Rattle.machine.specs.Machine.{Held, StandsFor}
use Rattle.xive_cli.specs.Output.{Told, Tells, Fails}

-- the first line
abbrev pub first_text : Start → List Entry → List ℕ
first_text z h = end_line (next_index z h)

-- the lines of the sources
abbrev pub sources_text : Start → List Entry → List ℕ
sources_text z h = texts_below (source_line_of z h) z.board.limits.sources

-- the lines of the ENDs
abbrev pub queues_text : Start → List Entry → List ℕ
queues_text z h = texts_below (queue_line_of z h) (ends_per_processor * z.board.limits.processors)

-- the line of a processor, where it is connected
abbrev pub connected_line : ℕ → Vp → List ℕ
connected_line v p = if p.valid then processor_line v p.phase p.cppr p.ipb p.backlog else []

-- the lines of the processors
abbrev pub processors_text : Start → List Entry → List ℕ
processors_text z h = texts_below (processor_line_of z h) z.board.limits.processors

-- the lines of the rings
abbrev pub rings_text : Start → List Entry → List ℕ
rings_text z h = texts_below (ring_line_of z h) z.board.limits.threads

-- the last lines: what is on its way
abbrev pub last_text : Start → List Entry → List ℕ
last_text z h = flight_line (length (flight z h)) ++ notices_line (all_outstanding z h) ++ done_line

-- whatever account of its board a machine represents, this text of it was told
abbrev pub TellsOf : Held → (Start → List Entry → List ℕ) → Told → Told → Type 0
TellsOf m text a b = (h : List Entry) → StandsFor m (start m.fabric.tables.board) h → Tells a (text (start m.fabric.tables.board) h) b

-- the sink failed at it
abbrev pub FailsOf : Held → (Start → List Entry → List ℕ) → Told → Told → Type 0
FailsOf m text a b = (h : List Entry) → StandsFor m (start m.fabric.tables.board) h → Fails a (text (start m.fabric.tables.board) h) b
