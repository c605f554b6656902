-- The text of a whole account: its header, its entries and its report.
use Rattle.std.specs.Prelude.{ℕ, ◌*◌, zero, suc, if◌then◌else◌, List, [], ◌∷◌, ◌++◌, length}
use Rattle.xv_base.specs.Limits.{ends_per_processor}
use Rattle.xv_model.specs.declared.entries.Entry.{Entry}
use Rattle.xv_model.specs.declared.board.Board.{Board}
use Rattle.xv_model.specs.account.Index.{next_index}
use Rattle.xv_model.specs.account.Start.{Start, start}
use Rattle.xv_model.specs.source.Pairs.{pq, asserted}
use Rattle.xv_model.specs.source.Notices.{forwards, routes, all_outstanding}
use Rattle.xv_model.specs.end.Descriptors.{end_config}
use Rattle.xv_model.specs.end.EventStates.{esn, ese}
use Rattle.xv_model.specs.end.Written.{written_count}
use Rattle.xv_model.specs.end.Reading.{taken_count}
use Rattle.xv_model.specs.route.Flight.{flight}
use Rattle.xv_model.specs.processor.Phases.{is_connected, phase}
use Rattle.xv_model.specs.processor.Registers.{saved_cppr, saved_ipb, backlog, ring}
use Rattle.account.specs.text.Report.{end_line, source_line, queue_line, processor_line, ring_line, flight_line, notices_line, done_line}
pub use Rattle.account.specs.text.Entry.{entry_line}
pub use Rattle.account.specs.text.Header.{header_text}

-- the lines of the entries
abbrev pub entries_text : Start → List Entry → List ℕ
entries_text z [] = []
entries_text z (x ∷ h) = entries_text z h ++ entry_line (next_index z h) x

-- the texts of the numbers below n, in order
abbrev pub texts_below : (ℕ → List ℕ) → ℕ → List ℕ
texts_below f zero = []
texts_below f (suc n) = texts_below f n ++ f n

-- the line of source s after an account
abbrev pub source_line_of : Start → List Entry → ℕ → List ℕ
source_line_of z h s = source_line s (pq z h s) (asserted z h s) (forwards z h s) (routes z h s)

-- the line of END e
abbrev pub queue_line_of : Start → List Entry → ℕ → List ℕ
queue_line_of z h e =
    let c = end_config z h e in
    queue_line e c.flags.0 (written_count z h e) (taken_count z h e) (esn z h e) (ese z h e)

-- the line of processor v, where it is connected
abbrev pub processor_line_of : Start → List Entry → ℕ → List ℕ
processor_line_of z h v =
    if is_connected z h v then processor_line v (phase z h v) (saved_cppr z h v) (saved_ipb z h v) (backlog z h v) else []

-- the line of the ring of thread t
abbrev pub ring_line_of : Start → List Entry → ℕ → List ℕ
ring_line_of z h t =
    let r = ring z h t in
    ring_line t r.nsr r.cppr r.ipb r.pipr r.cam

-- the report of an account: its end, its sources, queues, processors and rings, and what is on its way
abbrev pub report_text : Start → List Entry → List ℕ
report_text z h =
    end_line (next_index z h)
    ++ texts_below (source_line_of z h) z.board.limits.sources
    ++ texts_below (queue_line_of z h) (ends_per_processor * z.board.limits.processors)
    ++ texts_below (processor_line_of z h) z.board.limits.processors
    ++ texts_below (ring_line_of z h) z.board.limits.threads
    ++ flight_line (length (flight z h)) ++ notices_line (all_outstanding z h) ++ done_line

-- the text of a whole account of a board
abbrev pub account_text : Board → List Entry → List ℕ
account_text b h = header_text b ++ entries_text (start b) h ++ report_text (start b) h
