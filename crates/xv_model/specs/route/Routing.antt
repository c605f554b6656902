-- What becomes of a notice (QEMU's ppc-xive, "routing"; hw/intc/xive.c, xive_router_notify and xive_router_end_notify).
use Rattle.std.specs.Prelude.{ℕ, ◌==◌, ◌+◌, ◌||◌, not, if◌then◌else◌, List, length, Option, Some, None}
use Rattle.xv_base.specs.Limits.{most_messages}
use Rattle.xv_model.specs.declared.eas.Eas.{Eas}
use Rattle.xv_model.specs.declared.operations.EndConfig.{EndConfig}
use Rattle.xv_model.specs.declared.outcomes.Wrote.{Wrote}
use Rattle.xv_model.specs.declared.outcomes.Then.{Then}
use Rattle.xv_model.specs.declared.outcomes.Then.TheVariants.{Coalesced, Silent, Present, Escalate}
use Rattle.xv_model.specs.declared.outcomes.EndRun.{EndRun}
use Rattle.xv_model.specs.declared.outcomes.EndRun.TheVariants as run
use Rattle.xv_model.specs.declared.outcomes.Routed.{Routed}
use Rattle.xv_model.specs.declared.outcomes.Routed.TheVariants.{NoSource, Masked, Run}
use Rattle.xv_model.specs.declared.outcomes.Outcome.{Outcome}
use Rattle.xv_model.specs.declared.outcomes.Outcome.TheVariants as out
use Rattle.xv_model.specs.declared.entries.Entry.{Entry}
use Rattle.xv_model.specs.account.Start.{Start}
use Rattle.xv_model.specs.source.PqTable.{trigger_row}
use Rattle.xv_model.specs.source.Notices.{routes, outstanding}
use Rattle.xv_model.specs.end.Flags.{is_valid, enqueues, always_notifies, escalates, is_silent}
use Rattle.xv_model.specs.source.Eas.{eas}
use Rattle.xv_model.specs.end.Descriptors.{end_config}
use Rattle.xv_model.specs.end.EventStates.{esn}
use Rattle.xv_model.specs.end.Written.{written_count}
use Rattle.xv_model.specs.end.Memory.{wrote_at}
use Rattle.xv_model.specs.route.Flight.{flight}

-- how a pass of an END with this configuration goes on, whose state is this
abbrev pub next_by : EndConfig → ℕ → Then
next_by c state =
    if is_silent c then (if escalates c then Escalate else Silent)
    else (if always_notifies c || (trigger_row state).forwards then Present else Coalesced)

-- what a pass of an END with this configuration writes, of which this many entries were written
abbrev pub write_by : EndConfig → ℕ → ℕ → Option Wrote
write_by c count payload = if enqueues c then Some (wrote_at c (c.start + count) payload) else None

-- the pass of e with a payload: it is written first, and then the END notifies, escalates or does neither
abbrev pub end_pass : Start → List Entry → ℕ → ℕ → EndRun
end_pass z h e payload =
    let c = end_config z h e in
    if is_valid c then run.Ran e (write_by c (written_count z h e) payload) (next_by c (esn z h e)) else run.NoEnd e

-- what becomes of a notice of a source with this EAS
abbrev pub routed_by : Start → List Entry → Eas → Routed
routed_by z h a =
    if not a.valid then NoSource
    else (if a.masked then Masked else Run (end_pass z h a.end a.eisn))

-- what a route of s answers
abbrev pub route_outcome : Start → List Entry → ℕ → Outcome
route_outcome z h s =
    if outstanding z h s == 0 then out.NoNotice
    else (if length (flight z h) == most_messages then out.BusFull
    else out.Routed (routes z h s + 1) (routed_by z h (eas z h s)))
