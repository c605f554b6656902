-- What a notice makes of the ENDs and of the messages in flight.
use Rattle.std.specs.Prelude.{ℕ, ◌&&◌, Bool, not, if◌then◌else◌, List, ◌++◌, Option, Some, None, slice_set}
use Rattle.xv_model.specs.declared.eas.Eas.{Eas}
use Rattle.xv_model.specs.declared.messages.Message.{Message}
use Rattle.xv_model.specs.declared.outcomes.Wrote.{Wrote}
use Rattle.xv_model.specs.declared.outcomes.Routed.{Routed}
use Rattle.xv_model.specs.declared.outcomes.Routed.TheVariants as routed
use Rattle.xv_model.specs.end.Memory.{write_of}
use Rattle.end_queue.specs.declared.ends.EndRecord.{EndRecord}
use Rattle.end_queue.specs.Ends.{end_in}
use Rattle.router.specs.Passes.{after_pass, pass_by, made_for}

-- whether a notice of a source with this EAS reaches an END
abbrev pub reaches_end : Eas → Bool
reaches_end a = a.valid && not a.masked

-- what becomes of a notice of a source with this EAS
abbrev pub routed_in : List EndRecord → Eas → Routed
routed_in ends a =
    if not a.valid then routed.NoSource
    else (if a.masked then routed.Masked
    else routed.Run (pass_by (end_in ends a.end) a.end a.eisn))

-- the ENDs after such a notice
abbrev pub ends_after : List EndRecord → Eas → List EndRecord
ends_after ends a =
    if reaches_end a then slice_set ends a.end (after_pass (end_in ends a.end)) else ends

-- the messages after such a notice
abbrev pub messages_after : ℕ → List EndRecord → Eas → List Message → List Message
messages_after s ends a messages =
    let r = end_in ends a.end in
    if reaches_end a then messages ++ made_for s r.config (pass_by r a.end a.eisn) else messages

-- what became of a notice wrote this
abbrev pub write_in : Routed → Option Wrote
write_in (routed.Run run) = write_of (Some run)
write_in _ = None
