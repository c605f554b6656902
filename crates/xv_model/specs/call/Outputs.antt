-- What accepted hypercalls answer besides their code (QEMU's hw/intc/spapr_xive.c).
use Rattle.std.specs.Prelude.{ℕ, ◌+◌, ◌*◌, ◌/◌, ◌%◌, ◌&&◌, ◌||◌, not, Bool, if◌then◌else◌, List, [], ◌∷◌}
use Rattle.xv_base.specs.Limits.{ends_per_processor}
use Rattle.xv_model.specs.declared.hypercalls.flags.TheConstants.{SRC_STORE_EOI, SRC_TRIGGER, SRC_LSI, SRC_H_INT_ESB, END_ALWAYS_NOTIFY, END_DEBUG, END_GENERATION, PRIORITY_MASKED}
use Rattle.xv_model.specs.declared.hypercalls.arguments.GetSourceInfoArgs.{GetSourceInfoArgs}
use Rattle.xv_model.specs.declared.hypercalls.arguments.GetSourceConfigArgs.{GetSourceConfigArgs}
use Rattle.xv_model.specs.declared.hypercalls.arguments.GetQueueInfoArgs.{GetQueueInfoArgs}
use Rattle.xv_model.specs.declared.hypercalls.arguments.GetQueueConfigArgs.{GetQueueConfigArgs}
use Rattle.xv_model.specs.declared.hypercalls.Call.{Call}
use Rattle.xv_model.specs.declared.hypercalls.Call.TheVariants as call
use Rattle.xv_model.specs.declared.pages.TheConstants.{ESB_BASE, END_BASE, PAGE_PAIR_SIZE, PAGE_SIZE, PAGE_SHIFT, NO_PAGE}
use Rattle.xv_model.specs.declared.board.Board.{Board}
use Rattle.xv_model.specs.declared.operations.EndConfig.{EndConfig}
use Rattle.xv_model.specs.declared.entries.Entry.{Entry}
use Rattle.xv_model.specs.account.Start.{Start}
use Rattle.xv_model.specs.board.Boards.{is_level}
use Rattle.xv_model.specs.call.Arguments.{end_of}
use Rattle.xv_model.specs.source.Eas.{eas}
use Rattle.xv_model.specs.end.Flags.{has_bit, enqueues, always_notifies}
use Rattle.xv_model.specs.end.Descriptors.{end_config}
use Rattle.xv_model.specs.end.Written.{written_count}
use Rattle.xv_model.specs.end.Memory.{entries, generation}

-- where the pages of a source lie, and those of an END
abbrev pub source_address : ℕ → ℕ
source_address s = ESB_BASE + s * PAGE_PAIR_SIZE

abbrev pub end_address : ℕ → ℕ
end_address e = END_BASE + e * PAGE_PAIR_SIZE

-- what the pages of a source can do
abbrev pub source_flags : Board → ℕ → ℕ
source_flags b s =
    (if b.store_eoi then SRC_STORE_EOI else 0)
    + (if b.two_pages then 0 else SRC_TRIGGER)
    + (if is_level b s then SRC_LSI + SRC_H_INT_ESB else 0)

-- where the management page of a source lies: of two pages it is the second one. A level source has none that a guest uses
abbrev pub management_page : Board → ℕ → ℕ
management_page b s = if is_level b s then NO_PAGE else (if b.two_pages then source_address s + PAGE_SIZE else source_address s)

-- where the trigger page lies, where it is a page of its own
abbrev pub trigger_page : Board → ℕ → ℕ
trigger_page b s = if is_level b s || not b.two_pages then NO_PAGE else source_address s

-- h_int_get_source_info: what the pages can do, where they lie, and their size
abbrev pub get_source_info_outputs : Board → GetSourceInfoArgs → List ℕ
get_source_info_outputs b c = source_flags b c.lisn ∷ management_page b c.lisn ∷ trigger_page b c.lisn ∷ PAGE_SHIFT ∷ []

-- h_int_get_source_config: the target and the priority, and the EISN
abbrev pub get_source_config_outputs : Start → List Entry → GetSourceConfigArgs → List ℕ
get_source_config_outputs z h c =
    let a = eas z h c.lisn in
    a.end / ends_per_processor
    ∷ (if a.masked then PRIORITY_MASKED else a.end % ends_per_processor)
    ∷ a.eisn
    ∷ []

-- h_int_get_queue_info: where the pages of the END lie, and their size
abbrev pub get_queue_info_outputs : GetQueueInfoArgs → List ℕ
get_queue_info_outputs c = end_address (end_of c.target c.priority) ∷ PAGE_SHIFT ∷ []

-- the flags that are answered of an END with this configuration, whose next entry has this number: with its generation or without
abbrev pub shown_flags : EndConfig → ℕ → Bool → ℕ
shown_flags c next debug =
    (if always_notifies c then END_ALWAYS_NOTIFY else 0)
    + (if debug then generation c next * END_GENERATION else 0)

-- what is answered of its queue: the flags, the address, the size, and the index of the next entry or 0
abbrev pub shown_queue : EndConfig → ℕ → Bool → List ℕ
shown_queue c next debug = shown_flags c next debug ∷ c.qaddr ∷ c.qshift ∷ (if debug then next % entries c else 0) ∷ []

-- h_int_get_queue_config: the generation and the index are those of the entry that is written next, and are asked for by a flag
abbrev pub get_queue_config_outputs : Start → List Entry → GetQueueConfigArgs → List ℕ
get_queue_config_outputs z h c =
    let e = end_of c.target c.priority in
    let config = end_config z h e in
    shown_queue config (config.start + written_count z h e) (has_bit c.flags END_DEBUG && enqueues config)

-- what a call answers where it is accepted
abbrev pub outputs : Start → List Entry → Call → List ℕ
outputs z h (call.GetSourceInfo c) = get_source_info_outputs z.board c
outputs z h (call.GetSourceConfig c) = get_source_config_outputs z h c
outputs z h (call.GetQueueInfo c) = get_queue_info_outputs c
outputs z h (call.GetQueueConfig c) = get_queue_config_outputs z h c
outputs z h _ = []
