-- The pages of an END (QEMU's hw/intc/xive.c, xive_end_source_read and xive_end_source_write): page 0 is its state of notifications, and page 1 that of escalations.
use Rattle.std.specs.Prelude.{ℕ, ◌==◌, ◌%◌, Bool, false, if◌then◌else◌, List}
use Rattle.xv_model.specs.declared.pages.TheConstants.{ESB_OFFSETS}
use Rattle.xv_model.specs.declared.outcomes.Outcome.{Outcome}
use Rattle.xv_model.specs.declared.outcomes.Outcome.TheVariants as out
use Rattle.xv_model.specs.declared.entries.Entry.{Entry}
use Rattle.xv_model.specs.account.Start.{Start}
use Rattle.xv_model.specs.source.PqTable.{Cell, pq_row}
use Rattle.xv_model.specs.source.Pages.{load_op}
use Rattle.xv_model.specs.end.Flags.{is_valid}
use Rattle.xv_model.specs.end.Descriptors.{end_config}
use Rattle.xv_model.specs.end.EventStates.{esn, ese}

-- the state of an END that a page is of
abbrev pub state_of : Start → List Entry → ℕ → ℕ → ℕ
state_of z h e page = if page == 0 then esn z h e else ese z h e

-- the cell of a load at an offset: that of the same load of a message source
abbrev pub load_row : ℕ → ℕ → Cell
load_row offset q = pq_row (load_op (offset % ESB_OFFSETS)) false false q

-- what a load at an offset answers that finds the state q; it forwards nothing
abbrev pub loaded : ℕ → ℕ → Outcome
loaded offset q = out.EndPq q (load_row offset q).pair

-- what an access to a page of e answers: no page has a store, and only a valid END has a state
abbrev pub end_page_answer : Start → List Entry → ℕ → ℕ → ℕ → Bool → Outcome
end_page_answer z h e page offset store =
    if store then out.BadOffset
    else (if is_valid (end_config z h e) then loaded offset (state_of z h e page) else out.NoEnd)
