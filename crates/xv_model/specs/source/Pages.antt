-- What an access to a page of a source does (QEMU's ppc-xive, "event state buffer"; hw/intc/xive.c, xive_source_esb_read and xive_source_esb_write).
-- A source has a trigger page, page 0, and a management page, page 1; or page 0 alone, which is the management page.
use Rattle.std.specs.Prelude.{ℕ, ◌==◌, ◌-◌, ◌/◌, ◌%◌, ◌&&◌, nat_lt, Bool, if◌then◌else◌, Option, Some, None}
use Rattle.xv_model.specs.declared.pages.TheConstants.{ESB_OFFSETS, ESB_STORE_EOI, ESB_GET, ESB_SET_PQ, ESB_SET_STEP}
use Rattle.xv_model.specs.declared.operations.PqOp.{PqOp}
use Rattle.xv_model.specs.declared.operations.PqOp.TheVariants.{Trigger, Eoi, Get, Set}
use Rattle.xv_model.specs.declared.outcomes.Outcome.{Outcome}
use Rattle.xv_model.specs.declared.outcomes.Outcome.TheVariants as out

-- the pair that an access at an offset sets
abbrev pub pair_at : ℕ → ℕ
pair_at offset = (offset - ESB_SET_PQ) / ESB_SET_STEP

-- what a load at an offset of a management page does: EOI, get, or set
abbrev pub load_op : ℕ → PqOp
load_op offset =
    if nat_lt offset ESB_GET then Eoi
    else (if nat_lt offset ESB_SET_PQ then Get else Set (pair_at offset))

-- what a store at an offset of a management page does, on a board with store EOI or without
abbrev pub store_op : Bool → ℕ → Option PqOp
store_op eoi offset =
    if nat_lt offset ESB_STORE_EOI then Some Trigger
    else (if nat_lt offset ESB_GET then (if eoi then Some Eoi else None)
    else (if nat_lt offset ESB_SET_PQ then None else Some (Set (pair_at offset))))

-- what an access at an offset of a management page does; an offset counts modulo the offsets of a page
abbrev pub management_op : Bool → ℕ → Bool → Option PqOp
management_op eoi offset store = if store then store_op eoi (offset % ESB_OFFSETS) else Some (load_op (offset % ESB_OFFSETS))

-- what an access to the trigger page does: a store anywhere triggers
abbrev pub trigger_page_op : Bool → Option PqOp
trigger_page_op store = if store then Some Trigger else None

-- what an access to a page of a source does to its word, with two pages or one, and with store EOI or without
abbrev pub page_op : Bool → Bool → ℕ → ℕ → Bool → Option PqOp
page_op two_pages eoi page offset store = if two_pages && (page == 0) then trigger_page_op store else management_op eoi offset store

-- what an access answers that does nothing to a word: a load of the trigger page gives all ones, and a store to the management page is refused
abbrev pub untouched_answer : Bool → Outcome
untouched_answer store = if store then out.BadOffset else out.Ones
