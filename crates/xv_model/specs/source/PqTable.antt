-- The table of operations on a source's pair (QEMU's ppc-xive, "event state buffer"; hw/intc/xive.c, xive_esb_trigger and xive_esb_eoi).
-- A pair is a number: 00 is 0, 01 is 1, 10 is 2, 11 is 3.
use Rattle.std.specs.Prelude.{ℕ, ◌==◌, ◌&&◌, Bool, true, false, if◌then◌else◌}
use Rattle.xv_model.specs.declared.operations.PqOp.{PqOp}
use Rattle.xv_model.specs.declared.operations.PqOp.TheVariants.{Trigger, Eoi, Get, Set, Raise, Lower, Init}

-- a cell of the table: the new pair, and whether the operation forwards
pub record Cell : Type 0 where
  pub pair : ℕ
  pub forwards : Bool

abbrev pub stays : ℕ → Cell
stays q = record { pair = q; forwards = false }

-- it forwards, and the pair is 10
abbrev pub notifies : Cell
notifies = record { pair = 2; forwards = true }

-- the cell of a row at a pair: the columns are 00, 01, 10 and 11
abbrev pub column : ℕ → Cell → Cell → Cell → Cell → Cell
column q c00 c01 c10 c11 = if q == 0 then c00 else (if q == 1 then c01 else (if q == 2 then c10 else c11))

-- the cell for an operation on a source that is a level source or not, whose flag is on or not, and that has the pair q
abbrev pub pq_row : PqOp → Bool → Bool → ℕ → Cell
pq_row Trigger level on q = column q notifies (stays 1) (if level then stays 2 else stays 3) (stays 3)
pq_row Eoi level on q = if level && on then column q notifies (stays 1) notifies notifies else column q (stays 0) (stays 1) (stays 0) notifies
pq_row Get level on q = stays q
pq_row (Set new) level on q = stays new
pq_row Raise level on q = column q notifies (stays 1) (stays 2) (stays 3)
pq_row Lower level on q = stays q
pq_row (Init asserted) level on q = stays 1

-- the row of a trigger of a message source, by which the states of an END go too
abbrev pub trigger_row : ℕ → Cell
trigger_row q = pq_row Trigger false false q

-- the assertion flag after an operation
abbrev pub flag_after : PqOp → Bool → Bool
flag_after Raise on = true
flag_after Lower on = false
flag_after (Init asserted) on = asserted
flag_after _ on = on
