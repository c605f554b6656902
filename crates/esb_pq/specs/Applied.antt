-- The PQ table on a source's word.
use Rattle.std.specs.Prelude.{ℕ, ◌+◌, ◌==◌, ◌&&◌, Bool, if◌then◌else◌}
use Rattle.std.specs.Bool.{beq}
use Rattle.xv_model.specs.declared.operations.PqOp.{PqOp}
use Rattle.xv_model.specs.source.PqTable.{Cell as PqCell, pq_row, flag_after}
use Rattle.xv_base.specs.Limits.{most_forwards}
use Rattle.esb_pq.specs.declared.applied.Applied.{Applied}
use Rattle.esb_pq.specs.declared.applied.Applied.TheVariants.{Same, Changed, Forward, Spent}
use Rattle.esb_pq.specs.Word.{SourceParts}

-- the cell of the table for an operation on a word of a level source, or of a message source
abbrev pub cell_at : SourceParts → Bool → PqOp → PqCell
cell_at w level o = pq_row o level w.asserted w.pq

-- the word with the pair of a cell
abbrev pub word_by : PqCell → Bool → ℕ → SourceParts
word_by c asserted count = record { pq = c.pair; asserted = asserted; count = count }

-- the word with the pair and the flag that the table gives, and the count as it was
abbrev pub stored_by : SourceParts → Bool → PqOp → SourceParts
stored_by w level o = word_by (cell_at w level o) (flag_after o w.asserted) w.count

-- what a cell and the new flag make of a word: a forward is the next one, and none comes after the
-- last that can be counted
abbrev pub by_cell : PqCell → Bool → SourceParts → Applied
by_cell c asserted w =
    if c.forwards
    then (if w.count == most_forwards then Spent
    else Forward (word_by c asserted (w.count + 1)) (w.count + 1))
    else (if (c.pair == w.pq) && beq asserted w.asserted then Same
    else Changed (word_by c asserted w.count))

-- what an operation makes of a word, by the table
abbrev pub by_table : SourceParts → Bool → PqOp → Applied
by_table w level o = by_cell (cell_at w level o) (flag_after o w.asserted) w

-- the word after what an operation made of a word
abbrev pub word_in : SourceParts → Applied → SourceParts
word_in old Same = old
word_in old (Changed new) = new
word_in old (Forward new k) = new
word_in old Spent = old
