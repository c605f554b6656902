-- What a step goes by: how a source answers accesses to its pages, and what an outcome does to the notices that are
-- outstanding.
use Rattle.std.specs.Prelude.{ℕ, ◌==◌, Bool, false, if◌then◌else◌, List, Option, Some, None, slice_index_or}
use Rattle.std.specs.Option.{option_map_or}
use Rattle.xv_model.specs.declared.board.Board.{Board}
use Rattle.xv_model.specs.declared.outcomes.Outcome.{Outcome}
use Rattle.xv_model.specs.declared.outcomes.Outcome.TheVariants as out
use Rattle.xv_model.specs.declared.operations.Op.{Op}
use Rattle.xv_model.specs.declared.operations.Op.TheVariants as op
use Rattle.xv_model.specs.declared.operations.PqOp.{PqOp}
use Rattle.xv_model.specs.account.Kinds.{WordAccess as AnAccess}
use Rattle.xv_model.specs.source.Pairs.{change_in, old_in}
use Rattle.esb_pq.specs.Word.{SourceParts}
use Rattle.machine.specs.declared.accessing.WordAccess.{WordAccess}
use Rattle.esb_mmio.specs.declared.pages.SourceKind.{SourceKind}

-- the kind of a source of a board that is a level source or not
abbrev pub kind_on : Board → Bool → SourceKind
kind_on b level = record { level = level; two_pages = b.two_pages; store_eoi = b.store_eoi }

-- how many notices an outcome makes
abbrev pub forwarded_in : Outcome → ℕ
forwarded_in (out.Pq old new forward) = if forward == 0 then 0 else 1
forwarded_in _ = 0

-- how many notices an outcome consumes
abbrev pub consumed_in : Outcome → ℕ
consumed_in (out.Routed k routed) = 1
consumed_in _ = 0

-- an access to the word of a source, in the account's terms
abbrev pub as_access : Option WordAccess → Option AnAccess
as_access (Some a) = Some (record { source = a.s; op = a.op })
as_access None = None

-- the pair before the last set of a source, after an operation on its word that answers so
abbrev pub old_after : PqOp → Outcome → ℕ → ℕ
old_after o u before = option_map_or (λ c. old_in o c.old before) (change_in u) before

-- how often the source of this number forwarded
abbrev pub forwards_in : List SourceParts → ℕ → ℕ
forwards_in words s = (slice_index_or words s (record { pq = 0; asserted = false; count = 0 })).count

-- how often the source forwarded whose notice an operation routes, or that it asks whether it is quiet
abbrev pub forwards_for : List SourceParts → Op → ℕ
forwards_for words (op.Route s) = forwards_in words s
forwards_for words (op.Quiet s) = forwards_in words s
forwards_for words _ = 0
