-- What an access to a page of a source is.
use Rattle.std.specs.Prelude.{ℕ, ◌≡◌, Bool, true, false, Option, Some, None, Ok, Err}
use Rattle.std.specs.declared.result.Result.{Result}
use Rattle.xv_model.specs.declared.operations.PqOp.{PqOp}
use Rattle.xv_model.specs.source.Pages.{page_op}
use Rattle.xv_model.specs.board.Validity.{has_op}
use Rattle.esb_mmio.specs.declared.pages.SourceKind.{SourceKind}
use Rattle.esb_mmio.specs.declared.pages.EsbOp.{EsbOp}
use Rattle.esb_mmio.specs.declared.pages.EsbOp.TheVariants.{Pq, Ones}
use Rattle.esb_mmio.specs.declared.pages.BadOffset.{BadOffset}

-- what an access to a source of a kind does to its word, if anything
abbrev pub op_at : SourceKind → ℕ → ℕ → Bool → Option PqOp
op_at kind page offset store = page_op kind.two_pages kind.store_eoi page offset store

-- an access that does nothing to a word is a load that gives all ones, or a store at a bad offset
abbrev pub decoded_by : Bool → Option PqOp → Result EsbOp BadOffset
decoded_by store (Some o) = Ok (Pq o)
decoded_by true None = Err (record {})
decoded_by false None = Ok Ones

-- what an access to a page of a source of a kind is
abbrev pub decoded : SourceKind → ℕ → ℕ → Bool → Result EsbOp BadOffset
decoded kind page offset store = decoded_by store (op_at kind page offset store)

-- an operation on a word is one that each source has, a level source or not
abbrev pub IsOfEach : EsbOp → Type 0
IsOfEach (Pq o) = (level : Bool) → has_op level o ≡ true
IsOfEach Ones = Unit {0}
