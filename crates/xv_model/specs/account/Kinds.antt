-- The kinds of entry: on a source's word, quiet, and of the fabric; and the part that an operation is on.
use Rattle.std.specs.Prelude.{ℕ, ◌==◌, Bool, true, false, not, Option, Some, None, option_and_then}
use Rattle.std.specs.Option.{option_map_or}
use Rattle.xv_model.specs.declared.operations.PqOp.{PqOp}
use Rattle.xv_model.specs.declared.operations.Op.{Op}
use Rattle.xv_model.specs.declared.operations.Op.TheVariants as op
use Rattle.xv_model.specs.declared.outcomes.EndRun.{EndRun}
use Rattle.xv_model.specs.declared.outcomes.Routed.TheVariants.{Run}
use Rattle.xv_model.specs.declared.outcomes.Outcome.{Outcome}
use Rattle.xv_model.specs.declared.outcomes.Outcome.TheVariants as out
use Rattle.xv_model.specs.declared.board.Board.{Board}
use Rattle.xv_model.specs.source.Pages.{page_op}

-- an operation on the word of a source
pub record WordAccess : Type 0 where
  pub source : ℕ
  pub op : PqOp

-- the access to a source's word, where the operation is one
abbrev pub access_of : Board → Op → Option WordAccess
access_of b (op.Pq s o) = Some (record { source = s; op = o })
access_of b (op.Esb s page offset store) = option_and_then (λ o. Some (record { source = s; op = o })) (page_op b.two_pages b.store_eoi page offset store)
access_of b _ = None

abbrev pub is_at : ℕ → Option WordAccess → Bool
is_at s (Some a) = a.source == s
is_at s None = false

-- whether an operation is on the word of s
abbrev pub is_word : Board → ℕ → Op → Bool
is_word b s o = is_at s (access_of b o)

abbrev pub is_quiet : Op → Bool
is_quiet (op.Quiet s) = true
is_quiet _ = false

-- whether an operation is the fabric's: on no word, and not quiet
abbrev pub is_fabric : Board → Op → Bool
is_fabric b o = option_map_or (λ a. false) (access_of b o) (not (is_quiet o))

-- what an operation is on: the word of a source, the quiet of one, the notices of one, or the rest of the fabric
pub data Part : Type 0 where
  Word : (access : WordAccess) → Part
  Quiet : (source : ℕ) → Part
  Notices : (source : ℕ) → Part
  Rest : Part

-- the part of an operation that is on no word
abbrev pub part_beside : Op → Part
part_beside (op.Quiet s) = Quiet s
part_beside (op.Route s) = Notices s
part_beside _ = Rest

-- the part that an operation is on
abbrev pub part_of : Board → Op → Part
part_of b o = option_map_or Word (access_of b o) (part_beside o)

-- the pass of an END in a route or a take
abbrev pub run_of : Op → Outcome → Option EndRun
run_of (op.Route s) (out.Routed k (Run run)) = Some run
run_of (op.Take i) (out.Escalated e run) = run
run_of _ _ = None
