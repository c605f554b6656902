use Rattle.std.proofs.Common.{ℕ, ◌≡◌, ◌<◌, ◌≤◌, ◌+◌, length, Some, slice_get}
use Rattle.xv_model.specs.declared.board.Span.{Span}
use Rattle.router.proofs.tests.every_second.Given as goal

-- the ranges so far
abbrev pub invariant-loop-i : goal.invariant-loop-i
invariant-loop-i l = (length l.spans ≡ 16) ×
    ((k : ℕ) (span : Span) → k < l.i → slice_get l.spans k ≡ Some span →
    (span.first ≤ span.last) × (span.last < l.first + 32))
