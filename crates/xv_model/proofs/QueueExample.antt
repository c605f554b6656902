-- The example of a queue: two whole queues are read.
use Rattle.std.proofs.Common.{ℕ, zero, suc, ◌≡◌, ◌*◌, ◌^◌, ◌<◌, ◌≤◌, [], length, slice_get, replicate, Some, refl, sym, ◌∙◌, ap, subst, arith, lit≤}
use Rattle.xv_model.specs.declared.board.Span.{Span}
use Rattle.xv_model.specs.declared.board.TheConstants.Spans.{NONE}
use Rattle.xv_model.specs.board.Boards.{AreBelow, IsBoard}
use Rattle.xv_model.specs.end.Memory.{entries}
use Rattle.xv_model.specs.laws.QueueExample.{one_source, one_page, ReadsTwoQueues}
use Rattle.xv_model.proofs.QueueAccount.{configuring, since, length-up_to, get-up_to}
use Rattle.xv_model.proofs.QueueRounds.{rounds}

-- no span of a board without ranges is other than 0
unused_span : (n i : ℕ) (span : Span) → slice_get (replicate n (record { first = 0; last = 0 })) i ≡ Some span → (span.first ≡ 0) × (span.last ≡ 0)
unused_span zero i span is = cc
unused_span (suc n) zero span is = (cc, cc)
unused_span (suc n) (suc i) span is = unused_span n i span is

-- no ranges are ranges below any limit
none_below : (limit : ℕ) → AreBelow NONE limit
none_below limit = record {
  few = lit≤ tt;
  ordered = λ i span l is. absurd (omega arith);
  below = λ i span l is. absurd (omega arith);
  unused = λ i span l is. unused_span 16 i span is;
}

-- the board is one
one_source_board : IsBoard one_source
one_source_board = record {
  some_source = lit≤ tt;
  sources = lit≤ tt;
  some_processor = lit≤ tt;
  processors = lit≤ tt;
  some_thread = lit≤ tt;
  threads = lit≤ tt;
  some_actor = lit≤ tt;
  actors = lit≤ tt;
  ram_mib = lit≤ tt;
  level = none_below 1;
  unclaimed = none_below 1;
  unconnected = none_below 1;
}

-- an account of so many rounds
example : (n : ℕ) → n ≤ 2 ^ 31 → n ≡ 2 * entries one_page → ReadsTwoQueues
example n l is =
    let a = rounds n l in
    record {
      before = [];
      first = configuring;
      since = since n;
      is_board = one_source_board;
      is_legal = a.is_legal;
      is_own = a.own;
      two_queues = ap length a.took ∙ length-up_to n ∙ is;
      numbers = λ k below. ap (λ v. slice_get v k) a.took ∙ get-up_to n k (subst (λ m. k < m) (sym is) below);
    }

-- an account reads two queues
pub reads_two_queues : ReadsTwoQueues
reads_two_queues = example 2048 (lit≤ tt) refl
