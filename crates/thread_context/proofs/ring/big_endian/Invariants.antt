use Rattle.std.proofs.Common.{◌≡◌}
use Rattle.thread_context.specs.Ring.{big_endian}
use Rattle.thread_context.proofs.ring.big_endian.Given as goal

abbrev pub invariant-loop-done : goal.invariant-loop-done
invariant-loop-done l = l.value ≡ big_endian l.bytes l.at l.done
