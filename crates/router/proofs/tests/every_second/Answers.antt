use Rattle.std.proofs.Common.{◌<◌, length, arith}
use Rattle.std.proofs.lemmas.Option.{slice_get_within}
use Rattle.router.proofs.tests.every_second.Goals as goal

pub returns : goal.returns
returns c = record {
  few = omega arith;
  ordered = λ k span l is. (c.loop-i.invariant.1 k span (omega arith) is).0;
  below = λ k span l is. (c.loop-i.invariant.1 k span (omega arith) is).1;
  unused = λ k span past is.
      let inside : k < length c.loop-i.spans = slice_get_within c.loop-i.spans k span is in
      (omega arith, omega arith);
}
