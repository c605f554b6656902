use Rattle.std.proofs.Common.{take, arith, subst}
use Rattle.std.specs.Io.KnownBytes.{Appends}
use Rattle.xv_io.proofs.Appending.{appends_more, rest_from, length-rest}
use Rattle.xv_io.proofs.sink.write_whole.Goals as goal

pub loop-at-preserved : goal.loop-at-preserved
loop-at-preserved g c =
    let e = c.in-Ok.ensures {u = tt} in
    record {
      within = length-rest c.args.from.now c.loop-at.at c.in-Ok.n c.loop-at.invariant.within e.bound;
      written = appends_more (g.K.Sink.held c.args.sink.now) (g.K.Sink.held c.loop-at.sink) (g.K.Sink.held c.write.new.self) c.args.from.now c.loop-at.at c.in-Ok.n c.loop-at.invariant.written
          (subst (λ bs. Appends (g.K.Sink.held c.loop-at.sink) (g.K.Sink.held c.write.new.self) (take c.in-Ok.n bs)) (rest_from c.args.from.now c.loop-at.at) e.bytes);
      count = omega (arith, e.count);
    }
