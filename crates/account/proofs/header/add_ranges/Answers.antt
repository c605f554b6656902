use Rattle.std.proofs.Common.{arith, take}
use Rattle.account.proofs.Ranges.{ranges_more}
use Rattle.account.proofs.header.add_ranges.Goals as goal

pub loop-span-preserved : goal.loop-span-preserved
loop-span-preserved g c = record {
  items = ranges_more c.args.word.now c.args.text.now.items c.loop-span.text.items c.add_range.new.text.items (take c.args.spans.now.count c.args.spans.now.spans) c.loop-span.span-index _ c.loop-span-test.true c.loop-span.invariant.items c.add_range.ensures.items;
  len = omega (arith, c.add_range.ensures.len, c.loop-span.invariant.len);
}
