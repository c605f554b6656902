use Rattle.std.proofs.Common.{arith}
use Rattle.account.proofs.Outputs.{outputs_more}
use Rattle.account.proofs.outcomes.add_outputs.Goals as goal

pub loop-n-preserved : goal.loop-n-preserved
loop-n-preserved g c = record {
  items = outputs_more c.args.text.now.items c.loop-n.text.items c.add_output.new.text.items c.args.outputs.now c.loop-n.n-index _ c.loop-n-test.true c.loop-n.invariant.items c.add_output.ensures.items;
  len = omega (arith, c.add_output.ensures.len, c.loop-n.invariant.len);
}
