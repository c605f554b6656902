use Rattle.std.proofs.Common.{arith, rules}
use Rattle.xive_cli.proofs.Words.{one_more_made}
use Rattle.xive_cli.proofs.command.words_of.Goals as goal

pub loop-text-preserved : goal.loop-text-preserved
loop-text-preserved c =
    one_more_made _ _ _ c.text-item.result c.as_bytes.result.now _ _ (omega arith) c.text-item.is c.as_bytes.ensures.value c.loop-text.invariant (search rules)
