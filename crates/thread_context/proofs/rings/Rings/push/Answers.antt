use Rattle.std.proofs.Common.{arith}
use Rattle.std.proofs.lemmas.Grind.{common_steps}
use Rattle.thread_context.proofs.Effects.{push_leaves}
use Rattle.thread_context.proofs.rings.Rings.push.Goals as goal

pub returns-clause-pending : goal.returns-clause-pending
returns-clause-pending c = push_leaves c.args.self.now _ c.args.t c.args.cam c.args.backlog c.requires (grind (arith, common_steps))
