use Rattle.std.proofs.Common.{arith, ◌≡◌, slice_set}
use Rattle.std.proofs.lemmas.Grind.{common_steps}
use Rattle.thread_context.specs.Rings.{pending_added, ring_in}
use Rattle.thread_context.specs.contracts.rings.Rings.{the_view}
use Rattle.thread_context.proofs.Effects.{add_leaves}
use Rattle.thread_context.proofs.rings.Rings.add_pending.Goals as goal

pub returns-clause-pending : goal.returns-clause-pending
returns-clause-pending c =
    let is : the_view c.if-priority-le-MOST_PRIORITY.self-inside ≡ slice_set c.args.self.now c.args.t (pending_added c.args.priority (ring_in c.args.self.now c.args.t)) = grind (arith, common_steps) in
    add_leaves c.args.self.now (the_view c.if-priority-le-MOST_PRIORITY.self-inside) c.args.t c.args.priority c.requires is
