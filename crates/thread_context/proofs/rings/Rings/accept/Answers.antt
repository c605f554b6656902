use Rattle.std.proofs.Common.{rules, arith, ◌≡◌, ◌<◌, ◌^◌, slice_set}
use Rattle.std.proofs.lemmas.Grind.{common_steps}
use Rattle.thread_context.specs.Rings.{accepted, ring_in}
use Rattle.thread_context.proofs.Effects.{accept_leaves, set_least}
use Rattle.thread_context.proofs.rings.Rings.accept.Goals as goal

pub without_pending-record-requires : goal.without_pending-record-requires
without_pending-record-requires c =
    let byte : c.index_mut-record.result.now.cppr < 2 ^ 8 = search rules in
    set_least c.index_mut-record.result.now c.shown-ring.result c.shown-ring.ensures byte c.if-ring.true

pub returns-clause-pending : goal.returns-clause-pending
returns-clause-pending c =
    let byte : (ring_in c.args.self.now c.args.t).cppr < 2 ^ 8 = search rules in
    let is : slice_set c.self.inside.records.items c.args.t c.if-ring.record ≡ slice_set c.args.self.now c.args.t (accepted (ring_in c.args.self.now c.args.t)) = grind (arith, common_steps) in
    accept_leaves c.args.self.now (slice_set c.self.inside.records.items c.args.t c.if-ring.record) c.args.t c.requires byte is
