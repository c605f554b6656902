use Rattle.std.proofs.Common.{rules, ◌∙◌, ap}
use Rattle.std.proofs.Math.ListN.{replicate}
use Rattle.machine.proofs.Starting.{starts}
use Rattle.machine.proofs.machine.Machine.build.Goals as goal

pub returns-clause-stands : goal.returns-clause-stands
returns-clause-stands c =
    starts c.args.board.now c.in_ok-build.field-0 c.in_ok-vec.field-0.items c.in_ok-vec-2.field-0.items c.off.result c.off.ensures
    (c.in_ok-build.ensures {u = tt}).stands
    ((c.in_ok-vec.ensures {u = tt}).items_if_clones_equal (λ y same. search rules))
    ((c.in_ok-vec-2.ensures {u = tt}).items_if_clones_equal (λ y same. search rules) ∙ ap (replicate c.args.board.now.limits.sources) c.off-2.ensures)
