use Rattle.std.proofs.Common.{◌+◌, ◌<◌, subst, sym}
use Rattle.end_queue.specs.Reader.{IsAt}
use Rattle.end_queue.proofs.Steps.{goes_on}
use Rattle.end_queue.proofs.reader.Reader.take.Goals as goal

pub returns-clause-goes_on : goal.returns-clause-goes_on
returns-clause-goes_on c =
    let inside = subst (λ r. r.index < r.entries) c.self.view_is c.self.invariant.index in
    λ d j at. subst (λ r. IsAt r d (j + 1)) (sym c.step.ensures) (goes_on c.args.self.now d j inside at)
