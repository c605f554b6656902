use Rattle.thread_context.proofs.Effects.{shown_least, shown_none}
use Rattle.thread_context.proofs.rings.Rings.get.Goals as goal

pub returns-clause-least : goal.returns-clause-least
returns-clause-least c = shown_least c.index.result.now c.shown.result c.shown.ensures

pub returns-clause-none : goal.returns-clause-none
returns-clause-none c = shown_none c.index.result.now c.shown.result c.shown.ensures
