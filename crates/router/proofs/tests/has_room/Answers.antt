use Rattle.std.proofs.Common.{rules}
use Rattle.std.proofs.lemmas.List.Elements.{All-from_get_or}
use Rattle.end_queue.specs.Ends.{first_end, HasRoom}
use Rattle.router.proofs.tests.has_room.Goals as goal

pub returns : goal.returns
returns c = λ _. All-from_get_or HasRoom c.args.tables.now.ends first_end (λ k inside. c.loop-e.invariant k (search rules))
