use Rattle.std.proofs.Common.{◌≤◌}
use Rattle.guest_ram.specs.Ram.{Zeroed}
use Rattle.guest_ram.proofs.ram.Ram.zero.Given as goal

abbrev pub invariant-loop-word : goal.invariant-loop-word
invariant-loop-word l = (l.first ≤ l.word) × Zeroed l.initial.self-inside.words.items l.first l.word l.self-inside.words.items
