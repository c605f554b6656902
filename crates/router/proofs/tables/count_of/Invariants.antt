use Rattle.std.proofs.Common.{◌≡◌, ◌≤◌, take}
use Rattle.xv_model.specs.route.Quiet.{messages_of}
use Rattle.router.proofs.tables.count_of.Given as goal

abbrev pub invariant-loop-i : goal.invariant-loop-i
invariant-loop-i l = (l.n ≡ messages_of (take l.i l.messages.items) l.s) × (l.n ≤ l.i)
