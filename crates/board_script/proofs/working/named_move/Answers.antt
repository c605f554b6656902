use Rattle.board_script.proofs.working.named_move.Goals as goal

pub returns-then-same : goal.returns-then-same
returns-then-same c = λ at l. rw (← c.if-same.ensures) (c.push_line.ensures at)

pub returns-then-same-2 : goal.returns-then-same-2
returns-then-same-2 c = λ at l. rw (← c.if-same.ensures, ← c.if-same-2.ensures) (c.pull_line.ensures at)

pub returns-then-same-3 : goal.returns-then-same-3
returns-then-same-3 c = λ at l. rw (← c.if-same.ensures, ← c.if-same-2.ensures, ← c.if-same-3.ensures) (c.connect_line.ensures at)

pub returns-then-same-4 : goal.returns-then-same-4
returns-then-same-4 c = λ at l. rw (← c.if-same.ensures, ← c.if-same-2.ensures, ← c.if-same-3.ensures, ← c.if-same-4.ensures) (c.restore_line.ensures at)

pub returns-then-same-5 : goal.returns-then-same-5
returns-then-same-5 c = λ at l. rw (← c.if-same.ensures, ← c.if-same-2.ensures, ← c.if-same-3.ensures, ← c.if-same-4.ensures, ← c.if-same-5.ensures) (c.save_line.ensures at)
