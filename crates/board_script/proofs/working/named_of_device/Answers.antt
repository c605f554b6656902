use Rattle.board_script.proofs.working.named_of_device.Goals as goal

pub returns-then-same : goal.returns-then-same
returns-then-same c = λ at l. rw (← c.if-same.ensures) (c.kvmset_line.ensures at)

pub returns-then-same-2 : goal.returns-then-same-2
returns-then-same-2 c = λ at l. rw (← c.if-same.ensures, ← c.if-same-2.ensures) (c.kvmeq_line.ensures at)

pub returns-then-same-3 : goal.returns-then-same-3
returns-then-same-3 c = λ at l. rw (← c.if-same.ensures, ← c.if-same-2.ensures, ← c.if-same-3.ensures) (c.kvmget_line.ensures at)

pub returns-then-same-4 : goal.returns-then-same-4
returns-then-same-4 c = λ at l. rw (← c.if-same.ensures, ← c.if-same-2.ensures, ← c.if-same-3.ensures, ← c.if-same-4.ensures) (c.vpget_line.ensures at)

pub returns-then-same-5 : goal.returns-then-same-5
returns-then-same-5 c = λ at l. rw (← c.if-same.ensures, ← c.if-same-2.ensures, ← c.if-same-3.ensures, ← c.if-same-4.ensures, ← c.if-same-5.ensures) (c.vpset_line.ensures at)
