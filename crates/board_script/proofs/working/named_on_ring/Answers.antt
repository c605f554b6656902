use Rattle.board_script.proofs.working.named_on_ring.Goals as goal

pub returns-then-same-2 : goal.returns-then-same-2
returns-then-same-2 c = λ at l. rw (← c.if-same.ensures, ← c.if-same-2.ensures) (c.ack_line.ensures at)

pub returns-then-same-3 : goal.returns-then-same-3
returns-then-same-3 c = λ at l. rw (← c.if-same.ensures, ← c.if-same-2.ensures, ← c.if-same-3.ensures) (c.cppr_line.ensures at)

pub returns-then-same-4 : goal.returns-then-same-4
returns-then-same-4 c = λ at l. rw (← c.if-same.ensures, ← c.if-same-2.ensures, ← c.if-same-3.ensures, ← c.if-same-4.ensures) (c.take_line.ensures at)

pub returns-then-same-5 : goal.returns-then-same-5
returns-then-same-5 c = λ at l. rw (← c.if-same.ensures, ← c.if-same-2.ensures, ← c.if-same-3.ensures, ← c.if-same-4.ensures, ← c.if-same-5.ensures) (c.inject_line.ensures at)

pub returns-then-same-6 : goal.returns-then-same-6
returns-then-same-6 c = λ at l. rw (← c.if-same.ensures, ← c.if-same-2.ensures, ← c.if-same-3.ensures, ← c.if-same-4.ensures, ← c.if-same-5.ensures, ← c.if-same-6.ensures) (c.regs_line.ensures at)

pub returns-then-same-7 : goal.returns-then-same-7
returns-then-same-7 c = λ at l. rw (← c.if-same.ensures, ← c.if-same-2.ensures, ← c.if-same-3.ensures, ← c.if-same-4.ensures, ← c.if-same-5.ensures, ← c.if-same-6.ensures, ← c.if-same-7.ensures) (c.quiet_line.ensures at)

pub returns-then-same-8 : goal.returns-then-same-8
returns-then-same-8 c = λ at l. rw (← c.if-same.ensures, ← c.if-same-2.ensures, ← c.if-same-3.ensures, ← c.if-same-4.ensures, ← c.if-same-5.ensures, ← c.if-same-6.ensures, ← c.if-same-7.ensures, ← c.if-same-8.ensures) (c.sync_line.ensures at)

pub returns-then-same-10 : goal.returns-then-same-10
returns-then-same-10 c = λ at l. rw (← c.if-same.ensures, ← c.if-same-2.ensures, ← c.if-same-3.ensures, ← c.if-same-4.ensures, ← c.if-same-5.ensures, ← c.if-same-6.ensures, ← c.if-same-7.ensures, ← c.if-same-8.ensures, ← c.if-same-9.ensures, ← c.if-same-10.ensures) (c.tima_load_line.ensures at)

pub returns-then-same-11 : goal.returns-then-same-11
returns-then-same-11 c = λ at l. rw (← c.if-same.ensures, ← c.if-same-2.ensures, ← c.if-same-3.ensures, ← c.if-same-4.ensures, ← c.if-same-5.ensures, ← c.if-same-6.ensures, ← c.if-same-7.ensures, ← c.if-same-8.ensures, ← c.if-same-9.ensures, ← c.if-same-10.ensures, ← c.if-same-11.ensures) (c.tima_store_line.ensures at)
