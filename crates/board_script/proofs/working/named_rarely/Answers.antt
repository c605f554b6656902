use Rattle.board_script.proofs.working.named_rarely.Goals as goal

pub returns-then-same-5 : goal.returns-then-same-5
returns-then-same-5 c = λ at l. rw (← c.if-same.ensures, ← c.if-same-2.ensures, ← c.if-same-3.ensures, ← c.if-same-4.ensures, ← c.if-same-5.ensures) (c.end_page_line.ensures at)

pub returns-then-same-6 : goal.returns-then-same-6
returns-then-same-6 c = λ at l. rw (← c.if-same.ensures, ← c.if-same-2.ensures, ← c.if-same-3.ensures, ← c.if-same-4.ensures, ← c.if-same-5.ensures, ← c.if-same-6.ensures) (c.end_page_line-then-same-6.ensures at)

pub returns-then-same-7 : goal.returns-then-same-7
returns-then-same-7 c = λ at l. rw (← c.if-same.ensures, ← c.if-same-2.ensures, ← c.if-same-3.ensures, ← c.if-same-4.ensures, ← c.if-same-5.ensures, ← c.if-same-6.ensures, ← c.if-same-7.ensures) (c.peek_line.ensures at)

pub returns-then-same-8 : goal.returns-then-same-8
returns-then-same-8 c = λ at l. rw (← c.if-same.ensures, ← c.if-same-2.ensures, ← c.if-same-3.ensures, ← c.if-same-4.ensures, ← c.if-same-5.ensures, ← c.if-same-6.ensures, ← c.if-same-7.ensures, ← c.if-same-8.ensures) (c.zero_line.ensures at)

pub returns-then-same-10 : goal.returns-then-same-10
returns-then-same-10 c = λ at l. rw (← c.if-same.ensures, ← c.if-same-2.ensures, ← c.if-same-3.ensures, ← c.if-same-4.ensures, ← c.if-same-5.ensures, ← c.if-same-6.ensures, ← c.if-same-7.ensures, ← c.if-same-8.ensures, ← c.if-same-9.ensures, ← c.if-same-10.ensures) (c.hcall.ensures at)
