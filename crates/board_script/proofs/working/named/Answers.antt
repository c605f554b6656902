use Rattle.board_script.proofs.working.named.Goals as goal

pub returns-then-same : goal.returns-then-same
returns-then-same c = λ at l. rw (← c.if-same.ensures) (c.then_route.ensures at)

pub returns-then-same-2 : goal.returns-then-same-2
returns-then-same-2 c = λ at l. rw (← c.if-same.ensures, ← c.if-same-2.ensures) (c.then_route-then-same-2.ensures at)

pub returns-then-same-3 : goal.returns-then-same-3
returns-then-same-3 c = λ at l. rw (← c.if-same.ensures, ← c.if-same-2.ensures, ← c.if-same-3.ensures) (c.access_line.ensures at)

pub returns-then-same-4 : goal.returns-then-same-4
returns-then-same-4 c = λ at l. rw (← c.if-same.ensures, ← c.if-same-2.ensures, ← c.if-same-3.ensures, ← c.if-same-4.ensures) (c.access_line-then-same-4.ensures at)

pub returns-then-same-5 : goal.returns-then-same-5
returns-then-same-5 c = λ at l. rw (← c.if-same.ensures, ← c.if-same-2.ensures, ← c.if-same-3.ensures, ← c.if-same-4.ensures, ← c.if-same-5.ensures) (c.source_page_line.ensures at)

pub returns-then-same-6 : goal.returns-then-same-6
returns-then-same-6 c = λ at l. rw (← c.if-same.ensures, ← c.if-same-2.ensures, ← c.if-same-3.ensures, ← c.if-same-4.ensures, ← c.if-same-5.ensures, ← c.if-same-6.ensures) (c.source_page_line-then-same-6.ensures at)

pub returns-then-same-7 : goal.returns-then-same-7
returns-then-same-7 c = λ at l. rw (← c.if-same.ensures, ← c.if-same-2.ensures, ← c.if-same-3.ensures, ← c.if-same-4.ensures, ← c.if-same-5.ensures, ← c.if-same-6.ensures, ← c.if-same-7.ensures) (c.set_line.ensures at)

pub returns-then-same-8 : goal.returns-then-same-8
returns-then-same-8 c = λ at l. rw (← c.if-same.ensures, ← c.if-same-2.ensures, ← c.if-same-3.ensures, ← c.if-same-4.ensures, ← c.if-same-5.ensures, ← c.if-same-6.ensures, ← c.if-same-7.ensures, ← c.if-same-8.ensures) (c.access_line-then-same-8.ensures at)

pub returns-then-same-9 : goal.returns-then-same-9
returns-then-same-9 c = λ at l. rw (← c.if-same.ensures, ← c.if-same-2.ensures, ← c.if-same-3.ensures, ← c.if-same-4.ensures, ← c.if-same-5.ensures, ← c.if-same-6.ensures, ← c.if-same-7.ensures, ← c.if-same-8.ensures, ← c.if-same-9.ensures) (c.route_line.ensures at)

pub returns-then-same-10 : goal.returns-then-same-10
returns-then-same-10 c = λ at l. rw (← c.if-same.ensures, ← c.if-same-2.ensures, ← c.if-same-3.ensures, ← c.if-same-4.ensures, ← c.if-same-5.ensures, ← c.if-same-6.ensures, ← c.if-same-7.ensures, ← c.if-same-8.ensures, ← c.if-same-9.ensures, ← c.if-same-10.ensures) (c.read_line.ensures at)
