use Rattle.std.proofs.Common.{ℕ, ◌≡◌, ◌<◌, ◌+◌, ◌*◌, ◌++◌, ◌∙◌, List, Option, Some, None, length, slice_get, if◌then◌else◌, rules, ap, subst, sym}
use Rattle.std.specs.Prelude.{All}
use Rattle.xv_base.specs.Limits.{ends_per_processor}
use Rattle.xv_model.specs.declared.entries.Entry.{Entry}
use Rattle.xv_model.specs.declared.messages.Message.{Message}
use Rattle.xv_model.specs.declared.messages.Message.TheVariants as message
use Rattle.xv_model.specs.declared.outcomes.EndRun.{EndRun}
use Rattle.xv_model.specs.account.Start.{Start}
use Rattle.xv_model.specs.end.Flags.{always_escalates}
use Rattle.xv_model.specs.source.PqTable.{trigger_row}
use Rattle.xv_model.specs.route.Taking.{escalates_on}
use Rattle.end_queue.specs.declared.ends.EndRecord.{EndRecord}
use Rattle.end_queue.specs.Ends.{HasCountsAtMost, HasRoom, end_in}
use Rattle.end_queue.specs.Accounts.{IsEnd}
use Rattle.router.specs.Messages.{IsMessage}
use Rattle.router.specs.Passes.{made_for}
use Rattle.router.specs.Tables.{Kept, StandsFor}
use Rattle.router.proofs.Escalated.{AnswersOf, StandsAfter, CoalescesWhen, asked_of, asked_gives, coalesced_stands, escalated_stands, coalesced_answer, escalated_answer, coalesced_when, goes_on_when}
use Rattle.router.proofs.Memory.{escalated_memory}
use Rattle.end_queue.proofs.Placing.{page_inside}
use Rattle.router.proofs.Ranges.{asked_in_range, asked_counted, asked_roomy, one_roomy, one_in_range, passed_in_range, passed_counted, one_more_in_all}
use Rattle.router.proofs.Sent.{taken_is, rest_in_range, ran_in_range}
use Rattle.router.proofs.tables.Tables.end_escalate.Goals as goal
use Rattle.router.proofs.tables.Tables.end_escalate.Goals.{After-set_ese}

-- the END whose escalation was taken is one of the tables'
below : (c : After-set_ese) → c.in-Some-Escalate.e < length c.self.inside.ends
below c = search rules

-- the message that was taken is the one that lay there
taken : (c : After-set_ese) (m : Message) → slice_get c.args.self.now.messages c.args.i ≡ Some m →
    let x = c.in-Some-Escalate in
    ◌≡◌ {A = Option Message} (Some (message.Escalate x.e x.flags x.esc x.esc_eisn x.origin)) (Some m)
taken c m found =
    let x = c.in-Some-Escalate in
    let inside : c.args.i < c.self.inside.messages.len = search rules in
    let there = subst (λ (t : Kept). slice_get t.messages c.args.i ≡ Some m) (sym c.self.view_is) found in
    taken_is c.self.inside.messages.items c.args.i c.remove.result m _ there (c.remove.ensures.succeeds m inside) (x.is ∙ ap Some x.field-0-is)

-- whether it goes on
going : (c : After-set_ese) → escalates_on c.in-Some-Escalate.flags (end_in c.self.inside.ends c.in-Some-Escalate.e).ese ≡ c.escalate_state-ese.result.1
going c = ap (escalates_on c.in-Some-Escalate.flags) (sym c.ese.ensures.value) ∙ sym c.escalate_state-ese.ensures.goes_on

-- the ENDs after it asked: by the account, in range, and by their counts
asked : (c : After-set_ese) (z : Start) (h : List Entry) → StandsFor c.args.self.now z h →
    (j : ℕ) → j < ends_per_processor * z.board.limits.processors → slice_get c.set_ese.new.self j ≡ Some (asked_of z h c.in-Some-Escalate.e (always_escalates c.in-Some-Escalate.flags) j)
asked c z h before =
    let x = c.in-Some-Escalate in
    let st = subst (λ (t : Kept). StandsFor t z h) (sym c.self.view_is) before in
    let state = subst (λ n. c.escalate_state-ese.result.0 ≡ (if always_escalates x.flags then n else (trigger_row n).pair)) c.ese.ensures.value c.escalate_state-ese.ensures.state in
    asked_gives _ z h x.e c.escalate_state-ese.result.0 (always_escalates x.flags) c.set_ese.new.self st (subst (λ n. x.e < n) c.self.invariant.3 (below c)) state c.set_ese.ensures

in_range : (c : After-set_ese) → All (IsEnd c.self.inside.board) c.set_ese.new.self
in_range c =
    let i = c.self.inside in
    subst (λ (ends : List EndRecord). All (IsEnd i.board) ends) (sym c.set_ese.ensures)
    (asked_in_range i.board i.ends c.in-Some-Escalate.e c.escalate_state-ese.result.0 c.escalate_state-ese.ensures.in_range (below c) c.self.invariant.5)

counted : (c : After-set_ese) (n : ℕ) → All (HasCountsAtMost n) c.args.self.now.ends → All (HasCountsAtMost n) c.set_ese.new.self
counted c n before =
    let old = subst (λ (t : Kept). All (HasCountsAtMost n) t.ends) (sym c.self.view_is) before in
    subst (λ (ends : List EndRecord). All (HasCountsAtMost n) ends) (sym c.set_ese.ensures) (asked_counted n c.self.inside.ends c.in-Some-Escalate.e c.escalate_state-ese.result.0 (below c) old)

-- the messages that are left
left_in_range : (c : After-set_ese) → All (IsMessage c.self.inside.board) c.remove.new.self.items
left_in_range c =
    let i = c.self.inside in
    subst (λ (messages : List Message). All (IsMessage i.board) messages) (sym c.in-Some-Escalate.ensures.items) (rest_in_range i.board i.messages.items c.args.i c.self.invariant.8)

-- ---- where it was coalesced
pub invariant_of-self : goal.invariant_of-self
invariant_of-self c =
    let a = (goal.at.invariant_of-self c).After-set_ese in
    let k = c.self.invariant in (
      k.0,
      k.1,
      k.2,
      search rules,
      k.4,
      in_range a,
      search rules,
      search rules,
      left_in_range a,
    )

pub returns-then-not-goes_on-clause-outcome : goal.returns-then-not-goes_on-clause-outcome
returns-then-not-goes_on-clause-outcome c = λ z h e esc p origin flags found before.
    let a = (goal.at.returns-then-not-goes_on-clause-outcome c).After-set_ese in
    let x = c.in-Some-Escalate in
    let st = subst (λ (t : Kept). StandsFor t z h) (sym c.self.view_is) before in
    subst (AnswersOf z h None) (taken a (message.Escalate e flags esc p origin) found)
    (coalesced_answer _ z h x.e x.esc x.esc_eisn x.flags st (subst (λ n. x.e < n) c.self.invariant.3 (below a)) (going a ∙ c.if-not-goes_on.true))

pub returns-then-not-goes_on-clause-stands : goal.returns-then-not-goes_on-clause-stands
returns-then-not-goes_on-clause-stands c = λ z h actor e esc p origin flags found before.
    let a = (goal.at.returns-then-not-goes_on-clause-stands c).After-set_ese in
    let x = c.in-Some-Escalate in
    let m = message.Escalate e flags esc p origin in
    let st = subst (λ (t : Kept). StandsFor t z h) (sym c.self.view_is) before in
    let there = subst (λ (t : Kept). slice_get t.messages c.args.i ≡ Some m) (sym c.self.view_is) found in
    subst (StandsAfter _ z h actor c.args.i None) (taken a m found)
    (coalesced_stands _ z h actor c.args.i x.e x.esc x.esc_eisn x.origin x.flags c.set_ese.new.self c.remove.new.self.items st (there ∙ sym (taken a m found)) (asked a z h before) x.ensures.items)

pub returns-then-not-goes_on-clause-coalesced : goal.returns-then-not-goes_on-clause-coalesced
returns-then-not-goes_on-clause-coalesced c = λ e esc p origin flags found.
    let a = (goal.at.returns-then-not-goes_on-clause-coalesced c).After-set_ese in
    let i = c.self.inside in
    let x = c.in-Some-Escalate in
    let m = message.Escalate e flags esc p origin in
    subst (λ (t : Kept). CoalescesWhen t.ends None (Some m)) c.self.view_is
    (subst (CoalescesWhen i.ends None) (taken a m found) (coalesced_when i.ends x.e x.flags (going a ∙ c.if-not-goes_on.true)))

pub returns-then-not-goes_on-clause-counts : goal.returns-then-not-goes_on-clause-counts
returns-then-not-goes_on-clause-counts c = λ n before.
    one_more_in_all n c.set_ese.new.self (counted (goal.at.returns-then-not-goes_on-clause-counts c).After-set_ese n before)

-- ---- where it went on
pub run-requires-clause-page : goal.run-requires-clause-page
run-requires-clause-page c = λ queue.
    let i = c.self.inside in
    let x = c.in-Some-Escalate in
    let esc : x.esc < length c.set_ese.new.self = search rules in
    page_inside i.board (end_in c.set_ese.new.self x.esc).config (length c.args.ram.now)
    (one_in_range i.board c.set_ese.new.self x.esc esc (in_range (goal.at.run-requires-clause-page c).After-set_ese)).config (search rules) queue

pub run-requires-clause-room : goal.run-requires-clause-room
run-requires-clause-room c =
    let a = (goal.at.run-requires-clause-room c).After-set_ese in
    let i = c.self.inside in
    let x = c.in-Some-Escalate in
    let esc : x.esc < length c.set_ese.new.self = search rules in
    let old = subst (λ (t : Kept). All HasRoom t.ends) (sym c.self.view_is) c.requires.room in
    one_roomy c.set_ese.new.self x.esc esc (subst (λ (ends : List EndRecord). All HasRoom ends) (sym c.set_ese.ensures) (asked_roomy i.ends x.e c.escalate_state-ese.result.0 (below a) old))

pub invariant_of-self-2 : goal.invariant_of-self-2
invariant_of-self-2 c =
    let a = (goal.at.invariant_of-self-2 c).After-set_ese in
    let i = c.self.inside in
    let k = c.self.invariant in
    let x = c.in-Some-Escalate in
    let asked = c.set_ese.new.self in
    let esc : x.esc < length asked = search rules in
    let many : length asked ≡ length i.ends = search rules in
    let sent = ap (λ (u : EndRun). c.remove.new.self.items ++ made_for x.origin (end_in asked x.esc).config u) c.run.ensures.pass in (
      k.0,
      k.1,
      k.2,
      search rules,
      k.4,
      subst (λ (ends : List EndRecord). All (IsEnd i.board) ends) (sym c.run.ensures.ends) (passed_in_range i.board asked x.esc esc (in_range a)),
      search rules,
      search rules,
      subst (λ (messages : List Message). All (IsMessage i.board) messages) (sym (c.run.ensures.messages ∙ sent))
          (ran_in_range i.board x.origin asked x.esc x.esc_eisn c.remove.new.self.items esc (many ∙ k.3) (in_range a) (left_in_range a)),
    )

pub returns-clause-outcome : goal.returns-clause-outcome
returns-clause-outcome c = λ z h e esc p origin flags found before.
    let a = (goal.at.returns-clause-outcome c).After-set_ese in
    let x = c.in-Some-Escalate in
    let other : x.esc < length c.self.inside.ends = search rules in
    let st = subst (λ (t : Kept). StandsFor t z h) (sym c.self.view_is) before in
    let one_of = subst (λ n. x.e < n) c.self.invariant.3 (below a) in
    subst (AnswersOf z h (Some c.run.result)) (taken a (message.Escalate e flags esc p origin) found)
    (escalated_answer _ z h x.e x.esc x.esc_eisn x.flags c.run.result c.set_ese.new.self st (asked a z h before) (subst (λ n. x.esc < n) c.self.invariant.3 other) one_of c.run.ensures.pass (going a ∙ c.if-not-goes_on.false))

pub returns-clause-stands : goal.returns-clause-stands
returns-clause-stands c = λ z h actor e esc p origin flags found before.
    let a = (goal.at.returns-clause-stands c).After-set_ese in
    let x = c.in-Some-Escalate in
    let m = message.Escalate e flags esc p origin in
    let other : x.esc < length c.self.inside.ends = search rules in
    let st = subst (λ (t : Kept). StandsFor t z h) (sym c.self.view_is) before in
    let there = subst (λ (t : Kept). slice_get t.messages c.args.i ≡ Some m) (sym c.self.view_is) found in
    subst (StandsAfter _ z h actor c.args.i (Some c.run.result)) (taken a m found)
    (escalated_stands _ z h actor c.args.i x.e x.esc x.esc_eisn x.origin x.flags c.run.result c.set_ese.new.self c.run.new.ends c.run.new.messages.items st (there ∙ sym (taken a m found)) (asked a z h before)
    (subst (λ n. x.esc < n) c.self.invariant.3 other) c.run.ensures.pass c.run.ensures.ends
    (c.run.ensures.messages ∙ ap (λ (ms : List Message). ms ++ made_for x.origin (end_in c.set_ese.new.self x.esc).config c.run.result) x.ensures.items))

pub returns-clause-memory : goal.returns-clause-memory
returns-clause-memory c = λ z h actor e st. escalated_memory c.args.ram.now c.run.new.ram z h actor c.args.i e c.run.result st c.run.ensures.fits c.run.ensures.ram

pub returns-clause-coalesced : goal.returns-clause-coalesced
returns-clause-coalesced c = λ e esc p origin flags found.
    let a = (goal.at.returns-clause-coalesced c).After-set_ese in
    let i = c.self.inside in
    let x = c.in-Some-Escalate in
    let m = message.Escalate e flags esc p origin in
    subst (λ (t : Kept). CoalescesWhen t.ends (Some c.run.result) (Some m)) c.self.view_is
    (subst (CoalescesWhen i.ends (Some c.run.result)) (taken a m found) (goes_on_when i.ends x.e x.flags c.run.result (going a ∙ c.if-not-goes_on.false)))

pub returns-clause-counts : goal.returns-clause-counts
returns-clause-counts c = λ n before.
    let x = c.in-Some-Escalate in
    let esc : x.esc < length c.set_ese.new.self = search rules in
    subst (λ (ends : List EndRecord). All (HasCountsAtMost (n + 1)) ends) (sym c.run.ensures.ends)
    (passed_counted n c.set_ese.new.self x.esc esc (counted (goal.at.returns-clause-counts c).After-set_ese n before))
