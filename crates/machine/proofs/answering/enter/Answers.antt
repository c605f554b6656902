use Rattle.std.proofs.Common.{◌≡◌, ◌<◌, ◌+◌, true, List, ◌∷◌, Some, None, refl, sym, ◌∙◌, ap, subst, slice_index_or, slice_set}
use Rattle.std.proofs.lemmas.List.{set-get_or}
use Rattle.xv_model.specs.declared.board.Board.{Board}
use Rattle.xv_model.specs.declared.entries.Entry.{Entry}
use Rattle.xv_model.specs.account.Start.{Start}
use Rattle.xv_model.specs.account.Kinds.{access_of}
use Rattle.xv_model.specs.account.Legal.{legal}
use Rattle.xv_model.specs.board.Boards.{is_level}
use Rattle.xv_model.specs.board.Validity.{valid}
use Rattle.fabric_core.specs.Fabric.{IsCounted}
use Rattle.xv_model.specs.source.Notices.{all_outstanding}
use Rattle.machine.specs.Answering.{consumed_in, forwarded_in}
use Rattle.machine.specs.Machine.{AreParts}
use Rattle.machine.proofs.Stepping.{Steps, word_steps, fabric_steps, counted, entry_of, valid_source}
use Rattle.machine.proofs.OldPairs.{left, remembered}
use Rattle.machine.proofs.Refusals.{none_remembered, spent}
use Rattle.machine.proofs.answering.enter.Goals as goal

word : (c : goal.After-remember) (z : Start) (h : List Entry) → AreParts c.args.fabric.now c.args.words.now z h →
    Steps c.args.fabric.now c.args.words.now c.args.fabric.now (slice_set c.args.words.now c.in-Some.access.s c.touch-outcome.new.word) z h
    (record { actor = c.args.actor; op = c.args.op.now; outcome = c.touch-outcome.result })
word c z h st =
    let a = c.in-Some.access in
    let b : c.args.fabric.now.tables.board ≡ z.board = st.fabric.tables.board in
    let below : a.s < c.args.fabric.now.tables.board.limits.sources = subst (λ (b : Board). a.s < b.limits.sources) c.board.ensures.value c.in-Some.ensures.source in
    let inside = subst (λ (b : Board). a.s < b.limits.sources) b below in
    let on = sym (ap (λ (b : Board). access_of b c.args.op.now) (c.board.ensures.value ∙ b)) ∙ c.in-Some.ensures.value in
    let level = c.requires.levels a.s _ (subst (λ n. a.s < n) (sym c.requires.sources) below) ∙ ap (λ (b : Board). is_level b a.s) b in
    word_steps c.args.fabric.now c.args.words.now z h (record { actor = c.args.actor; op = c.args.op.now; outcome = c.touch-outcome.result }) a.s a.op _
    (slice_index_or c.args.words.now a.s c.index-words-s.result) c.touch-outcome.new.word
    c.index-words-s.result st on inside level refl c.touch-outcome.ensures.outcome c.touch-outcome.ensures.word

pub returns-in-Some-clause-parts : goal.returns-in-Some-clause-parts
returns-in-Some-clause-parts c = λ z h st. (word c z h st).parts

pub returns-in-Some-clause-notices : goal.returns-in-Some-clause-notices
returns-in-Some-clause-notices c = λ z h st. (word c z h st).notices

-- where it is refused, no more can be counted
on_its_word : (c : goal.After-remember) → access_of c.args.fabric.now.tables.board c.args.op.now ≡ Some (record { source = c.in-Some.access.s; op = c.in-Some.access.op })
on_its_word c = sym (ap (λ (b : Board). access_of b c.args.op.now) c.board.ensures.value) ∙ c.in-Some.ensures.value

pub returns-in-Some-clause-refused : goal.returns-in-Some-clause-refused
returns-in-Some-clause-refused c = λ r.
    let a = c.in-Some.access in
    let u = spent c.args.fabric.now.tables.board c.args.op.now a.s a.op _ (slice_index_or c.args.words.now a.s c.index-words-s.result) c.touch-outcome.result (on_its_word c) c.touch-outcome.ensures.outcome r in (
      refl,
      ap (slice_set c.args.words.now a.s) (c.touch-outcome.ensures.spent u) ∙ set-get_or c.args.words.now a.s c.index-words-s.result,
      ap (slice_set c.args.old_pairs.now a.s) (c.remember.ensures ∙ none_remembered a.op c.touch-outcome.result _ u) ∙ set-get_or c.args.old_pairs.now a.s _,
    )

pub returns-in-Some-clause-old_pairs : goal.returns-in-Some-clause-old_pairs
returns-in-Some-clause-old_pairs c = λ z h b st.
    let a = c.in-Some.access in
    let below : a.s < c.args.fabric.now.tables.board.limits.sources = subst (λ (b : Board). a.s < b.limits.sources) c.board.ensures.value c.in-Some.ensures.source in
    let inside = subst (λ (b : Board). a.s < b.limits.sources) b below in
    let on = subst (λ (b : Board). access_of b c.args.op.now ≡ Some (record { source = a.s; op = a.op })) b (on_its_word c) in
    remembered c.args.old_pairs.now z h (record { actor = c.args.actor; op = c.args.op.now; outcome = c.touch-outcome.result }) a.s a.op
    _ c.remember.new.old_pair _ st on inside refl c.remember.ensures

-- the forwards that are handed in are those of the source that is routed, or asked
is_counted : (c : goal.After-step) (z : Start) (h : List Entry) → AreParts c.args.fabric.now c.args.words.now z h → IsCounted c.args.op.now c.forwards.result z h
is_counted c z h st = λ s is.
    let here = subst (λ (b : Board). s < b.limits.sources) st.fabric.tables.board (valid_source c.args.fabric.now.tables.board c.args.op.now s is c.requires.op) in
    c.forwards.ensures ∙ counted c.args.fabric.now c.args.words.now z h c.args.op.now s st here is

beside : (c : goal.After-step) (z : Start) (h : List Entry) → AreParts c.args.fabric.now c.args.words.now z h →
    Steps c.args.fabric.now c.args.words.now c.step.new.self c.args.words.now z h c.step.result
beside c z h st =
    let b : c.args.fabric.now.tables.board ≡ z.board = st.fabric.tables.board in
    let none = sym (ap (λ (b : Board). access_of b c.args.op.now) (c.board.ensures.value ∙ b)) ∙ c.in-None.ensures.value in
    let here = subst (λ p. access_of z.board p ≡ None) (sym c.step.ensures.op) none in
    let v = subst (λ p. valid z.board p ≡ true) (sym c.step.ensures.op) (subst (λ (b : Board). valid b c.args.op.now ≡ true) b c.requires.op) in
    let counts = is_counted c z h st in
    fabric_steps c.args.fabric.now c.step.new.self c.args.words.now z h c.step.result st here v
    (c.step.ensures.outcome z h st.fabric counts ∙ ap (legal z h) (sym c.step.ensures.op)) (c.step.ensures.stands z h st.fabric counts)

pub returns-in-None-clause-outcome : goal.returns-in-None-clause-outcome
returns-in-None-clause-outcome c = λ z h st. c.step.ensures.outcome z h st.fabric (is_counted c z h st)

-- its entry by its parts
entered : (c : goal.After-step) → c.step.result ≡ record { actor = c.args.actor; op = c.args.op.now; outcome = c.step.result.outcome }
entered c = entry_of c.step.result c.args.actor c.args.op.now c.step.ensures.actor c.step.ensures.op

pub returns-in-None-clause-parts : goal.returns-in-None-clause-parts
returns-in-None-clause-parts c = λ z h st. subst (λ (x : Entry). AreParts c.step.new.self c.args.words.now z (x ∷ h)) (entered c) (beside c z h st).parts

pub returns-in-None-clause-notices : goal.returns-in-None-clause-notices
returns-in-None-clause-notices c = λ z h st.
    subst (λ (x : Entry). all_outstanding z (x ∷ h) + consumed_in c.step.result.outcome ≡ all_outstanding z h + forwarded_in c.step.result.outcome) (entered c) (beside c z h st).notices

pub returns-in-None-clause-old_pairs : goal.returns-in-None-clause-old_pairs
returns-in-None-clause-old_pairs c = λ z h b st.
    let none = sym (ap (λ (b : Board). access_of b c.args.op.now) (c.board.ensures.value ∙ b)) ∙ c.in-None.ensures.value in
    left c.args.old_pairs.now z h (record { actor = c.args.actor; op = c.args.op.now; outcome = c.step.result.outcome }) st none

pub returns-in-None-clause-refused : goal.returns-in-None-clause-refused
returns-in-None-clause-refused c = λ r. (c.step.ensures.refused r, refl, refl)
