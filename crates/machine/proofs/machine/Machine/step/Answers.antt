use Rattle.std.proofs.Common.{ℕ, ◌≡◌, ◌+◌, ◌-◌, List, ◌∷◌, refl, sym, ◌∙◌, ap, subst, arith}
use Rattle.xv_model.specs.declared.board.Board.{Board}
use Rattle.esb_pq.specs.Word.{SourceParts}
use Rattle.xv_model.specs.declared.entries.Entry.{Entry}
use Rattle.machine.specs.Answering.{forwarded_in}
use Rattle.machine.specs.Machine.{Held, AreLevels, AreOldPairs, AreParts, StandsFor, one_more}
use Rattle.machine.proofs.Refusals.{notices_kept}
use Rattle.machine.proofs.Stepping.{stands_after}
use Rattle.std.specs.Vec.{with_items}
use Rattle.std.proofs.lemmas.List.{with_items_is}
use Rattle.machine.proofs.machine.Machine.step.Goals as goal

pub invariant_of-self : goal.invariant_of-self
invariant_of-self c =
    let i = c.self.invariant in
    let board = c.enter-outcome.ensures.board in
    let same = sym (ap (λ (b : Board). b.limits.sources) board) in
    let few = c.notices_of.ensures.few in
    let left = c.saturating_sub-self-inside.ensures in (
      i.0 ∙ same,
      i.1 ∙ same,
      i.2 ∙ same,
      subst (λ (b : Board). AreLevels b c.self.inside.levels.items) (sym board) i.3,
      omega (arith, few, left),
      c.enter-outcome.ensures.counts c.self.inside.count i.5,
    )

pub returns-clause-stands : goal.returns-clause-stands
returns-clause-stands c = λ z h before.
    let st = subst (λ (m : Held). StandsFor m z h) (sym c.self.view_is) before in
    let inside = subst (λ (ws : List SourceParts). AreParts c.self.inside.fabric ws z h) (sym c.deref_mut.ensures.value) st.parts in
    let x : Entry = record { actor = c.args.actor; op = c.args.op.now; outcome = c.enter-outcome.result } in
    let words_whole : (with_items c.self.inside.words c.enter-outcome.new.words).items ≡ c.enter-outcome.new.words =
    with_items_is c.self.inside.words c.enter-outcome.new.words (c.enter-outcome.ensures.len ∙ c.deref_mut.ensures.len) in
    let pairs_whole : (with_items c.self.inside.old_pairs c.enter-outcome.new.old_pairs).items ≡ c.enter-outcome.new.old_pairs =
    with_items_is c.self.inside.old_pairs c.enter-outcome.new.old_pairs (c.enter-outcome.ensures.pairs ∙ c.deref_mut-2.ensures.len) in
    let parts = subst (λ (ws : List SourceParts). AreParts c.enter-outcome.new.fabric ws z (x ∷ h)) (sym words_whole) (c.enter-outcome.ensures.parts z h inside) in
    let pairs = subst (λ (ps : List ℕ). AreOldPairs ps z (x ∷ h)) (sym pairs_whole)
    (c.enter-outcome.ensures.old_pairs z h st.parts.fabric.tables.board (subst (λ (ps : List ℕ). AreOldPairs ps z h) (sym c.deref_mut-2.ensures.value) st.old_pairs)) in
    stands_after _ _ z h x st parts pairs refl (c.enter-outcome.ensures.notices z h inside)
    (c.saturating_sub-self-inside.ensures ∙ ap (λ n. c.self.inside.notices + n - c.consumed_by.result) c.notices_of.ensures.value
    ∙ ap (λ n. c.self.inside.notices + forwarded_in x.outcome - n) c.consumed_by.ensures)

pub returns-clause-refused : goal.returns-clause-refused
returns-clause-refused c = λ r.
    let same = c.enter-outcome.ensures.refused r in
    let words_whole : (with_items c.self.inside.words c.enter-outcome.new.words).items ≡ c.enter-outcome.new.words =
    with_items_is c.self.inside.words c.enter-outcome.new.words (c.enter-outcome.ensures.len ∙ c.deref_mut.ensures.len) in
    let pairs_whole : (with_items c.self.inside.old_pairs c.enter-outcome.new.old_pairs).items ≡ c.enter-outcome.new.old_pairs =
    with_items_is c.self.inside.old_pairs c.enter-outcome.new.old_pairs (c.enter-outcome.ensures.pairs ∙ c.deref_mut-2.ensures.len) in
    let notices = notices_kept c.args.op.now c.enter-outcome.result c.self.inside.notices _ c.notices_of.result c.consumed_by.result r c.notices_of.ensures.value c.consumed_by.ensures c.saturating_sub-self-inside.ensures in
    (λ i. record {
      fabric = same.0 i;
      words = (words_whole ∙ same.1 ∙ c.deref_mut.ensures.value) i;
      old_pairs = (pairs_whole ∙ same.2 ∙ c.deref_mut-2.ensures.value) i;
      count = c.self.inside.count + 1;
      notices = notices i;
    })
    ∙ ap one_more c.self.view_is
