-- A step of a machine that represents an account.
use Rattle.std.proofs.Common.{ℕ, ◌≡◌, ◌≢◌, ◌+◌, ◌-◌, ◌<◌, ◌≤◌, Bool, true, false, List, ◌∷◌, Some, None, refl, sym, ◌∙◌, ap, subst, arith, suc, slice_index_or, slice_set, add-one, ◌⊎◌, inl, inr}
use Rattle.std.specs.Option.{option_map_or}
use Rattle.std.proofs.lemmas.Bool.{ltb-true}
use Rattle.xv_model.specs.declared.operations.PqOp.{PqOp}
use Rattle.xv_model.specs.declared.operations.Op.{Op}
use Rattle.xv_model.specs.declared.operations.Op.TheVariants as op
use Rattle.xv_model.specs.declared.outcomes.Outcome.{Outcome}
use Rattle.xv_model.specs.declared.entries.Entry.{Entry}
use Rattle.xv_model.specs.declared.board.Board.{Board}
use Rattle.xv_model.specs.board.Boards.{is_level}
use Rattle.xv_model.specs.board.Validity.{valid}
use Rattle.xv_model.specs.account.Start.{Start}
use Rattle.xv_model.specs.account.Kinds.{Word, access_of, part_beside}
use Rattle.xv_model.specs.account.Legal.{answer_on, legal}
use Rattle.xv_model.specs.source.Pairs.{pq, asserted}
use Rattle.xv_model.specs.source.Notices.{forwards, route_in, routes, all_outstanding}
use Rattle.xv_model.specs.route.Routing.{route_outcome}
use Rattle.xv_model.proofs.HalvesLemmas.{pq-skips, asserted-skips, forwards-skips}
use Rattle.esb_pq.specs.Word.{SourceParts}
use Rattle.esb_pq.specs.Applied.{cell_at}
use Rattle.xv_model.proofs.Elements.{read}
use Rattle.fabric_core.specs.Fabric.{Held as FabricHeld, StandsFor as FabricStandsFor}
use Rattle.machine.specs.Answering.{forwarded_in, consumed_in, forwards_in, forwards_for}
use Rattle.machine.specs.Machine.{Held, AreOldPairs, AreParts, StandsFor, word_of}
use Rattle.machine.proofs.Words.{IsOn, answer_at, word_past, word_parts, word_legal}
use Rattle.machine.proofs.Notices.{routes_s, word_notices, word_consumes, on_no_word, unrouted, quiet_notices, routed_within, route_notices, route_forwards}
use Rattle.machine.proofs.Silent.{silent}

-- what an entry does to the parts, and to the notices that are outstanding
pub record Steps (f : FabricHeld) (words : List SourceParts) (f' : FabricHeld) (words' : List SourceParts) (z : Start) (h : List Entry) (x : Entry) : Type 0 where
  pub outcome : x.outcome ≡ legal z h x.op
  pub parts : AreParts f' words' z (x ∷ h)
  pub notices : all_outstanding z (x ∷ h) + consumed_in x.outcome ≡ all_outstanding z h + forwarded_in x.outcome

-- an operation on a source's word w, after which that is w'
pub word_steps : (f : FabricHeld) (words : List SourceParts) (z : Start) (h : List Entry) (x : Entry) (s : ℕ) (o : PqOp) (level : Bool) (w w' d : SourceParts) →
    AreParts f words z h → IsOn z.board x.op s o → s < z.board.limits.sources → level ≡ is_level z.board s → w ≡ slice_index_or words s d →
    x.outcome ≡ answer_at o level w → w' ≡ word_past o level w →
    Steps f words f (slice_set words s w') z h x
word_steps f words z h x s o level w w' d st on l is found answer now =
    let same : w ≡ word_of z h s = read words s z.board.limits.sources w d (word_of z h) st.words l found in
    let consumes : consumed_in x.outcome ≡ 0 = ap consumed_in answer ∙ word_consumes (cell_at w level o) w.pq w.count in
    let more = word_notices z h x s o on l st.forwarded in
    record {
      outcome = answer ∙ ap (answer_at o level) same ∙ word_legal z h x.op s o level on is;
      parts = word_parts f words z h x s o level w w' st on l same answer now;
      notices = omega (arith, consumes, more);
    }

-- the count that an operation asks for is that of its source's word
pub forwards_asked : (words : List SourceParts) (p : Op) (s : ℕ) → (p ≡ op.Route s) ⊎ (p ≡ op.Quiet s) → forwards_for words p ≡ forwards_in words s
forwards_asked words p s (inl e) = ap (forwards_for words) e
forwards_asked words p s (inr e) = ap (forwards_for words) e

-- how often the source forwarded whose notice an operation routes, or that it asks whether it is quiet, by the words
pub counted : (f : FabricHeld) (words : List SourceParts) (z : Start) (h : List Entry) (p : Op) (s : ℕ) → AreParts f words z h → s < z.board.limits.sources → (p ≡ op.Route s) ⊎ (p ≡ op.Quiet s) →
    forwards_for words p ≡ forwards z h s
counted f words z h p s st l is =
    forwards_asked words p s is
    ∙ ap (λ (w : SourceParts). w.count) (read words s z.board.limits.sources _ (record { pq = 0; asserted = false; count = 0 }) (word_of z h) st.words l refl)

-- the parts after an entry on no word, with the fabric after it
fabric_parts : (f f' : FabricHeld) (words : List SourceParts) (z : Start) (h : List Entry) (x : Entry) → AreParts f words z h →
    access_of z.board x.op ≡ None → FabricStandsFor f' z (x ∷ h) → ((q : ℕ) → routes z (x ∷ h) q ≤ forwards z h q) → AreParts f' words z (x ∷ h)
fabric_parts f f' words z h x st none after within = record {
  fabric = after;
  words = λ q l. st.words q l ∙ ap Some (sym (same q));
  forwarded = λ q. subst (λ n. routes z (x ∷ h) q ≤ n) (sym (forwards-skips z q x h (on_no_word z.board q x.op none))) (within q);
}
  where
    make : ℕ → Bool → ℕ → SourceParts
    make pair on count = record { pq = pair; asserted = on; count = count }

    same : (q : ℕ) → word_of z (x ∷ h) q ≡ word_of z h q
    same q =
        let word = on_no_word z.board q x.op none in
        ap (λ p. make p (asserted z (x ∷ h) q) (forwards z (x ∷ h) q)) (pq-skips z q x h word)
        ∙ ap (λ on. make (pq z h q) on (forwards z (x ∷ h) q)) (asserted-skips z q x h word)
        ∙ ap (λ n. make (pq z h q) (asserted z h q) n) (forwards-skips z q x h word)

-- a valid route names a source
pub valid_route : (b : Board) (p : Op) (s : ℕ) → p ≡ op.Route s → valid b p ≡ true → s < b.limits.sources
valid_route b p s e v = ltb-true s b.limits.sources (subst (λ p. valid b p ≡ true) e v)

-- so does one that asks whether it is quiet
pub valid_source : (b : Board) (p : Op) (s : ℕ) → (p ≡ op.Route s) ⊎ (p ≡ op.Quiet s) → valid b p ≡ true → s < b.limits.sources
valid_source b p s (inl e) v = valid_route b p s e v
valid_source b p s (inr e) v = ltb-true s b.limits.sources (subst (λ p. valid b p ≡ true) e v)

-- an operation is a route, or it isn't
route_or_not : (o : Op) → ((s : ℕ) × (o ≡ op.Route s)) ⊎ ((s : ℕ) → o ≢ op.Route s)
route_or_not (op.Route s) = inl (s, refl)
route_or_not _ = inr (λ s e. cc)

-- an operation that is no route routes nothing
no_route : (o : Op) (u : Outcome) → ((s : ℕ) → o ≢ op.Route s) → route_in o u ≡ None
no_route (op.Route s) u other = absurd (other s refl)
no_route _ u other = refl

-- what an operation on no word answers
beside : (z : Start) (h : List Entry) (o : Op) → access_of z.board o ≡ None → legal z h o ≡ answer_on z h o (part_beside o)
beside z h o none = ap (λ m. answer_on z h o (option_map_or Word m (part_beside o))) none

-- an operation on no word, by the fabric
pub fabric_steps : (f f' : FabricHeld) (words : List SourceParts) (z : Start) (h : List Entry) (x : Entry) → AreParts f words z h →
    access_of z.board x.op ≡ None → valid z.board x.op ≡ true → x.outcome ≡ legal z h x.op → FabricStandsFor f' z (x ∷ h) → Steps f words f' words z h x
fabric_steps f f' words z h x st none v answer stands = by (route_or_not x.op)
  where
    by : ((s : ℕ) × (x.op ≡ op.Route s)) ⊎ ((s : ℕ) → x.op ≢ op.Route s) → Steps f words f' words z h x
    by (inl (s, is)) =
        let answers : x.outcome ≡ route_outcome z h s = answer ∙ ap (legal z h) is in
        let as_route : routes_s x.actor s x.outcome ≡ x = ap (λ o. record { actor = x.actor; op = o; outcome = x.outcome }) (sym is) in
        let forwards_none : forwarded_in x.outcome ≡ 0 = ap forwarded_in answers ∙ route_forwards z h s in
        let less = subst (λ y. all_outstanding z (y ∷ h) + consumed_in x.outcome ≡ all_outstanding z h) as_route (route_notices z h s x.actor x.outcome answers (valid_route z.board x.op s is v)) in
        record {
          outcome = answer;
          parts = fabric_parts f f' words z h x st none stands (λ q. subst (λ y. routes z (y ∷ h) q ≤ forwards z h q) as_route (routed_within z h s x.actor x.outcome answers st.forwarded q));
          notices = omega (arith, forwards_none, less);
        }
    by (inr other) =
        let quiet = silent z h x.op other in
        let answers = answer ∙ beside z h x.op none in
        let forwards_none : forwarded_in x.outcome ≡ 0 = ap forwarded_in answers ∙ quiet.makes in
        let consumes : consumed_in x.outcome ≡ 0 = ap consumed_in answers ∙ quiet.consumes in
        let unrouted_here = no_route x.op x.outcome other in
        let same = quiet_notices z h x none unrouted_here in
        record {
          outcome = answer;
          parts = fabric_parts f f' words z h x st none stands (λ q. subst (λ n. n ≤ forwards z h q) (sym (unrouted z h x unrouted_here q)) (st.forwarded q));
          notices = omega (arith, same, consumes, forwards_none);
        }

-- an entry by its parts
pub entry_of : (x : Entry) (actor : ℕ) (o : Op) → x.actor ≡ actor → x.op ≡ o → x ≡ record { actor = actor; op = o; outcome = x.outcome }
entry_of x actor o a e = ap (λ v. record { actor = v; op = x.op; outcome = x.outcome }) a ∙ ap (λ p. record { actor = actor; op = p; outcome = x.outcome }) e

-- the machine after a step, whose parts represent the account with the entry
pub stands_after : (m m' : Held) (z : Start) (h : List Entry) (x : Entry) → StandsFor m z h → AreParts m'.fabric m'.words z (x ∷ h) → AreOldPairs m'.old_pairs z (x ∷ h) →
    m'.count ≡ m.count + 1 → all_outstanding z (x ∷ h) + consumed_in x.outcome ≡ all_outstanding z h + forwarded_in x.outcome →
    m'.notices ≡ m.notices + forwarded_in x.outcome - consumed_in x.outcome → StandsFor m' z (x ∷ h)
stands_after m m' z h x st parts pairs count_is left_is notices_are = record {
  parts = parts;
  old_pairs = pairs;
  index = count_is ∙ add-one m.count ∙ ap suc st.index;
  notices = let before = st.notices in omega (arith, before, left_is, notices_are);
}
