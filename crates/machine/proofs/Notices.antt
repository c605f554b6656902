-- The notices that are outstanding after an entry.
use Rattle.std.proofs.Common.{ℕ, ◌≡◌, ◌≢◌, ◌==◌, ◌+◌, ◌-◌, ◌<◌, ◌≤◌, Bool, true, false, if◌then◌else◌, List, ◌∷◌, length, None, refl, sym, ◌∙◌, ap, subst, arith, inl, inr}
use Rattle.std.specs.Option.{option_map_or}
use Rattle.std.proofs.lemmas.Bool.{cases_eq}
use Rattle.std.proofs.lemmas.Bool.Decides.{nat_tests}
use Rattle.xv_model.specs.declared.board.Board.{Board}
use Rattle.xv_model.specs.declared.operations.PqOp.{PqOp}
use Rattle.xv_model.specs.declared.operations.Op.{Op}
use Rattle.xv_model.specs.declared.operations.Op.TheVariants as op
use Rattle.xv_model.specs.declared.outcomes.Outcome.{Outcome}
use Rattle.xv_model.specs.declared.outcomes.Outcome.TheVariants as out
use Rattle.xv_model.specs.declared.entries.Entry.{Entry}
use Rattle.xv_model.specs.account.Start.{Start}
use Rattle.xv_model.specs.account.Kinds.{access_of, is_at, is_word}
use Rattle.xv_base.specs.Limits.{most_forwards, most_messages}
use Rattle.xv_model.specs.account.Legal.{answer_by}
use Rattle.xv_model.specs.source.PqTable.{Cell}
use Rattle.xv_model.specs.source.Pairs.{change_in}
use Rattle.xv_model.specs.source.Notices.{forwards, route_in, routes, outstanding, all_outstanding}
use Rattle.xv_model.specs.source.Eas.{eas}
use Rattle.xv_model.specs.route.Flight.{flight}
use Rattle.xv_model.specs.route.Routing.{routed_by, route_outcome}
use Rattle.xv_model.proofs.HalvesLemmas.{forwards-skips}
use Rattle.xv_model.proofs.Sums.{sum_below-same, sum_below-more_at}
use Rattle.esb_pq.specs.Word.{SourceParts}
use Rattle.machine.specs.Answering.{forwarded_in, consumed_in}
use Rattle.machine.specs.Machine.{word_of}
use Rattle.machine.proofs.Words.{IsOn, touch_by_op, word_after, untouched, same_routes}

-- a route of s
abbrev pub routes_s : ℕ → ℕ → Outcome → Entry
routes_s actor s r = record { actor = actor; op = op.Route s; outcome = r }

-- an entry on s makes as many notices of s as its outcome says
forwards_by : (s : ℕ) (o : PqOp) (r : Outcome) (n : ℕ) →
    option_map_or (λ t. if t.forward == 0 then 0 else 1) (touch_by_op s s o (change_in r)) 0 + n ≡ n + forwarded_in r
forwards_by s o (out.Pq old new forward) n = grind (arith, nat_tests)
forwards_by s o _ n = omega arith

outstanding_is : (f r f' r' k : ℕ) → r ≤ f → r' ≡ r → f' ≡ f + k → f' - r' ≡ (f - r) + k
outstanding_is f r f' r' k a b c = omega (arith, a, b, c)

-- the notices after an entry on the word of s
pub word_notices : (z : Start) (h : List Entry) (x : Entry) (s : ℕ) (o : PqOp) → IsOn z.board x.op s o → s < z.board.limits.sources →
    ((q : ℕ) → routes z h q ≤ forwards z h q) → all_outstanding z (x ∷ h) ≡ all_outstanding z h + forwarded_in x.outcome
word_notices z h x s o on l within =
    sum_below-more_at (outstanding z h) (outstanding z (x ∷ h)) z.board.limits.sources s (forwarded_in x.outcome) l here (λ q _ other. there q other)
  where
    count_after : (q : ℕ) → (v : SourceParts) → word_of z (x ∷ h) q ≡ v → forwards z (x ∷ h) q ≡ v.count
    count_after q v e = ap (λ (w : SourceParts). w.count) e

    here : outstanding z (x ∷ h) s ≡ outstanding z h s + forwarded_in x.outcome
    here =
        outstanding_is (forwards z h s) (routes z h s) (forwards z (x ∷ h) s) (routes z (x ∷ h) s)
        (forwarded_in x.outcome) (within s) (same_routes z h x s s o on)
        (count_after s _ (word_after z h x s s o on) ∙ forwards_by s o x.outcome (forwards z h s))

    there : (q : ℕ) → q ≢ s → outstanding z (x ∷ h) q ≡ outstanding z h q
    there q other =
        let same : forwards z (x ∷ h) q ≡ forwards z h q = count_after q _ (untouched z h x s q o on other) in
        outstanding_is (forwards z h q) (routes z h q) (forwards z (x ∷ h) q) (routes z (x ∷ h) q)
        0 (within q) (same_routes z h x s q o on) (omega (arith, same)) ∙ omega arith

-- no answer on a source's word consumes a notice
pub word_consumes : (c : Cell) (q n : ℕ) → consumed_in (answer_by c q n) ≡ 0
word_consumes c q n = by c.forwards (n == most_forwards)
  where
    by : (f e : Bool) → consumed_in (if f then (if e then out.Spent else out.Pq q c.pair (n + 1)) else out.Pq q c.pair 0) ≡ 0
    by true true = refl
    by true false = refl
    by false e = refl

-- an operation that is no access is on no word
pub on_no_word : (b : Board) (q : ℕ) (o : Op) → access_of b o ≡ None → is_word b q o ≡ false
on_no_word b q o e = ap (is_at q) e

-- the routes after an entry that routes nothing
pub unrouted : (z : Start) (h : List Entry) (x : Entry) → route_in x.op x.outcome ≡ None →
    (q : ℕ) → routes z (x ∷ h) q ≡ routes z h q
unrouted z h x none q = rw none (omega arith)

-- the notices after an entry on no word that routes nothing
pub quiet_notices : (z : Start) (h : List Entry) (x : Entry) → access_of z.board x.op ≡ None → route_in x.op x.outcome ≡ None →
    all_outstanding z (x ∷ h) ≡ all_outstanding z h
quiet_notices z h x none unrouted_here = sum_below-same (outstanding z h) (outstanding z (x ∷ h)) z.board.limits.sources (λ q l.
    let f = forwards-skips z q x h (on_no_word z.board q x.op none) in
    let r = unrouted z h x unrouted_here q in omega (arith, f, r))

-- what a route of s answers, by what its tests say
route_by : Start → List Entry → ℕ → Bool → Bool → Outcome
route_by z h s none full =
    if none then out.NoNotice else (if full then out.BusFull else out.Routed (routes z h s + 1) (routed_by z h (eas z h s)))

-- how many notices of q an entry on the fabric routed
abbrev routed_of : ℕ → ℕ → Outcome → ℕ
routed_of q s r = option_map_or (λ r. if r == q then 1 else 0) (route_in (op.Route s) r) 0

-- how many notices of s a route of it consumes, by what its tests say
routed_one : (z : Start) (h : List Entry) (s q : ℕ) (none full : Bool) → (outstanding z h s == 0) ≡ none →
    let o = route_by z h s none full in
    ((q ≡ s) → (routed_of q s o ≡ consumed_in o)) × ((q ≢ s) → (routed_of q s o ≡ 0)) × (consumed_in o ≤ outstanding z h s)
unfolding route_by
routed_one z h s q true full e = (λ same. refl, λ other. refl, omega arith)
routed_one z h s q false true e = (λ same. refl, λ other. refl, omega arith)
routed_one z h s q false false e = (λ same. grind (arith, nat_tests), λ other. grind (arith, nat_tests), grind (arith, nat_tests))

-- the same of what it answers
routed_at : (z : Start) (h : List Entry) (s q : ℕ) →
    let o = route_outcome z h s in
    ((q ≡ s) → (routed_of q s o ≡ consumed_in o)) × ((q ≢ s) → (routed_of q s o ≡ 0)) × (consumed_in o ≤ outstanding z h s)
unfolding route_by
routed_at z h s q = routed_one z h s q (outstanding z h s == 0) (length (flight z h) == most_messages) refl

-- the routes of a source after a route stay within its forwards
pub routed_within : (z : Start) (h : List Entry) (s actor : ℕ) (o : Outcome) → o ≡ route_outcome z h s →
    ((q : ℕ) → routes z h q ≤ forwards z h q) → (q : ℕ) → routes z (routes_s actor s o ∷ h) q ≤ forwards z h q
routed_within z h s actor o e within q =
    subst (λ o. routes z (routes_s actor s o ∷ h) q ≤ forwards z h q) (sym e) (elim (cases_eq q s) [
      | inl same ↦
          let r = routed_at z h s q in
          let k = r.0 same in
          let l = subst (λ i. consumed_in (route_outcome z h s) ≤ outstanding z h i) (sym same) r.2 in
          let w = within q in omega (arith, k, l, w)
      | inr other ↦ let k = (routed_at z h s q).1 other in let w = within q in omega (arith, k, w)
    ])

-- a route forwards nothing
route_keeps_forwards : (z : Start) (h : List Entry) (s actor q : ℕ) (o : Outcome) → forwards z (routes_s actor s o ∷ h) q ≡ forwards z h q
route_keeps_forwards z h s actor q o = omega arith

-- the notices of s that are outstanding after a route of it
left_here : (z : Start) (h : List Entry) (s actor : ℕ) →
    let o = route_outcome z h s in outstanding z h s ≡ outstanding z (routes_s actor s o ∷ h) s + consumed_in o
left_here z h s actor =
    let r = routed_at z h s s in
    let k = r.0 refl in
    let l = r.2 in
    let f = route_keeps_forwards z h s actor s (route_outcome z h s) in omega (arith, k, l, f)

-- the notices of another source
left_there : (z : Start) (h : List Entry) (s actor q : ℕ) → q ≢ s →
    outstanding z h q ≡ outstanding z (routes_s actor s (route_outcome z h s) ∷ h) q
left_there z h s actor q other =
    let k = (routed_at z h s q).1 other in
    let f = route_keeps_forwards z h s actor q (route_outcome z h s) in omega (arith, k, f)

-- the notices that are outstanding after a route
pub route_notices : (z : Start) (h : List Entry) (s actor : ℕ) (o : Outcome) → o ≡ route_outcome z h s → s < z.board.limits.sources →
    all_outstanding z (routes_s actor s o ∷ h) + consumed_in o ≡ all_outstanding z h
route_notices z h s actor o e l = subst (λ o. all_outstanding z (routes_s actor s o ∷ h) + consumed_in o ≡ all_outstanding z h) (sym e)
    (sym (sum_below-more_at (outstanding z (routes_s actor s (route_outcome z h s) ∷ h)) (outstanding z h) z.board.limits.sources s
    (consumed_in (route_outcome z h s)) l (left_here z h s actor) (λ q lq other. left_there z h s actor q other)))

-- no route forwards
pub route_forwards : (z : Start) (h : List Entry) (s : ℕ) → forwarded_in (route_outcome z h s) ≡ 0
route_forwards z h s = by (outstanding z h s == 0) (length (flight z h) == most_messages)
  where
    by : (none full : Bool) →
        forwarded_in (if none then out.NoNotice else (if full then out.BusFull else out.Routed (routes z h s + 1) (routed_by z h (eas z h s)))) ≡ 0
    by true full = refl
    by false true = refl
    by false false = refl
