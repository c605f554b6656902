-- The lines of a migration end, and make valid operations.
use Rattle.std.proofs.Common.{ℕ, ◌-◌, IfSome, ◌≡◌, ◌+◌, ◌*◌, ◌<◌, ◌≤◌, ◌++◌, true, false, List, [], ◌∷◌, Option, Some, None, refl, sym, ◌∙◌, ap, subst, arith}
use Rattle.std.specs.Cmp.Derive.{both_true}
use Rattle.std.specs.Prelude.{option_and_then}
use Rattle.xv_model.specs.declared.board.Board.{Board}
use Rattle.xv_model.specs.declared.operations.PqOp.TheVariants.{Set}
use Rattle.xv_model.specs.declared.operations.Op.{Op}
use Rattle.xv_model.specs.declared.operations.Op.TheVariants as op
use Rattle.xv_model.specs.declared.outcomes.Outcome.{Outcome}
use Rattle.xv_model.specs.declared.outcomes.Outcome.TheVariants as out
use Rattle.xv_model.specs.declared.entries.Entry.{Entry}
use Rattle.xv_model.specs.account.Start.{Start}
use Rattle.xv_model.specs.account.Burden.{burden}
use Rattle.xv_model.specs.account.Fit.{IsFitStart}
use Rattle.xv_model.specs.account.Legal.{IsLegal, IsNext, legal}
use Rattle.xv_model.specs.account.Kinds.{is_word}
use Rattle.xv_model.specs.board.Validity.{valid}
use Rattle.xv_model.specs.call.Accepted.{is_success}
use Rattle.xv_model.specs.route.Flight.{flight}
use Rattle.xv_model.specs.source.Notices.{outstanding}
use Rattle.xv_model.specs.source.Pairs.{old_pair}
use Rattle.board_script.specs.declared.migrating.Migration.{Migration}
use Rattle.board_script.specs.declared.migrating.Migration.TheVariants.{Masks, Drains, Restores}
use Rattle.board_script.specs.declared.work.Work.{Work}
use Rattle.board_script.specs.declared.work.Work.TheVariants.{Simple, Migrate}
use Rattle.board_script.specs.Migrating.{sources_of, moved, migration_at, next_initialised, next_outstanding, masking, restoring, routing_or, draining_on, migrating, as_told, HasDrained, MovesOn, IsBehind, migrating_left}
use Rattle.board_script.specs.Steps.{resets, settling, settling_left, last_outcome}
use Rattle.board_script.specs.Work.{next_op, AreSteps, IsAt, IsLast, Falls, HasValidSteps, load}
use Rattle.board_script.proofs.Passing.{IsFirst, stays_at, passed_both, first_below, skips}
use Rattle.board_script.proofs.StepLines.{called_take, counted, little_left, route_answers, routed_falls, settling_take, settling_word, stays_zero, take_empties, take_rest, below_is}

-- ---- what a migration makes next

-- the pair of a source is set, which is initialised, or messages are taken
pub record Sets (z : Start) (h : List Entry) (from n q : ℕ) (o : Op) (s : ℕ) : Type 0 where
  pub is : o ≡ op.Pq s (Set q)
  pub first : IsFirst (resets z h) from n s

pub masked_is : (z : Start) (h : List Entry) (from n : ℕ) (first : Option ℕ) (o : Op) → next_initialised z h from n ≡ first → masking first ≡ o → (P : Op → Type 0) → ((s : ℕ) → Sets z h from n 1 (op.Pq s (Set 1)) s → P (op.Pq s (Set 1))) → P (op.Take 0) → P o
masked_is z h from n (Some s) o is e P set take = subst P e (set s (record { is = refl; first = first_below (resets z h) from n s is }))
masked_is z h from n None o is e P set take = subst P e take

pub restored_is : (z : Start) (h : List Entry) (from n : ℕ) (first : Option ℕ) (o : Op) → next_initialised z h from n ≡ first → restoring z h first ≡ Some o → (s : ℕ) × Sets z h from n (old_pair z h s) o s
restored_is z h from n (Some s) o is e = let here : op.Pq s (Set (old_pair z h s)) ≡ o = cc in (s, record { is = sym here; first = first_below (resets z h) from n s is })
restored_is z h from n None o is e = cc

-- what a migration makes once it has settled: a route of a notice that is outstanding, or the first pair that it sets again
pub data Settled (z : Start) (h : List Entry) (from n : ℕ) (o : Op) : Type 0 where
  Routes : (s : ℕ) (is : o ≡ op.Route s) (first : IsFirst (outstanding z h) from n s) → Settled z h from n o
  Restored : (s : ℕ) (sets : Sets z h 0 n (old_pair z h s) o s) → Settled z h from n o

settled_by : (z : Start) (h : List Entry) (from n : ℕ) (first : Option ℕ) (o : Op) → next_outstanding z h from n ≡ first → routing_or (restoring z h (next_initialised z h 0 n)) first ≡ Some o → Settled z h from n o
settled_by z h from n (Some s) o is e = let here : op.Route s ≡ o = cc in Routes s (sym here) (first_below (outstanding z h) from n s is)
settled_by z h from n None o is e = let r = restored_is z h 0 n (next_initialised z h 0 n) o refl e in Restored r.0 r.1

pub settled_is : (z : Start) (h : List Entry) (from n : ℕ) (o : Op) → draining_on z h from n ≡ Some o → Settled z h from n o
settled_is z h from n o e = settled_by z h from n (next_outstanding z h from n) o refl e

-- ---- where it is

-- it makes the same operation wherever it is while it drains
pub told_op : (m : Migration) (z : Start) (h : List Entry) (last : Option Outcome) → HasDrained m (outstanding z h) → migrating m z h last ≡ migrating (as_told m) z h last
told_op (Masks from n) z h last drained = refl
told_op (Drains from n) z h last drained =
    ap (λ first. option_and_then (settling (routing_or (restoring z h (next_initialised z h 0 n)) first)) last) (skips (outstanding z h) 0 from n drained)
told_op (Restores from n) z h last drained = refl

-- and has as much to do
told_left : (m : Migration) (u : Outcome) → migrating_left (as_told m) u ≡ migrating_left m u
told_left (Masks from n) u = refl
told_left (Drains from n) u = refl
told_left (Restores from n) u = refl

-- the operation that a migration makes after its last one
pub migrates_at : (now : Migration) (m : Option Op) (last : Option Outcome) (u : Outcome) (Knows : Start → List Entry → Type 0) → last ≡ Some u → ((z : Start) (h : List Entry) → Knows z h → m ≡ migrating now z h (Some u)) →
    (w : Work) (z : Start) (before part : List Entry) → IsAt (Migrate now) w z before part → Knows z (part ++ before) → IsLast part last → m ≡ next_op w z before part
migrates_at now m last u Knows is value w z before [] at known l = cc
migrates_at now m last u Knows is value (Simple w) z before (y ∷ part) at known l = absurd at.0
migrates_at now m last u Knows is value (Migrate w) z before (y ∷ part) at known l =
    let h = y ∷ (part ++ before) in
    let outcome : u ≡ y.outcome = cc in
    value z h known ∙ ap (λ v. migrating now z h (Some v)) outcome ∙ told_op now z h (Some y.outcome) at.0.1 ∙ ap (λ k. migrating k z h (Some y.outcome)) at.0.0

-- while a migration drains it makes operations on no word
drains_no_word : (z : Start) (h : List Entry) (from n s to m : ℕ) (u : Outcome) (o : Op) → settling (draining_on z h from n) u ≡ Some o → as_told (Drains to m) ≡ moved (Drains 0 n) o → is_word z.board s o ≡ false
drains_no_word z h from n s to m u o e told = settling_word s z.board (draining_on z h from n) o u (λ is. by (settled_is z h from n o is)) e
  where
    by : Settled z h from n o → is_word z.board s o ≡ false
    by (Routes t is first) = subst (λ p. is_word z.board s p ≡ false) (sym is) refl
    by (Restored t sets) = let other : Drains 0 m ≡ Restores (t + 1) n = told ∙ ap (moved (Drains 0 n)) sets.is in cc

-- what it has passed after one more operation
passes_more : (old new : Migration) (z : Start) (h : List Entry) (x : Entry) (u : Outcome) → migrating old z h (Some u) ≡ Some x.op → HasDrained old (outstanding z h) → MovesOn (outstanding z h) old x.op new → HasDrained new (outstanding z (x ∷ h))
passes_more old (Masks from n) z h x u e drained moves = tt
passes_more old (Restores from n) z h x u e drained moves = tt
passes_more (Drains from n) (Drains to m) z h x u e drained moves =
    let p = passed_both (outstanding z h) 0 from to drained moves.passes in
    record { later = p.later; none = λ s a b. stays_zero z h x s (drains_no_word z h from n s to m u x.op e moves.told) (p.none s a b) }
passes_more (Masks from n) (Drains to m) z h x u e drained moves = let none : to ≡ 0 = moves.passes in rw none (stays_at (outstanding z (x ∷ h)) 0)
passes_more (Restores from n) (Drains to m) z h x u e drained moves = let none : to ≡ 0 = moves.passes in rw none (stays_at (outstanding z (x ∷ h)) 0)

-- where it goes to with its next operation
abbrev pub Migrates : Migration → Migration → Op → (Start → List Entry → Type 0) → Type 0
Migrates old new o Knows = (z : Start) (h : List Entry) → Knows z h → MovesOn (outstanding z h) old o new

-- where it stands after its next entry
pub after_migrates : (old new : Migration) (m : Option Op) (last : Option Outcome) (u : Outcome) (Knows : Start → List Entry → Type 0) → last ≡ Some u → ((z : Start) (h : List Entry) → Knows z h → m ≡ migrating old z h (Some u)) →
    IfSome m (λ o. Migrates old new o Knows) →
    IfSome m (λ o. (w : Work) (z : Start) (before part : List Entry) (x : Entry) → IsAt (Migrate old) w z before part → Knows z (part ++ before) → IsLast part last → x.op ≡ o → IsAt (Migrate new) w z before (x ∷ part))
after_migrates old new None last u Knows is value moves = tt
after_migrates old new (Some o) last u Knows is value moves = λ w z before part x at known l e. by w z before part x at known l e (sym (migrates_at old (Some o) last u Knows is value w z before part at known l) ∙ ap (λ p. Some p) (sym e))
  where
    by : (w : Work) (z : Start) (before part : List Entry) (x : Entry) → IsAt (Migrate old) w z before part → Knows z (part ++ before) → IsLast part last → x.op ≡ o → next_op w z before part ≡ Some x.op → IsAt (Migrate new) w z before (x ∷ part)
    by w z before [] x at known l here e = cc
    by (Simple w) z before (y ∷ part) x at known l here e = absurd at.0
    by (Migrate w) z before (y ∷ part) x at known l here e =
        let h = y ∷ (part ++ before) in
        let moved_on = subst (λ p. MovesOn (outstanding z h) old p new) (sym here) (moves z h known) in
        let makes : migrating old z h (Some u) ≡ Some x.op = sym (value z h known) ∙ ap (λ p. Some p) (sym here) in
        ((moved_on.told ∙ ap (λ k. moved k x.op) at.0.0, passes_more old new z h x u makes at.0.1 moved_on), (at.1, e))

-- ---- how much it still has to do

-- after its first operation less than when it begins
masks_fall : (z : Start) (h : List Entry) (x : Entry) (from n more : ℕ) → masking (next_initialised z h from n) ≡ x.op → 10 * (n - from) + (20 + 10 * n) ≤ more →
    2 * burden z (x ∷ h) + migrating_left (moved (Masks from n) x.op) x.outcome < 2 * burden z h + more
masks_fall z h x from n more e enough = counted z h x (migrating_left (moved (Masks from n) x.op) x.outcome) more
    (masked_is z h from n (next_initialised z h from n) x.op refl e (λ o. migrating_left (moved (Masks from n) o) x.outcome + 8 < more)
    (λ s sets. let below = sets.first.below in let later = sets.first.passed.later in omega (arith, enough))
    (let little = little_left x.outcome in omega (arith, enough)))

restores_fall : (z : Start) (h : List Entry) (x : Entry) (from n : ℕ) → restoring z h (next_initialised z h from n) ≡ Some x.op →
    2 * burden z (x ∷ h) + migrating_left (moved (Restores from n) x.op) x.outcome < 2 * burden z h + 10 * (n - from)
restores_fall z h x from n e =
    let r = restored_is z h from n (next_initialised z h from n) x.op refl e in
    let now : migrating_left (moved (Restores from n) x.op) x.outcome ≡ 10 * (n - (r.0 + 1)) = ap (λ o. migrating_left (moved (Restores from n) o) x.outcome) r.1.is in
    counted z h x (migrating_left (moved (Restores from n) x.op) x.outcome) (10 * (n - from)) (let below = r.1.first.below in let later = r.1.first.passed.later in omega (arith, now))

-- a take while it drains
take_falls_on : (z : Start) (h : List Entry) (x : Entry) (from n : ℕ) → IsFitStart z → x.op ≡ op.Take 0 → IsLegal z (x ∷ h) →
    2 * burden z (x ∷ h) + migrating_left (moved (Drains from n) x.op) x.outcome < 2 * burden z h + (11 + 10 * n)
take_falls_on z h x from n fit e l =
    let now : migrating_left (moved (Drains from n) x.op) x.outcome ≡ settling_left x.outcome + 10 * n = ap (λ o. migrating_left (moved (Drains from n) o) x.outcome) e in
    omega (arith, now, take_rest z h x x.outcome refl fit e l)

-- what it does once it has settled
settled_falls : (z : Start) (h : List Entry) (x : Entry) (from n : ℕ) → flight z h ≡ [] → IsNext z h x → Settled z h from n x.op →
    2 * burden z (x ∷ h) + migrating_left (moved (Drains from n) x.op) x.outcome < 2 * burden z h + (10 + 10 * n)
settled_falls z h x from n empty is (Routes s e first) =
    let now : migrating_left (moved (Drains from n) x.op) x.outcome ≡ settling_left x.outcome + 10 * n = ap (λ o. migrating_left (moved (Drains from n) o) x.outcome) e in
    omega (arith, now, routed_falls z h x s first.some empty e is)
settled_falls z h x from n empty is (Restored s sets) =
    let now : migrating_left (moved (Drains from n) x.op) x.outcome ≡ 10 * (n - (s + 1)) = ap (λ o. migrating_left (moved (Drains from n) o) x.outcome) sets.is in
    counted z h x (migrating_left (moved (Drains from n) x.op) x.outcome) (10 + 10 * n) (omega (arith, now))

drains_fall : (z : Start) (h : List Entry) (x : Entry) (from n : ℕ) (u : Outcome) → IsFitStart z → (u ≡ out.NoMessage → flight z h ≡ []) → settling (draining_on z h from n) u ≡ Some x.op → IsLegal z (x ∷ h) →
    2 * burden z (x ∷ h) + migrating_left (moved (Drains from n) x.op) x.outcome < 2 * burden z h + (settling_left u + 10 * n)
drains_fall z h x from n out.NoMessage fit none e l = settled_falls z h x from n (none refl) l.1 (settled_is z h from n x.op e)
drains_fall z h x from n out.Quiet fit none e l = cc
drains_fall z h x from n (out.Busy notices messages) fit none e l = cc
drains_fall z h x from n (out.Reply reply) fit none e l = take_falls_on z h x from n fit (called_take (is_success reply.code) x.op e) l
drains_fall z h x from n (out.Code code) fit none e l = take_falls_on z h x from n fit (called_take (is_success code) x.op e) l
drains_fall z h x from n _ fit none e l = let here : x.op ≡ op.Take 0 = cc in take_falls_on z h x from n fit here l

-- while a migration drains
abbrev pub IsDraining : Migration → Type 0
IsDraining (Drains from n) = Unit {0}
IsDraining _ = ⊥

-- each later operation brings down what it has to do, where nothing is in flight after a take that found no message
migrates_fall : (m : Migration) (z : Start) (h : List Entry) (x : Entry) (u : Outcome) → IsFitStart z → (IsDraining m → u ≡ out.NoMessage → flight z h ≡ []) → migrating m z h (Some u) ≡ Some x.op → IsLegal z (x ∷ h) →
    2 * burden z (x ∷ h) + migrating_left (moved m x.op) x.outcome < 2 * burden z h + migrating_left m u
migrates_fall (Masks from n) z h x u fit none e l = let here : masking (next_initialised z h from n) ≡ x.op = cc in masks_fall z h x from n (10 * (n - from) + (20 + 10 * n)) here (omega arith)
migrates_fall (Drains from n) z h x u fit none e l = drains_fall z h x from n u fit (none tt) e l
migrates_fall (Restores from n) z h x u fit none e l = restores_fall z h x from n e

-- a set isn't answered as a take that found no message
set_answers : (z : Start) (h : List Entry) (s q : ℕ) (o : Op) → o ≡ op.Pq s (Set q) → legal z h o ≡ out.NoMessage → ⊥
set_answers z h s q o e none = let is : legal z h (op.Pq s (Set q)) ≡ out.NoMessage = sym (ap (legal z h) e) ∙ none in cc

settled_answers : (z : Start) (h : List Entry) (from n : ℕ) (o : Op) → Settled z h from n o → legal z h o ≡ out.NoMessage → ⊥
settled_answers z h from n o (Routes s is first) none = route_answers z h s (sym (ap (legal z h) is) ∙ none)
settled_answers z h from n o (Restored s sets) none = set_answers z h s (old_pair z h s) o sets.is none

-- where what a migration makes finds no message, it is a take of the oldest one
migrating_take : (m : Migration) (z : Start) (h : List Entry) (last : Option Outcome) (x : Entry) → migrating m z h last ≡ Some x.op → IsNext z h x → x.outcome ≡ out.NoMessage → x.op ≡ op.Take 0
migrating_take (Masks from n) z h last x e is none =
    let here : masking (next_initialised z h from n) ≡ x.op = cc in
    masked_is z h from n (next_initialised z h from n) x.op refl here (λ o. legal z h o ≡ out.NoMessage → o ≡ op.Take 0) (λ s sets none. absurd (set_answers z h s 1 (op.Pq s (Set 1)) refl none)) (λ none. refl) (sym is.outcome ∙ none)
migrating_take (Drains from n) z h None x e is none = cc
migrating_take (Drains from n) z h (Some u) x e is none = settling_take z h (draining_on z h from n) u x (λ m. settled_answers z h from n x.op (settled_is z h from n x.op m)) e is none
migrating_take (Restores from n) z h last x e is none =
    let r = restored_is z h from n (next_initialised z h from n) x.op refl e in
    absurd (set_answers z h r.0 (old_pair z h r.0) x.op r.1.is (sym is.outcome ∙ none))

-- nothing is in flight once it has settled
pub migration_rests : (m : Migration) (z : Start) (before part : List Entry) (x : Entry) → next_op (Migrate m) z before part ≡ Some x.op → IsLegal z (x ∷ (part ++ before)) → x.outcome ≡ out.NoMessage → flight z (x ∷ (part ++ before)) ≡ []
migration_rests m z before part x e l none =
    take_empties z (part ++ before) x (migrating_take (migration_at (sources_of m) part) z (part ++ before) (last_outcome part) x e l.1 none) l.1 none

-- the load of a migration after its entries
abbrev pub migration_load : Migration → Start → List Entry → List Entry → ℕ
migration_load m z before [] = load (Migrate m) None (burden z before)
migration_load m z before (x ∷ part) = load (Migrate (migration_at (sources_of m) (x ∷ part))) (Some x.outcome) (burden z (x ∷ (part ++ before)))

-- each legal entry brings it down
pub migration_falls : (m : Migration) (z : Start) (before part : List Entry) (x : Entry) → IsFitStart z → AreSteps (Migrate m) z before part → next_op (Migrate m) z before part ≡ Some x.op → IsLegal z (x ∷ (part ++ before)) →
    migration_load m z before (x ∷ part) < migration_load m z before part
migration_falls m z before [] x fit steps e l =
    let here : masking (next_initialised z before 0 (sources_of m)) ≡ x.op = cc in
    masks_fall z before x 0 (sources_of m) (30 + 20 * sources_of m) here (omega arith)
migration_falls m z before (y ∷ part) x fit steps e l =
    migrates_fall (migration_at (sources_of m) (y ∷ part)) z (y ∷ (part ++ before)) x y.outcome fit (λ draining none. migration_rests m z before part y steps.1 l.0 none) e l

-- its first operation brings its load down
pub migration_begin_falls : (old new : Migration) (o : Op) (z : Start) (before : List Entry) → o ≡ masking (next_initialised z before 0 (sources_of old)) → new ≡ moved (Masks 0 (sources_of old)) o → Falls (Migrate old) (Migrate new) None z before o
migration_begin_falls old new o z before value moves fit x e l =
    let n = sources_of old in
    let less = masks_fall z before x 0 n (30 + 20 * n) (sym (e ∙ value)) (omega arith) in
    let now : migrating_left new x.outcome ≡ migrating_left (moved (Masks 0 n) x.op) x.outcome = ap (λ k. migrating_left k x.outcome) (moves ∙ ap (moved (Masks 0 n)) (sym e)) in
    omega (arith, less, now)

-- and so does each later one
pub migrating_falls : (old new : Migration) (m : Option Op) (last : Option Outcome) (u : Outcome) (Knows : Start → List Entry → Type 0) → last ≡ Some u → ((z : Start) (h : List Entry) → Knows z h → m ≡ migrating old z h (Some u)) →
    IfSome m (λ o. Migrates old new o Knows) →
    IfSome m (λ o. (w : Work) (z : Start) (before part : List Entry) → IsAt (Migrate old) w z before part → Knows z (part ++ before) → IsLast part last → (b : Board) → HasValidSteps b (Migrate old) → Falls (Migrate old) (Migrate new) last z (part ++ before) o)
migrating_falls old new None last u Knows is value moves = tt
migrating_falls old new (Some o) last u Knows is value moves = λ w z before part at known l b v. by w z before part at known l (sym (migrates_at old (Some o) last u Knows is value w z before part at known l))
  where
    by : (w : Work) (z : Start) (before part : List Entry) → IsAt (Migrate old) w z before part → Knows z (part ++ before) → IsLast part last → next_op w z before part ≡ Some o → Falls (Migrate old) (Migrate new) last z (part ++ before) o
    by w z before [] at known l e = cc
    by (Simple w) z before (y ∷ part) at known l e = absurd at.0
    by (Migrate w) z before (y ∷ part) at known l e =
        let h = y ∷ (part ++ before) in
        subst (λ k. Falls (Migrate old) (Migrate new) k z h o) (sym l) (λ fit x here legal.
        let less = migration_falls w z before (y ∷ part) x fit at.1 (e ∙ ap (λ p. Some p) (sym here)) legal in
        let was : migrating_left old y.outcome ≡ migrating_left (migration_at (sources_of w) (y ∷ part)) y.outcome = sym (told_left old y.outcome) ∙ ap (λ k. migrating_left k y.outcome) at.0.0 in
        let now : migrating_left new x.outcome ≡ migrating_left (moved (migration_at (sources_of w) (y ∷ part)) x.op) x.outcome =
        sym (told_left new x.outcome) ∙ ap (λ k. migrating_left k x.outcome) ((moves z h known).told ∙ ap (λ k. moved k o) at.0.0 ∙ ap (moved (migration_at (sources_of w) (y ∷ part))) (sym here)) in
        omega (arith, less, was, now))

-- ---- its operations are valid

-- a set to a pair of a source of the board
set_valid : (b : Board) (s n q : ℕ) (o : Op) → s < n → n ≤ b.limits.sources → q < 4 → o ≡ op.Pq s (Set q) → valid b o ≡ true
set_valid b s n q o below few pair e = subst (λ p. valid b p ≡ true) (sym e) (both_true (below_is s b.limits.sources (omega arith)) (below_is q 4 pair))

settled_valid : (z : Start) (h : List Entry) (from n : ℕ) (o : Op) (b : Board) → n ≤ b.limits.sources → ((s : ℕ) → old_pair z h s < 4) → Settled z h from n o → valid b o ≡ true
settled_valid z h from n o b few pairs (Routes s is first) = subst (λ p. valid b p ≡ true) (sym is) (below_is s b.limits.sources (let l = first.below in omega arith))
settled_valid z h from n o b few pairs (Restored s sets) = set_valid b s n (old_pair z h s) o sets.first.below few (pairs s) sets.is

drains_valid : (m : Option Op) (u : Outcome) (o : Op) (b : Board) → (m ≡ Some o → valid b o ≡ true) → option_and_then (settling m) (Some u) ≡ Some o → valid b o ≡ true
drains_valid m out.NoMessage o b v e = v e
drains_valid m out.Quiet o b v e = cc
drains_valid m (out.Busy notices messages) o b v e = cc
drains_valid m (out.Reply reply) o b v e = subst (λ p. valid b p ≡ true) (sym (called_take (is_success reply.code) o e)) refl
drains_valid m (out.Code code) o b v e = subst (λ p. valid b p ≡ true) (sym (called_take (is_success code) o e)) refl
drains_valid m _ o b v e = let here : op.Take 0 ≡ o = cc in subst (λ p. valid b p ≡ true) here refl

migrating_valid : (m : Migration) (z : Start) (h : List Entry) (last : Option Outcome) (o : Op) (b : Board) → sources_of m ≤ b.limits.sources → ((s : ℕ) → old_pair z h s < 4) → migrating m z h last ≡ Some o → valid b o ≡ true
migrating_valid (Masks from n) z h last o b few pairs e =
    let here : masking (next_initialised z h from n) ≡ o = cc in
    masked_is z h from n (next_initialised z h from n) o refl here (λ p. valid b p ≡ true) (λ s sets. set_valid b s n 1 (op.Pq s (Set 1)) sets.first.below few (omega arith) refl) refl
migrating_valid (Drains from n) z h None o b few pairs e = cc
migrating_valid (Drains from n) z h (Some u) o b few pairs e = drains_valid (draining_on z h from n) u o b (λ m. settled_valid z h from n o b few pairs (settled_is z h from n o m)) e
migrating_valid (Restores from n) z h last o b few pairs e =
    let r = restored_is z h from n (next_initialised z h from n) o refl e in
    set_valid b r.0 n (old_pair z h r.0) o r.1.first.below few (pairs r.0) r.1.is

-- a migration has its sources wherever it is
moved_sources : (m : Migration) (o : Op) → sources_of (moved m o) ≡ sources_of m
moved_sources (Masks from n) (op.Pq s o) = refl
moved_sources (Masks from n) _ = refl
moved_sources (Drains from n) (op.Pq s o) = refl
moved_sources (Drains from n) _ = refl
moved_sources (Restores from n) (op.Pq s o) = refl
moved_sources (Restores from n) _ = refl

pub same_sources : (n : ℕ) (part : List Entry) → sources_of (migration_at n part) ≡ n
same_sources n [] = refl
same_sources n (x ∷ part) = moved_sources (migration_at n part) x.op ∙ same_sources n part

-- each operation of a migration is valid
pub migration_valid : (m : Migration) (z : Start) (before part : List Entry) (o : Op) (b : Board) → sources_of m ≤ b.limits.sources → ((s : ℕ) → old_pair z (part ++ before) s < 4) → next_op (Migrate m) z before part ≡ Some o → valid b o ≡ true
migration_valid m z before part o b few pairs e =
    let same = same_sources (sources_of m) part in
    migrating_valid (migration_at (sources_of m) part) z (part ++ before) (last_outcome part) o b (omega (arith, few, same)) pairs e

-- ---- how the functions move a migration

-- one that drains takes a message
pub takes_on : (notices : ℕ → ℕ) (from n : ℕ) (new : Migration) → new ≡ Drains from n → MovesOn notices (Drains from n) (op.Take 0) new
takes_on notices from n new e = subst (MovesOn notices (Drains from n) (op.Take 0)) (sym e) (record { told = refl; passes = stays_at notices from })
