-- What a migration leaves, half way and once it has ended.
use Rattle.std.proofs.Common.{ℕ, ◌≡◌, ◌==◌, ◌+◌, ◌-◌, ◌<◌, ◌≤◌, ◌++◌, Bool, true, false, if◌then◌else◌, List, [], ◌∷◌, Option, Some, None, refl, sym, ◌∙◌, ap, subst, inl, inr, arith}
use Rattle.std.proofs.lemmas.Bool.{cases_lt, eqb-true}
use Rattle.std.proofs.lemmas.Bool.Decides.{nat_tests}
use Rattle.std.specs.Option.{option_map_or}
use Rattle.xv_model.specs.declared.operations.PqOp.TheVariants.{Set}
use Rattle.xv_model.specs.declared.operations.Op.{Op}
use Rattle.xv_model.specs.declared.operations.Op.TheVariants as op
use Rattle.xv_model.specs.declared.outcomes.Outcome.{Outcome}
use Rattle.xv_model.specs.declared.outcomes.Outcome.TheVariants as out
use Rattle.xv_model.specs.declared.entries.Entry.{Entry}
use Rattle.xv_model.specs.account.Start.{Start}
use Rattle.xv_model.specs.account.Legal.{IsLegal, IsNext, legal}
use Rattle.xv_model.specs.source.Eas.{eas, initialised}
use Rattle.xv_model.specs.source.Notices.{outstanding, all_outstanding}
use Rattle.xv_model.specs.source.Pairs.{Touch, pq, old_in, old_pair}
use Rattle.xv_model.specs.route.Flight.{flight}
use Rattle.board_script.specs.declared.migrating.Migration.{Migration}
use Rattle.board_script.specs.declared.migrating.Migration.TheVariants.{Masks, Drains, Restores}
use Rattle.board_script.specs.Migrating.{sources_of, moved, migration_at, next_initialised, next_outstanding, masking, restoring, routing_or, draining_on, migrating}
use Rattle.board_script.specs.Migrations.{HasHalves, MigrationsRest, MigrationsKeep}
use Rattle.board_script.specs.Resting.{HasEnded, IsKept}
use Rattle.board_script.specs.Steps.{resets, settling, last_outcome, HasPassed}
use Rattle.board_script.specs.Work.{migrate, next_op, AreSteps}
use Rattle.board_script.proofs.Migrations.{IsDraining, Sets, Settled, Routes, Restored, masked_is, migration_rests, restored_is, same_sources, settled_is}
use Rattle.board_script.proofs.Passing.{first_below, none_is, sum_passed}
use Rattle.board_script.proofs.Resets.{entry_is, both_ways, found_initialised, passed_uninitialised}
use Rattle.board_script.proofs.Resting.{GoesOn, settled, settling_is, take_legal, route_goes_on}
use Rattle.board_script.proofs.WorkLines.{are_steps}

-- ---- what an entry of a migration leaves of a source

-- a source after one is set to a pair
record IsSet (z : Start) (h : List Entry) (x : Entry) (t q s : ℕ) : Type 0 where
  same_eas : eas z (x ∷ h) s ≡ eas z h s
  new_pair : pq z (x ∷ h) s ≡ (if t == s then q else pq z h s)
  old_pair_is : old_pair z (x ∷ h) s ≡ (if t == s then pq z h t else old_pair z h s)

set_leaves : (z : Start) (h : List Entry) (x : Entry) (t q s : ℕ) → x.op ≡ op.Pq t (Set q) → IsNext z h x → IsSet z h x t q s
set_leaves z h x t q s e n = subst (λ y. IsSet z h y t q s) (sym (entry_is z h x (op.Pq t (Set q)) e n)) (record {
  same_eas = refl;
  new_pair = new_by touch (t == s);
  old_pair_is = old_by (t == s);
})
  where
    touch : Touch
    touch = record { source = t; op = Set q; old = pq z h t; new = q; forward = 0 }

    new_by : (touch : Touch) (same : Bool) → option_map_or (λ (k : Touch). k.new) (if same then Some touch else None) (pq z h s) ≡ (if same then touch.new else pq z h s)
    new_by touch true = refl
    new_by touch false = refl

    old_by : (same : Bool) → option_map_or (λ (k : Touch). old_in k.op k.old (old_pair z h s)) (if same then Some touch else None) (old_pair z h s) ≡ (if same then pq z h t else old_pair z h s)
    old_by true = refl
    old_by false = refl

-- a source after an entry that is none of the source's
record IsLeft (z : Start) (h : List Entry) (x : Entry) (s : ℕ) : Type 0 where
  same_eas : eas z (x ∷ h) s ≡ eas z h s
  same_pair : pq z (x ∷ h) s ≡ pq z h s
  same_old : old_pair z (x ∷ h) s ≡ old_pair z h s

take_leaves : (z : Start) (h : List Entry) (x : Entry) (s : ℕ) → x.op ≡ op.Take 0 → IsLeft z h x s
take_leaves z h x s e = subst (λ y. IsLeft z h y s) (sym (ap (λ o. record { actor = x.actor; op = o; outcome = x.outcome }) e)) (record { same_eas = refl; same_pair = refl; same_old = refl })

route_leaves : (z : Start) (h : List Entry) (x : Entry) (t s : ℕ) → x.op ≡ op.Route t → IsLeft z h x s
route_leaves z h x t s e = subst (λ y. IsLeft z h y s) (sym (ap (λ o. record { actor = x.actor; op = o; outcome = x.outcome }) e)) (record { same_eas = refl; same_pair = refl; same_old = refl })

other_left : (z : Start) (h : List Entry) (x : Entry) (t q s : ℕ) → IsSet z h x t q s → (t == s) ≡ false → IsLeft z h x s
other_left z h x t q s r other = record { same_eas = r.same_eas; same_pair = r.new_pair ∙ rw other refl; same_old = r.old_pair_is ∙ rw other refl }

-- ---- a source in a migration

-- it is masked where the migration is
abbrev MasksAt : Migration → ℕ → Type 0
MasksAt (Masks from n) s = s < from
MasksAt (Drains from n) s = Unit {0}
MasksAt (Restores from n) s = from ≤ s

-- it has its pair where the migration is
abbrev KeepsAt : Migration → ℕ → Type 0
KeepsAt (Masks from n) s = from ≤ s
KeepsAt (Drains from n) s = ⊥
KeepsAt (Restores from n) s = s < from

-- a source that is masked: its pair is 01, and the one before that is known
record IsMasked (z : Start) (before h : List Entry) (s : ℕ) : Type 0 where
  off : pq z h s ≡ 1
  old : old_pair z h s ≡ pq z before s

-- a source after the entries of a migration
record HasMigrated (z : Start) (before : List Entry) (m : Migration) (h : List Entry) (s : ℕ) : Type 0 where
  same_eas : eas z h s ≡ eas z before s
  masked : MasksAt m s → initialised z before s ≡ true → IsMasked z before h s
  kept : KeepsAt m s → pq z h s ≡ pq z before s
  others : initialised z before s ≡ false → pq z h s ≡ pq z before s

-- it is initialised as it was
same_initialised : (z : Start) (before h : List Entry) (m : Migration) (s : ℕ) → HasMigrated z before m h s → initialised z h s ≡ initialised z before s
same_initialised z before h m s r = ap (λ e. e.valid) r.same_eas

-- it isn't where it was passed
passed_off : (z : Start) (before h : List Entry) (m : Migration) (from to s : ℕ) → HasMigrated z before m h s → HasPassed (resets z h) from to → from ≤ s → s < to → initialised z before s ≡ false
passed_off z before h m from to s r p a b = sym (same_initialised z before h m s r) ∙ passed_uninitialised (initialised z h s) (p.none s a b)

-- a source that was found is
found_on : (z : Start) (before h : List Entry) (m : Migration) (from n q t s : ℕ) (o : Op) → HasMigrated z before m h s → Sets z h from n q o t → (t == s) ≡ true → initialised z before s ≡ true
found_on z before h m from n q t s o r sets at =
    sym (same_initialised z before h m s r) ∙ subst (λ k. initialised z h k ≡ true) (eqb-true t s at) (found_initialised (initialised z h t) sets.first.some)

masked_left : (z : Start) (before h : List Entry) (x : Entry) (s : ℕ) → IsLeft z h x s → IsMasked z before h s → IsMasked z before (x ∷ h) s
masked_left z before h x s l r = record { off = l.same_pair ∙ r.off; old = l.same_old ∙ r.old }

is_other : (t s : ℕ) → (t == s) ≡ false → s < t + 1 → s < t
is_other t s other l = grind (arith, nat_tests)

-- after one more source is masked
mask_step : (z : Start) (before h : List Entry) (x : Entry) (from n t s : ℕ) → HasMigrated z before (Masks from n) h s → Sets z h from n 1 x.op t → IsNext z h x → HasMigrated z before (Masks (t + 1) n) (x ∷ h) s
mask_step z before h x from n t s r sets next = by (t == s) refl
  where
    is : IsSet z h x t 1 s
    is = set_leaves z h x t 1 s sets.is next

    by : (at : Bool) → (t == s) ≡ at → HasMigrated z before (Masks (t + 1) n) (x ∷ h) s
    by true at =
        let here = eqb-true t s at in
        let later = sets.first.passed.later in
        record {
          same_eas = is.same_eas ∙ r.same_eas;
          masked = λ l on. record { off = is.new_pair ∙ rw at refl; old = is.old_pair_is ∙ rw at (ap (pq z h) here ∙ r.kept (omega (arith, here, later))) };
          kept = λ l. absurd (omega (arith, here, l));
          others = λ off. absurd (both_ways (initialised z before s) (found_on z before h (Masks from n) from n 1 t s x.op r sets at) off);
        }
    by false at =
        let left = other_left z h x t 1 s is at in
        record {
          same_eas = is.same_eas ∙ r.same_eas;
          masked = λ l on. masked_left z before h x s left (elim (cases_lt s from) [
            | inl below ↦ r.masked below on
            | inr above ↦ absurd (both_ways (initialised z before s) on (passed_off z before h (Masks from n) from t s r sets.first.passed above (is_other t s at l)))
          ]);
          kept = λ l. left.same_pair ∙ r.kept (let later = sets.first.passed.later in omega (arith, l, later));
          others = λ off. left.same_pair ∙ r.others off;
        }

-- after one more source has its pair again
restore_step : (z : Start) (before h : List Entry) (x : Entry) (m : Migration) (from n t s : ℕ) → (from ≤ s → MasksAt m s) → (s < from → KeepsAt m s) → HasMigrated z before m h s → Sets z h from n (old_pair z h t) x.op t → IsNext z h x →
    HasMigrated z before (Restores (t + 1) n) (x ∷ h) s
restore_step z before h x m from n t s masks keeps r sets next = by (t == s) refl
  where
    is : IsSet z h x t (old_pair z h t) s
    is = set_leaves z h x t (old_pair z h t) s sets.is next

    by : (at : Bool) → (t == s) ≡ at → HasMigrated z before (Restores (t + 1) n) (x ∷ h) s
    by true at =
        let here = eqb-true t s at in
        let later = sets.first.passed.later in
        let on = found_on z before h m from n (old_pair z h t) t s x.op r sets at in
        record {
          same_eas = is.same_eas ∙ r.same_eas;
          masked = λ l on. absurd (omega (arith, here, l));
          kept = λ l. is.new_pair ∙ rw at (ap (old_pair z h) here ∙ (r.masked (masks (omega (arith, here, later))) on).old);
          others = λ off. absurd (both_ways (initialised z before s) on off);
        }
    by false at =
        let left = other_left z h x t (old_pair z h t) s is at in
        let later = sets.first.passed.later in
        record {
          same_eas = is.same_eas ∙ r.same_eas;
          masked = λ l on. masked_left z before h x s left (r.masked (masks (omega (arith, l, later))) on);
          kept = λ l. left.same_pair ∙ (elim (cases_lt s from) [
            | inl below ↦ r.kept (keeps below)
            | inr above ↦ r.others (passed_off z before h m from t s r sets.first.passed above (is_other t s at l))
          ]);
          others = λ off. left.same_pair ∙ r.others off;
        }

-- after an entry of the drain
drain_step : (z : Start) (before h : List Entry) (x : Entry) (from n s : ℕ) → HasMigrated z before (Drains from n) h s → IsLeft z h x s → HasMigrated z before (Drains from n) (x ∷ h) s
drain_step z before h x from n s r left = record {
  same_eas = left.same_eas ∙ r.same_eas;
  masked = λ u on. masked_left z before h x s left (r.masked tt on);
  kept = λ none. absurd none;
  others = λ off. left.same_pair ∙ r.others off;
}

-- after the first take, behind the last mask
begin_step : (z : Start) (before h : List Entry) (x : Entry) (from n s : ℕ) → s < n → HasPassed (resets z h) from (from + (n - from)) → HasMigrated z before (Masks from n) h s → IsLeft z h x s → HasMigrated z before (Drains 0 n) (x ∷ h) s
begin_step z before h x from n s below p r left = record {
  same_eas = left.same_eas ∙ r.same_eas;
  masked = λ u on. masked_left z before h x s left (elim (cases_lt s from) [
    | inl under ↦ r.masked under on
    | inr above ↦ absurd (both_ways (initialised z before s) on (passed_off z before h (Masks from n) from (from + (n - from)) s r p above (omega (arith, below, above))))
  ]);
  kept = λ none. absurd none;
  others = λ off. left.same_pair ∙ r.others off;
}

-- ---- after each entry

mask_by : (z : Start) (before h : List Entry) (x : Entry) (from n s : ℕ) (first : Option ℕ) → s < n → HasMigrated z before (Masks from n) h s → next_initialised z h from n ≡ first → masking first ≡ x.op → IsNext z h x → HasMigrated z before (moved (Masks from n) x.op) (x ∷ h) s
mask_by z before h x from n s (Some t) below r is e next =
    let sets : Sets z h from n 1 x.op t = record { is = sym e; first = first_below (resets z h) from n t is } in
    subst (λ o. HasMigrated z before (moved (Masks from n) o) (x ∷ h) s) e (mask_step z before h x from n t s r sets next)
mask_by z before h x from n s None below r is e next =
    subst (λ o. HasMigrated z before (moved (Masks from n) o) (x ∷ h) s) e (begin_step z before h x from n s below (none_is (resets z h) from (n - from) is) r (take_leaves z h x s (sym e)))

settled_step : (z : Start) (before h : List Entry) (x : Entry) (from n s : ℕ) → HasMigrated z before (Drains from n) h s → IsNext z h x → Settled z h from n x.op → HasMigrated z before (moved (Drains from n) x.op) (x ∷ h) s
settled_step z before h x from n s r next (Routes t is first) =
    subst (λ o. HasMigrated z before (moved (Drains from n) o) (x ∷ h) s) (sym is) (drain_step z before h x from n s r (route_leaves z h x t s is))
settled_step z before h x from n s r next (Restored t sets) =
    subst (λ o. HasMigrated z before (moved (Drains from n) o) (x ∷ h) s) (sym sets.is) (restore_step z before h x (Drains from n) 0 n t s (λ l. tt) (λ l. absurd (omega (arith, l))) r sets next)

drain_by : (z : Start) (before h : List Entry) (x : Entry) (from n s : ℕ) (last : Option Outcome) → HasMigrated z before (Drains from n) h s → migrating (Drains from n) z h last ≡ Some x.op → IsNext z h x → HasMigrated z before (moved (Drains from n) x.op) (x ∷ h) s
drain_by z before h x from n s None r e next = cc
drain_by z before h x from n s (Some u) r e next =
    settling_is (λ o. x.op ≡ o → HasMigrated z before (moved (Drains from n) o) (x ∷ h) s) (draining_on z h from n) u x.op
    (λ is. drain_step z before h x from n s r (take_leaves z h x s is))
    (λ none is e. settled_step z before h x from n s r next (settled_is z h from n x.op is)) e refl

step : (m : Migration) (z : Start) (before h : List Entry) (x : Entry) (s : ℕ) (last : Option Outcome) → s < sources_of m → HasMigrated z before m h s → migrating m z h last ≡ Some x.op → IsNext z h x → HasMigrated z before (moved m x.op) (x ∷ h) s
step (Masks from n) z before h x s last below r e next = let here : masking (next_initialised z h from n) ≡ x.op = cc in mask_by z before h x from n s (next_initialised z h from n) below r refl here next
step (Drains from n) z before h x s last below r e next = drain_by z before h x from n s last r e next
step (Restores from n) z before h x s last below r e next =
    let found = restored_is z h from n (next_initialised z h from n) x.op refl e in
    subst (λ o. HasMigrated z before (moved (Restores from n) o) (x ∷ h) s) (sym found.1.is) (restore_step z before h x (Restores from n) from n found.0 s (λ l. l) (λ l. l) r found.1 next)

no_less : (s : ℕ) → s < 0 → ⊥
no_less s l = omega (arith, l)

migrated_at : (z : Start) (n : ℕ) (before part : List Entry) (s : ℕ) → s < n → AreSteps (migrate n) z before part → IsLegal z (part ++ before) → HasMigrated z before (migration_at n part) (part ++ before) s
migrated_at z n before [] s below steps l = record { same_eas = refl; masked = λ l on. absurd (no_less s l); kept = λ l. refl; others = λ off. refl }
migrated_at z n before (x ∷ part) s below steps l =
    let same = same_sources n part in
    step (migration_at n part) z before (part ++ before) x s (last_outcome part) (omega (arith, below, same)) (migrated_at z n before part s below steps.0 l.0) steps.1 l.1

-- ---- once it has ended

-- its drain goes on after each of its entries
drain_goes_on : (m : Migration) (z : Start) (h : List Entry) (o : Op) (last : Option Outcome) → migrating m z h last ≡ Some o → IsDraining (moved m o) → GoesOn (legal z h o)
drain_goes_on (Masks from n) z h o last e is =
    let here : masking (next_initialised z h from n) ≡ o = cc in
    masked_is z h from n (next_initialised z h from n) o refl here (λ p. IsDraining (moved (Masks from n) p) → GoesOn (legal z h p)) (λ s sets is. absurd is) (λ is. take_legal z h) is
drain_goes_on (Drains from n) z h o None e is = cc
drain_goes_on (Drains from n) z h o (Some u) e is =
    settling_is (λ p. IsDraining (moved (Drains from n) p) → GoesOn (legal z h p)) (draining_on z h from n) u o (λ is. take_legal z h) (λ none m. by (settled_is z h from n o m)) e is
  where
    by : Settled z h from n o → IsDraining (moved (Drains from n) o) → GoesOn (legal z h o)
    by (Routes s r first) is = subst (λ p. GoesOn (legal z h p)) (sym r) (route_goes_on z h s)
    by (Restored s sets) is = absurd (subst (λ p. IsDraining (moved (Drains from n) p)) sets.is is)
drain_goes_on (Restores from n) z h o last e is =
    let found = restored_is z h from n (next_initialised z h from n) o refl e in
    absurd (subst (λ p. IsDraining (moved (Restores from n) p)) found.1.is is)

-- no source is left
none_restored : (z : Start) (h : List Entry) (first : Option ℕ) → restoring z h first ≡ None → first ≡ None
none_restored z h None e = refl
none_restored z h (Some s) e = cc

none_drained : (z : Start) (h : List Entry) (rest : Option Op) (first : Option ℕ) → routing_or rest first ≡ None → (first ≡ None) × (rest ≡ None)
none_drained z h rest None e = (refl, e)
none_drained z h rest (Some s) e = cc

-- each source has its pair
ended_by : (m : Migration) (z : Start) (before h : List Entry) (s : ℕ) (u : Outcome) → s < sources_of m → HasMigrated z before m h s → migrating m z h (Some u) ≡ None → (IsDraining m → GoesOn u) → pq z h s ≡ pq z before s
ended_by (Masks from n) z before h s u below r e on = cc
ended_by (Drains from n) z before h s u below r e on =
    let rest = settled (draining_on z h from n) u (on tt) e in
    let none = none_drained z h (restoring z h (next_initialised z h 0 n)) (next_outstanding z h from n) rest.1 in
    let p = none_is (resets z h) 0 (n - 0) (none_restored z h (next_initialised z h 0 n) none.1) in
    r.others (passed_off z before h (Drains from n) 0 (0 + (n - 0)) s r p (omega arith) (omega (arith, below)))
ended_by (Restores from n) z before h s u below r e on =
    let p = none_is (resets z h) from (n - from) (none_restored z h (next_initialised z h from n) e) in
    elim (cases_lt s from) [
      | inl under ↦ r.kept under
      | inr above ↦ r.others (passed_off z before h (Restores from n) from (from + (n - from)) s r p above (omega (arith, below, above)))
    ]

ended_at : (z : Start) (n : ℕ) (before part : List Entry) (s : ℕ) → s < n → AreSteps (migrate n) z before part → next_op (migrate n) z before part ≡ None → IsLegal z (part ++ before) → IsKept z before (part ++ before) s
ended_at z n before [] s below steps none l = cc
ended_at z n before (x ∷ part) s below steps none l =
    let m = migration_at n (x ∷ part) in
    let same = same_sources n (x ∷ part) in
    let r = migrated_at z n before (x ∷ part) s below steps l in
    let on : IsDraining m → GoesOn x.outcome = λ is. subst GoesOn (sym l.1.outcome) (drain_goes_on (migration_at n part) z (part ++ before) x.op (last_outcome part) steps.1 is) in
    record { same_eas = r.same_eas; same_pair = ended_by m z before (x ∷ (part ++ before)) s x.outcome (omega (arith, below, same)) r none on }

steps_of : (z : Start) (actor n : ℕ) (before part : List Entry) → HasEnded z actor (migrate n) before part → AreSteps (migrate n) z before part
steps_of z actor n before part ended = are_steps z (record { actor = actor; work = migrate n }) before part ended.part_is.begins

pub migrations_keep : MigrationsKeep
migrations_keep z actor s before part ended below =
    let n = z.board.limits.sources in
    ended_at z n before part s below (steps_of z actor n before part ended) ended.part_is.ends ended.legal

-- ---- half way

-- while it drains it passes sources from the first one on
abbrev FromFirst : Migration → Type 0
FromFirst (Drains from n) = from ≡ 0
FromFirst _ = Unit {0}

moved_first : (m : Migration) (o : Op) → FromFirst m → FromFirst (moved m o)
moved_first (Masks from n) (op.Pq s o) is = tt
moved_first (Masks from n) _ is = refl
moved_first (Drains from n) (op.Pq s o) is = tt
moved_first (Drains from n) _ is = is
moved_first (Restores from n) (op.Pq s o) is = tt
moved_first (Restores from n) _ is = tt

from_first : (n : ℕ) (part : List Entry) → FromFirst (migration_at n part)
from_first n [] = tt
from_first n (x ∷ part) = moved_first (migration_at n part) x.op (from_first n part)

-- what holds after the first half
record IsHalf (z : Start) (before first : List Entry) : Type 0 where
  masked : (s : ℕ) → s < z.board.limits.sources → initialised z before s ≡ true → pq z (first ++ before) s ≡ 1
  no_message : flight z (first ++ before) ≡ []
  no_notice : all_outstanding z (first ++ before) ≡ 0

-- it holds where no message was found last, and no source has a notice outstanding
half_at : (z : Start) (before part : List Entry) (from n : ℕ) (u : Outcome) → AreSteps (migrate z.board.limits.sources) z before part → IsLegal z (part ++ before) → migration_at z.board.limits.sources part ≡ Drains from n → last_outcome part ≡ Some u → u ≡ out.NoMessage →
    next_outstanding z (part ++ before) from n ≡ None → IsHalf z before part
half_at z before [] from n u steps l told last none all = cc
half_at z before (y ∷ part) from n u steps l told last none all =
    let h = y ∷ (part ++ before) in
    let sources = z.board.limits.sources in
    let first : from ≡ 0 = subst FromFirst told (from_first sources (y ∷ part)) in
    let whole : n ≡ sources = sym (ap sources_of told) ∙ same_sources sources (y ∷ part) in
    let found : y.outcome ≡ out.NoMessage = cc in
    let p = subst (λ k. HasPassed (outstanding z h) k (k + (n - k))) first (none_is (outstanding z h) from (n - from) all) in
    let end : 0 + (n - 0) ≡ sources = omega (arith, whole) in
    record {
      masked = λ s below on.
          let r = subst (λ m. HasMigrated z before m h s) told (migrated_at z sources before (y ∷ part) s below steps l) in
          (r.masked tt on).off;
      no_message = migration_rests (Masks 0 sources) z before part y steps.1 l found;
      no_notice = sum_passed (outstanding z h) sources (subst (HasPassed (outstanding z h) 0) end p);
    }

-- the second half has begun
abbrev IsRestoring : Migration → Type 0
IsRestoring (Restores from n) = Unit {0}
IsRestoring _ = ⊥

masks_first : (from n : ℕ) (o : Op) → IsRestoring (moved (Masks from n) o) → ⊥
masks_first from n (op.Pq s o) is = is
masks_first from n _ is = is

-- where the second half begins, all is at rest
record Begins (z : Start) (h : List Entry) (from n : ℕ) (u : Outcome) : Type 0 where
  none : u ≡ out.NoMessage
  all : next_outstanding z h from n ≡ None

begins_by : (z : Start) (h : List Entry) (from n : ℕ) (u : Outcome) (o : Op) (first : Option ℕ) → u ≡ out.NoMessage → next_outstanding z h from n ≡ first → routing_or (restoring z h (next_initialised z h 0 n)) first ≡ Some o → IsRestoring (moved (Drains from n) o) → Begins z h from n u
begins_by z h from n u o None none is e restores = record { none = none; all = is }
begins_by z h from n u o (Some s) none is e restores = let here : op.Route s ≡ o = cc in absurd (subst (λ p. IsRestoring (moved (Drains from n) p)) (sym here) restores)

begins_at : (z : Start) (h : List Entry) (from n : ℕ) (u : Outcome) (o : Op) → settling (draining_on z h from n) u ≡ Some o → IsRestoring (moved (Drains from n) o) → Begins z h from n u
begins_at z h from n u o e =
    settling_is (λ p. IsRestoring (moved (Drains from n) p) → Begins z h from n u) (draining_on z h from n) u o (λ restores. absurd restores) (λ none is. begins_by z h from n u o (next_outstanding z h from n) none refl is) e

-- the halves, where the second one has begun
halves_by : (m : Migration) (last : Option Outcome) (z : Start) (before part : List Entry) (x : Entry) → migration_at z.board.limits.sources part ≡ m → last_outcome part ≡ last → (IsRestoring m → HasHalves z before part) → AreSteps (migrate z.board.limits.sources) z before part →
    migrating m z (part ++ before) last ≡ Some x.op → IsLegal z (part ++ before) → IsRestoring (moved m x.op) → HasHalves z before (x ∷ part)
halves_by (Masks from n) last z before part x told at earlier steps e l restores = absurd (masks_first from n x.op restores)
halves_by (Drains from n) None z before part x told at earlier steps e l restores = cc
halves_by (Drains from n) (Some u) z before part x told at earlier steps e l restores =
    let b = begins_at z (part ++ before) from n u x.op e restores in
    let half = half_at z before part from n u steps l told at b.none b.all in
    record { first = part; second = x ∷ []; whole = refl; masked = half.masked; no_message = half.no_message; no_notice = half.no_notice }
halves_by (Restores from n) last z before part x told at earlier steps e l restores =
    let h = earlier tt in
    record { first = h.first; second = x ∷ h.second; whole = ap (λ p. x ∷ p) h.whole; masked = h.masked; no_message = h.no_message; no_notice = h.no_notice }

halves_at : (z : Start) (before part : List Entry) → AreSteps (migrate z.board.limits.sources) z before part → IsLegal z (part ++ before) → IsRestoring (migration_at z.board.limits.sources part) → HasHalves z before part
halves_at z before [] steps l restores = absurd restores
halves_at z before (x ∷ part) steps l restores =
    halves_by (migration_at z.board.limits.sources part) (last_outcome part) z before part x refl refl (halves_at z before part steps.0 l.0) steps.0 steps.1 l.0 restores

-- and where it has ended
rest_by : (m : Migration) (last : Option Outcome) (z : Start) (before part : List Entry) → migration_at z.board.limits.sources part ≡ m → last_outcome part ≡ last → (IsRestoring m → HasHalves z before part) → (IsDraining m → (u : Outcome) → last ≡ Some u → GoesOn u) → AreSteps (migrate z.board.limits.sources) z before part →
    migrating m z (part ++ before) last ≡ None → IsLegal z (part ++ before) → HasHalves z before part
rest_by (Masks from n) last z before part told at restores on steps e l = cc
rest_by (Drains from n) None z before [] told at restores on steps e l = cc
rest_by (Drains from n) None z before (y ∷ part) told at restores on steps e l = cc
rest_by (Drains from n) (Some u) z before part told at restores on steps e l =
    let h = part ++ before in
    let rest = settled (draining_on z h from n) u (on tt u refl) e in
    let none = none_drained z h (restoring z h (next_initialised z h 0 n)) (next_outstanding z h from n) rest.1 in
    let half = half_at z before part from n u steps l told at rest.0 none.0 in
    record { first = part; second = []; whole = refl; masked = half.masked; no_message = half.no_message; no_notice = half.no_notice }
rest_by (Restores from n) last z before part told at restores on steps e l = restores tt

last_goes_on : (z : Start) (n : ℕ) (before part : List Entry) → AreSteps (migrate n) z before part → IsLegal z (part ++ before) → IsDraining (migration_at n part) → (u : Outcome) → last_outcome part ≡ Some u → GoesOn u
last_goes_on z n before [] steps l is u e = absurd is
last_goes_on z n before (x ∷ part) steps l is u e =
    let here : x.outcome ≡ u = cc in
    subst GoesOn (sym l.1.outcome ∙ here) (drain_goes_on (migration_at n part) z (part ++ before) x.op (last_outcome part) steps.1 is)

pub migrations_rest : MigrationsRest
migrations_rest z actor before part ended =
    let n = z.board.limits.sources in
    let steps = steps_of z actor n before part ended in
    rest_by (migration_at n part) (last_outcome part) z before part refl refl (halves_at z before part steps ended.legal) (last_goes_on z n before part steps ended.legal) steps ended.part_is.ends ended.legal
