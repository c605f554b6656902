-- Users of threads in a legal account: no thread has two, and who is on a thread is its user.
use Rattle.std.proofs.Common.{ℕ, zero, suc, ◌≡◌, ◌==◌, ◌<◌, Bool, true, false, if◌then◌else◌, Option, Some, None, refl, sym, ◌∙◌, ap, subst, arith, inl, inr}
use Rattle.std.specs.Prelude.{◌⊎◌}
use Rattle.std.specs.Option.{option_map_or}
use Rattle.std.proofs.lemmas.Bool.{cases_eq, eqb-true, eqb-false, both_ways, eq-eqb}
use Rattle.xv_model.specs.declared.outcomes.Phase.{Phase}
use Rattle.xv_model.specs.declared.outcomes.Phase.TheVariants.{Saved, Restored, On, Pulled}
use Rattle.xv_model.specs.processor.Phases.{Move, moved_at, thread_of, is_thread, is_running, is_on, user_below}
use Rattle.xv_model.specs.processor.Moves.{is_pulled, on_by}

-- Who uses a thread.

is_thread-true : (t : ℕ) (o : Option ℕ) → is_thread t o ≡ true → o ≡ Some t
is_thread-true t (Some u) e = ap Some (eqb-true u t e)
is_thread-true t None e = cc

-- the user that is found is below n, and uses the thread
pub found_below : (phases : ℕ → Phase) (t n v : ℕ) → user_below phases t n ≡ Some v → (v < n) × (thread_of (phases v) ≡ Some t)
found_below phases t zero v e = cc
found_below phases t (suc n) v e = by (is_thread t (thread_of (phases n))) refl (found_below phases t n v) e
  where
    by : (b : Bool) → is_thread t (thread_of (phases n)) ≡ b → (user_below phases t n ≡ Some v → (v < n) × (thread_of (phases v) ≡ Some t)) → (if b then Some n else user_below phases t n) ≡ Some v → (v < suc n) × (thread_of (phases v) ≡ Some t)
    by true is rest e = let same : n ≡ v = cc in (omega arith, subst (λ v. thread_of (phases v) ≡ Some t) same (is_thread-true t (thread_of (phases n)) is))
    by false is rest e = let f = rest e in (omega (arith, f.0), f.1)

-- where none is found none uses it
pub none_below : (phases : ℕ → Phase) (t n : ℕ) → user_below phases t n ≡ None → (w : ℕ) → w < n → thread_of (phases w) ≡ Some t → ⊥
none_below phases t zero e w l uses = absurd (omega arith)
none_below phases t (suc n) e w l uses = by (is_thread t (thread_of (phases n))) refl (λ e l. none_below phases t n e w l uses) e
  where
    own : (v : ℕ) → thread_of (phases v) ≡ Some t → is_thread t (thread_of (phases v)) ≡ true
    own v u = rw u (eq-eqb t t refl)

    by : (b : Bool) → is_thread t (thread_of (phases n)) ≡ b → (user_below phases t n ≡ None → w < n → ⊥) → (if b then Some n else user_below phases t n) ≡ None → ⊥
    by true is rest e = cc
    by false is rest e = elim (cases_eq w n) [
      | inl at ↦ both_ways (is_thread t (thread_of (phases n))) is (own n (subst (λ v. thread_of (phases v) ≡ Some t) at uses))
      | inr other ↦ rest e (omega arith)
    ]

-- of the processors below n one at most uses a thread, and no other processor uses one
pub record AreSingle (n : ℕ) (phases : ℕ → Phase) : Type 0 where
  pub below : (v t : ℕ) → thread_of (phases v) ≡ Some t → v < n
  pub same : (v w t : ℕ) → thread_of (phases v) ≡ Some t → thread_of (phases w) ≡ Some t → v ≡ w

-- then the user that is found is the processor that uses it
pub user_below-is : (n : ℕ) (phases : ℕ → Phase) (v t : ℕ) → AreSingle n phases → thread_of (phases v) ≡ Some t → user_below phases t n ≡ Some v
user_below-is n phases v t s uses = by (user_below phases t n) refl
  where
    by : (u : Option ℕ) → user_below phases t n ≡ u → u ≡ Some v
    by (Some w) e = ap Some (s.same w v t (found_below phases t n w e).1 uses)
    by None e = absurd (none_below phases t n e v (s.below v t uses) uses)

-- who is on a thread uses it
pub on_uses : (t : ℕ) (now : Phase) → is_on t now ≡ true → now ≡ On t
on_uses t (On u) e = ap On (eqb-true u t e)
on_uses t Saved e = cc
on_uses t (Restored u) e = cc
on_uses t (Pulled u) e = cc

-- the processor that is found on a thread is on it
pub found_on : (n : ℕ) (phases : ℕ → Phase) (t v : ℕ) → on_by phases t (user_below phases t n) ≡ Some v → phases v ≡ On t
found_on n phases t v e = by (user_below phases t n) e
  where
    by_test : (w : ℕ) (b : Bool) → is_on t (phases w) ≡ b → (if b then Some w else None) ≡ Some v → phases v ≡ On t
    by_test w true is e = let same : w ≡ v = cc in subst (λ v. phases v ≡ On t) same (on_uses t (phases w) is)
    by_test w false is e = cc

    by : (u : Option ℕ) → on_by phases t u ≡ Some v → phases v ≡ On t
    by (Some w) e = by_test w (is_on t (phases w)) refl e
    by None e = cc

-- Moves that leave it so.

-- a move of a context to a thread is one of a processor below n, and to a thread that none but it uses; and what doesn't take a context onto a thread, or off it, is of one that isn't on any
pub record IsSound (n : ℕ) (phases : ℕ → Phase) (m : Move) : Type 0 where
  pub below : m.processor < n
  pub alone : (w t : ℕ) → thread_of m.phase ≡ Some t → thread_of (phases w) ≡ Some t → w ≡ m.processor
  pub off : is_running m.phase ≡ false → is_pulled m.phase ≡ false → is_running (phases m.processor) ≡ false

-- where the contexts are after a move
abbrev pub moved : Option Move → (ℕ → Phase) → ℕ → Phase
moved m phases v = option_map_or (λ p. p) (moved_at v m) (phases v)

-- who uses a thread after a move: the processor that it moved there, or one that used it before
uses_after : (m : Move) (phases : ℕ → Phase) (v t : ℕ) → thread_of (moved (Some m) phases v) ≡ Some t → ((m.processor ≡ v) × (thread_of m.phase ≡ Some t)) ⊎ ((m.processor ≡ v → ⊥) × (thread_of (phases v) ≡ Some t))
uses_after m phases v t e = by (m.processor == v) refl e
  where
    by : (b : Bool) → (m.processor == v) ≡ b → thread_of (option_map_or (λ p. p) (if b then Some m.phase else None) (phases v)) ≡ Some t → ((m.processor ≡ v) × (thread_of m.phase ≡ Some t)) ⊎ ((m.processor ≡ v → ⊥) × (thread_of (phases v) ≡ Some t))
    by true is e = inl (eqb-true m.processor v is, e)
    by false is e = inr (eqb-false m.processor v is, e)

pub single_moved : (n : ℕ) (phases : ℕ → Phase) (m : Move) → AreSingle n phases → IsSound n phases m → AreSingle n (moved (Some m) phases)
single_moved n phases m s ok = record {
  below = λ v t e. below v t (uses_after m phases v t e);
  same = λ v w t e f. same v w t (uses_after m phases v t e) (uses_after m phases w t f);
}
  where
    Uses : ℕ → ℕ → Type 0
    Uses v t = ((m.processor ≡ v) × (thread_of m.phase ≡ Some t)) ⊎ ((m.processor ≡ v → ⊥) × (thread_of (phases v) ≡ Some t))

    below : (v t : ℕ) → Uses v t → v < n
    below v t (inl a) = subst (λ v. v < n) a.0 ok.below
    below v t (inr a) = s.below v t a.1

    same : (v w t : ℕ) → Uses v t → Uses w t → v ≡ w
    same v w t (inl a) (inl b) = sym a.0 ∙ b.0
    same v w t (inl a) (inr b) = absurd (b.0 (sym (ok.alone w t a.1 b.1)))
    same v w t (inr a) (inl b) = absurd (a.0 (sym (ok.alone v t b.1 a.1)))
    same v w t (inr a) (inr b) = s.same v w t a.1 b.1
