-- Which processor uses a thread, and which is on it: what the account names is so in what is kept.
use Rattle.std.proofs.Common.{ℕ, zero, suc, ◌≡◌, ◌<◌, Bool, true, false, true≢false, if◌then◌else◌, Option, Some, None, List, length, refl, sym, ◌∙◌, ap, subst, inl, inr, arith}
use Rattle.std.specs.Prelude.{◌⊎◌, ◌≤◌}
use Rattle.std.proofs.lemmas.Bool.{cases_eq, cases_lt, eq-eqb, eqb-true}
use Rattle.std.proofs.lemmas.List.{get_or_past}
use Rattle.xv_model.specs.declared.entries.Entry.{Entry}
use Rattle.xv_model.specs.declared.outcomes.Phase.{Phase}
use Rattle.xv_model.specs.declared.outcomes.Phase.TheVariants.{Saved, Restored, On, Pulled}
use Rattle.xv_model.specs.account.Start.{Start}
use Rattle.xv_model.specs.processor.Phases.{is_on, is_thread, phase, user_below, user_of, thread_of}
use Rattle.xv_model.specs.processor.Moves.{on_by, on_of}
use Rattle.nvt_backlog.specs.declared.vp.Vp.{Vp}
use Rattle.nvt_backlog.specs.Vps.{saved_vp, vp_in}
use Rattle.presenter.specs.Contexts.{IsUser, Uses}
use Rattle.presenter.proofs.Fitting.{none_some, same_some}
use Rattle.fabric_core.specs.Processors.{Parts, StandsFor}

pub is_thread_some : (t : ℕ) (o : Option ℕ) → is_thread t o ≡ true → o ≡ Some t
is_thread_some t (Some u) e = ap Some (eqb-true u t e)
is_thread_some t None e = absurd (true≢false (sym e))

pub some_thread : (t : ℕ) (o : Option ℕ) → o ≡ Some t → is_thread t o ≡ true
some_thread t o e = ap (is_thread t) e ∙ eq-eqb t t refl

-- whether a context is on a thread
pub on_is : (t : ℕ) (q : Phase) → is_on t q ≡ true → q ≡ On t
on_is t (On u) e = ap On (eqb-true u t e)
on_is t Saved e = absurd (true≢false (sym e))
on_is t (Restored u) e = absurd (true≢false (sym e))
on_is t (Pulled u) e = absurd (true≢false (sym e))

-- of the processors below n, this is one that uses a thread, or none does
abbrev IsUserBelow : (ℕ → Phase) → ℕ → ℕ → Option ℕ → Type 0
IsUserBelow phases t n (Some v) = (v < n) × (thread_of (phases v) ≡ Some t)
IsUserBelow phases t n None = (w : ℕ) → w < n → ¬ (thread_of (phases w) ≡ Some t)

one_more : (phases : ℕ → Phase) (t n : ℕ) (b : Bool) → is_thread t (thread_of (phases n)) ≡ b → (u : Option ℕ) → IsUserBelow phases t n u → IsUserBelow phases t (suc n) (if b then Some n else u)
one_more phases t n true e u is = (omega arith, is_thread_some t (thread_of (phases n)) e)
one_more phases t n false e (Some v) is = (omega (arith, is.0), is.1)
one_more phases t n false e None is = λ w l uses. elim (cases_eq w n) [
  | inl same ↦ true≢false (sym (some_thread t (thread_of (phases n)) (subst (λ k. thread_of (phases k) ≡ Some t) same uses)) ∙ e)
  | inr other ↦ is w (omega arith) uses
]

found_below : (phases : ℕ → Phase) (t n : ℕ) → IsUserBelow phases t n (user_below phases t n)
found_below phases t zero = λ w l. absurd (omega arith)
found_below phases t (suc n) = one_more phases t n (is_thread t (thread_of (phases n))) refl (user_below phases t n) (found_below phases t n)

on_found : (phases : ℕ → Phase) (t n v : ℕ) (u : Option ℕ) → IsUserBelow phases t n u → on_by phases t u ≡ Some v → (v < n) × (phases v ≡ On t)
on_found phases t n v None none e = absurd (none_some v e)
on_found phases t n v (Some w) is e = by (is_on t (phases w)) refl e
  where
    by : (b : Bool) → is_on t (phases w) ≡ b → (if b then Some w else None) ≡ Some v → (v < n) × (phases v ≡ On t)
    by false off e = absurd (none_some v e)
    by true on e = subst (λ k. (k < n) × (phases k ≡ On t)) (same_some v w (sym e)) (is.0, on_is t (phases w) on)

module _ (p : Parts) (z : Start) (h : List Entry) (s : StandsFor p z h) where
  -- a processor that uses a thread is one of the board's
  pub uses_inside : (v t : ℕ) → Uses p.vps.vps v t → v < z.board.limits.processors
  uses_inside v t uses = by (cases_lt v z.board.limits.processors)
    where
      by : (v < z.board.limits.processors) ⊎ (z.board.limits.processors ≤ v) → v < z.board.limits.processors
      by (inl l) = l
      by (inr past) = absurd (none_some t (sym (ap (λ (y : Vp). thread_of y.phase) (get_or_past p.vps.vps v (saved_vp false) (omega (arith, past, s.processors)))) ∙ uses))

  -- the phase of a processor that is kept is that of the account
  pub uses_named : (v t : ℕ) → v < z.board.limits.processors → thread_of (phase z h v) ≡ Some t → Uses p.vps.vps v t
  uses_named v t l e = ap thread_of ((s.each v l).at) ∙ e

  pub named_uses : (v t : ℕ) → v < z.board.limits.processors → Uses p.vps.vps v t → thread_of (phase z h v) ≡ Some t
  named_uses v t l uses = ap thread_of (sym ((s.each v l).at)) ∙ uses

  pub counted : (v : ℕ) → v < length p.vps.vps → v < z.board.limits.processors
  counted v l = subst (λ n. v < n) s.processors l

  user_by : (t : ℕ) (u : Option ℕ) → IsUserBelow (phase z h) t z.board.limits.processors u → IsUser p.vps.vps t u
  user_by t (Some v) is = uses_named v t is.0 is.1
  user_by t None none = λ w uses. let l = uses_inside w t uses in none w l (named_uses w t l uses)

  -- the account's user of a thread uses it by what is kept
  pub user_stands : (t : ℕ) → IsUser p.vps.vps t (user_of z h t)
  user_stands t = user_by t (user_of z h t) (found_below (phase z h) t z.board.limits.processors)

  -- the processor that the account has on a thread is on it by what is kept
  pub on_stands : (t v : ℕ) → on_of z h t ≡ Some v → (v < z.board.limits.processors) × ((vp_in p.vps.vps v).phase ≡ On t)
  on_stands t v e =
      let on = on_found (phase z h) t z.board.limits.processors v (user_of z h t) (found_below (phase z h) t z.board.limits.processors) e in
      (on.0, (s.each v on.0).at ∙ on.1)
