-- What moves answer: the first reason to refuse one that the account has is the one that the presenter gives.
use Rattle.std.proofs.Common.{ℕ, ◌≡◌, ◌≢◌, ◌<◌, ◌==◌, ◌-◌, ◌&&◌, ◌↔◌, nat_le, nat_lt, not, Bool, true, false, if◌then◌else◌, Option, Some, None, Result, Ok, Err, OnOk, List, length, refl, sym, ◌∙◌, ap, arith}
use Rattle.std.specs.Option.{option_map_or}
use Rattle.std.proofs.lemmas.Bool.Decides.{nat_tests}
use Rattle.xv_model.specs.declared.outcomes.MoveRefused.{MoveRefused}
use Rattle.xv_model.specs.declared.outcomes.MoveRefused.TheVariants.{NotValid, VpBusy, RingBusy, NoContext, NotPulled, NotRestored}
use Rattle.xv_model.specs.declared.outcomes.Outcome.{Outcome}
use Rattle.xv_model.specs.declared.outcomes.Outcome.TheVariants.{Fine, Refused, Value}
use Rattle.xv_model.specs.declared.outcomes.Phase.{Phase}
use Rattle.xv_model.specs.declared.outcomes.Phase.TheVariants.{Saved, Restored, On, Pulled}
use Rattle.xv_model.specs.declared.entries.Entry.{Entry}
use Rattle.xv_model.specs.account.Start.{Start}
use Rattle.xv_model.specs.processor.Phases.{cam_of, is_connected, is_saved, phase, user_of}
use Rattle.xv_model.specs.processor.Moves.{is_pulled, is_restored, on_of, pull_outcome, push_outcome, restore_outcome, save_outcome}
use Rattle.nvt_backlog.specs.declared.vp.Vp.{Vp}
use Rattle.nvt_backlog.specs.Vps.{vp_in}
use Rattle.presenter.specs.Contexts.{AreFit, IsUser, named_by}
use Rattle.presenter.specs.Moves.{push_refused, restore_refused, save_refused}
use Rattle.presenter.proofs.Fitting.{none_some}
use Rattle.std.proofs.lemmas.Option.{none-some}
use Rattle.fabric_core.specs.Processors.{Parts, StandsFor}
use Rattle.fabric_core.proofs.OnThread.{on_named}
use Rattle.fabric_core.proofs.Places.{counted, on_stands, user_stands}

-- what a move answers that says no more than that it was done: why it is refused, if it is
abbrev pub answer : Option MoveRefused → Outcome
answer None = Fine
answer (Some why) = Refused why

-- a result and an answer that come of the same refusal
pub answers : (refused : Option MoveRefused) (r : Result Unit MoveRefused) (o : Outcome) → ((why : MoveRefused) → (r ≡ Err why) ↔ (refused ≡ Some why)) →
    OnOk r (o ≡ Fine) → ((why : MoveRefused) → r ≡ Err why → o ≡ Refused why) → o ≡ answer refused
answers None (Ok u) o same fine told = fine
answers None (Err why) o same fine told = absurd (none-some why ((same why).0 refl))
answers (Some why) r o same fine told = told why ((same why).1 refl)

-- ---- the refusals are those of the account's definitions
pub restore_answer : (valid : Bool) (p : Phase) (user : Option ℕ) → answer (restore_refused valid p user) ≡
    (if not valid then Refused NotValid else (if not (is_saved p) then Refused (VpBusy p) else option_map_or (λ u. Refused (RingBusy u)) user Fine))
restore_answer false p user = refl
restore_answer true Saved None = refl
restore_answer true Saved (Some u) = refl
restore_answer true (Restored t) user = refl
restore_answer true (On t) user = refl
restore_answer true (Pulled t) user = refl

pub save_answer : (valid : Bool) (p : Phase) → answer (save_refused valid p) ≡
    (if not valid then Refused NotValid else (if not (is_pulled p) then Refused (NotPulled p) else Fine))
save_answer false p = refl
save_answer true Saved = refl
save_answer true (Restored t) = refl
save_answer true (On t) = refl
save_answer true (Pulled t) = refl

pub push_answer : (valid : Bool) (p : Phase) (t : ℕ) → answer (push_refused valid p t) ≡
    (if not valid then Refused NotValid else (if not (is_restored t p) then Refused (NotRestored p) else Fine))
push_answer false p t = refl
push_answer true Saved t = refl
push_answer true (Restored u) t = by (u == t)
  where
    by : (b : Bool) → answer (if b then None else Some (NotRestored (Restored u))) ≡ (if not b then Refused (NotRestored (Restored u)) else Fine)
    by true = refl
    by false = refl
push_answer true (On u) t = refl
push_answer true (Pulled u) t = refl

-- ---- the processor that a CAM word names
-- whether it is connected is what is asked of it
pub cam_some : (n cam v : ℕ) (valid : Bool) → named_by n cam ≡ Some v → (nat_le (cam_of 0) cam && (nat_lt v n && valid)) ≡ valid
cam_some n cam v valid e =
    let low : nat_le (cam_of 0) cam ≡ true = grind (arith, nat_tests) in
    let high : nat_lt v n ≡ true = grind (arith, nat_tests) in
    ap (λ b. b && (nat_lt v n && valid)) low ∙ ap (λ b. b && valid) high

pub cam_named : (n cam v : ℕ) → named_by n cam ≡ Some v → cam - cam_of 0 ≡ v
cam_named n cam v e = grind (arith, nat_tests)

pub cam_none : (n cam : ℕ) (valid : Bool) → named_by n cam ≡ None → (nat_le (cam_of 0) cam && (nat_lt (cam - cam_of 0) n && valid)) ≡ false
cam_none n cam valid e = by (nat_le (cam_of 0) cam) (nat_lt (cam - cam_of 0) n) refl refl
  where
    by : (low high : Bool) → nat_le (cam_of 0) cam ≡ low → nat_lt (cam - cam_of 0) n ≡ high → (low && (high && valid)) ≡ false
    by false high a b = refl
    by true false a b = refl
    by true true a b = absurd (grind (arith, nat_tests))

pub named_below : (n cam v : ℕ) → named_by n cam ≡ Some v → v < n
named_below n cam v e = grind (arith, nat_tests)

named_in : (vps : List Vp) (n cam v : ℕ) → length vps ≡ n → named_by (length vps) cam ≡ Some v → named_by n cam ≡ Some v
named_in vps n cam v len e = ap (λ n. named_by n cam) (sym len) ∙ e

-- what a push onto a thread answers, by whether the CAM word is valid and by where the context is
abbrev push_by : ℕ → Bool → Phase → Outcome
push_by t valid now = if not valid then Refused NotValid else (if not (is_restored t now) then Refused (NotRestored now) else Fine)

-- ---- what a move of processors that represent an account answers
module _ (p : Parts) (z : Start) (h : List Entry) (s : StandsFor p z h) where
  pub restore_says : (v t : ℕ) (r : Result Unit MoveRefused) (o : Outcome) → v < length p.vps.vps →
      ((u : Option ℕ) (why : MoveRefused) → IsUser p.vps.vps t u → (r ≡ Err why) ↔ (restore_refused (vp_in p.vps.vps v).valid (vp_in p.vps.vps v).phase u ≡ Some why)) →
      OnOk r (o ≡ Fine) → ((why : MoveRefused) → r ≡ Err why → o ≡ Refused why) → o ≡ restore_outcome z h v t
  restore_says v t r o l same fine told =
      let user = user_of z h t in
      let is = s.each v (counted p z h s v l) in
      answers (restore_refused (vp_in p.vps.vps v).valid (vp_in p.vps.vps v).phase user) r o (λ why. same user why (user_stands p z h s t)) fine told
      ∙ ap (λ b. answer (restore_refused b (vp_in p.vps.vps v).phase user)) is.valid
      ∙ ap (λ now. answer (restore_refused (is_connected z h v) now user)) is.at
      ∙ restore_answer (is_connected z h v) (phase z h v) user

  pub save_says : (v : ℕ) (r : Result Unit MoveRefused) (o : Outcome) → v < length p.vps.vps →
      ((why : MoveRefused) → (r ≡ Err why) ↔ (save_refused (vp_in p.vps.vps v).valid (vp_in p.vps.vps v).phase ≡ Some why)) →
      OnOk r (o ≡ Fine) → ((why : MoveRefused) → r ≡ Err why → o ≡ Refused why) → o ≡ save_outcome z h v
  save_says v r o l same fine told =
      let is = s.each v (counted p z h s v l) in
      answers (save_refused (vp_in p.vps.vps v).valid (vp_in p.vps.vps v).phase) r o same fine told
      ∙ ap (λ b. answer (save_refused b (vp_in p.vps.vps v).phase)) is.valid
      ∙ ap (λ now. answer (save_refused (is_connected z h v) now)) is.at
      ∙ save_answer (is_connected z h v) (phase z h v)

  push_named : (t cam v : ℕ) (r : Result Unit MoveRefused) (o : Outcome) → v < length p.vps.vps → named_by (length p.vps.vps) cam ≡ Some v →
      ((why : MoveRefused) → (r ≡ Err why) ↔ (push_refused (vp_in p.vps.vps v).valid (vp_in p.vps.vps v).phase t ≡ Some why)) →
      OnOk r (o ≡ Fine) → ((why : MoveRefused) → r ≡ Err why → o ≡ Refused why) → o ≡ push_outcome z h t cam
  push_named t cam v r o l named same fine told =
      let is = s.each v (counted p z h s v l) in
      let n = z.board.limits.processors in
      let here = named_in p.vps.vps n cam v s.processors named in
      answers (push_refused (vp_in p.vps.vps v).valid (vp_in p.vps.vps v).phase t) r o same fine told
      ∙ ap (λ b. answer (push_refused b (vp_in p.vps.vps v).phase t)) is.valid
      ∙ ap (λ now. answer (push_refused (is_connected z h v) now t)) is.at
      ∙ push_answer (is_connected z h v) (phase z h v) t
      ∙ ap (λ k. push_by t (is_connected z h k) (phase z h k)) (sym (cam_named n cam v here))
      ∙ ap (λ b. push_by t b (phase z h (cam - cam_of 0))) (sym (cam_some n cam (cam - cam_of 0) (is_connected z h (cam - cam_of 0)) (here ∙ ap Some (sym (cam_named n cam v here)))))

  pub push_says : (t cam : ℕ) (r : Result Unit MoveRefused) (o : Outcome) →
      (named_by (length p.vps.vps) cam ≡ None → r ≡ Err NotValid) →
      ((v : ℕ) (why : MoveRefused) → named_by (length p.vps.vps) cam ≡ Some v → (r ≡ Err why) ↔ (push_refused (vp_in p.vps.vps v).valid (vp_in p.vps.vps v).phase t ≡ Some why)) →
      OnOk r (o ≡ Fine) → ((why : MoveRefused) → r ≡ Err why → o ≡ Refused why) → o ≡ push_outcome z h t cam
  push_says t cam r o none same fine told = by (named_by (length p.vps.vps) cam) refl
    where
      by : (named : Option ℕ) → named_by (length p.vps.vps) cam ≡ named → o ≡ push_outcome z h t cam
      by None e = told NotValid (none e)
          ∙ ap (λ b. push_by t b (phase z h (cam - cam_of 0))) (sym (cam_none z.board.limits.processors cam (is_connected z h (cam - cam_of 0)) (ap (λ n. named_by n cam) (sym s.processors) ∙ e)))
      by (Some v) e = push_named t cam v r o (named_below (length p.vps.vps) cam v e) e (λ why. same v why e) fine told

  pub pull_says : (t : ℕ) (r : Result ℕ MoveRefused) (o : Outcome) → AreFit p.vps.vps p.rings →
      (((v : ℕ) → (vp_in p.vps.vps v).phase ≢ On t) → r ≡ Err NoContext) → ((v : ℕ) → (vp_in p.vps.vps v).phase ≡ On t → r ≡ Ok (cam_of v)) →
      ((cam : ℕ) → r ≡ Ok cam → o ≡ Value cam) → ((why : MoveRefused) → r ≡ Err why → o ≡ Refused why) → o ≡ pull_outcome z h t
  pull_says t r o f none some value told = by (on_of z h t) refl
    where
      by : (on : Option ℕ) → on_of z h t ≡ on → o ≡ option_map_or (λ v. Value (cam_of v)) on (Refused NoContext)
      by None e = told NoContext (none (λ v at. none_some v (sym e ∙ on_named p z h s f v t at)))
      by (Some v) e = value (cam_of v) (some v (on_stands p z h s t v e).1)
