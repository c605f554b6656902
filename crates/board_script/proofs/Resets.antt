-- What a line that resets leaves once it has ended.
use Rattle.std.proofs.Common.{ℕ, suc, ◌≡◌, ◌==◌, ◌+◌, ◌-◌, ◌<◌, ◌≤◌, ◌++◌, Bool, true, false, if◌then◌else◌, List, [], ◌∷◌, length, Option, Some, None, option_and_then, refl, sym, ◌∙◌, ap, subst, append-nil, inl, inr, arith}
use Rattle.std.proofs.lemmas.Bool.{cases_lt, eqb-true}
use Rattle.std.proofs.lemmas.Bool.Decides.{nat_tests}
use Rattle.std.specs.Option.{option_map_or}
use Rattle.xv_model.specs.declared.hypercalls.arguments.ResetArgs.{ResetArgs}
use Rattle.xv_model.specs.declared.hypercalls.Call.TheVariants as call
use Rattle.xv_model.specs.declared.kvm.Setting.TheVariants as setting
use Rattle.xv_model.specs.declared.operations.AttrValue.TheVariants.{Number}
use Rattle.xv_model.specs.declared.eas.Eas.{Eas}
use Rattle.xv_model.specs.declared.operations.PqOp.TheVariants.{Set}
use Rattle.xv_model.specs.declared.operations.EndConfig.{EndConfig}
use Rattle.xv_model.specs.declared.operations.Op.{Op}
use Rattle.xv_model.specs.declared.operations.Op.TheVariants as op
use Rattle.xv_model.specs.declared.entries.Entry.{Entry}
use Rattle.xv_model.specs.account.Start.{Start, no_config}
use Rattle.xv_model.specs.account.Legal.{IsLegal, IsNext, legal}
use Rattle.xv_model.specs.source.Eas.{masked_off, eas_after, eas_after_setting, eas, initialised}
use Rattle.xv_model.specs.source.Pairs.{Touch, pq}
use Rattle.xv_model.specs.end.Descriptors.{configuration_by, configuration_set, config_at, config_by, end_config, until_config}
use Rattle.xv_model.specs.end.EventStates.{first_state}
use Rattle.xv_model.specs.end.Reading.{taken}
use Rattle.xv_model.specs.end.Written.{written}
use Rattle.board_script.specs.declared.work.Work.{Work}
use Rattle.board_script.specs.declared.steps.Then.TheVariants.{Reset}
use Rattle.board_script.specs.Steps.{first_from, resets, setting_off, resetting, behind, reset_place, HasPassed}
use Rattle.board_script.specs.Work.{with_then, next_op, AreSteps}
use Rattle.board_script.specs.Calling.{IsAccepted, calls}
use Rattle.board_script.specs.Setting.{IsSet, sets}
use Rattle.board_script.specs.Resting.{HasEnded, IsTurnedOff, IsCleared, ResetsTurnOff, SettingsTurnOff, ResetsClearEnds, SettingsClearEnds, ResetsAreAccepted}
use Rattle.board_script.proofs.AcceptedCalls.{accepted_in, reset_called}
use Rattle.board_script.proofs.AcceptedSettings.{set_in, reset_set}
use Rattle.board_script.proofs.Passing.{IsFirst, none_is}
use Rattle.board_script.proofs.StepLines.{reset_is}
use Rattle.board_script.proofs.WorkLines.{are_steps}

-- a line that resets so many sources, by its first operation
abbrev line_of : Op → ℕ → Work
line_of first sources = with_then first (Reset 0 sources)

-- an EAS after a reset
abbrev reset_eas : Eas → Eas
reset_eas e = if e.valid then masked_off else e

-- it is valid where it was
still_valid : (e : Eas) → (reset_eas e).valid ≡ e.valid
still_valid e = by e.valid refl
  where
    by : (v : Bool) → e.valid ≡ v → (if v then masked_off else e).valid ≡ v
    by true is = refl
    by false is = is

-- a source after the entries of a line that has come to a place
record HasReset (z : Start) (before : List Entry) (place : ℕ) (h : List Entry) (s : ℕ) : Type 0 where
  masks : eas z h s ≡ reset_eas (eas z before s)
  sets : s < place → initialised z before s ≡ true → pq z h s ≡ 1
  later : place ≤ s → pq z h s ≡ pq z before s
  others : initialised z before s ≡ false → pq z h s ≡ pq z before s

-- it is initialised where it was
same_initialised : (z : Start) (before h : List Entry) (place s : ℕ) → HasReset z before place h s → initialised z h s ≡ initialised z before s
same_initialised z before h place s r = ap (λ (e : Eas). e.valid) r.masks ∙ still_valid (eas z before s)

-- a legal entry is what its operation makes of it
pub entry_is : (z : Start) (h : List Entry) (x : Entry) (o : Op) → x.op ≡ o → IsNext z h x → x ≡ record { actor = x.actor; op = o; outcome = legal z h o }
entry_is z h x o e n =
    ap (λ p. record { actor = x.actor; op = p; outcome = x.outcome }) e ∙ ap (λ u. record { actor = x.actor; op = o; outcome = u }) (n.outcome ∙ ap (legal z h) e)

-- a call, once it is answered
abbrev answered : Start → List Entry → Op → ℕ → Entry
answered z before first actor = record { actor = actor; op = first; outcome = legal z before first }

-- a call after an account resets: the sources that are initialised are masked off, and all ENDs reset; it is accepted
record ResetsAll (z : Start) (before : List Entry) (first : Op) : Type 0 where
  masks : (actor s : ℕ) → eas z (answered z before first actor ∷ before) s ≡ reset_eas (eas z before s)
  keeps : (actor s : ℕ) → pq z (answered z before first actor ∷ before) s ≡ pq z before s
  clears : (actor e : ℕ) → config_by e (answered z before first actor) ≡ Some no_config
  goes : (m : Option Op) → resetting m (legal z before first) ≡ m

-- H_INT_RESET does
call_resets : (z : Start) (before : List Entry) (number : ℕ) (args : List ℕ) (c : ResetArgs) → IsAccepted z before number args (call.Reset c) → ResetsAll z before (op.Hcall number args)
call_resets z before number args c a = record {
  masks = λ actor s. let was = eas z before s in ap (λ m. option_map_or (λ k. eas_after k s was) m was) (accepted_in z before number args (call.Reset c) a);
  keeps = λ actor s. refl;
  clears = λ actor e. ap (λ m. config_at e (option_and_then configuration_by m)) (accepted_in z before number args (call.Reset c) a);
  goes = λ m. ap (λ b. if b then m else None) a.succeeds;
}

-- and so does KVM_DEV_XIVE_RESET
setting_resets : (z : Start) (before : List Entry) (group number value : ℕ) → IsSet z before group number value setting.Reset → ResetsAll z before (op.AttrSet group number (Number value))
setting_resets z before group number value a = record {
  masks = λ actor s. let was = eas z before s in ap (λ m. option_map_or (λ k. eas_after_setting k s was) m was) (set_in z before group number value setting.Reset a);
  keeps = λ actor s. refl;
  clears = λ actor e. ap (λ m. config_at e (option_and_then configuration_set m)) (set_in z before group number value setting.Reset a);
  goes = λ m. ap (λ b. if b then m else None) a.succeeds;
}

no_less : (s : ℕ) → s < 0 → ⊥
no_less s l = omega (arith, l)

-- after the call
first_reset : (z : Start) (before : List Entry) (first : Op) (s : ℕ) (x : Entry) → ResetsAll z before first → x.op ≡ first → IsNext z before x → HasReset z before 0 (x ∷ before) s
first_reset z before first s x a e n = subst (λ y. HasReset z before 0 (y ∷ before) s) (sym (entry_is z before x first e n)) (record {
  masks = a.masks x.actor s;
  sets = λ l is. absurd (no_less s l);
  later = λ l. a.keeps x.actor s;
  others = λ is. a.keeps x.actor s;
})

-- the pair of a source after one is set
set_pair : (z : Start) (h : List Entry) (x : Entry) (t s : ℕ) → x.op ≡ op.Pq t (Set 1) → IsNext z h x → pq z (x ∷ h) s ≡ (if t == s then 1 else pq z h s)
set_pair z h x t s e n = subst (λ y. pq z (y ∷ h) s ≡ (if t == s then 1 else pq z h s)) (sym (entry_is z h x (op.Pq t (Set 1)) e n)) (by touch (t == s))
  where
    touch : Touch
    touch = record { source = t; op = Set 1; old = pq z h t; new = 1; forward = 0 }

    by : (touch : Touch) (same : Bool) → option_map_or (λ (k : Touch). k.new) (if same then Some touch else None) (pq z h s) ≡ (if same then touch.new else pq z h s)
    by touch true = refl
    by touch false = refl

set_eas : (z : Start) (h : List Entry) (x : Entry) (t s : ℕ) → x.op ≡ op.Pq t (Set 1) → IsNext z h x → eas z (x ∷ h) s ≡ eas z h s
set_eas z h x t s e n = subst (λ y. eas z (y ∷ h) s ≡ eas z h s) (sym (entry_is z h x (op.Pq t (Set 1)) e n)) refl

-- a source that a reset finds is initialised, and one that it passes isn't
pub found_initialised : (b : Bool) → ((if b then 1 else 0) == 0) ≡ false → b ≡ true
found_initialised true e = refl
found_initialised false e = cc

pub passed_uninitialised : (b : Bool) → ◌≡◌ {A = ℕ} (if b then 1 else 0) 0 → b ≡ false
passed_uninitialised true e = cc
passed_uninitialised false e = refl

pub both_ways : (b : Bool) → b ≡ true → b ≡ false → ⊥
both_ways true e f = cc
both_ways false e f = cc

-- after one more source is set
next_reset : (z : Start) (before h : List Entry) (place n t s : ℕ) (x : Entry) → HasReset z before place h s → x.op ≡ op.Pq t (Set 1) → IsNext z h x → IsFirst (resets z h) place n t → HasReset z before (suc t) (x ∷ h) s
next_reset z before h place n t s x r e is first = by (t == s) refl
  where
    same : initialised z h s ≡ initialised z before s
    same = same_initialised z before h place s r

    reached : place ≤ t
    reached = first.passed.later

    -- the source is behind what was set before, and before t
    between : place ≤ s → s < t → initialised z before s ≡ true → ⊥
    between from below on = both_ways (initialised z h s) (same ∙ on) (passed_uninitialised (initialised z h s) (first.passed.none s from below))

    here : t ≡ s → initialised z before s ≡ true
    here at = sym same ∙ subst (λ k. initialised z h k ≡ true) at (found_initialised (initialised z h t) first.some)

    before_t : (t == s) ≡ false → s < suc t → s < t
    before_t other l = grind (arith, nat_tests)

    set_before : s < t → initialised z before s ≡ true → pq z h s ≡ 1
    set_before l on = elim (cases_lt s place) [
      | inl below ↦ r.sets below on
      | inr from ↦ absurd (between from l on)
    ]

    by : (at : Bool) → (t == s) ≡ at → HasReset z before (suc t) (x ∷ h) s
    by true at = record {
      masks = set_eas z h x t s e is ∙ r.masks;
      sets = λ l on. set_pair z h x t s e is ∙ rw at refl;
      later = λ l. absurd (let equal = eqb-true t s at in omega (arith, l, equal));
      others = λ off. absurd (both_ways (initialised z before s) (here (eqb-true t s at)) off);
    }
    by false at = record {
      masks = set_eas z h x t s e is ∙ r.masks;
      sets = λ l on. set_pair z h x t s e is ∙ rw at (set_before (before_t at l) on);
      later = λ l. set_pair z h x t s e is ∙ rw at (r.later (omega (arith, l, reached)));
      others = λ off. set_pair z h x t s e is ∙ rw at (r.others off);
    }

-- after each entry of the line
resets_at : (z : Start) (before part : List Entry) (first : Op) (s : ℕ) (x : Entry) → ResetsAll z before first → AreSteps (line_of first z.board.limits.sources) z before (x ∷ part) → IsLegal z (x ∷ (part ++ before)) →
    HasReset z before (reset_place (x ∷ part)) (x ∷ (part ++ before)) s
resets_at z before [] first s x a steps l = let here : first ≡ x.op = cc in first_reset z before first s x a (sym here) l.1
resets_at z before (y ∷ part) first s x a steps l =
    let h = y ∷ (part ++ before) in
    let r = reset_is (resets z h) (reset_place (y ∷ part)) z.board.limits.sources y.outcome x.op steps.1 in
    let place : behind x.op ≡ suc r.0 = ap behind r.1 in
    subst (λ k. HasReset z before k (x ∷ h) s) (sym place) (next_reset z before h (reset_place (y ∷ part)) z.board.limits.sources r.0 s x (resets_at z before part first s y a steps.0 l.0) r.1 l.1 r.2)

-- the line goes on after each of its entries
goes_on : (z : Start) (before part : List Entry) (first : Op) (x : Entry) (m : Option Op) → ResetsAll z before first → AreSteps (line_of first z.board.limits.sources) z before (x ∷ part) → IsLegal z (x ∷ (part ++ before)) →
    resetting m x.outcome ≡ m
goes_on z before [] first x m a steps l =
    let here : first ≡ x.op = cc in
    subst (λ y. resetting m y.outcome ≡ m) (sym (entry_is z before x first (sym here) l.1)) (a.goes m)
goes_on z before (y ∷ part) first x m a steps l =
    let h = y ∷ (part ++ before) in
    let r = reset_is (resets z h) (reset_place (y ∷ part)) z.board.limits.sources y.outcome x.op steps.1 in
    subst (λ y. resetting m y.outcome ≡ m) (sym (entry_is z h x (op.Pq r.0 (Set 1)) r.1 l.1)) refl

none_first : (first : Option ℕ) → setting_off first ≡ None → first ≡ None
none_first None e = refl
none_first (Some s) e = cc

-- a line that has ended has set each initialised source
ended_off : (z : Start) (before part : List Entry) (x : Entry) (s : ℕ) → HasReset z before (reset_place (x ∷ part)) (x ∷ (part ++ before)) s → HasPassed (resets z (x ∷ (part ++ before))) (reset_place (x ∷ part)) (reset_place (x ∷ part) + (z.board.limits.sources - reset_place (x ∷ part))) →
    s < z.board.limits.sources → initialised z before s ≡ true → pq z (x ∷ (part ++ before)) s ≡ 1
ended_off z before part x s r passed below on =
    let h = x ∷ (part ++ before) in
    elim (cases_lt s (reset_place (x ∷ part))) [
      | inl set ↦ r.sets set on
      | inr from ↦ absurd (both_ways (initialised z h s) (same_initialised z before h (reset_place (x ∷ part)) s r ∙ on)
          (passed_uninitialised (initialised z h s) (passed.none s from (omega (arith, below, from)))))
    ]

resets_leave : (z : Start) (before part : List Entry) (first : Op) (s : ℕ) → ResetsAll z before first → AreSteps (line_of first z.board.limits.sources) z before part → next_op (line_of first z.board.limits.sources) z before part ≡ None →
    IsLegal z (part ++ before) → s < z.board.limits.sources → IsTurnedOff z before (part ++ before) s
resets_leave z before [] first s a steps none l below = cc
resets_leave z before (x ∷ part) first s a steps none l below =
    let h = x ∷ (part ++ before) in
    let place = reset_place (x ∷ part) in
    let n = z.board.limits.sources in
    let r = resets_at z before part first s x a steps l in
    let next = first_from (resets z h) place (n - place) in
    let passed = none_is (resets z h) place (n - place) (none_first next (sym (goes_on z before part first x (setting_off next) a steps l) ∙ none)) in (
      λ on. record { masked = r.masks ∙ ap (λ v. if v then masked_off else eas z before s) on; pair = ended_off z before part x s r passed below on },
      λ off. record { same_eas = r.masks ∙ ap (λ v. if v then masked_off else eas z before s) off; same_pair = r.others off },
    )

steps_of : (z : Start) (actor : ℕ) (first : Op) (before part : List Entry) → HasEnded z actor (line_of first z.board.limits.sources) before part → AreSteps (line_of first z.board.limits.sources) z before part
steps_of z actor first before part ended = are_steps z (record { actor = actor; work = line_of first z.board.limits.sources }) before part ended.part_is.begins

turned_off : (z : Start) (actor : ℕ) (first : Op) (s : ℕ) (before part : List Entry) → ResetsAll z before first → HasEnded z actor (line_of first z.board.limits.sources) before part → s < z.board.limits.sources → IsTurnedOff z before (part ++ before) s
turned_off z actor first s before part a ended below = resets_leave z before part first s a (steps_of z actor first before part ended) ended.part_is.ends ended.legal below

-- the entries of a line that has ended, whose call resets
ended_call : (z : Start) (actor number : ℕ) (args : List ℕ) (c : ResetArgs) (before part : List Entry) → IsAccepted z before number args (call.Reset c) → HasEnded z actor (calls z.board number args) before part → HasEnded z actor (line_of (op.Hcall number args) z.board.limits.sources) before part
ended_call z actor number args c before part a ended = subst (λ w. HasEnded z actor w before part) (reset_called z before number args c a) ended

ended_setting : (z : Start) (actor group number value : ℕ) (before part : List Entry) → IsSet z before group number value setting.Reset → HasEnded z actor (sets z.board group number value) before part → HasEnded z actor (line_of (op.AttrSet group number (Number value)) z.board.limits.sources) before part
ended_setting z actor group number value before part a ended = subst (λ w. HasEnded z actor w before part) (reset_set z before group number value a) ended

pub resets_turn_off : ResetsTurnOff
resets_turn_off z actor number s args c before part a ended below =
    turned_off z actor (op.Hcall number args) s before part (call_resets z before number args c a) (ended_call z actor number args c before part a ended) below

pub settings_turn_off : SettingsTurnOff
settings_turn_off z actor group number value s before part a ended below =
    turned_off z actor (op.AttrSet group number (Number value)) s before part (setting_resets z before group number value a) (ended_setting z actor group number value before part a ended) below

-- ---- the ENDs

-- what is told that an END is reset
state_told : (m : Option EndConfig) (before : ℕ) → m ≡ Some no_config → option_map_or first_state m before ≡ 1
state_told m before e = rw e refl

count_told : (m : Option EndConfig) (before : List ℕ) (n : ℕ) → m ≡ Some no_config → length (option_map_or (λ c. []) m before) + option_map_or (λ c. 0) m n ≡ 0
count_told m before n e = rw e refl

-- after the call
first_cleared : (z : Start) (before : List Entry) (first : Op) (e : ℕ) (x : Entry) → ResetsAll z before first → x.op ≡ first → IsNext z before x → IsCleared z (x ∷ before) e
first_cleared z before first e x a is n = subst (λ y. IsCleared z (y ∷ before) e) (sym (entry_is z before x first is n)) (record {
  config = ap (λ m. option_map_or (λ k. k) m (end_config z before e)) (a.clears x.actor e);
  notifications_off = state_told (config_by e (answered z before first x.actor)) _ (a.clears x.actor e);
  escalations_off = state_told (config_by e (answered z before first x.actor)) _ (a.clears x.actor e);
  none_written = count_told (config_by e (answered z before first x.actor)) _ _ (a.clears x.actor e);
  none_taken = count_told (config_by e (answered z before first x.actor)) _ _ (a.clears x.actor e);
})

-- and after each pair that is set
next_cleared : (z : Start) (h : List Entry) (x : Entry) (t e : ℕ) → x.op ≡ op.Pq t (Set 1) → IsCleared z h e → IsCleared z (x ∷ h) e
next_cleared z h x t e is r = subst (λ y. IsCleared z (y ∷ h) e) (sym (ap (λ o. record { actor = x.actor; op = o; outcome = x.outcome }) is)) (record {
  config = r.config;
  notifications_off = r.notifications_off;
  escalations_off = r.escalations_off;
  none_written = ap (λ items. length items + until_config (z.written_count e) h e) (append-nil (written z h e)) ∙ r.none_written;
  none_taken = ap (λ items. length items + until_config (z.taken_count e) h e) (append-nil (taken h e)) ∙ r.none_taken;
})

clears_at : (z : Start) (before part : List Entry) (first : Op) (e : ℕ) (x : Entry) → ResetsAll z before first → AreSteps (line_of first z.board.limits.sources) z before (x ∷ part) → IsLegal z (x ∷ (part ++ before)) →
    IsCleared z (x ∷ (part ++ before)) e
clears_at z before [] first e x a steps l = let here : first ≡ x.op = cc in first_cleared z before first e x a (sym here) l.1
clears_at z before (y ∷ part) first e x a steps l =
    let h = y ∷ (part ++ before) in
    let r = reset_is (resets z h) (reset_place (y ∷ part)) z.board.limits.sources y.outcome x.op steps.1 in
    next_cleared z h x r.0 e r.1 (clears_at z before part first e y a steps.0 l.0)

clears_leave : (z : Start) (before part : List Entry) (first : Op) (e : ℕ) → ResetsAll z before first → AreSteps (line_of first z.board.limits.sources) z before part → next_op (line_of first z.board.limits.sources) z before part ≡ None →
    IsLegal z (part ++ before) → IsCleared z (part ++ before) e
clears_leave z before [] first e a steps none l = cc
clears_leave z before (x ∷ part) first e a steps none l = clears_at z before part first e x a steps l

cleared : (z : Start) (actor : ℕ) (first : Op) (e : ℕ) (before part : List Entry) → ResetsAll z before first → HasEnded z actor (line_of first z.board.limits.sources) before part → IsCleared z (part ++ before) e
cleared z actor first e before part a ended = clears_leave z before part first e a (steps_of z actor first before part ended) ended.part_is.ends ended.legal

pub resets_clear_ends : ResetsClearEnds
resets_clear_ends z actor number e args c before part a ended =
    cleared z actor (op.Hcall number args) e before part (call_resets z before number args c a) (ended_call z actor number args c before part a ended)

pub settings_clear_ends : SettingsClearEnds
settings_clear_ends z actor group number value e before part a ended =
    cleared z actor (op.AttrSet group number (Number value)) e before part (setting_resets z before group number value a) (ended_setting z actor group number value before part a ended)

-- a line that resets makes a call that is accepted
pub resets_are_accepted : ResetsAreAccepted
resets_are_accepted z before = (refl, record { names = refl; succeeds = refl })
