-- What follows a setting on its line.
use Rattle.std.proofs.Common.{ℕ, ℤ, ◌≡◌, ◌-◌, Bool, true, false, if◌then◌else◌, List, [], ◌∷◌, Option, Some, None, refl, sym, ◌∙◌, ap, subst, arith}
use Rattle.std.specs.Option.{option_map_or}
use Rattle.std.specs.Prelude.{option_and_then}
use Rattle.xv_model.specs.declared.kvm.errors.TheConstants.{ENOENT, ENXIO, E2BIG}
use Rattle.xv_model.specs.declared.kvm.Attribute.{Attribute}
use Rattle.xv_model.specs.declared.kvm.Setting.{Setting}
use Rattle.xv_model.specs.declared.kvm.Setting.TheVariants as setting
use Rattle.xv_model.specs.declared.operations.AttrValue.TheVariants.{Number}
use Rattle.xv_model.specs.declared.operations.Op.TheVariants as op
use Rattle.xv_model.specs.declared.outcomes.Outcome.TheVariants as out
use Rattle.xv_model.specs.declared.entries.Entry.{Entry}
use Rattle.xv_model.specs.account.Start.{Start}
use Rattle.xv_model.specs.account.Legal.{IsNext, legal}
use Rattle.xv_model.specs.call.Accepted.{is_success}
use Rattle.xv_model.specs.call.Checks.{code_of}
use Rattle.xv_model.specs.device.Accepted.{setting_in}
use Rattle.xv_model.specs.device.Answers.{setting_code, attribute_code}
use Rattle.xv_model.specs.device.Attributes.{attribute_of, setting_of, setting_by}
use Rattle.xv_model.specs.device.Checks.{has_source, setting_checks}
use Rattle.board_script.specs.declared.steps.Then.{Then}
use Rattle.board_script.specs.declared.steps.Then.TheVariants.{Done, Route, Take, Sync, Drain, Esb, Reset, Init}
use Rattle.board_script.specs.Accepted.{first_after_setting, EachSettingGoesOn, EachRefusedSettingEnds}
use Rattle.board_script.specs.Steps.{first_from, resets, setting_off, op_after}
use Rattle.board_script.specs.Work.{with_then, next_op}
use Rattle.board_script.specs.Setting.{then_set, sets, IsSet}

-- the entry of an accepted setting is one
pub set_in : (z : Start) (h : List Entry) (group number value : ℕ) (c : Setting) → IsSet z h group number value c → setting_in (op.AttrSet group number (Number value)) (out.Code (attribute_code z h group number (Number value))) ≡ Some c
set_in z h group number value c a = rw a.succeeds a.names

-- the line of a setting goes on with what follows that
line_set : (z : Start) (h : List Entry) (group number value : ℕ) (c : Setting) → IsSet z h group number value c → sets z.board group number value ≡ with_then (op.AttrSet group number (Number value)) (then_set z.board c)
line_set z h group number value c a = ap (λ m. with_then (op.AttrSet group number (Number value)) (option_map_or (then_set z.board) m Done)) a.names

-- that of KVM_DEV_XIVE_RESET resets each source
pub reset_set : (z : Start) (h : List Entry) (group number value : ℕ) → IsSet z h group number value setting.Reset → sets z.board group number value ≡ with_then (op.AttrSet group number (Number value)) (Reset 0 z.board.limits.sources)
reset_set z h group number value a = line_set z h group number value setting.Reset a

-- that of KVM_DEV_XIVE_EQ_SYNC drains all sources
pub eq_sync_set : (z : Start) (h : List Entry) (group number value : ℕ) → IsSet z h group number value setting.EqSync → sets z.board group number value ≡ with_then (op.AttrSet group number (Number value)) (Drain 0 z.board.limits.sources)
eq_sync_set z h group number value a = line_set z h group number value setting.EqSync a

-- the checks of an accepted setting hold
passes : (b : Bool) (rest code : ℤ) → is_success code ≡ false → is_success (if b then rest else code) ≡ true → (b ≡ true) × (is_success rest ≡ true)
passes true rest code fails e = (refl, e)
passes false rest code fails e = cc

checked : (z : Start) (h : List Entry) (m : Option Setting) (c : Setting) → m ≡ Some c → setting_code z h m ≡ code_of (setting_checks z h c)
checked z h m c e = ap (setting_code z h) e

named : (z : Start) (h : List Entry) (value : ℕ) (m : Option Attribute) (c : Setting) → option_and_then (λ a. setting_of a (Number value)) m ≡ Some c → option_map_or (λ a. setting_code z h (setting_of a (Number value))) m ENXIO ≡ code_of (setting_checks z h c)
named z h value (Some a) c e = checked z h (setting_of a (Number value)) c e
named z h value None c e = cc

holds : (z : Start) (h : List Entry) (group number value : ℕ) (c : Setting) → IsSet z h group number value c → is_success (code_of (setting_checks z h c)) ≡ true
holds z h group number value c a = sym (ap is_success (named z h value (attribute_of group number) c a.names)) ∙ a.succeeds

-- that of KVM_DEV_XIVE_GRP_SOURCE_SYNC brings its source to rest
pub source_sync_set : (z : Start) (h : List Entry) (group number value s : ℕ) → IsSet z h group number value (setting.SourceSync s) → sets z.board group number value ≡ with_then (op.AttrSet group number (Number value)) (Sync s)
source_sync_set z h group number value s a =
    let source = passes (has_source z.board s) _ ENOENT refl (holds z h group number value (setting.SourceSync s) a) in
    line_set z h group number value (setting.SourceSync s) a ∙ rw source.0 refl

-- what follows a setting whose checks hold
after_set : (z : Start) (before h : List Entry) (c : Setting) (code : ℤ) → is_success (code_of (setting_checks z before c)) ≡ true → is_success code ≡ true →
    op_after (then_set z.board c) 0 z h (out.Code code) ≡ first_after_setting z h c
after_set z before h setting.Reset code holds accepted =
    let n = z.board.limits.sources in
    let all : n - 0 ≡ n = omega arith in
    rw accepted (ap (λ k. setting_off (first_from (resets z h) 0 k)) all)
after_set z before h setting.EqSync code holds accepted = rw accepted refl
after_set z before h (setting.Source c) code holds accepted = let source = passes (has_source z.board c.source) _ E2BIG refl holds in rw source.0 (rw accepted refl)
after_set z before h (setting.SourceSync s) code holds accepted = let source = passes (has_source z.board s) _ ENOENT refl holds in rw source.0 (rw accepted refl)
after_set z before h _ code holds accepted = refl

-- the entry of a setting, as what is answered to it
entry_is : (z : Start) (h : List Entry) (x : Entry) (group number value : ℕ) → x.op ≡ op.AttrSet group number (Number value) → IsNext z h x →
    x ≡ record { actor = x.actor; op = op.AttrSet group number (Number value); outcome = out.Code (attribute_code z h group number (Number value)) }
entry_is z h x group number value e n =
    ap (λ p. record { actor = x.actor; op = p; outcome = x.outcome }) e ∙ ap (λ u. record { actor = x.actor; op = op.AttrSet group number (Number value); outcome = u }) (n.outcome ∙ ap (legal z h) e)

accepted_by : (b : Bool) (m : Option Setting) (c : Setting) → (if b then m else None) ≡ Some c → (b ≡ true) × (m ≡ Some c)
accepted_by true m c e = (refl, e)
accepted_by false m c e = cc

set_goes_on : (z : Start) (before : List Entry) (actor group number value : ℕ) (c : Setting) →
    let x : Entry = record { actor = actor; op = op.AttrSet group number (Number value); outcome = out.Code (attribute_code z before group number (Number value)) } in
    setting_in x.op x.outcome ≡ Some c → next_op (sets z.board group number value) z before (x ∷ []) ≡ first_after_setting z (x ∷ before) c
set_goes_on z before actor group number value c e =
    let code = attribute_code z before group number (Number value) in
    let x : Entry = record { actor = actor; op = op.AttrSet group number (Number value); outcome = out.Code code } in
    let a = accepted_by (is_success code) (setting_by group number (Number value)) c e in
    ap (λ m. op_after (option_map_or (then_set z.board) m Done) 0 z (x ∷ before) (out.Code code)) a.1
    ∙ after_set z before (x ∷ before) c code (holds z before group number value c (record { names = a.1; succeeds = a.0 })) a.0

pub each_setting_goes_on : EachSettingGoesOn
each_setting_goes_on z before x group number value c n e accepted =
    let same = entry_is z before x group number value e n in
    subst (λ y. next_op (sets z.board group number value) z before (y ∷ []) ≡ first_after_setting z (y ∷ before) c) (sym same)
    (set_goes_on z before x.actor group number value c (subst (λ (y : Entry). setting_in y.op y.outcome ≡ Some c) same accepted))

-- no line goes on after a setting that was refused
ends_after : (t : Then) (z : Start) (h : List Entry) (code : ℤ) → is_success code ≡ false → op_after t 0 z h (out.Code code) ≡ None
ends_after Done z h code refused = refl
ends_after (Route s) z h code refused = refl
ends_after Take z h code refused = refl
ends_after (Sync s) z h code refused = rw refused refl
ends_after (Drain from sources) z h code refused = rw refused refl
ends_after (Esb s page offset store) z h code refused = rw refused refl
ends_after (Reset from sources) z h code refused = rw refused refl
ends_after (Init s asserted) z h code refused = rw refused refl

pub each_refused_setting_ends : EachRefusedSettingEnds
each_refused_setting_ends z before x group number value code answer refused =
    let t = option_map_or (then_set z.board) (setting_by group number (Number value)) Done in
    ap (op_after t 0 z (x ∷ before)) answer ∙ ends_after t z (x ∷ before) code refused
