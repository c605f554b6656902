-- The settings of the KVM device's attributes that a legal account has accepted: their checks hold.
use Rattle.std.proofs.Common.{◌≡◌, Bool, true, false, if◌then◌else◌, List, Option, Some, None, option_and_then, refl, sym, ◌∙◌, ap, subst}
use Rattle.std.specs.Option.{option_map_or}
use Rattle.xv_model.specs.declared.kvm.errors.TheConstants.{ENXIO}
use Rattle.xv_model.specs.declared.kvm.Attribute.{Attribute}
use Rattle.xv_model.specs.declared.kvm.Setting.{Setting}
use Rattle.xv_model.specs.declared.operations.AttrValue.{AttrValue}
use Rattle.xv_model.specs.declared.operations.Op.{Op}
use Rattle.xv_model.specs.declared.operations.Op.TheVariants as op
use Rattle.xv_model.specs.declared.entries.Entry.{Entry}
use Rattle.xv_model.specs.account.Start.{Start}
use Rattle.xv_model.specs.account.Legal.{IsNext, legal}
use Rattle.xv_model.specs.call.Accepted.{is_success}
use Rattle.xv_model.specs.call.Checks.{code_of}
use Rattle.xv_model.specs.device.Attributes.{attribute_of, setting_of}
use Rattle.xv_model.specs.device.Accepted.{setting_in}
use Rattle.xv_model.specs.device.Checks.{setting_checks}
use Rattle.xv_model.specs.device.Answers.{setting_code}

-- all checks of a setting after an account hold
abbrev pub Passes : Start → List Entry → Setting → Type 0
Passes z h c = is_success (code_of (setting_checks z h c)) ≡ true

-- what is accepted of a value that has the form of its attribute
passes_by : (z : Start) (h : List Entry) (m : Option Setting) (c : Setting) → (if is_success (setting_code z h m) then m else None) ≡ Some c → Passes z h c
passes_by z h None c e = cc
passes_by z h (Some d) c e = by (is_success (code_of (setting_checks z h d))) refl e
  where
    by : (accepted : Bool) → is_success (code_of (setting_checks z h d)) ≡ accepted → (if accepted then Some d else None) ≡ Some c → Passes z h c
    by true is e = let same : d ≡ c = cc in subst (Passes z h) same is
    by false is e = cc

-- and of an attribute that there is
passes_of : (z : Start) (h : List Entry) (m : Option Attribute) (value : AttrValue) (c : Setting) →
    (if is_success (option_map_or (λ a. setting_code z h (setting_of a value)) m ENXIO) then option_and_then (λ a. setting_of a value) m else None) ≡ Some c → Passes z h c
passes_of z h None value c e = cc
passes_of z h (Some a) value c e = passes_by z h (setting_of a value) c e

passes_legal : (z : Start) (h : List Entry) (o : Op) (c : Setting) → setting_in o (legal z h o) ≡ Some c → Passes z h c
passes_legal z h (op.AttrSet group number value) c e = passes_of z h (attribute_of group number) value c e
passes_legal z h _ c e = cc

-- the checks of the next entry's setting hold, where that is accepted
pub accepted_passes : (z : Start) (h : List Entry) (x : Entry) (c : Setting) → IsNext z h x → setting_in x.op x.outcome ≡ Some c → Passes z h c
accepted_passes z h x c n is = passes_legal z h x.op c (ap (setting_in x.op) (sym n.outcome) ∙ is)
