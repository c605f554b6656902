-- What ENDs represent after the entry of an attribute that was set.
use Rattle.std.proofs.Common.{ℕ, ℤ, ◌≡◌, Bool, true, false, if◌then◌else◌, List, ◌∷◌, Option, Some, None, refl, ◌∙◌, ap, slice_get}
use Rattle.xv_model.specs.declared.kvm.Setting.{Setting}
use Rattle.xv_model.specs.declared.operations.AttrValue.{AttrValue}
use Rattle.xv_model.specs.declared.operations.Op.TheVariants as op
use Rattle.xv_model.specs.declared.outcomes.Outcome.TheVariants as out
use Rattle.xv_model.specs.declared.entries.Entry.{Entry}
use Rattle.xv_model.specs.account.Start.{Start}
use Rattle.xv_model.specs.call.Accepted.{is_success}
use Rattle.xv_model.specs.device.Attributes.{setting_by}
use Rattle.end_queue.specs.declared.ends.EndRecord.{EndRecord}
use Rattle.end_queue.specs.Accounts.{StandsFor, record_of}
use Rattle.end_queue.proofs.Entering.{after_setting, each_stands}
use Rattle.kvm_device.specs.Changes.{accepted_by, end_by_setting}

abbrev entry : ℕ → ℕ → ℕ → AttrValue → ℤ → Entry
entry actor group number value code = record { actor = actor; op = op.AttrSet group number value; outcome = out.Code code }

-- the setting of an attribute that there is, where it is accepted
named : (accepted : Bool) (m : Option Setting) (c : Setting) → m ≡ Some c → (if accepted then m else None) ≡ (if accepted then Some c else None)
named true m c is = is
named false m c is = refl

-- the ENDs change by a setting
pub ends_stand : (ends ends' : List EndRecord) (z : Start) (h : List Entry) (actor group number : ℕ) (value : AttrValue) (code : ℤ) (c : Setting) → setting_by group number value ≡ Some c →
    ((e : ℕ) (k : EndRecord) → slice_get ends e ≡ Some k → slice_get ends' e ≡ Some (end_by_setting (accepted_by code c) e k)) → StandsFor ends z h → StandsFor ends' z (entry actor group number value code ∷ h)
ends_stand ends ends' z h actor group number value code c is each st =
    each_stands ends ends' z h (entry actor group number value code) (λ e k. end_by_setting (accepted_by code c) e k) st each
    (λ e. after_setting z h actor group number value code e ∙ ap (λ m. end_by_setting m e (record_of z h e)) (named (is_success code) (setting_by group number value) c is))
