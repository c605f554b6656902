use Rattle.std.proofs.Common.{ℕ, ℤ, ◌≡◌, Some, option_and_then, rules, sym, ◌∙◌, ap, subst, slice_get, to_z, of_z, w32}
use Rattle.xv_model.specs.device.Attributes.{setting_by, setting_of}
use Rattle.end_queue.specs.declared.ends.EndRecord.{EndRecord}
use Rattle.kvm_device.specs.Changes.{accepted_by, end_by_setting}
use Rattle.kvm_device.proofs.Entering.{ends_stand}
use Rattle.kvm_device.proofs.attributes.set_attr.Goals as goal

pub returns-clause-ends : goal.returns-clause-ends
returns-clause-ends c = λ z h actor st.
    let ends = c.args.ends.now in
    let then = c.set.new.ends in
    let value = c.args.value in
    let setting = c.in-Some-from_value.setting in
    let code = c.set.result in
    let same : code ≡ to_z w32 (of_z w32 code) = search rules in
    let named : setting_by c.args.group c.args.attr value ≡ Some setting =
    ap (option_and_then (λ a. setting_of a value)) (sym c.from_number.ensures ∙ c.in-Some.is) ∙ sym c.from_value.ensures ∙ c.in-Some-from_value.is in
    ends_stand ends then z h actor c.args.group c.args.attr value (to_z w32 (of_z w32 code)) setting named
    (subst (λ (n : ℤ). (e : ℕ) (k : EndRecord) → slice_get ends e ≡ Some k → slice_get then e ≡ Some (end_by_setting (accepted_by n setting) e k)) same c.set.ensures.ends) st
