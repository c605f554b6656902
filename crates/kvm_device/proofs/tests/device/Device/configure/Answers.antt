use Rattle.std.proofs.Common.{◌≡◌, true, List, rules, arith, subst, sym, ◌∙◌, ap, length, length-set}
use Rattle.std.specs.Prelude.{All}
use Rattle.std.proofs.lemmas.List.Elements.{All-set}
use Rattle.xv_model.specs.board.Validity.{valid_config}
use Rattle.end_queue.specs.declared.ends.EndRecord.{EndRecord}
use Rattle.end_queue.specs.Accounts.{IsEnd}
use Rattle.end_queue.specs.Ends.{HasCountsAtMost, configured}
use Rattle.end_queue.proofs.Placing.{narrow}
use Rattle.end_queue.proofs.Ranges.{configured_in_range}
use Rattle.kvm_device.proofs.tests.device.Device.configure.Goals as goal

pub configure-requires-clause-narrow : goal.configure-requires-clause-narrow
configure-requires-clause-narrow g c =
    let b = c.self.inside.board in
    let valid : valid_config b c.args.config.now ≡ true = search rules in
    narrow b c.args.config.now c.self.invariant.0 valid

pub invariant_of-self : goal.invariant_of-self
invariant_of-self g c =
    let i = c.self.inside in
    let k = c.self.invariant in
    let config = c.args.config.now in
    let valid : valid_config i.board config ≡ true = search rules in
    let set = c.configure.ensures in (
      k.0,
      k.1,
      ap length set ∙ length-set i.ends c.args.e (configured config) ∙ k.2,
      k.3,
      k.4,
      k.5,
      subst (λ (ends : List EndRecord). All (IsEnd i.board) ends) (sym set) (All-set (IsEnd i.board) i.ends c.args.e (configured config) (configured_in_range i.board config valid) k.6),
      subst (λ (ends : List EndRecord). All (HasCountsAtMost 16) ends) (sym set) (All-set (HasCountsAtMost 16) i.ends c.args.e (configured config) (record { written = omega arith; taken = omega arith }) k.7),
    )
