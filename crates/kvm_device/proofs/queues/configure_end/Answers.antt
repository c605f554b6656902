use Rattle.std.proofs.Common.{ℕ, ◌<◌, ◌==◌, if◌then◌else◌, List, length, Some, rules, arith, sym, ◌∙◌, ap, subst, slice_get}
use Rattle.std.specs.Prelude.{All}
use Rattle.std.proofs.lemmas.List.Elements.{All-set}
use Rattle.xv_model.specs.end.Descriptors.{config_set}
use Rattle.xv_model.proofs.Elements.{set_by}
use Rattle.end_queue.specs.declared.ends.EndRecord.{EndRecord}
use Rattle.end_queue.specs.Accounts.{IsEnd}
use Rattle.end_queue.specs.Ends.{HasCountsAtMost, configured, first_end}
use Rattle.end_queue.proofs.Placing.{narrow}
use Rattle.end_queue.proofs.Ranges.{configured_in_range}
use Rattle.kvm_device.proofs.Configured.{set_at}
use Rattle.kvm_device.proofs.queues.configure_end.Goals as goal

pub configure-requires-clause-narrow : goal.configure-requires-clause-narrow
configure-requires-clause-narrow c = narrow c.args.board.now c.config_of-config.result c.requires.board c.config_of-config.ensures.valid

pub returns-clause-ends : goal.returns-clause-ends
returns-clause-ends c = λ j r there.
    let ends = c.args.ends.now in
    let args = c.args.args.now in
    let e = c.end_of-e.result in
    let config = c.config_of-config.result in
    let inside : e < length ends = search rules in
    ap (λ (es : List EndRecord). slice_get es j) c.configure.ensures
    ∙ set_by ends e (configured config) first_end (λ k. configured (config_set args)) inside (ap configured c.config_of-config.ensures.value) j r there
    ∙ ap Some (ap (λ (n : ℕ). if n == j then configured (config_set args) else r) c.end_of-e.ensures ∙ set_at args j r)

pub returns-clause-in_range : goal.returns-clause-in_range
returns-clause-in_range c =
    let b = c.args.board.now in
    let config = c.config_of-config.result in
    subst (λ (es : List EndRecord). All (IsEnd b) es) (sym c.configure.ensures)
    (All-set (IsEnd b) c.args.ends.now c.end_of-e.result (configured config) (configured_in_range b config c.config_of-config.ensures.valid) c.requires.in_range)

pub returns-clause-counts : goal.returns-clause-counts
returns-clause-counts c = λ n before.
    subst (λ (es : List EndRecord). All (HasCountsAtMost n) es) (sym c.configure.ensures)
    (All-set (HasCountsAtMost n) c.args.ends.now c.end_of-e.result (configured c.config_of-config.result) (record { written = omega arith; taken = omega arith }) before)
