use Rattle.std.proofs.Common.{◌<◌, ◌*◌, List, length, rules, subst, sym, ◌∙◌, ap, length-set}
use Rattle.std.specs.Prelude.{All, ◌/◌}
use Rattle.std.proofs.lemmas.List.Elements.{All-get_or, All-set}
use Rattle.end_queue.specs.declared.ends.EndRecord.{EndRecord}
use Rattle.end_queue.specs.Accounts.{IsEnd}
use Rattle.end_queue.specs.Ends.{first_end, end_in, HasCountsAtMost}
use Rattle.end_queue.specs.Queues.{entered}
use Rattle.kvm_device.proofs.tests.device.Device.enqueue.Goals as goal

pub invariant_of-self : goal.invariant_of-self
invariant_of-self g c =
    let i = c.self.inside in
    let k = c.self.invariant in
    let r = end_in i.ends c.args.e in
    let set = c.enqueue.ensures.ends in
    let inside : c.args.e < length i.ends = search rules in
    let here : IsEnd i.board r = All-get_or (IsEnd i.board) i.ends c.args.e first_end inside k.6 in
    let few : HasCountsAtMost 16 r = All-get_or (HasCountsAtMost 16) i.ends c.args.e first_end inside k.7 in
    let one_more : HasCountsAtMost 16 (entered r) = record { written = search rules; taken = few.taken } in (
      k.0,
      k.1,
      ap length set ∙ length-set i.ends c.args.e (entered r) ∙ k.2,
      k.3,
      ap (λ words. 4 * length words) c.enqueue.ensures.ram ∙ ap (λ n. 4 * n) (length-set i.ram (c.enqueue.result.addr / 4) c.enqueue.result.word) ∙ k.4,
      k.5,
      subst (λ (ends : List EndRecord). All (IsEnd i.board) ends) (sym set) (All-set (IsEnd i.board) i.ends c.args.e (entered r) (record { config = here.config; esn = here.esn; ese = here.ese }) k.6),
      subst (λ (ends : List EndRecord). All (HasCountsAtMost 16) ends) (sym set) (All-set (HasCountsAtMost 16) i.ends c.args.e (entered r) one_more k.7),
    )
