use Rattle.std.proofs.Common.{◌≡◌, ◌<◌, ◌*◌, true, List, length, rules, subst, sym, ◌∙◌, ap, length-set}
use Rattle.std.specs.Prelude.{All}
use Rattle.std.proofs.lemmas.List.Elements.{All-set, All-get_or}
use Rattle.xv_base.specs.Limits.{ends_per_processor}
use Rattle.xv_model.specs.end.Flags.{is_valid}
use Rattle.end_queue.specs.declared.ends.EndRecord.{EndRecord}
use Rattle.end_queue.specs.Ends.{first_end, end_in, HasCountsAtMost}
use Rattle.end_queue.specs.Accounts.{IsEnd}
use Rattle.router.specs.Pages.{after_load}
use Rattle.router.specs.Tables.{Kept, StandsFor}
use Rattle.router.proofs.Loaded.{load_answer, loaded_stands, loaded_in_range, loaded_counted}
use Rattle.router.proofs.tables.Tables.access_end.Goals as goal

inside : (c : goal.After-load_state) → c.args.e < length c.self.inside.ends
inside c = search rules

-- the END is valid
valid : (c : goal.After-load_state) → is_valid (end_in c.self.inside.ends c.args.e).config ≡ true
valid c = search rules

pub invariant_of-self : goal.invariant_of-self
invariant_of-self c =
    let i = c.self.inside in
    let k = c.self.invariant in
    let r = after_load (end_in i.ends c.args.e) c.args.page c.args.offset in
    let old : IsEnd i.board (end_in i.ends c.args.e) = All-get_or (IsEnd i.board) i.ends c.args.e first_end (inside c) k.5 in
    let set = c.load_state.ensures.ends in (
      k.0,
      k.1,
      k.2,
      ap length set ∙ length-set i.ends c.args.e r ∙ k.3,
      k.4,
      subst (λ (ends : List EndRecord). All (IsEnd i.board) ends) (sym set) (All-set (IsEnd i.board) i.ends c.args.e r (loaded_in_range i.board (end_in i.ends c.args.e) c.args.page c.args.offset old) k.5),
      k.6,
      k.7,
      k.8,
    )

pub returns-clause-outcome : goal.returns-clause-outcome
returns-clause-outcome c = λ z h before.
    let st = subst (λ (m : Kept). StandsFor m z h) (sym c.self.view_is) before in
    let below = subst (λ (m : Kept). c.args.e < ends_per_processor * m.board.limits.processors) (sym c.self.view_is) c.requires.end in
    load_answer _ z h c.args.e c.args.page c.args.offset c.args.store c.load_state.result st below c.if-store.false (valid c) c.load_state.ensures.outcome

pub returns-clause-stands : goal.returns-clause-stands
returns-clause-stands c = λ z h actor before.
    let st = subst (λ (m : Kept). StandsFor m z h) (sym c.self.view_is) before in
    let below = subst (λ (m : Kept). c.args.e < ends_per_processor * m.board.limits.processors) (sym c.self.view_is) c.requires.end in
    loaded_stands _ z h actor c.args.e c.args.page c.args.offset c.args.store c.load_state.new.ends c.load_state.result st below c.requires.page c.load_state.ensures.outcome c.load_state.ensures.ends

pub returns-clause-counts : goal.returns-clause-counts
returns-clause-counts c = λ n before.
    let i = c.self.inside in
    let r = after_load (end_in i.ends c.args.e) c.args.page c.args.offset in
    let all = subst (λ (m : Kept). All (HasCountsAtMost n) m.ends) (sym c.self.view_is) before in
    let old : HasCountsAtMost n (end_in i.ends c.args.e) = All-get_or (HasCountsAtMost n) i.ends c.args.e first_end (inside c) all in
    subst (λ (ends : List EndRecord). All (HasCountsAtMost n) ends) (sym c.load_state.ensures.ends)
    (All-set (HasCountsAtMost n) i.ends c.args.e r (loaded_counted n (end_in i.ends c.args.e) c.args.page c.args.offset old) all)
