use Rattle.std.proofs.Common.{◌≡◌, ◌<◌, ◌+◌, ◌*◌, true, List, length, rules, subst, sym, ◌∙◌, ap}
use Rattle.std.specs.Prelude.{All}
use Rattle.std.proofs.lemmas.List.Elements.{All-get_or}
use Rattle.xv_base.specs.Limits.{ends_per_processor}
use Rattle.xv_model.specs.board.Validity.{ram_size}
use Rattle.end_queue.specs.declared.ends.EndRecord.{EndRecord}
use Rattle.end_queue.specs.Ends.{first_end, end_in, has_queue, HasCountsAtMost, HasPage}
use Rattle.end_queue.specs.Accounts.{IsEnd}
use Rattle.router.specs.Tables.{Kept, StandsFor}
use Rattle.end_queue.proofs.Placing.{page_inside}
use Rattle.router.proofs.Ranges.{read_in_range, read_counted, read_len}
use Rattle.router.proofs.Read.{read_stands, read_answer}
use Rattle.router.proofs.tables.Tables.read.Goals as goal

inside : (c : goal.After-read) → c.args.e < length c.self.inside.ends
inside c = search rules

page : (c : goal.After-read) → has_queue (end_in c.self.inside.ends c.args.e).config ≡ true → HasPage (length c.args.ram.now) (end_in c.self.inside.ends c.args.e).config
page c q =
    let i = c.self.inside in
    let here : IsEnd i.board (end_in i.ends c.args.e) = All-get_or (IsEnd i.board) i.ends c.args.e first_end (inside c) c.self.invariant.5 in
    page_inside i.board (end_in i.ends c.args.e).config (length c.args.ram.now) here.config (subst (λ (m : Kept). 4 * length c.args.ram.now ≡ ram_size m.board) (sym c.self.view_is) c.requires.memory) q

pub invariant_of-self : goal.invariant_of-self
invariant_of-self c =
    let i = c.self.inside in
    let k = c.self.invariant in
    let set = c.read.ensures.ends in (
      k.0,
      k.1,
      k.2,
      ap length set ∙ read_len i.ends c.args.e c.read.result ∙ k.3,
      k.4,
      subst (λ (ends : List EndRecord). All (IsEnd i.board) ends) (sym set) (read_in_range i.board i.ends c.args.e c.read.result (inside c) k.5),
      k.6,
      k.7,
      k.8,
    )

pub returns-clause-outcome : goal.returns-clause-outcome
returns-clause-outcome c = λ z h before words.
    let st = subst (λ (m : Kept). StandsFor m z h) (sym c.self.view_is) before in
    let below = subst (λ (m : Kept). c.args.e < ends_per_processor * m.board.limits.processors) (sym c.self.view_is) c.requires.end in
    read_answer _ c.args.ram.now z h c.args.e c.read.result st words below (page c) c.read.ensures.outcome

pub returns-clause-stands : goal.returns-clause-stands
returns-clause-stands c = λ z h actor before.
    let st = subst (λ (m : Kept). StandsFor m z h) (sym c.self.view_is) before in
    let below = subst (λ (m : Kept). c.args.e < ends_per_processor * m.board.limits.processors) (sym c.self.view_is) c.requires.end in
    read_stands _ z h actor c.args.e c.read.result c.read.new.self st below c.read.ensures.ends

pub returns-clause-counts : goal.returns-clause-counts
returns-clause-counts c = λ n before.
    let i = c.self.inside in
    subst (λ (ends : List EndRecord). All (HasCountsAtMost (n + 1)) ends) (sym c.read.ensures.ends)
    (read_counted n i.ends c.args.e c.read.result (inside c) (subst (λ (m : Kept). All (HasCountsAtMost n) m.ends) (sym c.self.view_is) before))
