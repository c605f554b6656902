use Rattle.std.proofs.Common.{◌≡◌, ◌<◌, ◌*◌, true, List, length, subst, sym, ◌∙◌, ap, arith, length-set}
use Rattle.std.specs.Prelude.{All}
use Rattle.std.proofs.lemmas.List.Elements.{All-set}
use Rattle.xv_base.specs.Limits.{ends_per_processor}
use Rattle.xv_model.specs.board.Validity.{valid_config}
use Rattle.end_queue.specs.declared.ends.EndRecord.{EndRecord}
use Rattle.end_queue.specs.Ends.{configured, HasCountsAtMost}
use Rattle.end_queue.specs.Accounts.{IsEnd}
use Rattle.router.specs.Tables.{Kept, StandsFor}
use Rattle.router.proofs.Configured.{configured_stands}
use Rattle.end_queue.proofs.Placing.{narrow}
use Rattle.end_queue.proofs.Ranges.{configured_in_range}
use Rattle.router.proofs.tables.Tables.configure.Goals as goal

pub configure-requires-clause-narrow : goal.configure-requires-clause-narrow
configure-requires-clause-narrow c =
    let valid = subst (λ (m : Kept). valid_config m.board c.args.config.now ≡ true) (sym c.self.view_is) c.requires.config in
    narrow c.self.inside.board c.args.config.now c.self.invariant.0 valid

pub invariant_of-self : goal.invariant_of-self
invariant_of-self c =
    let i = c.self.inside in
    let k = c.self.invariant in
    let r = configured c.args.config.now in
    let valid = subst (λ (m : Kept). valid_config m.board c.args.config.now ≡ true) (sym c.self.view_is) c.requires.config in
    let set = c.configure.ensures in (
      k.0,
      k.1,
      k.2,
      ap length set ∙ length-set i.ends c.args.e r ∙ k.3,
      k.4,
      subst (λ (ends : List EndRecord). All (IsEnd i.board) ends) (sym set) (All-set (IsEnd i.board) i.ends c.args.e r (configured_in_range i.board c.args.config.now valid) k.5),
      k.6,
      k.7,
      k.8,
    )

pub returns-clause-stands : goal.returns-clause-stands
returns-clause-stands c = λ z h actor before.
    let st = subst (λ (m : Kept). StandsFor m z h) (sym c.self.view_is) before in
    let inside = subst (λ (m : Kept). c.args.e < ends_per_processor * m.board.limits.processors) (sym c.self.view_is) c.requires.end in
    configured_stands _ z h c.args.e actor c.args.config.now c.configure.new.self st inside c.configure.ensures

pub returns-clause-counts : goal.returns-clause-counts
returns-clause-counts c = λ n before.
    let i = c.self.inside in
    let r = configured c.args.config.now in
    let few : HasCountsAtMost n r = record { written = omega arith; taken = omega arith } in
    subst (λ (ends : List EndRecord). All (HasCountsAtMost n) ends) (sym c.configure.ensures)
    (All-set (HasCountsAtMost n) i.ends c.args.e r few (subst (λ (m : Kept). All (HasCountsAtMost n) m.ends) (sym c.self.view_is) before))
