use Rattle.std.proofs.Common.{◌<◌, ◌+◌, List, length, rules, subst, sym}
use Rattle.std.specs.Prelude.{All}
use Rattle.xv_model.specs.declared.messages.Message.{Message}
use Rattle.xv_model.specs.source.Eas.{masked_off}
use Rattle.end_queue.specs.declared.ends.EndRecord.{EndRecord}
use Rattle.end_queue.specs.Ends.{HasCountsAtMost}
use Rattle.end_queue.specs.Accounts.{IsEnd}
use Rattle.router.specs.Messages.{IsMessage}
use Rattle.router.specs.Tables.{Kept, StandsFor}
use Rattle.eas_table.specs.Table.{IsEas}
use Rattle.router.specs.Routing.{write_in}
use Rattle.router.proofs.Memory.{routed_memory, routed_size}
use Rattle.router.proofs.Ranges.{ends_in_range, ends_counted}
use Rattle.router.proofs.Routed.{route_stands, route_answer, full_answer}
use Rattle.router.proofs.Sent.{messages_in_range}
use Rattle.router.proofs.tables.Tables.route.Goals as goal

pub returns-then-len-eq-MOST_MESSAGES-clause-outcome : goal.returns-then-len-eq-MOST_MESSAGES-clause-outcome
returns-then-len-eq-MOST_MESSAGES-clause-outcome c = λ z h before is_f.
    let st = subst (λ (m : Kept). StandsFor m z h) (sym c.self.view_is) before in
    let inside = subst (λ (m : Kept). c.args.s < m.board.limits.sources) (sym c.self.view_is) c.requires.source in
    full_answer _ z h c.args.s c.args.forwards c.index-k.result.now st inside c.index-k.ensures is_f c.if-forwards-k.false (search rules)

pub invariant_of-self : goal.invariant_of-self
invariant_of-self c =
    let i = c.self.inside in
    let k = c.self.invariant in
    let a = c.get-eas.result in
    let inside : c.args.s < i.board.limits.sources = subst (λ (m : Kept). c.args.s < m.board.limits.sources) (sym c.self.view_is) c.requires.source in
    let range : IsEas i.board a = subst (IsEas i.board) (sym c.get-eas.ensures.value) (k.4 c.args.s masked_off (search rules)) in
    let end : a.end < length i.ends = search rules in (
      k.0,
      k.1,
      k.2,
      search rules,
      k.4,
      subst (λ (ends : List EndRecord). All (IsEnd i.board) ends) (sym c.route_by_eas-routed.ensures.ends) (ends_in_range i.board i.ends a end k.5),
      search rules,
      search rules,
      subst (λ (messages : List Message). All (IsMessage i.board) messages) (sym c.route_by_eas-routed.ensures.messages)
          (messages_in_range i.board c.args.s i.ends a i.messages.items end k.3 k.5 k.8),
    )

pub returns-clause-outcome : goal.returns-clause-outcome
returns-clause-outcome c = λ z h before is_f.
    let i = c.self.inside in
    let k = c.self.invariant in
    let a = c.get-eas.result in
    let st = subst (λ (m : Kept). StandsFor m z h) (sym c.self.view_is) before in
    let inside : c.args.s < i.board.limits.sources = subst (λ (m : Kept). c.args.s < m.board.limits.sources) (sym c.self.view_is) c.requires.source in
    let range : IsEas i.board a = subst (IsEas i.board) (sym c.get-eas.ensures.value) (k.4 c.args.s masked_off (search rules)) in
    route_answer _ z h c.args.s c.args.forwards c.index-k.result.now a c.route_by_eas-routed.result st inside
    c.index-k.ensures c.get-eas.ensures.value range.end is_f c.if-forwards-k.false (search rules) c.route_by_eas-routed.ensures.routed

pub returns-clause-stands : goal.returns-clause-stands
returns-clause-stands c = λ z h actor before is_f.
    let i = c.self.inside in
    let k = c.self.invariant in
    let a = c.get-eas.result in
    let step = c.route_by_eas-routed in
    let st = subst (λ (m : Kept). StandsFor m z h) (sym c.self.view_is) before in
    let inside : c.args.s < i.board.limits.sources = subst (λ (m : Kept). c.args.s < m.board.limits.sources) (sym c.self.view_is) c.requires.source in
    let range : IsEas i.board a = subst (IsEas i.board) (sym c.get-eas.ensures.value) (k.4 c.args.s masked_off (search rules)) in
    route_stands _ z h c.args.s actor c.index-k.result.now a step.result step.new.ends step.new.messages.items st inside
    c.index-k.ensures range.end step.ensures.routed step.ensures.ends step.ensures.messages

pub returns-clause-counts : goal.returns-clause-counts
returns-clause-counts c = λ n before.
    let i = c.self.inside in
    let k = c.self.invariant in
    let a = c.get-eas.result in
    let inside : c.args.s < i.board.limits.sources = subst (λ (m : Kept). c.args.s < m.board.limits.sources) (sym c.self.view_is) c.requires.source in
    let range : IsEas i.board a = subst (IsEas i.board) (sym c.get-eas.ensures.value) (k.4 c.args.s masked_off (search rules)) in
    let end : a.end < length i.ends = search rules in
    subst (λ (ends : List EndRecord). All (HasCountsAtMost (n + 1)) ends) (sym c.route_by_eas-routed.ensures.ends)
    (ends_counted n i.ends a end (subst (λ (m : Kept). All (HasCountsAtMost n) m.ends) (sym c.self.view_is) before))

pub returns-clause-memory : goal.returns-clause-memory
returns-clause-memory c = λ z h actor st.
    let step = c.route_by_eas-routed in
    routed_memory c.args.ram.now step.new.ram z h actor c.args.s _ step.result st step.ensures.fits step.ensures.ram

pub returns-clause-size : goal.returns-clause-size
returns-clause-size c = routed_size c.args.ram.now c.route_by_eas-routed.new.ram (write_in c.route_by_eas-routed.result) c.route_by_eas-routed.ensures.ram
