use Rattle.std.proofs.Common.{sym, ◌∙◌, subst}
use Rattle.std.specs.Prelude.{All}
use Rattle.end_queue.specs.Ends.{HasCountsAtMost}
use Rattle.router.specs.Tables.{Kept, StandsFor}
use Rattle.fabric_core.proofs.Called.{called_stands}
use Rattle.fabric_core.proofs.hypercalls.call_tables.Goals as goal

pub returns-clause-tables : goal.returns-clause-tables
returns-clause-tables c = λ z h actor before.
    let st = subst (λ (m : Kept). StandsFor m z h) (sym c.tables.view_is) before in
    called_stands _ z h actor c.args.number c.args.args.now c.call.result c.call.new.eas c.call.new.ends st (c.call.ensures.eases z h actor st.eases) (c.call.ensures.ends z h actor st.ends)

pub returns-clause-refused : goal.returns-clause-refused
returns-clause-refused c = λ fails.
    let same = c.call.ensures.refused fails in
    let t = c.tables.inside in
    (λ i. record { board = t.board; eases = same.0 i; routes = t.routes.items; ends = same.1 i; messages = t.messages.items }) ∙ c.tables.view_is

pub returns-clause-counts : goal.returns-clause-counts
returns-clause-counts c = λ n before. c.call.ensures.counts n (subst (λ (m : Kept). All (HasCountsAtMost n) m.ends) (sym c.tables.view_is) before)
