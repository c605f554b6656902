use Rattle.std.proofs.Common.{sym, subst}
use Rattle.router.specs.Tables.{Kept, StandsFor}
use Rattle.fabric_core.specs.Processors.{Parts, StandsFor as ProcessorsStandFor}
use Rattle.fabric_core.proofs.Device.{are_connected}
use Rattle.fabric_core.proofs.attributes.get_attribute.Goals as goal

pub returns-clause-outcome : goal.returns-clause-outcome
returns-clause-outcome c = λ z h tables processors.
    let st = subst (λ (m : Kept). StandsFor m z h) (sym c.tables.view_is) tables in
    let ps = subst (λ (p : Parts). ProcessorsStandFor p z h) (sym c.processors.view_is) processors in
    c.get_attr.ensures.outcome z h (record { processors = ps.processors; ends_are = st.ends; connected = are_connected _ z h ps })
