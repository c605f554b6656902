use Rattle.std.proofs.Common.{sym, subst}
use Rattle.fabric_core.specs.Fabric.{Held, StandsFor}
use Rattle.fabric_core.proofs.fabric.Fabric.ring.Goals as goal

pub returns : goal.returns
returns c = λ z h st.
    let inside = subst (λ (f : Held). StandsFor f z h) (sym c.self.view_is) st in
    c.ring.ensures z h inside.processors
