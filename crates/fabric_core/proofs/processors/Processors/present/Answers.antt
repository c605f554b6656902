use Rattle.std.proofs.Common.{◌<◌, length, sym, subst}
use Rattle.fabric_core.proofs.processors.Processors.present.Goals as goal
use Rattle.fabric_core.specs.Processors.{StandsFor}
use Rattle.fabric_core.proofs.Presents.{presents}

pub returns-clause-stands : goal.returns-clause-stands
returns-clause-stands c = λ z h actor i escalates s.
    presents (record { vps = c.self.inside.vps; rings = c.self.inside.rings }) (record { vps = c.present.new.vps; rings = c.present.new.rings }) z h actor i c.args.v c.args.priority c.present.result escalates c.args.backlog
    (subst (λ p. StandsFor p z h) (sym c.self.view_is) s) c.self.invariant (subst (λ p. c.args.v < length p.vps.vps) (sym c.self.view_is) c.requires.processor) c.requires.priority c.present.ensures.presented (record {
      ring = c.present.ensures.ring;
      rings = c.present.ensures.rings;
      backlog = c.present.ensures.backlog;
      vps = c.present.ensures.vps;
      servers = c.present.ensures.servers;
    })
