use Rattle.fabric_core.proofs.Starting.{memory_stands}
use Rattle.fabric_core.proofs.fabric.Fabric.build.Goals as goal

pub returns-clause-stands : goal.returns-clause-stands
returns-clause-stands c = record {
  tables = (c.in_ok-build.ensures {u = tt}).stands;
  memory = memory_stands c.args.board.now c.in_ok-new.field-0 (c.in_ok-new.ensures {u = tt});
  processors = (c.in_ok-build-2.ensures {u = tt}).stands;
}
