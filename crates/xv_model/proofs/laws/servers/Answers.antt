use Rattle.xv_model.proofs.ServerLaws.{each_has_servers}
use Rattle.xv_model.proofs.laws.servers.Goals as goal

pub returns : goal.returns
returns c = record { servers = each_has_servers }
