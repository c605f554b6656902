use Rattle.fabric_core.proofs.answering.access_tima.Goals as goal

pub returns-in-Ok-clause-processors : goal.returns-in-Ok-clause-processors
returns-in-Ok-clause-processors c = λ z h actor ps.
    c.access.ensures.stands z h actor c.args.page c.args.offset c.args.size c.args.access ps ((c.decode.ensures.op c.in-Ok.op).0 c.in-Ok.is)
