use Rattle.std.proofs.Common.{arith}
use Rattle.xv_io.proofs.Places.{moves_front}
use Rattle.xv_io.proofs.reader.make_room.Goals as goal

pub returns-clause-moved : goal.returns-clause-moved
returns-clause-moved c = moves_front c.args.piece.now c.copy_within.new.self _ c.args.start c.args.len c.copy_within.ensures.after (omega (arith, c.requires.fits, c.told-piece))
