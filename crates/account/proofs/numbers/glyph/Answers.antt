use Rattle.account.proofs.Digits.{glyph_at}
use Rattle.account.proofs.numbers.glyph.Goals as goal

pub returns : goal.returns
returns c = glyph_at c.args.value c.requires
