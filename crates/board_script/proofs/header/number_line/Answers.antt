use Rattle.std.proofs.Common.{◌∙◌, refl}
use Rattle.board_script.specs.Header.{number_row}
use Rattle.board_script.proofs.HeaderLines.{only_row}
use Rattle.board_script.proofs.header.number_line.Goals as goal

pub returns : goal.returns
returns c =
    c.number.ensures c.args.words.now
    ∙ only_row (number_row c.args.name.now c.args.low c.args.most) c.args.words.now c.first.new.words _ refl c.in_ok-first.ensures.value c.in_ok-first.ensures.rest
