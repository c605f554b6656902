use Rattle.std.proofs.Common.{◌∙◌, refl}
use Rattle.board_script.specs.Header.{pages_row}
use Rattle.board_script.proofs.HeaderLines.{only_row}
use Rattle.board_script.proofs.header.pages_line.Goals as goal

pub returns : goal.returns
returns c =
    c.pages.ensures c.args.words.now ∙ only_row pages_row c.args.words.now c.first.new.words _ refl c.in_ok-first.ensures.value c.in_ok-first.ensures.rest
