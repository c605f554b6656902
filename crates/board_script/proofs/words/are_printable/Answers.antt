use Rattle.std.proofs.Common.{◌&&◌, ◌∙◌}
use Rattle.board_script.specs.Words.{may_stand}
use Rattle.xv_base.proofs.Eights.{all_of_eight}
use Rattle.board_script.proofs.words.are_printable.Goals as goal

pub returns : goal.returns
returns c =
    (λ i. (((c.is_printable.ensures i && c.is_printable-in-len8.ensures i) && c.is_printable-in-len8-2.ensures i) && c.is_printable-in-len8-3.ensures i)
    && (((c.is_printable-in-len8-4.ensures i && c.is_printable-in-len8-5.ensures i) && c.is_printable-in-len8-6.ensures i) && c.is_printable-in-len8-7.ensures i))
    ∙ all_of_eight may_stand c.args.eight.now c.requires
