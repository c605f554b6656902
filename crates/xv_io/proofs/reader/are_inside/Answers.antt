use Rattle.std.proofs.Common.{◌&&◌, ◌∙◌}
use Rattle.xv_base.proofs.Eights.{all_of_eight}
use Rattle.xv_io.specs.Reader.{is_inside}
use Rattle.xv_io.proofs.reader.are_inside.Goals as goal

pub returns : goal.returns
returns c =
    (λ i. (((c.is_inside.ensures i && c.is_inside-in-len8.ensures i) && c.is_inside-in-len8-2.ensures i) && c.is_inside-in-len8-3.ensures i)
    && (((c.is_inside-in-len8-4.ensures i && c.is_inside-in-len8-5.ensures i) && c.is_inside-in-len8-6.ensures i) && c.is_inside-in-len8-7.ensures i))
    ∙ all_of_eight is_inside c.args.eight.now c.requires
