use Rattle.std.proofs.Common.{◌++◌, ◌∙◌, ap}
use Rattle.account.proofs.Ranges.{five_more}
use Rattle.account.proofs.header.add_header.Goals as goal

pub returns-clause-items : goal.returns-clause-items
returns-clause-items g c =
    five_more c.args.text.now.items _ _ _ _ _ _ _ _ _ _ c.add.ensures.items c.add_counts.ensures.items (c.add-2.ensures.items ∙ ap (λ v. c.add_counts.new.text.items ++ v) c.esb.ensures) c.add_board_ranges.ensures.items c.add-3.ensures.items
