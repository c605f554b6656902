use Rattle.std.proofs.Common.{sym, ◌∙◌, ap, subst}
use Rattle.board_script.specs.Words.{answer_with}
use Rattle.board_script.specs.Lines.{IsSaidAt}
use Rattle.board_script.specs.Stage.{stage_after, IsBoardAt}
use Rattle.board_script.specs.Parser.{Parsing}
use Rattle.board_script.proofs.Fitting.{fits_read}
use Rattle.board_script.proofs.Staying.{stays}
use Rattle.board_script.proofs.parser.Parser.read.Goals as goal

pub advance-requires : goal.advance-requires
advance-requires c = fits_read c.self.inside.stage c.self.inside.board c.args.line.now _ c.self.invariant.is_board (sym c.read.ensures.value ∙ ap (λ r. answer_with r c.read.new.said) c.in-Ok.is)

pub invariant_of-self : goal.invariant_of-self
invariant_of-self c =
    let fit = fits_read c.self.inside.stage c.self.inside.board c.args.line.now _ c.self.invariant.is_board (sym c.read.ensures.value ∙ ap (λ r. answer_with r c.read.new.said) c.in-Ok.is) in
    let is = stays c.self.inside.stage c.self.inside.board c.read.new.said c.self.invariant fit in
    subst (λ s. IsBoardAt s c.advance.new.board) (sym c.advance.ensures.stage) (subst (IsBoardAt (stage_after c.self.inside.stage c.read.new.said)) (sym c.advance.ensures.board) is)

pub returns-in-Ok-clause-fits : goal.returns-in-Ok-clause-fits
returns-in-Ok-clause-fits c =
    subst (λ (p : Parsing). IsSaidAt p.stage p.board c.read.new.said) c.self.view_is
    (fits_read c.self.inside.stage c.self.inside.board c.args.line.now _ c.self.invariant.is_board (sym c.read.ensures.value ∙ ap (λ r. answer_with r c.read.new.said) c.in-Ok.is))
