use Rattle.xv_model.proofs.FreshPages.{zeros_are_fresh, start_is_fresh, zeroed_is_fresh}
use Rattle.xv_model.proofs.laws.fresh_pages.Goals as goal

pub returns-clause-zeros : goal.returns-clause-zeros
returns-clause-zeros c = zeros_are_fresh

pub returns-clause-at_start : goal.returns-clause-at_start
returns-clause-at_start c = start_is_fresh

pub returns-clause-zeroed : goal.returns-clause-zeroed
returns-clause-zeroed c = zeroed_is_fresh
