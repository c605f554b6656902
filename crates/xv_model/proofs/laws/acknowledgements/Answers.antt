use Rattle.xv_model.proofs.AcknowledgementLaws.{each_accepts_most_favoured, each_answers_accepted, each_leaves_alone, each_leaves_all}
use Rattle.xv_model.proofs.laws.acknowledgements.Goals as goal

pub returns-clause-most_favoured : goal.returns-clause-most_favoured
returns-clause-most_favoured c = each_accepts_most_favoured

pub returns-clause-answers : goal.returns-clause-answers
returns-clause-answers c = each_answers_accepted

pub returns-clause-leaves_alone : goal.returns-clause-leaves_alone
returns-clause-leaves_alone c = each_leaves_alone

pub returns-clause-leaves_all : goal.returns-clause-leaves_all
returns-clause-leaves_all c = each_leaves_all
