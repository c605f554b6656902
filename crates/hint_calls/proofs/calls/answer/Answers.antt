use Rattle.std.proofs.Common.{sym, ◌∙◌, ap}
use Rattle.xv_model.specs.call.Hypercalls.{call_reply}
use Rattle.hint_calls.proofs.calls.answer.Goals as goal

pub returns-in-Reset-clause-reply : goal.returns-in-Reset-clause-reply
returns-in-Reset-clause-reply c = λ z h st. c.reset.ensures.reply z h ∙ ap (call_reply z h) (sym c.in-Reset.is)
