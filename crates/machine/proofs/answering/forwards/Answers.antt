use Rattle.std.proofs.Common.{◌≡◌, false, length, slice_index_or, refl, sym, ◌∙◌, ap}
use Rattle.std.proofs.lemmas.List.{get_or_read_under}
use Rattle.esb_pq.specs.Word.{SourceParts}
use Rattle.machine.proofs.Stepping.{forwards_asked}
use Rattle.machine.proofs.answering.forwards.Goals as goal

pub bounds-words-s : goal.bounds-words-s
bounds-words-s c = c.requires.op c.in-Route.s c.in-Route.is

-- the word of the source
found : (c : goal.After-count) → c.index-words-s.result ≡ slice_index_or c.args.words.now c.in-Route.s (record { pq = 0; asserted = false; count = 0 })
found c = get_or_read_under c.args.words.now c.in-Route.s (length c.args.words.now) c.index-words-s.result _ c.index-words-s.is (c.requires.op c.in-Route.s c.in-Route.is) refl

pub returns-in-Route : goal.returns-in-Route
returns-in-Route c =
    c.count.ensures.value ∙ ap (λ (w : SourceParts). w.count) (found c) ∙ sym (forwards_asked c.args.words.now c.args.op.now c.in-Route.s c.in-Route.is)
