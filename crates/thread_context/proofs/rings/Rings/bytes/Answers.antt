use Rattle.std.proofs.Common.{ℕ, List, arith, ◌≡◌, ◌∙◌, ap}
use Rattle.std.proofs.lemmas.Grind.{common_steps}
use Rattle.thread_context.specs.Ring.{big_endian, ring_bytes, ring_of}
use Rattle.thread_context.specs.Rings.{ring_in}
use Rattle.thread_context.proofs.rings.Rings.bytes.Goals as goal

pub returns-clause-value : goal.returns-clause-value
returns-clause-value c =
    let is : c.index.result.now ≡ ring_in c.args.self.now c.args.t = grind (arith, common_steps) in
    c.big_endian.ensures ∙ ap (λ (bs : List ℕ). big_endian bs c.args.at c.args.size) (c.bytes-bytes.ensures ∙ ap ring_bytes (c.shown.ensures ∙ ap ring_of is))
