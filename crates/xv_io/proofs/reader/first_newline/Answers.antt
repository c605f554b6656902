use Rattle.std.proofs.Common.{◌≡◌, ◌≢◌, ◌≤◌, ◌∙◌, length, sym, subst, refl, rules}
use Rattle.std.proofs.lemmas.Iterator.{YieldsList-from_slice, IsFirst-from_position, index_from_first}
use borrow.Author.Tests.{tests}
use Rattle.xv_io.specs.Reader.{line_length}
use Rattle.xv_io.proofs.Cutting.{line_length-hit, line_length-miss, line_length-le-length}
use Rattle.xv_io.proofs.reader.first_newline.Goals as goal

pub returns-clause-value : goal.returns-clause-value
returns-clause-value c =
    c.unwrap_or.ensures ∙ sym (index_from_first line_length (λ b. b ≡ 10) (λ b. b ≢ 10) refl line_length-hit line_length-miss c.args.bytes.now c.position.result
    (IsFirst-from_position _ _ c.position.result (λ b. b ≡ 10) (λ b. b ≢ 10) c.position.ensures.ran (YieldsList-from_slice c.args.bytes.now cc) (λ x q k. search (rules, tests)) (λ x q k. search (rules, tests))))

pub returns-clause-within : goal.returns-clause-within
returns-clause-within c = subst (λ n. n ≤ length c.args.bytes.now) (sym (returns-clause-value c)) (line_length-le-length c.args.bytes.now)
