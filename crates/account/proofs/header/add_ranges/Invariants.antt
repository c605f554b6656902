use Rattle.std.proofs.Common.{◌≡◌, ◌+◌, ◌*◌, ◌≤◌, ◌++◌, take}
use Rattle.arrayvec.specs.ArrayVec.{array_vec_len}
use Rattle.account.specs.declared.header.TheConstants.{LONGEST_RANGE}
use Rattle.account.specs.text.Header.{ranges_text}
use Rattle.account.proofs.header.add_ranges.Given as goal

abbrev pub invariant-loop-span : goal.invariant-loop-span
invariant-loop-span g l = record {
  items : l.text.items ≡ l.fn.text.items ++ ranges_text l.word (take l.span-index (take l.spans.count l.spans.spans));
  len : array_vec_len l.text ≤ array_vec_len l.fn.text + LONGEST_RANGE * l.span-index;
}
