use Rattle.std.proofs.Common.{◌≡◌, ◌+◌, ◌++◌, take}
use Rattle.arrayvec.specs.ArrayVec.{array_vec_len}
use Rattle.account.proofs.numbers.add.Given as goal

abbrev pub invariant-loop-byte : goal.invariant-loop-byte
invariant-loop-byte g l = record {
  items : l.text.items ≡ l.fn.text.items ++ take l.byte-index l.bytes;
  len : array_vec_len l.text ≡ array_vec_len l.fn.text + l.byte-index;
}
