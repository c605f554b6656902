use Rattle.std.proofs.Common.{◌≡◌, ◌+◌, ◌*◌, ◌/◌, ◌^◌, ◌<◌, ◌≤◌, ◌++◌, false, codes}
use Rattle.std.specs.Fmt.{digits}
use Rattle.arrayvec.specs.ArrayVec.{array_vec_len}
use Rattle.account.proofs.numbers.add_hex.Given as goal

abbrev pub invariant-loop-behind : goal.invariant-loop-behind
invariant-loop-behind g l = record {
  few : l.behind ≤ 15;
  some : 0 < l.behind → 1 ≤ l.n / 2 ^ (4 * l.behind);
  len : array_vec_len l.text + l.behind ≤ array_vec_len l.fn.text + 18;
  items : l.text.items ≡ l.fn.text.items ++ (codes "0x" ++ digits 16 false (l.n / 2 ^ (4 * l.behind)));
}

abbrev pub decreases-loop-behind : goal.decreases-loop-behind
decreases-loop-behind g l = l.behind
