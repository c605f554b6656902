-- Numbers of several bytes.
use Rattle.std.proofs.Common.{ℕ, zero, suc, ◌<◌, ◌≤◌, ◌+◌, ◌^◌, List, arith, slice_index_or}
use Rattle.std.proofs.Math.Nat.{pow-suc, pow-le-pow_right}
use Rattle.thread_context.specs.Ring.{big_endian}

-- so many bytes make a number below this
pub big_endian_below : (bytes : List ℕ) (at n : ℕ) → ((i : ℕ) → slice_index_or bytes i 0 < 256) → big_endian bytes at n < 256 ^ n
big_endian_below bytes at zero b = omega arith
big_endian_below bytes at (suc n) b = omega (arith, pow-suc 256 n, big_endian_below bytes at n b, b (at + n))

-- up to seven bytes leave room for one more in 64 bits
pub room : (bytes : List ℕ) (at n : ℕ) → ((i : ℕ) → slice_index_or bytes i 0 < 256) → n ≤ 7 → big_endian bytes at n < 2 ^ 56
room bytes at n b few =
    let most : 256 ^ n ≤ 256 ^ 7 = pow-le-pow_right {n = 256} (omega arith) few in
    omega (arith, big_endian_below bytes at n b, most)
