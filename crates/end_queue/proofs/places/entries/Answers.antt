use Rattle.std.proofs.Common.{◌-◌, ◌*◌, ◌^◌, ◌≤◌, arith}
use Rattle.std.proofs.Math.Nat.{mod-le}
use Rattle.std.proofs.Math.Pow.{pow_mono}
use Rattle.end_queue.proofs.places.entries.Goals as goal

pub returns-clause-most : goal.returns-clause-most
returns-clause-most c =
    let shift = c.args.config.now.qshift in
    let few : 2 ^ (shift - 2) ≤ 2 ^ 22 = pow_mono {i = shift - 2} {j = 22} (omega (arith, c.requires.most)) in
    omega (arith, few, mod-le (1 * 2 ^ (shift - 2)) (2 ^ 64))
