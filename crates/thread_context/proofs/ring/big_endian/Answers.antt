use Rattle.std.proofs.Common.{ℕ, rules, arith, ◌<◌, ◌+◌, ◌^◌, slice_index_or, subst, sym}
use Rattle.thread_context.proofs.Numbers.{room}
use Rattle.thread_context.proofs.ring.big_endian.Goals as goal

pub overflow_mul-value : goal.overflow_mul-value
overflow_mul-value c =
    let each : (i : ℕ) → slice_index_or c.args.bytes.now i 0 < 256 = search rules in
    let few : c.loop-done.value < 2 ^ 56 = subst (λ v. v < 2 ^ 56) (sym c.loop-done.invariant) (room c.args.bytes.now c.args.at c.loop-done.done each (omega arith)) in
    omega arith

pub overflow_add-value-in-loop-done : goal.overflow_add-value-in-loop-done
overflow_add-value-in-loop-done c =
    let each : (i : ℕ) → slice_index_or c.args.bytes.now i 0 < 256 = search rules in
    let few : c.loop-done.value < 2 ^ 56 = subst (λ v. v < 2 ^ 56) (sym c.loop-done.invariant) (room c.args.bytes.now c.args.at c.loop-done.done each (omega arith)) in
    omega (arith, each (c.args.at + c.loop-done.done))
