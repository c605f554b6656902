-- Whether some processor is connected.
use Rattle.std.proofs.Common.{ℕ, zero, suc, ◌≡◌, ◌<◌, ◌||◌, Bool, refl, arith}
use Rattle.xv_model.specs.device.Checks.{some_below}

-- of so many processors, by two tests that agree on each
pub some_below-agrees : (f g : ℕ → Bool) (n : ℕ) → ((v : ℕ) → v < n → f v ≡ g v) → some_below f n ≡ some_below g n
some_below-agrees f g zero same = refl
some_below-agrees f g (suc n) same = λ i. same n (omega arith) i || some_below-agrees f g n (λ v l. same v (omega (arith, l))) i
