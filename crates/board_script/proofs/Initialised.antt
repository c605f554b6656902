-- Which pairs a reset sets.
use Rattle.std.proofs.Common.{ℕ, ◌≡◌, ◌≢◌, true, false, List, refl}
use Rattle.xv_model.specs.declared.entries.Entry.{Entry}
use Rattle.xv_model.specs.account.Start.{Start}
use Rattle.xv_model.specs.source.Eas.{initialised}
use Rattle.board_script.specs.Steps.{resets}

-- that of an initialised source
pub some_to_reset : (z : Start) (h : List Entry) (s : ℕ) → initialised z h s ≡ true → resets z h s ≢ 0
some_to_reset z h s is = rw is (λ e. cc)

-- and no other one
pub none_to_reset : (z : Start) (h : List Entry) (s : ℕ) → initialised z h s ≡ false → resets z h s ≡ 0
none_to_reset z h s is = rw is refl
