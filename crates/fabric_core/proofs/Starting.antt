-- A fabric on which nothing has happened.
use Rattle.std.proofs.Common.{ℕ, ◌≡◌, ◌/◌, List, [], sym, subst, arith}
use Rattle.std.proofs.Math.ListN.{replicate}
use Rattle.xv_model.specs.declared.board.Board.{Board}
use Rattle.xv_model.specs.account.Start.{start}
use Rattle.xv_model.specs.board.Validity.{ram_size}
use Rattle.guest_ram.specs.Ram.{StandsFor as MemoryStandsFor}
use Rattle.guest_ram.proofs.Standing.{starts as memory_starts}

-- memory that is all zero represents the empty account
pub memory_stands : (b : Board) (memory : List ℕ) → memory ≡ replicate (ram_size b / 4) 0 → MemoryStandsFor memory (start b) []
memory_stands b memory zeros = subst (λ (m : List ℕ). MemoryStandsFor m (start b) []) (sym zeros) (memory_starts b (ram_size b / 4) (omega arith))
