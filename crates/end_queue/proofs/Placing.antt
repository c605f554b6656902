-- The queues of a board's ENDs: how large they are, and where they lie.
use Rattle.std.proofs.Common.{ℕ, ◌≡◌, ◌==◌, ◌<◌, ◌≤◌, ◌&&◌, ◌+◌, ◌-◌, ◌*◌, ◌^◌, ◌%◌, nat_lt, Bool, true, false, if◌then◌else◌, ◌⊎◌, inl, inr, sym, subst, arith}
use Rattle.std.proofs.lemmas.Bool.{and_parts, eqb-true, ltb-true}
use Rattle.std.proofs.lemmas.Bool.Decides.{nat_tests}
use Rattle.std.proofs.Math.Pow.{pow_mono}
use Rattle.xv_model.specs.declared.board.Board.{Board}
use Rattle.xv_model.specs.declared.operations.EndConfig.{EndConfig}
use Rattle.xv_model.specs.board.Boards.{IsBoard}
use Rattle.xv_model.specs.board.Validity.{ram_size, is_queue, is_queue_shift, has_queue as has_its_queue, valid_config}
use Rattle.xv_model.specs.end.Flags.{enqueues}
use Rattle.end_queue.specs.Ends.{has_queue, IsSized, IsNarrow, HasPage}

-- the four sizes
sizes : (shift : ℕ) → is_queue_shift shift ≡ true → (shift ≡ 12) ⊎ ((shift ≡ 16) ⊎ ((shift ≡ 21) ⊎ (shift ≡ 24)))
sizes shift is = grind (arith, nat_tests)

-- a queue that a board can have
pub record IsPlaced (b : Board) (c : EndConfig) : Type 0 where
  pub shift : is_queue_shift c.qshift ≡ true
  pub aligned : c.qaddr % 2 ^ c.qshift ≡ 0
  pub inside : c.qaddr + 2 ^ c.qshift ≤ ram_size b

placed : (b : Board) (c : EndConfig) → valid_config b c ≡ true → enqueues c ≡ true → IsPlaced b c
placed b c v q = record {
  shift = grind (arith, nat_tests);
  aligned = grind (arith, nat_tests);
  inside = grind (arith, nat_tests);
}

sized_by : (b : Board) (c : EndConfig) → IsBoard b → IsPlaced b c → (c.qshift ≡ 12) ⊎ ((c.qshift ≡ 16) ⊎ ((c.qshift ≡ 21) ⊎ (c.qshift ≡ 24))) → IsSized c
sized_by b c is p which = record { least = by which; most = below which; addr = omega (arith, is.ram_mib, p.inside) }
  where
    by : (c.qshift ≡ 12) ⊎ ((c.qshift ≡ 16) ⊎ ((c.qshift ≡ 21) ⊎ (c.qshift ≡ 24))) → 2 ≤ c.qshift
    by (inl e) = omega arith
    by (inr (inl e)) = omega arith
    by (inr (inr (inl e))) = omega arith
    by (inr (inr (inr e))) = omega arith

    below : (c.qshift ≡ 12) ⊎ ((c.qshift ≡ 16) ⊎ ((c.qshift ≡ 21) ⊎ (c.qshift ≡ 24))) → c.qshift ≤ 24
    below (inl e) = omega arith
    below (inr (inl e)) = omega arith
    below (inr (inr (inl e))) = omega arith
    below (inr (inr (inr e))) = omega arith

-- the first two times through a queue of one of the four sizes
first_by : (shift start : ℕ) → (shift ≡ 12) ⊎ ((shift ≡ 16) ⊎ ((shift ≡ 21) ⊎ (shift ≡ 24))) → start < 2 * 2 ^ (shift - 2) → start < 2 ^ 62
first_by shift start which below =
    let least : shift ≤ 24 = most which in
    let few : 2 ^ (shift - 2) ≤ 2 ^ 22 = pow_mono {i = shift - 2} {j = 22} (omega (arith, least)) in
    omega (arith, few, below)
  where
    most : (shift ≡ 12) ⊎ ((shift ≡ 16) ⊎ ((shift ≡ 21) ⊎ (shift ≡ 24))) → shift ≤ 24
    most (inl e) = omega arith
    most (inr (inl e)) = omega arith
    most (inr (inr (inl e))) = omega arith
    most (inr (inr (inr e))) = omega arith

-- the first entry of a queue that a board can have, or of none
first_below : (b : Board) (c : EndConfig) (q : Bool) → (if q then is_queue b c.qaddr c.qshift && nat_lt c.start (2 * 2 ^ (c.qshift - 2)) else (c.qaddr == 0) && ((c.qshift == 0) && (c.start == 0))) ≡ true → c.start < 2 ^ 62
first_below b c true is =
    let p = and_parts (is_queue b c.qaddr c.qshift) (nat_lt c.start (2 * 2 ^ (c.qshift - 2))) is in
    let size = and_parts (is_queue_shift c.qshift) _ p.0 in
    first_by c.qshift c.start (sizes c.qshift size.0) (ltb-true c.start (2 * 2 ^ (c.qshift - 2)) p.1)
first_below b c false is =
    let p = and_parts (c.qaddr == 0) ((c.qshift == 0) && (c.start == 0)) is in
    let k = and_parts (c.qshift == 0) (c.start == 0) p.1 in
    let none : c.start ≡ 0 = eqb-true c.start 0 k.1 in
    omega (arith, none)

-- a valid configuration is narrow
pub narrow : (b : Board) (c : EndConfig) → IsBoard b → valid_config b c ≡ true → IsNarrow c
narrow b c is v = record {
  start = first_below b c (enqueues c) (and_parts (has_its_queue b c) _ v).0;
  sized = λ q. let p = placed b c v q in sized_by b c is p (sizes c.qshift p.shift);
}

-- the bytes of a queue of one of the four sizes
page_by : (c : EndConfig) (addr words size : ℕ) → (c.qshift ≡ 12) ⊎ ((c.qshift ≡ 16) ⊎ ((c.qshift ≡ 21) ⊎ (c.qshift ≡ 24))) → addr % 2 ^ c.qshift ≡ 0 → addr + 2 ^ c.qshift ≤ size → 4 * words ≡ size →
    (addr % 4 ≡ 0) × (addr + 4 * 2 ^ (c.qshift - 2) ≤ 4 * words)
page_by c addr words size (inl e) a i m = by c.qshift e a i
  where
    by : (s : ℕ) → s ≡ 12 → addr % 2 ^ s ≡ 0 → addr + 2 ^ s ≤ size → (addr % 4 ≡ 0) × (addr + 4 * 2 ^ (s - 2) ≤ 4 * words)
    by s e a i = subst (λ s. addr % 2 ^ s ≡ 0 → addr + 2 ^ s ≤ size → (addr % 4 ≡ 0) × (addr + 4 * 2 ^ (s - 2) ≤ 4 * words)) (sym e) (λ a i. (omega arith, omega arith)) a i
page_by c addr words size (inr (inl e)) a i m = by c.qshift e a i
  where
    by : (s : ℕ) → s ≡ 16 → addr % 2 ^ s ≡ 0 → addr + 2 ^ s ≤ size → (addr % 4 ≡ 0) × (addr + 4 * 2 ^ (s - 2) ≤ 4 * words)
    by s e a i = subst (λ s. addr % 2 ^ s ≡ 0 → addr + 2 ^ s ≤ size → (addr % 4 ≡ 0) × (addr + 4 * 2 ^ (s - 2) ≤ 4 * words)) (sym e) (λ a i. (omega arith, omega arith)) a i
page_by c addr words size (inr (inr (inl e))) a i m = by c.qshift e a i
  where
    by : (s : ℕ) → s ≡ 21 → addr % 2 ^ s ≡ 0 → addr + 2 ^ s ≤ size → (addr % 4 ≡ 0) × (addr + 4 * 2 ^ (s - 2) ≤ 4 * words)
    by s e a i = subst (λ s. addr % 2 ^ s ≡ 0 → addr + 2 ^ s ≤ size → (addr % 4 ≡ 0) × (addr + 4 * 2 ^ (s - 2) ≤ 4 * words)) (sym e) (λ a i. (omega arith, omega arith)) a i
page_by c addr words size (inr (inr (inr e))) a i m = by c.qshift e a i
  where
    by : (s : ℕ) → s ≡ 24 → addr % 2 ^ s ≡ 0 → addr + 2 ^ s ≤ size → (addr % 4 ≡ 0) × (addr + 4 * 2 ^ (s - 2) ≤ 4 * words)
    by s e a i = subst (λ s. addr % 2 ^ s ≡ 0 → addr + 2 ^ s ≤ size → (addr % 4 ≡ 0) × (addr + 4 * 2 ^ (s - 2) ≤ 4 * words)) (sym e) (λ a i. (omega arith, omega arith)) a i

-- the page of a valid configuration lies in the memory of its board
pub page_inside : (b : Board) (c : EndConfig) (words : ℕ) → valid_config b c ≡ true → 4 * words ≡ ram_size b → has_queue c ≡ true → HasPage words c
page_inside b c words v size q =
    let e : enqueues c ≡ true = grind (arith, nat_tests) in
    let p = placed b c v e in
    let k = page_by c c.qaddr words (ram_size b) (sizes c.qshift p.shift) p.aligned p.inside size in
    record { aligned = k.0; inside = k.1 }
