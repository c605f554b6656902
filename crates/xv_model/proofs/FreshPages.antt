-- Pages that are fresh for a queue.
use Rattle.std.proofs.Common.{ℕ, ◌≡◌, ◌==◌, ◌+◌, ◌*◌, ◌%◌, ◌<◌, ◌&&◌, nat_le, nat_lt, true, if◌then◌else◌, [], ◌∷◌, Some, None, refl, sym, ◌∙◌, ap, arith, le-leb, lt-ltb, mod-lt}
use Rattle.std.proofs.Math.Nat.{div-eq_of_lt}
use Rattle.std.proofs.lemmas.Bool.{and_from}
use Rattle.std.specs.Option.{option_map_or}
use Rattle.xv_model.specs.declared.operations.EndConfig.{EndConfig}
use Rattle.xv_model.specs.declared.operations.Op.TheVariants as op
use Rattle.xv_model.specs.declared.outcomes.Outcome.TheVariants as out
use Rattle.xv_model.specs.declared.entries.Entry.{Entry}
use Rattle.xv_model.specs.account.Start.{start}
use Rattle.xv_model.specs.end.Memory.{entries, place, generation, word_at}
use Rattle.xv_model.specs.end.Reading.{top_bit}
use Rattle.xv_model.specs.laws.Queues.{ZerosAreFresh, StartIsFresh, ZeroedIsFresh}
use Rattle.xv_model.proofs.QueuePlaces.{some_entries}

-- the first time through a queue the generation is 1
pub first_generation : (c : EndConfig) (j : ℕ) → j < entries c → generation c j ≡ 1
first_generation c j l = ap (λ q. if q % 2 == 0 then 1 else 0) (div-eq_of_lt l)

-- no number is 0 and 1
zero_or_one : (n : ℕ) → 0 ≡ n → n ≡ 1 → ⊥
zero_or_one n zero one = omega arith

-- a page of zeros is fresh
pub zeros_are_fresh : ZerosAreFresh
zeros_are_fresh z h c first zeros k l is =
    let number : c.start + k ≡ k = omega arith in
    let zero_bit : top_bit (word_at z h (place c (c.start + k))) ≡ 0 = ap top_bit (zeros (c.start + k)) in
    let one : generation c (c.start + k) ≡ 1 = ap (generation c) number ∙ first_generation c k l in
    zero_or_one _ (sym zero_bit ∙ is) one

-- a page at the start of a board is fresh
pub start_is_fresh : StartIsFresh
start_is_fresh b c first = zeros_are_fresh (start b) [] c first (λ j. refl)

-- an address within a stretch is at or after its beginning, and before its end
within : (q r n : ℕ) → r < n → (nat_le q (q + 4 * r) && nat_lt (q + 4 * r) (q + 4 * n)) ≡ true
within q r n l = and_from (nat_le q (q + 4 * r)) (nat_lt (q + 4 * r) (q + 4 * n)) (le-leb q (q + 4 * r) (omega arith)) (lt-ltb (q + 4 * r) (q + 4 * n) (omega arith))

-- a page that was zeroed just before is fresh
pub zeroed_is_fresh : ZeroedIsFresh
zeroed_is_fresh z h actor c first =
    let x : Entry = record { actor = actor; op = op.Zero c.qaddr (4 * entries c); outcome = out.Fine } in
    zeros_are_fresh z (x ∷ h) c first
    (λ j. ap (λ b. option_map_or (λ w. w) (if b then Some 0 else None) (word_at z h (place c j))) (within c.qaddr (j % entries c) (entries c) (mod-lt j (some_entries c))))
