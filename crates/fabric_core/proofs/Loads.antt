-- What is loaded from a ring is what the account says.
use Rattle.std.proofs.Common.{ℕ, zero, suc, ◌≡◌, ◌≤◌, ◌+◌, ◌*◌, ◌/◌, ◌%◌, ◌^◌, ◌++◌, Some, List, [], ◌∷◌, length, refl, sym, ◌∙◌, ap, arith, take, drop, slice_index_or}
use Rattle.std.proofs.lemmas.List.{get_or-drop, length-drop, take_more}
use Rattle.xv_model.specs.declared.entries.Entry.{Entry}
use Rattle.xv_model.specs.declared.operations.Access.{Access}
use Rattle.xv_model.specs.declared.operations.Op.TheVariants as op
use Rattle.xv_model.specs.declared.outcomes.Outcome.TheVariants as out
use Rattle.xv_model.specs.declared.tima.RingOp.TheVariants.{Load}
use Rattle.xv_model.specs.account.Start.{Start}
use Rattle.xv_model.specs.processor.RingOps.{ring_op}
use Rattle.xv_model.specs.processor.Registers.{Ring as Registers, ring}
use Rattle.xv_model.specs.processor.Accesses.{behind, load_value, ring_bytes as bytes_of, word_byte}
use Rattle.thread_context.specs.declared.ring.RingRecord.{RingRecord}
use Rattle.thread_context.specs.Ring.{IsInRange, big_endian, ring_bytes, ring_of}
use Rattle.thread_context.specs.Rings.{ring_in}
use Rattle.presenter.specs.Contexts.{AreFit}
use Rattle.fabric_core.specs.Processors.{Parts, StandsFor}
use Rattle.fabric_core.proofs.Shown.{Says, ring_says}
use Rattle.fabric_core.proofs.Silent.{access_silent}
use Rattle.fabric_core.proofs.Untouched.{keeps}

-- ---- the number of some bytes
-- one more byte at the end
behind_more : (n : ℕ) (bytes : List ℕ) (byte : ℕ) → behind n (bytes ++ byte ∷ []) ≡ behind n bytes * 2 ^ 8 + byte
behind_more n [] byte = refl
behind_more n (first ∷ bytes) byte = behind_more (n * 2 ^ 8 + first) bytes byte

next : (n : ℕ) → n + 1 ≡ suc n
next n = omega arith

number_of : (bytes : List ℕ) (at n : ℕ) → at + n ≤ length bytes → big_endian bytes at n ≡ behind 0 (take n (drop at bytes))
number_of bytes at zero l = refl
number_of bytes at (suc n) l =
    ap (λ m. m * 256 + slice_index_or bytes (at + n) 0) (number_of bytes at n (omega (arith, l)))
    ∙ ap (λ b. behind 0 (take n (drop at bytes)) * 256 + b) (sym (get_or-drop at bytes n 0))
    ∙ sym (behind_more 0 (take n (drop at bytes)) (slice_index_or (drop at bytes) n 0))
    ∙ ap (behind 0) (sym (take_more (drop at bytes) n 0 (omega (arith, l, length-drop at bytes))) ∙ ap (λ k. take k (drop at bytes)) (next n))

-- ---- the bytes of a ring
same_bytes : (r : RingRecord) (x : Registers) → Says r x → IsInRange r → ring_bytes (ring_of r) ≡ bytes_of x
same_bytes r x s k =
    let w0 : r.cam / 2 ^ 24 ≡ word_byte x.cam 0 = omega (arith, k.cam) ∙ ap (λ c. word_byte c 0) s.cam in
    let w1 : r.cam / 2 ^ 16 % 256 ≡ word_byte x.cam 1 = ap (λ c. word_byte c 1) s.cam in
    let w2 : r.cam / 2 ^ 8 % 256 ≡ word_byte x.cam 2 = ap (λ c. word_byte c 2) s.cam in
    let w3 : r.cam % 256 ≡ word_byte x.cam 3 = omega arith ∙ ap (λ c. word_byte c 3) s.cam in
    λ i. s.nsr i ∷ s.cppr i ∷ s.ipb k.ipb i ∷ 0xff ∷ 0xff ∷ 0 ∷ 0xff ∷ s.pipr i ∷ w0 i ∷ w1 i ∷ w2 i ∷ w3 i ∷ 0 ∷ 0 ∷ 0 ∷ 0 ∷ []

-- ---- a load
pub loads : (p : Parts) (z : Start) (h : List Entry) (t at size : ℕ) → StandsFor p z h → AreFit p.vps.vps p.rings → IsInRange (ring_in p.rings t) → at + size ≤ 16 →
    big_endian (ring_bytes (ring_of (ring_in p.rings t))) at size ≡ load_value (ring z h t) at size
loads p z h t at size s f kept inside =
    number_of (ring_bytes (ring_of (ring_in p.rings t))) at size inside
    ∙ ap (λ bs. behind 0 (take size (drop at bs))) (same_bytes (ring_in p.rings t) (ring z h t) (ring_says p z h s f t) kept)

pub stays_loaded : (p : Parts) (z : Start) (h : List Entry) (t actor page offset size : ℕ) (access : Access) (from count value : ℕ) → StandsFor p z h → ring_op page offset size access ≡ Some (Load from count) →
    StandsFor p z (record { actor = actor; op = op.Tima t page offset size access; outcome = out.Value value } ∷ h)
stays_loaded p z h t actor page offset size access from count value s e = keeps p z h (record { actor = actor; op = op.Tima t page offset size access; outcome = out.Value value })
    refl (λ v l. access_silent z h v t actor page offset size access (out.Value value) (Load from count) e refl (λ q b. refl) refl) s
