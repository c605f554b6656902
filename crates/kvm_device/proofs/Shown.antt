-- What is shown of the state of a processor is what the account says of it.
use Rattle.std.proofs.Common.{ℕ, zero, suc, pos, ◌≡◌, ◌<◌, ◌-◌, ◌^◌, ◌==◌, ◌||◌, max, Bool, true, List, refl, sym, ◌∙◌, ap, arith, bit_or}
use Rattle.std.specs.Int.{bit_at}
use Rattle.std.proofs.lemmas.Nat.{or_of_8}
use Rattle.std.proofs.lemmas.Nat.Bits.{bit_at_or, bit_at-lt}
use Rattle.xv_model.specs.declared.entries.Entry.{Entry}
use Rattle.xv_model.specs.declared.outcomes.Outcome.TheVariants.{Context}
use Rattle.xv_model.specs.account.Start.{Start}
use Rattle.xv_model.specs.device.Answers.{got_by, vp_state_code, vp_state_outcome}
use Rattle.xv_model.specs.processor.Pending.{pending}
use Rattle.xv_model.specs.processor.Phases.{is_saved}
use Rattle.xv_model.specs.processor.Priorities.{byte_of, has_priority}
use Rattle.xv_model.specs.processor.Registers.{cppr}
use Rattle.xv_model.proofs.Bytes.{byte_of-agrees, byte_of_has}
use Rattle.nvt_backlog.specs.declared.vp.Vp.{Vp}
use Rattle.nvt_backlog.specs.Accounts.{IsVp}

max_one : (m n : ℕ) → m < 2 → n < 2 → (max m n == 1) ≡ ((m == 1) || (n == 1))
max_one zero zero a b = refl
max_one zero (suc zero) a b = refl
max_one zero (suc (suc n)) a b = absurd (omega (arith, b))
max_one (suc zero) zero a b = refl
max_one (suc zero) (suc zero) a b = refl
max_one (suc zero) (suc (suc n)) a b = absurd (omega (arith, b))
max_one (suc (suc m)) n a b = absurd (omega (arith, a))

-- in two bytes together
either : (m n q : ℕ) → has_priority (bit_or m n) q ≡ (has_priority m q || has_priority n q)
either m n q = ap (λ b. b == 1) (bit_at_or m n (7 - q)) ∙ max_one (bit_at m (7 - q)) (bit_at n (7 - q)) (bit_at-lt m (7 - q)) (bit_at-lt n (7 - q))

-- two bytes in which together these priorities are pending
both_are : (m n : ℕ) (f : ℕ → Bool) → m < 2 ^ 8 → n < 2 ^ 8 → ((q : ℕ) → q < 8 → (has_priority m q || has_priority n q) ≡ f q) → bit_or m n ≡ byte_of f
both_are m n f a b same = sym (byte_of_has (bit_or m n) (or_of_8 m n a b)) ∙ byte_of-agrees (has_priority (bit_or m n)) f (λ q l. either m n q ∙ same q l)

-- the state of a processor that may be got
pub state_shown : (vp : Vp) (z : Start) (h : List Entry) (v : ℕ) → vp.ipb < 2 ^ 8 → vp.backlog < 2 ^ 8 → IsVp vp z h v → vp_state_code z h v ≡ pos 0 → is_saved vp.phase ≡ true →
    Context vp.cppr (bit_or vp.ipb vp.backlog) ≡ vp_state_outcome z h v
state_shown vp z h v a b is code saved =
    let k = is.saved (ap is_saved (sym is.at) ∙ saved) in
    ap (λ n. Context n (bit_or vp.ipb vp.backlog)) k.cppr_is ∙ ap (Context (cppr z h v)) (both_are vp.ipb vp.backlog (pending z h v) a b k.is_pending_as)
    ∙ sym (ap (λ n. got_by n (Context (cppr z h v) (byte_of (pending z h v)))) code)
