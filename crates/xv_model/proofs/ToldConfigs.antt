-- What H_INT_SET_QUEUE_CONFIG tells an END, and what the KVM device's queue attribute sets it to, is a configuration that the END may have, where the checks hold.
use Rattle.std.proofs.Common.{ℕ, ◌≡◌, ◌<◌, ◌+◌, ◌*◌, ◌-◌, ◌==◌, ◌||◌, nat_lt, if◌then◌else◌, Bool, true, false, refl, arith, ◌≤◌, ◌^◌, ◌&&◌, sym, subst, lit≤}
use Rattle.std.proofs.lemmas.Bool.{ltb-true, lt-ltb, and_parts, eqb-true}
use Rattle.std.proofs.lemmas.Nat.{pow_pos}
use Rattle.xv_base.specs.Limits.{ends_per_processor}
use Rattle.xv_model.specs.declared.board.Board.{Board}
use Rattle.xv_model.specs.declared.hypercalls.flags.TheConstants.{END_ALWAYS_NOTIFY, PRIORITY_RESERVED}
use Rattle.xv_model.specs.declared.hypercalls.arguments.SetQueueConfigArgs.{SetQueueConfigArgs}
use Rattle.xv_model.specs.declared.kvm.arguments.EqArgs.{EqArgs}
use Rattle.xv_model.specs.declared.operations.EndConfig.{EndConfig}
use Rattle.xv_model.specs.declared.operations.EqFields.{EqFields}
use Rattle.xv_model.specs.account.Start.{no_config}
use Rattle.xv_model.specs.board.Validity.{entries_of, is_queue_shift, is_queue, has_queue, may_be_configured}
use Rattle.xv_model.specs.call.Checks.{is_priority}
use Rattle.xv_model.specs.device.Checks.{is_entry}
use Rattle.xv_model.specs.end.Flags.{has_bit, enqueues}
use Rattle.xv_model.specs.end.Descriptors.{resets, queue_told, config_told, resets_end, first_entry, queue_set, config_set}

-- a priority that a guest can have is one of an END's
low_priority : (p : ℕ) → is_priority p ≡ true → nat_lt p ends_per_processor ≡ true
low_priority p below = let low = ltb-true p PRIORITY_RESERVED below in lt-ltb p ends_per_processor (omega (arith, low))

-- entry 0 is one of the first two times through a queue
zero_first : (shift : ℕ) → nat_lt 0 (2 * entries_of shift) ≡ true
zero_first shift = let some = pow_pos (shift - 2) in lt-ltb 0 (2 * entries_of shift) (omega (arith, some))

-- what a hypercall tells, by its target, its priority and its queue, as they are checked
pub told_may_be : (b : Board) (e : ℕ) (c : SetQueueConfigArgs) → nat_lt c.target b.limits.processors ≡ true → is_priority c.priority ≡ true → (resets c || is_queue b c.address c.size) ≡ true → may_be_configured b e (config_told c) ≡ true
told_may_be b e c target priority queue = by (resets c) (has_bit c.flags END_ALWAYS_NOTIFY) refl refl queue
  where
    by : (reset always : Bool) → resets c ≡ reset → has_bit c.flags END_ALWAYS_NOTIFY ≡ always → (reset || is_queue b c.address c.size) ≡ true → may_be_configured b e (if reset then no_config else queue_told c) ≡ true
    by true always r a q = refl
    by false true r a q = rw (a, q, target, zero_first c.size, low_priority c.priority priority) refl
    by false false r a q = rw (a, q, target, zero_first c.size, low_priority c.priority priority) refl

-- the entry that has a toggle and an index is one of the first two times through the queue
pub entry_first : (eq : EqFields) → is_entry eq ≡ true → first_entry eq < 2 * entries_of eq.qshift
entry_first eq is = by (eq.qtoggle == 1)
  where
    below : eq.qindex < entries_of eq.qshift
    below = ltb-true eq.qindex (entries_of eq.qshift) (and_parts _ (nat_lt eq.qindex (entries_of eq.qshift)) is).1

    by : (again : Bool) → (if again then eq.qindex else entries_of eq.qshift + eq.qindex) < 2 * entries_of eq.qshift
    by true = omega (arith, below)
    by false = omega (arith, below)

-- what the queue attribute sets, by its server, its priority, its queue and its first entry, as they are checked
pub set_may_be : (b : Board) (e : ℕ) (c : EqArgs) → nat_lt c.id.server b.limits.processors ≡ true → is_priority c.id.priority ≡ true →
    (resets_end c.eq || is_queue b c.eq.qaddr c.eq.qshift) ≡ true → (resets_end c.eq || is_entry c.eq) ≡ true → may_be_configured b e (config_set c) ≡ true
set_may_be b e c server priority queue entry = by (resets_end c.eq) queue entry
  where
    by : (reset : Bool) → (reset || is_queue b c.eq.qaddr c.eq.qshift) ≡ true → (reset || is_entry c.eq) ≡ true → may_be_configured b e (if reset then no_config else queue_set c) ≡ true
    by true q n = refl
    by false q n = rw (q, server, lt-ltb (first_entry c.eq) (2 * entries_of c.eq.qshift) (entry_first c.eq n), low_priority c.id.priority priority) refl

-- the largest queue has 2 to the power of 22 entries
few_entries : (shift : ℕ) → is_queue_shift shift ≡ true → 2 * entries_of shift ≤ 2 ^ 23
few_entries shift is = by (shift == 12) (shift == 16) (shift == 21) (shift == 24) refl refl refl refl is
  where
    at : (size : ℕ) → (shift == size) ≡ true → 2 * entries_of size ≤ 2 ^ 23 → 2 * entries_of shift ≤ 2 ^ 23
    at size here few = subst (λ n. 2 * entries_of n ≤ 2 ^ 23) (sym (eqb-true shift size here)) few

    by : (a b c d : Bool) → (shift == 12) ≡ a → (shift == 16) ≡ b → (shift == 21) ≡ c → (shift == 24) ≡ d → (a || (b || (c || d))) ≡ true → 2 * entries_of shift ≤ 2 ^ 23
    by true b c d p q r s e = at 12 p (lit≤ tt)
    by false true c d p q r s e = at 16 q (lit≤ tt)
    by false false true d p q r s e = at 21 r (lit≤ tt)
    by false false false true p q r s e = at 24 s (lit≤ tt)
    by false false false false p q r s e = cc

-- so a configuration that the board may have begins with an entry of a small number
pub start_below : (b : Board) (c : EndConfig) → has_queue b c ≡ true → c.start < 2 ^ 23
start_below b c w = by (enqueues c) w
  where
    by : (q : Bool) → (if q then is_queue b c.qaddr c.qshift && nat_lt c.start (2 * entries_of c.qshift) else (c.qaddr == 0) && ((c.qshift == 0) && (c.start == 0))) ≡ true → c.start < 2 ^ 23
    by true e =
        let parts = and_parts (is_queue b c.qaddr c.qshift) (nat_lt c.start (2 * entries_of c.qshift)) e in
        let few = few_entries c.qshift (and_parts (is_queue_shift c.qshift) _ parts.0).0 in
        let below = ltb-true c.start (2 * entries_of c.qshift) parts.1 in
        omega (arith, few, below)
    by false e =
        let rest = and_parts (c.qshift == 0) (c.start == 0) (and_parts (c.qaddr == 0) _ e).1 in
        let none = eqb-true c.start 0 rest.1 in
        omega (arith, none)
