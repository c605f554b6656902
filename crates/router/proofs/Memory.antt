-- What memory represents after a pass, and after a queue was read.
use Rattle.std.proofs.Common.{ℕ, ◌≡◌, ◌<◌, ◌≤◌, ◌+◌, ◌*◌, ◌/◌, ◌%◌, ◌==◌, true, if◌then◌else◌, List, ◌∷◌, length, Option, Some, None, refl, sym, ◌∙◌, ap, subst, arith, length-set}
use Rattle.std.specs.Prelude.{IfSome, IsTrue}
use Rattle.std.specs.Option.{option_or}
use Rattle.std.proofs.lemmas.Bool.Decides.{nat_tests}
use Rattle.xv_model.specs.declared.operations.Op.TheVariants as op
use Rattle.xv_model.specs.declared.outcomes.Wrote.{Wrote}
use Rattle.xv_model.specs.declared.outcomes.EndRun.{EndRun}
use Rattle.xv_model.specs.declared.outcomes.Routed.{Routed}
use Rattle.xv_model.specs.declared.outcomes.Routed.TheVariants as routed
use Rattle.xv_model.specs.declared.outcomes.Outcome.TheVariants as out
use Rattle.xv_model.specs.declared.entries.Entry.{Entry}
use Rattle.xv_model.specs.account.Start.{Start}
use Rattle.xv_model.specs.board.Validity.{fits}
use Rattle.xv_model.specs.end.Memory.{word_in, word_by, write_of}
use Rattle.guest_ram.specs.Ram.{StandsFor}
use Rattle.guest_ram.proofs.Standing.{same, put}
use Rattle.router.specs.Passes.{with_write}
use Rattle.router.specs.Routing.{write_in}

-- an address that fits is that of a whole word, in memory
place_of : (n addr : ℕ) → fits (4 * n) addr 4 ≡ true → (addr / 4 < n) × (4 * (addr / 4) ≡ addr)
place_of n addr is =
    let aligned : addr % 4 ≡ 0 = grind (arith, nat_tests) in
    let inside : addr + 4 ≤ 4 * n = grind (arith, nat_tests) in
    (omega arith, omega arith)

or_none : (m : Option ℕ) → option_or m None ≡ m
or_none None = refl
or_none (Some w) = refl

-- memory after an entry that wrote this, or nothing
wrote : (memory : List ℕ) (z : Start) (h : List Entry) (x : Entry) (m : Option Wrote) → StandsFor memory z h →
    IfSome m (λ w. IsTrue (fits (4 * length memory) w.addr 4)) → ((a : ℕ) → word_by a x ≡ word_in a m) → StandsFor (with_write m memory) z (x ∷ h)
wrote memory z h x None st fit by = same memory z h x st by
wrote memory z h x (Some w) st fit by =
    let at = place_of (length memory) w.addr fit in
    put memory z h x (w.addr / 4) w.word st at.0 (λ a. by a ∙ ap (λ addr. if addr == a then Some w.word else None) (sym at.1))

-- a notice of s with this outcome
abbrev routing : ℕ → ℕ → ℕ → Routed → Entry
routing actor s k r = record { actor = actor; op = op.Route s; outcome = out.Routed k r }

wrote_by : (actor s k : ℕ) (r : Routed) (a : ℕ) → word_by a (routing actor s k r) ≡ word_in a (write_in r)
wrote_by actor s k (routed.Run run) a = or_none _
wrote_by actor s k routed.NoSource a = refl
wrote_by actor s k routed.Masked a = refl

-- memory after an entry that wrote this, or nothing, and is so then
ran_memory : (memory after : List ℕ) (z : Start) (h : List Entry) (x : Entry) (m : Option Wrote) → ((a : ℕ) → word_by a x ≡ word_in a m) → StandsFor memory z h →
    IfSome m (λ w. IsTrue (fits (4 * length memory) w.addr 4)) → after ≡ with_write m memory → StandsFor after z (x ∷ h)
ran_memory memory after z h x m by st fit is = subst (λ (n : List ℕ). StandsFor n z (x ∷ h)) (sym is) (wrote memory z h x m st fit by)

-- after a notice was routed
pub routed_memory : (memory after : List ℕ) (z : Start) (h : List Entry) (actor s k : ℕ) (r : Routed) → StandsFor memory z h →
    IfSome (write_in r) (λ w. IsTrue (fits (4 * length memory) w.addr 4)) → after ≡ with_write (write_in r) memory → StandsFor after z (routing actor s k r ∷ h)
routed_memory memory after z h actor s k r = ran_memory memory after z h (routing actor s k r) (write_in r) (wrote_by actor s k r)

-- after an escalation was taken, and made this pass
pub escalated_memory : (memory after : List ℕ) (z : Start) (h : List Entry) (actor i e : ℕ) (run : EndRun) → StandsFor memory z h →
    IfSome (write_of (Some run)) (λ w. IsTrue (fits (4 * length memory) w.addr 4)) → after ≡ with_write (write_of (Some run)) memory →
    StandsFor after z (record { actor = actor; op = op.Take i; outcome = out.Escalated e (Some run) } ∷ h)
escalated_memory memory after z h actor i e run =
    ran_memory memory after z h (record { actor = actor; op = op.Take i; outcome = out.Escalated e (Some run) }) (write_of (Some run)) (λ a. or_none _)

-- and it is as large as before
pub routed_size : (memory after : List ℕ) (m : Option Wrote) → after ≡ with_write m memory → length after ≡ length memory
routed_size memory after None is = ap length is
routed_size memory after (Some w) is = ap length is ∙ length-set memory (w.addr / 4) w.word
