use Rattle.std.proofs.Common.{ℕ, ◌≡◌, ◌==◌, nat_lt, true, List, ◌∷◌, refl, sym, ◌∙◌, ap, subst, inl, inr}
use Rattle.std.proofs.lemmas.Bool.{and_parts}
use Rattle.xv_model.specs.declared.entries.Entry.{Entry}
use Rattle.xv_model.specs.declared.operations.Op.{Op}
use Rattle.xv_model.specs.declared.operations.Op.TheVariants as op
use Rattle.xv_model.specs.declared.outcomes.Outcome.{Outcome}
use Rattle.xv_model.specs.declared.outcomes.Outcome.TheVariants as out
use Rattle.xv_model.specs.account.Legal.{legal}
use Rattle.xv_model.specs.account.Start.{Start}
use Rattle.xv_model.specs.board.Validity.{valid, end_count, may_be_configured, may_be_set, valid_config}
use Rattle.guest_ram.specs.Ram.{StandsFor as MemoryStandsFor}
use Rattle.router.proofs.Keeping.{word_keeps}
use Rattle.router.proofs.Ranges.{one_more_in_all}
use Rattle.router.specs.Tables.{Kept, StandsFor as TablesStandFor}
use Rattle.fabric_core.specs.Fabric.{IsRefusal}
use Rattle.fabric_core.specs.Processors.{Parts, StandsFor as ProcessorsStandFor}
use Rattle.fabric_core.proofs.Kept.{kept_connect, reply_fails}
use Rattle.fabric_core.proofs.Skipping.{memory-skips, processors-skip}
use Rattle.fabric_core.proofs.Device.{asked_attribute_stands, asked_state_stands}
use Rattle.fabric_core.proofs.answering.answer.Goals as goal

-- ---- an operation by its variant
-- what represents the account with the entry of one represents it with that of the other
tables_of : (t : Kept) (z : Start) (h : List Entry) (actor : ℕ) (u : Outcome) (o o' : Op) → o ≡ o' →
    TablesStandFor t z (record { actor = actor; op = o'; outcome = u } ∷ h) → TablesStandFor t z (record { actor = actor; op = o; outcome = u } ∷ h)
tables_of t z h actor u o o' same st = subst (λ p. TablesStandFor t z (record { actor = actor; op = p; outcome = u } ∷ h)) (sym same) st

memory_of : (m : List ℕ) (z : Start) (h : List Entry) (actor : ℕ) (u : Outcome) (o o' : Op) → o ≡ o' →
    MemoryStandsFor m z (record { actor = actor; op = o'; outcome = u } ∷ h) → MemoryStandsFor m z (record { actor = actor; op = o; outcome = u } ∷ h)
memory_of m z h actor u o o' same st = subst (λ p. MemoryStandsFor m z (record { actor = actor; op = p; outcome = u } ∷ h)) (sym same) st

processors_of : (p : Parts) (z : Start) (h : List Entry) (actor : ℕ) (u : Outcome) (o o' : Op) → o ≡ o' →
    ProcessorsStandFor p z (record { actor = actor; op = o'; outcome = u } ∷ h) → ProcessorsStandFor p z (record { actor = actor; op = o; outcome = u } ∷ h)
processors_of p z h actor u o o' same st = subst (λ o. ProcessorsStandFor p z (record { actor = actor; op = o; outcome = u } ∷ h)) (sym same) st

pub returns-in-EndEsb-clause-tables : goal.returns-in-EndEsb-clause-tables
returns-in-EndEsb-clause-tables c = λ z h actor st ps counted.
    tables_of _ z h actor _ _ _ c.in-EndEsb.is (c.access_end.ensures.stands z h actor st)

pub returns-in-Route-clause-tables : goal.returns-in-Route-clause-tables
returns-in-Route-clause-tables c = λ z h actor st ps counted.
    tables_of _ z h actor _ _ _ c.in-Route.is (c.route.ensures.stands z h actor st (counted c.in-Route.s (inl c.in-Route.is)))

pub returns-in-Take-clause-tables : goal.returns-in-Take-clause-tables
returns-in-Take-clause-tables c = λ z h actor st ps counted.
    tables_of _ z h actor _ _ _ c.in-Take.is (c.take.ensures.tables z h actor st)

-- a source that is asked whether it is quiet leaves all as it was
pub returns-in-Quiet-clause-tables : goal.returns-in-Quiet-clause-tables
returns-in-Quiet-clause-tables c = λ z h actor st ps counted.
    tables_of _ z h actor _ _ _ c.in-Quiet.is (word_keeps _ z h (record { actor = actor; op = op.Quiet c.in-Quiet.s; outcome = c.quiet.result }) refl st)

pub returns-in-Quiet-clause-memory : goal.returns-in-Quiet-clause-memory
returns-in-Quiet-clause-memory c = λ z h actor ms.
    memory_of _ z h actor _ _ _ c.in-Quiet.is (memory-skips _ z h (record { actor = actor; op = op.Quiet c.in-Quiet.s; outcome = c.quiet.result }) refl ms)

pub returns-in-Quiet-clause-processors : goal.returns-in-Quiet-clause-processors
returns-in-Quiet-clause-processors c = λ z h actor ps.
    processors_of _ z h actor _ _ _ c.in-Quiet.is (processors-skip _ z h (record { actor = actor; op = op.Quiet c.in-Quiet.s; outcome = c.quiet.result }) refl ps)

pub returns-in-Quiet-clause-outcome : goal.returns-in-Quiet-clause-outcome
returns-in-Quiet-clause-outcome c = λ z h st ms ps counted.
    c.quiet.ensures.outcome z h st (counted c.in-Quiet.s (inr c.in-Quiet.is)) ∙ ap (legal z h) (sym c.in-Quiet.is)

pub configure-requires-clause-config : goal.configure-requires-clause-config
configure-requires-clause-config c =
    let b = c.args.tables.now.board in
    let w = subst (λ p. valid b p ≡ true) c.in-EndSet.is c.requires.op in
    let told = (and_parts (nat_lt c.in-EndSet.e (end_count b)) (may_be_set b c.in-EndSet.e c.in-EndSet.config) w).1 in
    let may = (and_parts (c.in-EndSet.config.start == 0) (may_be_configured b c.in-EndSet.e c.in-EndSet.config) told).1 in
    (and_parts (valid_config b c.in-EndSet.config) _ may).0

pub returns-in-EndSet-clause-tables : goal.returns-in-EndSet-clause-tables
returns-in-EndSet-clause-tables c = λ z h actor st ps counted.
    tables_of _ z h actor _ _ _ c.in-EndSet.is (c.configure.ensures.stands z h actor st)

pub returns-in-Read-clause-tables : goal.returns-in-Read-clause-tables
returns-in-Read-clause-tables c = λ z h actor st ps counted.
    tables_of _ z h actor _ _ _ c.in-Read.is (c.read.ensures.stands z h actor st)

pub returns-in-Hcall-clause-tables : goal.returns-in-Hcall-clause-tables
returns-in-Hcall-clause-tables c = λ z h actor st ps counted.
    tables_of _ z h actor _ _ _ c.in-Hcall.is (c.call_tables.ensures.tables z h actor st)

pub returns-in-EndEsb-clause-counts : goal.returns-in-EndEsb-clause-counts
returns-in-EndEsb-clause-counts c = λ n all. one_more_in_all n c.access_end.new.self.ends (c.access_end.ensures.counts n all)

pub returns-in-EndSet-clause-counts : goal.returns-in-EndSet-clause-counts
returns-in-EndSet-clause-counts c = λ n all. one_more_in_all n c.configure.new.self.ends (c.configure.ensures.counts n all)

pub returns-in-Hcall-clause-counts : goal.returns-in-Hcall-clause-counts
returns-in-Hcall-clause-counts c = λ n all. one_more_in_all n c.call_tables.new.tables.ends (c.call_tables.ensures.counts n all)

pub returns-in-Take-clause-processors : goal.returns-in-Take-clause-processors
returns-in-Take-clause-processors c = λ z h actor ps.
    processors_of _ z h actor _ _ _ c.in-Take.is (c.take.ensures.processors z h actor ps)

pub returns-in-Connect-clause-processors : goal.returns-in-Connect-clause-processors
returns-in-Connect-clause-processors c = λ z h actor ps.
    processors_of _ z h actor _ _ _ c.in-Connect.is (c.connect.ensures.stands z h actor ps)

pub returns-in-Restore-clause-processors : goal.returns-in-Restore-clause-processors
returns-in-Restore-clause-processors c = λ z h actor ps.
    processors_of _ z h actor _ _ _ c.in-Restore.is (c.restore.ensures.stands z h actor ps)

pub returns-in-Save-clause-processors : goal.returns-in-Save-clause-processors
returns-in-Save-clause-processors c = λ z h actor ps.
    processors_of _ z h actor _ _ _ c.in-Save.is (c.save.ensures.stands z h actor ps)

pub returns-in-Tima-clause-processors : goal.returns-in-Tima-clause-processors
returns-in-Tima-clause-processors c = λ z h actor ps.
    processors_of _ z h actor _ _ _ c.in-Tima.is (c.access_tima.ensures.processors z h actor ps)

pub returns-in-Connect-clause-outcome : goal.returns-in-Connect-clause-outcome
returns-in-Connect-clause-outcome c = λ z h st ms ps counted. c.connect.ensures.outcome z h ps ∙ ap (legal z h) (sym c.in-Connect.is)

pub returns-in-Tima-clause-outcome : goal.returns-in-Tima-clause-outcome
returns-in-Tima-clause-outcome c = λ z h st ms ps counted. c.access_tima.ensures.outcome z h ps ∙ ap (legal z h) (sym c.in-Tima.is)

pub returns-in-Hcall-clause-outcome : goal.returns-in-Hcall-clause-outcome
returns-in-Hcall-clause-outcome c = λ z h st ms ps counted. ap out.Reply (c.call_tables.ensures.reply z h st ps) ∙ ap (legal z h) (sym c.in-Hcall.is)

pub returns-in-Zero-clause-outcome : goal.returns-in-Zero-clause-outcome
returns-in-Zero-clause-outcome c = λ z h st ms ps counted. c.zero.ensures.outcome z h ms ∙ ap (legal z h) (sym c.in-Zero.is)

pub returns-in-Route-clause-memory : goal.returns-in-Route-clause-memory
returns-in-Route-clause-memory c = λ z h actor ms.
    memory_of _ z h actor _ _ _ c.in-Route.is (c.route.ensures.memory z h actor ms)

pub returns-in-Zero-clause-memory : goal.returns-in-Zero-clause-memory
returns-in-Zero-clause-memory c = λ z h actor ms.
    memory_of _ z h actor _ _ _ c.in-Zero.is (c.zero.ensures.memory z h actor ms)

pub returns-in-Take-clause-memory : goal.returns-in-Take-clause-memory
returns-in-Take-clause-memory c = λ z h actor ms.
    memory_of _ z h actor _ _ _ c.in-Take.is (c.take.ensures.memory z h actor ms)

-- ---- what is refused, by the operation
pub returns-in-EndEsb-clause-refused : goal.returns-in-EndEsb-clause-refused
returns-in-EndEsb-clause-refused c = λ r. (c.access_end.ensures.refused (subst (λ (p : Op). IsRefusal p c.access_end.result) c.in-EndEsb.is r), refl, refl)

pub returns-in-Route-clause-refused : goal.returns-in-Route-clause-refused
returns-in-Route-clause-refused c = λ r.
    let same = c.route.ensures.refused (subst (λ (p : Op). IsRefusal p c.route.result) c.in-Route.is r) in
    (same.0, same.1, refl)

pub returns-in-Take-clause-refused : goal.returns-in-Take-clause-refused
returns-in-Take-clause-refused c = λ r.
    c.take.ensures.refused (subst (λ (p : Op). IsRefusal p c.take.result) c.in-Take.is r)

pub returns-in-EndSet-clause-refused : goal.returns-in-EndSet-clause-refused
returns-in-EndSet-clause-refused c = λ r. absurd (subst (λ (p : Op). IsRefusal p out.Fine) c.in-EndSet.is r)

pub returns-in-Connect-clause-refused : goal.returns-in-Connect-clause-refused
returns-in-Connect-clause-refused c = λ r.
    let u = subst (λ (p : Op). IsRefusal p c.connect.result) c.in-Connect.is r in
    (refl, refl, kept_connect c.args.processors.now c.connect.new.self c.connect.result u.0 c.in-Connect.v c.args.processors.now.vps.servers c.connect.ensures.accepted.1 c.connect.ensures.refused u.1 u.2)

pub returns-in-Restore-clause-refused : goal.returns-in-Restore-clause-refused
returns-in-Restore-clause-refused c = λ r.
    let u = subst (λ (p : Op). IsRefusal p c.restore.result) c.in-Restore.is r in
    (refl, refl, c.restore.ensures.refused u.0 u.1)

pub returns-in-Save-clause-refused : goal.returns-in-Save-clause-refused
returns-in-Save-clause-refused c = λ r.
    let u = subst (λ (p : Op). IsRefusal p c.save.result) c.in-Save.is r in
    (refl, refl, c.save.ensures.refused u.0 u.1)

pub returns-in-Tima-clause-refused : goal.returns-in-Tima-clause-refused
returns-in-Tima-clause-refused c = λ r.
    elim (subst (λ (p : Op). IsRefusal p c.access_tima.result) c.in-Tima.is r) [
      | inl bad ↦ (refl, refl, c.access_tima.ensures.bad_access bad)
      | inr why ↦ (refl, refl, c.access_tima.ensures.refused why.0 why.1)
    ]

pub returns-in-Hcall-clause-refused : goal.returns-in-Hcall-clause-refused
returns-in-Hcall-clause-refused c = λ r.
    let u = subst (λ (p : Op). IsRefusal p (out.Reply c.call_tables.result)) c.in-Hcall.is r in
    (c.call_tables.ensures.refused (reply_fails c.call_tables.result u.0 u.1 u.2), refl, refl)

pub returns-in-Read-clause-refused : goal.returns-in-Read-clause-refused
returns-in-Read-clause-refused c = λ r. (c.read.ensures.refused (subst (λ (p : Op). IsRefusal p c.read.result) c.in-Read.is r), refl, refl)

pub returns-in-Zero-clause-refused : goal.returns-in-Zero-clause-refused
returns-in-Zero-clause-refused c = λ r. (refl, c.zero.ensures.refused (subst (λ (p : Op). IsRefusal p c.zero.result) c.in-Zero.is r), refl)

-- ---- calls to the KVM device
pub returns-in-AttrSet-clause-outcome : goal.returns-in-AttrSet-clause-outcome
returns-in-AttrSet-clause-outcome c = λ z h st ms ps counted. c.set_attribute.ensures.outcome z h st ps ∙ ap (legal z h) (sym c.in-AttrSet.is)

pub returns-in-AttrSet-clause-tables : goal.returns-in-AttrSet-clause-tables
returns-in-AttrSet-clause-tables c = λ z h actor st ps counted.
    tables_of _ z h actor _ _ _ c.in-AttrSet.is (c.set_attribute.ensures.tables z h actor st)

pub returns-in-AttrSet-clause-processors : goal.returns-in-AttrSet-clause-processors
returns-in-AttrSet-clause-processors c = λ z h actor ps.
    processors_of _ z h actor _ _ _ c.in-AttrSet.is (c.set_attribute.ensures.processors z h actor ps)

pub returns-in-AttrSet-clause-counts : goal.returns-in-AttrSet-clause-counts
returns-in-AttrSet-clause-counts c = λ n all. one_more_in_all n c.set_attribute.new.tables.ends (c.set_attribute.ensures.counts n all)

pub returns-in-AttrSet-clause-refused : goal.returns-in-AttrSet-clause-refused
returns-in-AttrSet-clause-refused c = λ r.
    let u = subst (λ (p : Op). IsRefusal p c.set_attribute.result) c.in-AttrSet.is r in
    let same = c.set_attribute.ensures.refused u.0 u.1 u.2 in
    (same.0, refl, same.1)

pub returns-in-AttrGet-clause-outcome : goal.returns-in-AttrGet-clause-outcome
returns-in-AttrGet-clause-outcome c = λ z h st ms ps counted. c.get_attribute.ensures.outcome z h st ps ∙ ap (legal z h) (sym c.in-AttrGet.is)

pub returns-in-AttrGet-clause-processors : goal.returns-in-AttrGet-clause-processors
returns-in-AttrGet-clause-processors c = λ z h actor ps.
    processors_of _ z h actor _ _ _ c.in-AttrGet.is (asked_attribute_stands _ z h actor c.in-AttrGet.group c.in-AttrGet.attr c.get_attribute.result ps)

pub returns-in-VpGet-clause-outcome : goal.returns-in-VpGet-clause-outcome
returns-in-VpGet-clause-outcome c = λ z h st ms ps counted. c.state.ensures.outcome z h ps ∙ ap (legal z h) (sym c.in-VpGet.is)

pub returns-in-VpGet-clause-processors : goal.returns-in-VpGet-clause-processors
returns-in-VpGet-clause-processors c = λ z h actor ps.
    processors_of _ z h actor _ _ _ c.in-VpGet.is (asked_state_stands _ z h actor c.in-VpGet.v c.state.result ps)

pub returns-in-VpSet-clause-outcome : goal.returns-in-VpSet-clause-outcome
returns-in-VpSet-clause-outcome c = λ z h st ms ps counted. c.set_state.ensures.outcome z h ps ∙ ap (legal z h) (sym c.in-VpSet.is)

pub returns-in-VpSet-clause-processors : goal.returns-in-VpSet-clause-processors
returns-in-VpSet-clause-processors c = λ z h actor ps.
    processors_of _ z h actor _ _ _ c.in-VpSet.is (c.set_state.ensures.stands z h actor ps)

pub returns-in-VpSet-clause-refused : goal.returns-in-VpSet-clause-refused
returns-in-VpSet-clause-refused c = λ r.
    let u = subst (λ (p : Op). IsRefusal p c.set_state.result) c.in-VpSet.is r in
    (refl, refl, c.set_state.ensures.refused u.0 u.1 u.2)
