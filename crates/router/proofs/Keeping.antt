-- Entries that leave what the tables represent.
use Rattle.std.proofs.Common.{ℕ, ◌≡◌, Bool, true, false, List, [], ◌∷◌, ◌++◌, Option, Some, None, refl, sym, ◌∙◌, ap, arith, slice_get}
use Rattle.std.proofs.lemmas.List.{append-nil}
use Rattle.std.specs.Option.{option_map_or}
use Rattle.xv_model.specs.declared.messages.Message.{Message}
use Rattle.xv_model.specs.declared.operations.EndConfig.{EndConfig}
use Rattle.xv_model.specs.declared.operations.Op.{Op}
use Rattle.xv_model.specs.declared.operations.Op.TheVariants as op
use Rattle.xv_model.specs.declared.outcomes.Outcome.{Outcome}
use Rattle.xv_model.specs.declared.outcomes.Outcome.TheVariants as out
use Rattle.xv_model.specs.declared.entries.Entry.{Entry}
use Rattle.xv_model.specs.account.Start.{Start}
use Rattle.xv_model.specs.account.Kinds.{is_fabric}
use Rattle.xv_model.specs.source.Notices.{routes}
use Rattle.xv_model.specs.source.Eas.{eas}
use Rattle.xv_model.specs.end.EventStates.{esn, ese}
use Rattle.xv_model.specs.end.Written.{written}
use Rattle.xv_model.specs.end.Reading.{taken}
use Rattle.xv_model.specs.route.Flight.{flight}
use Rattle.xv_model.proofs.HalvesLemmas.{routes-skips}
use Rattle.xv_model.proofs.FabricHalves.{eas-skips, end_config-skips, written_count-skips, taken_count-skips, esn-skips, ese-skips, flight-skips}
use Rattle.end_queue.specs.declared.ends.EndRecord.{EndRecord}
use Rattle.end_queue.proofs.Entering.{nothing_entered}
use Rattle.router.specs.Tables.{Kept, StandsFor}
use Rattle.end_queue.specs.Accounts.{record_of}

-- an entry that changes nothing of what the account gives leaves what the tables represent
pub nothing_keeps : (t : Kept) (z : Start) (h : List Entry) (x : Entry) →
    ((s : ℕ) → eas z (x ∷ h) s ≡ eas z h s) → ((s : ℕ) → routes z (x ∷ h) s ≡ routes z h s) → ((e : ℕ) → record_of z (x ∷ h) e ≡ record_of z h e) → flight z (x ∷ h) ≡ flight z h →
    StandsFor t z h → StandsFor t z (x ∷ h)
nothing_keeps t z h x eases routed ends messages st = record {
  board = st.board;
  eases = λ s l. st.eases s l ∙ ap Some (sym (eases s));
  routes = λ s l. st.routes s l ∙ ap Some (sym (routed s));
  ends = λ e l. st.ends e l ∙ ap Some (sym (ends e));
  messages = st.messages ∙ sym messages;
}

-- whether an entry is one of processors, of the rings of threads or of memory alone, only asks, or took no message
abbrev pub is_beside : Op → Outcome → Bool
is_beside (op.Connect v) u = true
is_beside (op.Restore v t) u = true
is_beside (op.Save v) u = true
is_beside (op.Tima t page offset size access) u = true
is_beside (op.Peek addr) u = true
is_beside (op.Zero addr len) u = true
is_beside (op.AttrGet group number) u = true
is_beside (op.VpGet v) u = true
is_beside (op.VpSet v cppr ipb) u = true
is_beside (op.Take i) out.NoMessage = true
is_beside (op.Take i) out.BadAccess = true
is_beside o u = false

-- what is made of a message, where that is none
pub made_none : (m : Option Message) → ◌≡◌ {A = List Message} (option_map_or (λ n. []) m []) []
made_none None = refl
made_none (Some n) = refl

-- an entry
abbrev entry : ℕ → Op → Outcome → Entry
entry actor o u = record { actor = actor; op = o; outcome = u }

-- a take of which nothing becomes
untaken : (t : Kept) (z : Start) (h : List Entry) (actor i : ℕ) (u : Outcome) → is_beside (op.Take i) u ≡ true → StandsFor t z h → StandsFor t z (entry actor (op.Take i) u ∷ h)
untaken t z h actor i out.NoMessage is = nothing_keeps t z h (entry actor (op.Take i) out.NoMessage) (λ s. refl) (λ s. omega arith) (nothing_entered z h) (ap (λ ms. flight z h ++ ms) (made_none (slice_get (flight z h) i)) ∙ append-nil (flight z h))
untaken t z h actor i out.BadAccess is = nothing_keeps t z h (entry actor (op.Take i) out.BadAccess) (λ s. refl) (λ s. omega arith) (nothing_entered z h) (ap (λ ms. flight z h ++ ms) (made_none (slice_get (flight z h) i)) ∙ append-nil (flight z h))
untaken t z h actor i _ is = absurd cc

-- one of the others
beside : (t : Kept) (z : Start) (h : List Entry) (actor : ℕ) (o : Op) (u : Outcome) → is_beside o u ≡ true → StandsFor t z h → StandsFor t z (entry actor o u ∷ h)
beside t z h actor (op.Take i) u is = untaken t z h actor i u is
beside t z h actor (op.Connect v) u is = nothing_keeps t z h (entry actor (op.Connect v) u) (λ s. refl) (λ s. omega arith) (nothing_entered z h) (append-nil (flight z h))
beside t z h actor (op.Restore v thread) u is = nothing_keeps t z h (entry actor (op.Restore v thread) u) (λ s. refl) (λ s. omega arith) (nothing_entered z h) (append-nil (flight z h))
beside t z h actor (op.Save v) u is = nothing_keeps t z h (entry actor (op.Save v) u) (λ s. refl) (λ s. omega arith) (nothing_entered z h) (append-nil (flight z h))
beside t z h actor (op.Tima thread page offset size access) u is = nothing_keeps t z h (entry actor (op.Tima thread page offset size access) u) (λ s. refl) (λ s. omega arith) (nothing_entered z h) (append-nil (flight z h))
beside t z h actor (op.Peek addr) u is = nothing_keeps t z h (entry actor (op.Peek addr) u) (λ s. refl) (λ s. omega arith) (nothing_entered z h) (append-nil (flight z h))
beside t z h actor (op.Zero addr len) u is = nothing_keeps t z h (entry actor (op.Zero addr len) u) (λ s. refl) (λ s. omega arith) (nothing_entered z h) (append-nil (flight z h))
beside t z h actor (op.AttrGet group number) u is = nothing_keeps t z h (entry actor (op.AttrGet group number) u) (λ s. refl) (λ s. omega arith) (nothing_entered z h) (append-nil (flight z h))
beside t z h actor (op.VpGet v) u is = nothing_keeps t z h (entry actor (op.VpGet v) u) (λ s. refl) (λ s. omega arith) (nothing_entered z h) (append-nil (flight z h))
beside t z h actor (op.VpSet v cppr ipb) u is = nothing_keeps t z h (entry actor (op.VpSet v cppr ipb) u) (λ s. refl) (λ s. omega arith) (nothing_entered z h) (append-nil (flight z h))
beside t z h actor _ u is = absurd cc

-- such an entry leaves what the tables represent
pub beside_keeps : (t : Kept) (z : Start) (h : List Entry) (x : Entry) → is_beside x.op x.outcome ≡ true → StandsFor t z h → StandsFor t z (x ∷ h)
beside_keeps t z h x is = beside t z h x.actor x.op x.outcome is

-- an entry that isn't the fabric's leaves what the tables represent
pub word_keeps : (t : Kept) (z : Start) (h : List Entry) (x : Entry) → is_fabric z.board x.op ≡ false → StandsFor t z h → StandsFor t z (x ∷ h)
word_keeps t z h x other = nothing_keeps t z h x (λ s. eas-skips z s x h other) (λ s. routes-skips z s x h other) (λ e. same e) (flight-skips z x h other)
  where
    make : EndConfig → ℕ → ℕ → ℕ → ℕ → EndRecord
    make c written taken esn ese = record { config = c; written = written; taken = taken; esn = esn; ese = ese }

    same : (e : ℕ) → record_of z (x ∷ h) e ≡ record_of z h e
    same e = λ i. make (end_config-skips z e x h other i) (written_count-skips z e x h other i) (taken_count-skips z e x h other i) (esn-skips z e x h other i) (ese-skips z e x h other i)
