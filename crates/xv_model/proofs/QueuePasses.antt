-- The passes that write into a queue in a legal account, and what any entry leaves of it.
use Rattle.std.proofs.Common.{ℕ, ◌≡◌, ◌==◌, ◌+◌, ◌<◌, ◌^◌, Bool, true, false, not, if◌then◌else◌, List, [], ◌∷◌, slice_get, Option, Some, None, refl, sym, ◌∙◌, ap, ◌⊎◌, inl, inr, eq-eqb, ne_eqb, length}
use Rattle.std.proofs.lemmas.Bool.{cases_eq}
use Rattle.std.specs.Option.{option_map_or, option_or}
use Rattle.std.specs.Prelude.{All}
use Rattle.xv_base.specs.Limits.{most_messages}
use Rattle.xv_model.specs.declared.operations.Op.{Op}
use Rattle.xv_model.specs.declared.operations.Op.TheVariants as op
use Rattle.xv_model.specs.declared.outcomes.Wrote.{Wrote}
use Rattle.xv_model.specs.declared.outcomes.Then.{Then}
use Rattle.xv_model.specs.declared.outcomes.EndRun.TheVariants as run
use Rattle.xv_model.specs.declared.outcomes.Routed.TheVariants.{NoSource, Masked, Run}
use Rattle.xv_model.specs.declared.outcomes.Outcome.{Outcome}
use Rattle.xv_model.specs.declared.outcomes.Outcome.TheVariants as out
use Rattle.xv_model.specs.declared.messages.Message.{Message}
use Rattle.xv_model.specs.declared.messages.Message.TheVariants as message
use Rattle.xv_model.specs.declared.entries.Entry.{Entry}
use Rattle.xv_model.specs.account.Start.{Start}
use Rattle.xv_model.specs.account.Kinds.{run_of}
use Rattle.xv_model.specs.account.Legal.{IsNext, legal}
use Rattle.xv_model.specs.source.Notices.{routes, outstanding}
use Rattle.xv_model.specs.source.Eas.{eas}
use Rattle.xv_model.specs.end.Flags.{is_valid, enqueues}
use Rattle.xv_model.specs.end.Descriptors.{end_config}
use Rattle.xv_model.specs.end.EventStates.{esn, ese}
use Rattle.xv_model.specs.end.Written.{wrote_in, payload_in, payload_of, entered, written_count}
use Rattle.xv_model.specs.end.Memory.{place, wrote_at, write_of, word_in, zeroed_in, zero_in, word_by, word_at}
use Rattle.xv_model.specs.route.Flight.{flight}
use Rattle.xv_model.specs.route.Routing.{next_by, route_outcome}
use Rattle.xv_model.specs.route.Taking.{escalates_on, taken_by}
use Rattle.xv_model.specs.account.Fit.{IsFit}
use Rattle.xv_model.proofs.FlightRanges.{fit_at}
use Rattle.xv_model.proofs.SmallEisns.{small_eisn}
use Rattle.xv_model.proofs.QueueWords.{word_of, Sets}

-- the write of a pass that wrote for e is this one
abbrev Writes : ℕ → ℕ → Wrote → Op → Outcome → Type 0
Writes e end w o u = wrote_in (run_of o u) ≡ Some e → (end ≡ e) × (write_of (run_of o u) ≡ Some w)

-- where a route wrote for e, by its six tests
writes_by : (s e k end : ℕ) (a b valid_eas masked v q : Bool) (w : Wrote) (t : Then) →
    Writes e end w (op.Route s) (if a then out.NoNotice else (if b then out.BusFull else out.Routed k (if not valid_eas then NoSource else (if masked then Masked else Run (if v then run.Ran end (if q then Some w else None) t else run.NoEnd end)))))
writes_by s e k end true b valid_eas masked v q w t is = cc
writes_by s e k end false true valid_eas masked v q w t is = cc
writes_by s e k end false false false masked v q w t is = cc
writes_by s e k end false false true true v q w t is = cc
writes_by s e k end false false true false false q w t is = cc
writes_by s e k end false false true false true false w t is = cc
writes_by s e k end false false true false true true w t is = (cc, refl)

-- the write of a pass with a payload for an END
abbrev write_for : Start → List Entry → ℕ → ℕ → Wrote
write_for z h payload end = let c = end_config z h end in wrote_at c (c.start + written_count z h end) payload

-- where a route wrote for e, e is the END of the source's EAS
route_writes : (z : Start) (h : List Entry) (s e : ℕ) → Writes e (eas z h s).end (write_for z h (eas z h s).eisn (eas z h s).end) (op.Route s) (route_outcome z h s)
route_writes z h s e =
    let a = eas z h s in
    let c = end_config z h a.end in
    writes_by s e (routes z h s + 1) a.end (outstanding z h s == 0) (length (flight z h) == most_messages) a.valid a.masked (is_valid c) (enqueues c) (write_for z h a.eisn a.end) (next_by c (esn z h a.end))

-- where an escalation wrote for e, e is its escalation END, by its three tests
escalation_writes : (e esc : ℕ) (on v q : Bool) (w : Wrote) (t : Then) →
    let r = if on then Some (if v then run.Ran esc (if q then Some w else None) t else run.NoEnd esc) else None in
    wrote_in r ≡ Some e → (esc ≡ e) × (write_of r ≡ Some w)
escalation_writes e esc false v q w t is = cc
escalation_writes e esc true false q w t is = cc
escalation_writes e esc true true false w t is = cc
escalation_writes e esc true true true w t is = (cc, refl)

-- an entry is a pass that wrote a payload into the queue of e: its number there is one more than those that were written
pub record IsPass (z : Start) (h : List Entry) (x : Entry) (e : ℕ) : Type 0 where
  pub payload : ℕ
  pub small : payload < 2 ^ 31
  pub enters : payload_of z h x.op ≡ payload ∷ []
  pub write : write_of (run_of x.op x.outcome) ≡ Some (write_for z h payload e)
  pub no_zero : zeroed_in x.op x.outcome ≡ None

-- the same of an operation and what it answers
abbrev PassBy : Start → List Entry → Op → Outcome → ℕ → Type 0
PassBy z h o u e = (payload : ℕ) × (payload < 2 ^ 31) × (payload_of z h o ≡ payload ∷ []) × (write_of (run_of o u) ≡ Some (write_for z h payload e)) × (zeroed_in o u ≡ None)

-- a take that wrote into the queue of e, by the message that it found
take_pass : (z : Start) (h : List Entry) (i e : ℕ) (found : Option Message) → ((m : Message) → found ≡ Some m → IsFit m) →
    let u = option_map_or (taken_by z h) found out.NoMessage in
    wrote_in (run_of (op.Take i) u) ≡ Some e →
    (payload : ℕ) × (payload < 2 ^ 31) × (option_map_or payload_in found [] ≡ payload ∷ []) × (write_of (run_of (op.Take i) u) ≡ Some (write_for z h payload e)) × (zeroed_in (op.Take i) u ≡ None)
take_pass z h i e None fit is = cc
take_pass z h i e (Some (message.Present end flags vp priority esc esc_eisn origin)) fit is = cc
take_pass z h i e (Some (message.Escalate end flags esc esc_eisn origin)) fit is =
    let c = end_config z h esc in
    let w = escalation_writes e esc (escalates_on flags (ese z h end)) (is_valid c) (enqueues c) (write_for z h esc_eisn esc) (next_by c (esn z h esc)) is in
    (esc_eisn, (fit (message.Escalate end flags esc esc_eisn origin) refl).payload, refl, w.1 ∙ ap (λ n. Some (write_for z h esc_eisn n)) w.0, refl)

-- an operation that is legal, and that wrote into the queue of e, is such a pass
pass_by : (z : Start) (h : List Entry) (o : Op) (e : ℕ) → ((s : ℕ) → (z.eas s).eisn < 2 ^ 31) → All IsFit (flight z h) → wrote_in (run_of o (legal z h o)) ≡ Some e → PassBy z h o (legal z h o) e
pass_by z h (op.Route s) e small fit is =
    let w = route_writes z h s e is in
    ((eas z h s).eisn, small_eisn z h s (small s), refl, w.1 ∙ ap (λ n. Some (write_for z h (eas z h s).eisn n)) w.0, refl)
pass_by z h (op.Take i) e small fit is = take_pass z h i e (slice_get (flight z h) i) (λ m at. fit_at (flight z h) i m fit at) is
pass_by z h _ e small fit is = absurd cc

-- an entry of a legal account that wrote into the queue of e is such a pass
pub pass_of : (z : Start) (h : List Entry) (x : Entry) (e : ℕ) → ((s : ℕ) → (z.eas s).eisn < 2 ^ 31) → All IsFit (flight z h) → IsNext z h x → wrote_in (run_of x.op x.outcome) ≡ Some e → IsPass z h x e
pass_of z h x e small fit n is =
    let p = pass_by z h x.op e small fit (ap (λ u. wrote_in (run_of x.op u)) (sym n.outcome) ∙ is) in
    record {
      payload = p.0;
      small = p.1;
      enters = p.2;
      write = ap (λ u. write_of (run_of x.op u)) n.outcome ∙ p.3;
      no_zero = ap (zeroed_in x.op) n.outcome ∙ p.4;
    }

-- the word at an address after a write, by whether it is there
word_if : (b : Bool) (word before : ℕ) → option_map_or (λ w. w) (option_or (if b then Some word else None) None) before ≡ (if b then word else before)
word_if true word before = refl
word_if false word before = refl

-- a pass that wrote into the queue of e sets the word of its number
pub pass_sets : (z : Start) (h : List Entry) (x : Entry) (e j : ℕ) (p : IsPass z h x e) → (end_config z h e).start + written_count z h e ≡ j →
    Sets (place (end_config z h e) j) (word_of (end_config z h e) j p.payload) (word_at z h) (word_at z (x ∷ h))
pass_sets z h x e j p is a =
    let c = end_config z h e in
    let n = c.start + written_count z h e in
    ap (λ w. option_map_or (λ word. word) (option_or (word_in a w) (zero_in a (zeroed_in x.op x.outcome))) (word_at z h a)) p.write
    ∙ ap (λ s. option_map_or (λ word. word) (option_or (word_in a (Some (write_for z h p.payload e))) (zero_in a s)) (word_at z h a)) p.no_zero
    ∙ word_if (place c n == a) (word_of c n p.payload) (word_at z h a)
    ∙ ap (λ k. if place c k == a then word_of c k p.payload else word_at z h a) is

-- what was written for e, where it was
payload_there : (e : ℕ) (ps : List ℕ) → (if e == e then ps else []) ≡ ps
payload_there e ps = ap (λ b. if b then ps else []) (eq-eqb e e refl)

-- a pass that wrote into the queue of e writes its payload
pub pass_enters : (z : Start) (h : List Entry) (x : Entry) (e : ℕ) (p : IsPass z h x e) → wrote_in (run_of x.op x.outcome) ≡ Some e → entered z h x e ≡ p.payload ∷ []
pass_enters z h x e p is =
    ap (λ m. option_map_or (λ end. if end == e then payload_of z h x.op else []) m []) is
    ∙ payload_there e (payload_of z h x.op)
    ∙ p.enters

-- a pass wrote into the queue of e, or it didn't
pub wrote_or_not : (e : ℕ) (m : Option ℕ) → (m ≡ Some e) ⊎ (m ≡ Some e → ⊥)
wrote_or_not e None = inr (λ is. cc)
wrote_or_not e (Some end) = elim (cases_eq end e) [ inl same ↦ inl (ap Some same) | inr differs ↦ inr (λ is. let same : end ≡ e = cc in differs same) ]

-- what is written for e, where another's queue was written at most
enters_none_by : (e : ℕ) (m : Option ℕ) (ps : List ℕ) → (m ≡ Some e → ⊥) → option_map_or (λ end. if end == e then ps else []) m [] ≡ []
enters_none_by e None ps differs = refl
enters_none_by e (Some end) ps differs = ap (λ b. if b then ps else []) (ne_eqb end e (λ same. differs (ap Some same)))

-- an entry that didn't write into the queue of e enters nothing there
pub enters_none : (z : Start) (h : List Entry) (x : Entry) (e : ℕ) → (wrote_in (run_of x.op x.outcome) ≡ Some e → ⊥) → entered z h x e ≡ []
enters_none z h x e differs = enters_none_by e (wrote_in (run_of x.op x.outcome)) (payload_of z h x.op) differs

-- a word that isn't changed
word_kept_by : (m : Option ℕ) (before : ℕ) → ((word : ℕ) → m ≡ Some word → ⊥) → option_map_or (λ w. w) m before ≡ before
word_kept_by None before none = refl
word_kept_by (Some word) before none = absurd (none word refl)

-- an entry that doesn't change the word at an address leaves it
pub word_kept : (z : Start) (h : List Entry) (x : Entry) (a : ℕ) → ((word : ℕ) → word_by a x ≡ Some word → ⊥) → word_at z (x ∷ h) a ≡ word_at z h a
word_kept z h x a none = word_kept_by (word_by a x) (word_at z h a) none
