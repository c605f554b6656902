-- Takes of escalations: what the tables represent then, and what is answered.
use Rattle.std.proofs.Common.{ℕ, ◌≡◌, ◌≢◌, ◌<◌, ◌+◌, ◌*◌, ◌==◌, Bool, true, false, if◌then◌else◌, List, [], ◌∷◌, ◌++◌, Option, Some, None, refl, sym, ◌∙◌, ap, subst, arith, slice_set, slice_get}
use Rattle.std.specs.Prelude.{◌||◌, ◌↔◌, ⊤}
use Rattle.std.specs.List.{remove}
use Rattle.std.specs.Option.{option_map_or}
use Rattle.std.proofs.lemmas.Bool.Decides.{nat_tests}
use Rattle.std.proofs.lemmas.List.{append-nil}
use Rattle.xv_base.specs.Limits.{ends_per_processor}
use Rattle.xv_model.specs.declared.messages.Message.{Message}
use Rattle.xv_model.specs.declared.messages.Message.TheVariants as message
use Rattle.xv_model.specs.declared.operations.EndFlags.{EndFlags}
use Rattle.xv_model.specs.declared.operations.Op.TheVariants as op
use Rattle.xv_model.specs.declared.outcomes.Wrote.{Wrote}
use Rattle.xv_model.specs.declared.outcomes.Then.{Then}
use Rattle.xv_model.specs.declared.outcomes.EndRun.{EndRun}
use Rattle.xv_model.specs.declared.outcomes.EndRun.TheVariants.{Ran, NoEnd}
use Rattle.xv_model.specs.declared.outcomes.Outcome.TheVariants as out
use Rattle.xv_model.specs.declared.entries.Entry.{Entry}
use Rattle.xv_model.specs.account.Start.{Start}
use Rattle.xv_model.specs.source.PqTable.{trigger_row}
use Rattle.xv_model.specs.end.Flags.{always_escalates, is_valid, enqueues}
use Rattle.xv_model.specs.end.Descriptors.{end_config}
use Rattle.xv_model.specs.end.EventStates.{esn, ese}
use Rattle.xv_model.specs.end.Memory.{wrote_at}
use Rattle.xv_model.specs.end.Written.{payload_in, written, written_count, wrote_in}
use Rattle.xv_model.specs.end.Reading.{taken}
use Rattle.xv_model.specs.route.Flight.{flight, made_by, source_of}
use Rattle.xv_model.specs.route.Routing.{next_by, end_pass}
use Rattle.xv_model.specs.route.Taking.{escalates_on, escalate_outcome}
use Rattle.end_queue.specs.declared.ends.EndRecord.{EndRecord}
use Rattle.end_queue.specs.Ends.{first_end, end_in, with_ese}
use Rattle.router.specs.Passes.{after_pass, pass_by, made_for}
use Rattle.router.specs.Tables.{Kept, StandsFor}
use Rattle.end_queue.specs.Accounts.{record_of}
use Rattle.xv_model.proofs.Elements.{at_same, at_other, set_gives, read}
use Rattle.end_queue.proofs.Entering.{record_by, nothing_entered}
use Rattle.router.proofs.Ran.{counted_in, count_by, end_ran, ran}
use Rattle.router.proofs.Routed.{end_found}
use Rattle.router.proofs.Taken.{asked}

-- the entry of an escalation of e, and of the pass that it made
abbrev pub escalating : ℕ → ℕ → ℕ → Option EndRun → Entry
escalating actor i e run = record { actor = actor; op = op.Take i; outcome = out.Escalated e run }

-- the tables with these ENDs, and these messages in flight
abbrev pub with_both : Kept → List EndRecord → List Message → Kept
with_both t ends messages = record {
  board = t.board;
  eases = t.eases;
  routes = t.routes;
  ends = ends;
  messages = messages;
}

-- END j after an escalation with these flags asked the state of e
abbrev pub asked_of : Start → List Entry → ℕ → Bool → ℕ → EndRecord
asked_of z h e always j = with_ese (if option_map_or (λ end. end == j) (if always then None else Some e) false then (trigger_row (ese z h j)).pair else ese z h j) (record_of z h j)

asked_here : (z : Start) (h : List Entry) (e : ℕ) (always : Bool) →
    with_ese (if always then ese z h e else (trigger_row (ese z h e)).pair) (record_of z h e) ≡ asked_of z h e always e
asked_here z h e true = refl
asked_here z h e false = sym (ap (λ state. with_ese state (record_of z h e)) (at_same e (trigger_row (ese z h e)).pair (ese z h e)))

asked_there : (z : Start) (h : List Entry) (e : ℕ) (always : Bool) (j : ℕ) → j ≢ e → asked_of z h e always j ≡ record_of z h j
asked_there z h e true j other = refl
asked_there z h e false j other = ap (λ state. with_ese state (record_of z h j)) (at_other e j (trigger_row (ese z h j)).pair (ese z h j) other)

-- the state of a record after it is asked
abbrev state_asked : Bool → EndRecord → ℕ
state_asked always r = if always then r.ese else (trigger_row r.ese).pair

-- the ENDs after it asked
pub asked_gives : (t : Kept) (z : Start) (h : List Entry) (e state : ℕ) (always : Bool) (ends : List EndRecord) → StandsFor t z h → e < ends_per_processor * t.board.limits.processors →
    state ≡ state_asked always (end_in t.ends e) → ends ≡ slice_set t.ends e (with_ese state (end_in t.ends e)) →
    (j : ℕ) → j < ends_per_processor * z.board.limits.processors → slice_get ends j ≡ Some (asked_of z h e always j)
asked_gives t z h e state always ends st l is are j lj =
    let inside = subst (λ b. e < ends_per_processor * b.limits.processors) st.board l in
    let r = end_in t.ends e in
    let here : with_ese state r ≡ asked_of z h e always e = ap (λ s. with_ese s r) is ∙ ap (λ (x : EndRecord). with_ese (state_asked always x) x) (end_found t z h e st l) ∙ asked_here z h e always in
    ap (λ (es : List EndRecord). slice_get es j) are
    ∙ set_gives t.ends e (ends_per_processor * z.board.limits.processors) (with_ese state r) (record_of z h) (asked_of z h e always) st.ends inside here (asked_there z h e always) j lj

-- the tables after an escalation that was coalesced
pub coalesced_stands : (t : Kept) (z : Start) (h : List Entry) (actor i e esc p origin : ℕ) (flags : EndFlags) (ends : List EndRecord) (messages : List Message) → StandsFor t z h →
    slice_get t.messages i ≡ Some (message.Escalate e flags esc p origin) →
    ((j : ℕ) → j < ends_per_processor * z.board.limits.processors → slice_get ends j ≡ Some (asked_of z h e (always_escalates flags) j)) → messages ≡ remove t.messages i →
    StandsFor (with_both t ends messages) z (escalating actor i e None ∷ h)
coalesced_stands t z h actor i e esc p origin flags ends messages st found gives are =
    let m = message.Escalate e flags esc p origin in
    let is : slice_get (flight z h) i ≡ Some m = subst (λ (ms : List Message). slice_get ms i ≡ Some m) st.messages found in
    record {
      board = st.board;
      eases = st.eases;
      routes = λ s l. st.routes s l ∙ ap Some (omega arith);
      ends = λ j l. gives j l ∙ ap Some (sym (unrun j is));
      messages = are ∙ ap (λ (ms : List Message). remove ms i) st.messages
          ∙ sym (append-nil (remove (flight z h) i))
          ∙ ap (λ (n : Option Message). remove (flight z h) i ++ option_map_or (λ n. made_by z h (source_of n) None) n []) (sym is);
    }
  where
    unrun : (j : ℕ) → slice_get (flight z h) i ≡ Some (message.Escalate e flags esc p origin) →
        with_ese (asked z h j (slice_get (flight z h) i)) (record_by z h j (written z h j ++ []) (taken h j ++ [])) ≡ asked_of z h e (always_escalates flags) j
    unrun j is = ap (λ (n : Option Message). with_ese (asked z h j n) (record_by z h j (written z h j ++ []) (taken h j ++ []))) is
        ∙ ap (with_ese (asked_of z h e (always_escalates flags) j).ese) (nothing_entered z h j)

-- an END after the pass that an escalation makes
escalated_ran : (z : Start) (h : List Entry) (actor i e esc p origin j : ℕ) (flags : EndFlags) (w : Wrote) (next : Then) (q : Bool) →
    slice_get (flight z h) i ≡ Some (message.Escalate e flags esc p origin) →
    record_of z (escalating actor i e (Some (Ran esc (if q then Some w else None) next)) ∷ h) j
    ≡ with_ese (asked_of z h e (always_escalates flags) j).ese (if esc == j then counted_in z h j true (count_by z h j q) (taken h j) else record_of z h j)
escalated_ran z h actor i e esc p origin j flags w next q is =
    ap (λ (n : Option Message). end_ran z h j (esc == j) (option_map_or (λ end. if end == j then option_map_or payload_in n [] else [])
    (wrote_in (Some (Ran esc (if q then Some w else None) next))) []) (asked z h j n)) is
    ∙ ran z h esc j p (asked_of z h e (always_escalates flags) j).ese w next q

-- and after an escalation whose END isn't valid
escalated_left : (z : Start) (h : List Entry) (actor i e esc p origin j : ℕ) (flags : EndFlags) →
    slice_get (flight z h) i ≡ Some (message.Escalate e flags esc p origin) →
    record_of z (escalating actor i e (Some (NoEnd esc)) ∷ h) j ≡ asked_of z h e (always_escalates flags) j
escalated_left z h actor i e esc p origin j flags is =
    ap (λ (n : Option Message). with_ese (asked z h j n) (record_by z h j (written z h j ++ []) (taken h j ++ []))) is
    ∙ ap (with_ese (asked_of z h e (always_escalates flags) j).ese) (nothing_entered z h j)

-- the tables after an escalation by which the ENDs and the messages are these
escalating_stands : (t : Kept) (z : Start) (h : List Entry) (actor i e esc p origin : ℕ) (flags : EndFlags) (run : EndRun) (ends : List EndRecord) (sent : List Message) → StandsFor t z h →
    slice_get (flight z h) i ≡ Some (message.Escalate e flags esc p origin) →
    ((j : ℕ) → j < ends_per_processor * z.board.limits.processors → slice_get ends j ≡ Some (record_of z (escalating actor i e (Some run) ∷ h) j)) →
    sent ≡ made_by z h origin (Some run) →
    StandsFor (with_both t ends (remove t.messages i ++ sent)) z (escalating actor i e (Some run) ∷ h)
escalating_stands t z h actor i e esc p origin flags run ends sent st is ends_are sent_are = record {
  board = st.board;
  eases = st.eases;
  routes = λ s l. st.routes s l ∙ ap Some (omega arith);
  ends = ends_are;
  messages = ap (λ (ms : List Message). remove ms i ++ sent) st.messages ∙ ap (λ (ms : List Message). remove (flight z h) i ++ ms) sent_are
      ∙ ap (λ (n : Option Message). remove (flight z h) i ++ option_map_or (λ n. made_by z h (source_of n) (Some run)) n []) (sym is);
}

-- an escalation by a pass of esc, whose END is valid or not, and writes or not
escalated_by : (t : Kept) (z : Start) (h : List Entry) (actor i e esc p origin : ℕ) (flags : EndFlags) (w : Wrote) (next : Then) (writes valid : Bool) (ends : List EndRecord) → StandsFor t z h →
    slice_get (flight z h) i ≡ Some (message.Escalate e flags esc p origin) →
    ((j : ℕ) → j < ends_per_processor * z.board.limits.processors → slice_get ends j ≡ Some (asked_of z h e (always_escalates flags) j)) →
    esc < ends_per_processor * z.board.limits.processors →
    let before = asked_of z h e (always_escalates flags) esc in
    let after = if valid then with_ese before.ese (counted_in z h esc true (count_by z h esc writes) (taken h esc)) else before in
    let run = if valid then Ran esc (if writes then Some w else None) next else NoEnd esc in
    StandsFor (with_both t (slice_set ends esc after) (remove t.messages i ++ made_for origin (end_config z h esc) run)) z (escalating actor i e (Some run) ∷ h)
escalated_by t z h actor i e esc p origin flags w next writes true ends st is gives l =
    let run = Ran esc (if writes then Some w else None) next in
    let state = λ (j : ℕ). (asked_of z h e (always_escalates flags) j).ese in
    escalating_stands t z h actor i e esc p origin flags run _ _ st is
    (set_gives ends esc (ends_per_processor * z.board.limits.processors) _ (asked_of z h e (always_escalates flags)) (record_of z (escalating actor i e (Some run) ∷ h)) gives l
    (sym (escalated_ran z h actor i e esc p origin esc flags w next writes is ∙ ap (with_ese (state esc)) (at_same esc _ (record_of z h esc))))
    (λ j other. escalated_ran z h actor i e esc p origin j flags w next writes is ∙ ap (with_ese (state j)) (at_other esc j _ (record_of z h j) other)))
    refl
escalated_by t z h actor i e esc p origin flags w next writes false ends st is gives l =
    escalating_stands t z h actor i e esc p origin flags (NoEnd esc) _ _ st is
    (set_gives ends esc (ends_per_processor * z.board.limits.processors) (asked_of z h e (always_escalates flags) esc) (asked_of z h e (always_escalates flags)) (record_of z (escalating actor i e (Some (NoEnd esc)) ∷ h)) gives l
    (sym (escalated_left z h actor i e esc p origin esc flags is))
    (λ j other. escalated_left z h actor i e esc p origin j flags is))
    refl

-- what is kept of the escalation END, when its pass begins
pub asked_found : (t : Kept) (z : Start) (h : List Entry) (e esc : ℕ) (always : Bool) (ends : List EndRecord) → StandsFor t z h →
    ((j : ℕ) → j < ends_per_processor * z.board.limits.processors → slice_get ends j ≡ Some (asked_of z h e always j)) → esc < ends_per_processor * t.board.limits.processors →
    end_in ends esc ≡ asked_of z h e always esc
asked_found t z h e esc always ends st gives l =
    read ends esc (ends_per_processor * z.board.limits.processors) (end_in ends esc) first_end (asked_of z h e always) gives
    (subst (λ b. esc < ends_per_processor * b.limits.processors) st.board l) refl

-- the tables after an escalation that went on
pub escalated_stands : (t : Kept) (z : Start) (h : List Entry) (actor i e esc p origin : ℕ) (flags : EndFlags) (run : EndRun) (ends after : List EndRecord) (messages : List Message) → StandsFor t z h →
    slice_get t.messages i ≡ Some (message.Escalate e flags esc p origin) →
    ((j : ℕ) → j < ends_per_processor * z.board.limits.processors → slice_get ends j ≡ Some (asked_of z h e (always_escalates flags) j)) →
    esc < ends_per_processor * t.board.limits.processors →
    run ≡ pass_by (end_in ends esc) esc p → after ≡ slice_set ends esc (after_pass (end_in ends esc)) →
    messages ≡ remove t.messages i ++ made_for origin (end_in ends esc).config run →
    StandsFor (with_both t after messages) z (escalating actor i e (Some run) ∷ h)
escalated_stands t z h actor i e esc p origin flags run ends after messages st found gives l is_run are_ends are_messages =
    let m = message.Escalate e flags esc p origin in
    let is : slice_get (flight z h) i ≡ Some m = subst (λ (ms : List Message). slice_get ms i ≡ Some m) st.messages found in
    let c = end_config z h esc in
    let same = asked_found t z h e esc (always_escalates flags) ends st gives l in
    let done = escalated_by t z h actor i e esc p origin flags (wrote_at c (c.start + written_count z h esc) p) (next_by c (esn z h esc)) (enqueues c) (is_valid c) ends st is gives
    (subst (λ b. esc < ends_per_processor * b.limits.processors) st.board l) in
    let with_r = subst (λ (r : EndRecord). StandsFor (with_both t (slice_set ends esc (after_pass r)) (remove t.messages i ++ made_for origin r.config (pass_by r esc p))) z
    (escalating actor i e (Some (pass_by r esc p)) ∷ h)) (sym same) done in
    let with_run = subst (λ (u : EndRun). StandsFor (with_both t (slice_set ends esc (after_pass (end_in ends esc))) (remove t.messages i ++ made_for origin (end_in ends esc).config u)) z
    (escalating actor i e (Some u) ∷ h)) (sym is_run) with_r in
    subst (λ (es : List EndRecord). StandsFor (with_both t es messages) z (escalating actor i e (Some run) ∷ h)) (sym are_ends)
    (subst (λ (ms : List Message). StandsFor (with_both t (slice_set ends esc (after_pass (end_in ends esc))) ms) z (escalating actor i e (Some run) ∷ h)) (sym are_messages) with_run)

-- What is answered.

pub escalated_answer : (t : Kept) (z : Start) (h : List Entry) (e esc p : ℕ) (flags : EndFlags) (run : EndRun) (ends : List EndRecord) → StandsFor t z h →
    ((j : ℕ) → j < ends_per_processor * z.board.limits.processors → slice_get ends j ≡ Some (asked_of z h e (always_escalates flags) j)) →
    esc < ends_per_processor * t.board.limits.processors → e < ends_per_processor * t.board.limits.processors →
    run ≡ pass_by (end_in ends esc) esc p → escalates_on flags (end_in t.ends e).ese ≡ true →
    out.Escalated e (Some run) ≡ escalate_outcome z h e flags esc p
escalated_answer t z h e esc p flags run ends st gives l le is on =
    let state : escalates_on flags (ese z h e) ≡ true = subst (λ (r : EndRecord). escalates_on flags r.ese ≡ true) (end_found t z h e st le) on in
    ap (λ (u : EndRun). out.Escalated e (Some u)) (is ∙ ap (λ (r : EndRecord). pass_by r esc p) (asked_found t z h e esc (always_escalates flags) ends st gives l))
    ∙ ap (λ v. out.Escalated e (if v then Some (end_pass z h esc p) else None)) (sym state)

pub coalesced_answer : (t : Kept) (z : Start) (h : List Entry) (e esc p : ℕ) (flags : EndFlags) → StandsFor t z h →
    e < ends_per_processor * t.board.limits.processors → escalates_on flags (end_in t.ends e).ese ≡ false →
    out.Escalated e None ≡ escalate_outcome z h e flags esc p
coalesced_answer t z h e esc p flags st le off =
    let state : escalates_on flags (ese z h e) ≡ false = subst (λ (r : EndRecord). escalates_on flags r.ese ≡ false) (end_found t z h e st le) off in
    ap (λ v. out.Escalated e (if v then Some (end_pass z h esc p) else None)) (sym state)

-- What holds of the fields of the message that lay there, by those of the one that was taken.

abbrev pub AnswersOf : Start → List Entry → Option EndRun → Option Message → Type 0
AnswersOf z h run (Some (message.Escalate e flags esc p origin)) = out.Escalated e run ≡ escalate_outcome z h e flags esc p
AnswersOf z h run _ = ⊤

abbrev pub StandsAfter : Kept → Start → List Entry → ℕ → ℕ → Option EndRun → Option Message → Type 0
StandsAfter t z h actor i run (Some (message.Escalate e flags esc p origin)) = StandsFor t z (escalating actor i e run ∷ h)
StandsAfter t z h actor i run _ = ⊤

abbrev pub CoalescesWhen : List EndRecord → Option EndRun → Option Message → Type 0
CoalescesWhen ends run (Some (message.Escalate e flags esc p origin)) = (run ≡ None) ↔ ((always_escalates flags ≡ false) × ((end_in ends e).ese ≢ 0))
CoalescesWhen ends run _ = ⊤

-- when an escalation is coalesced
stopped : (always : Bool) (state : ℕ) → (always || (trigger_row state).forwards) ≡ false → (always ≡ false) × (state ≢ 0)
stopped true state is = absurd cc
stopped false state is = (refl, λ (none : state ≡ 0). forwarding (subst (λ n. (trigger_row n).forwards ≡ false) none is))
  where
    forwarding : ◌≡◌ {A = Bool} true false → ⊥
    forwarding is = absurd cc

gone_on : (always : Bool) (state : ℕ) → (always || (trigger_row state).forwards) ≡ true → always ≡ false → state ≢ 0 → ⊥
gone_on true state is not_always other = absurd cc
gone_on false state is not_always other = grind (arith, nat_tests)

pub coalesced_when : (ends : List EndRecord) (e : ℕ) (flags : EndFlags) → escalates_on flags (end_in ends e).ese ≡ false →
    (◌≡◌ {A = Option EndRun} None None) ↔ ((always_escalates flags ≡ false) × ((end_in ends e).ese ≢ 0))
coalesced_when ends e flags off = (λ same. stopped (always_escalates flags) (end_in ends e).ese off, λ both. refl)

pub goes_on_when : (ends : List EndRecord) (e : ℕ) (flags : EndFlags) (run : EndRun) → escalates_on flags (end_in ends e).ese ≡ true →
    (◌≡◌ {A = Option EndRun} (Some run) None) ↔ ((always_escalates flags ≡ false) × ((end_in ends e).ese ≢ 0))
goes_on_when ends e flags run on = (λ same. absurd cc, λ both. absurd (gone_on (always_escalates flags) (end_in ends e).ese on both.0 both.1))
