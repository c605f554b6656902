-- What is taken in a legal account escalates as the messages say.
use Rattle.std.proofs.Common.{ℕ, ◌≡◌, ◌≢◌, ◌&&◌, ◌||◌, ◌⊎◌, inl, inr, Bool, true, false, if◌then◌else◌, List, [], ◌∷◌, ◌++◌, slice_get, Option, Some, None, refl, sym, ◌∙◌, ap, subst}
use Rattle.std.specs.Option.{option_map_or}
use Rattle.std.specs.List.{remove}
use Rattle.xv_model.specs.declared.operations.EndConfig.{EndConfig}
use Rattle.xv_model.specs.declared.operations.Op.{Op}
use Rattle.xv_model.specs.declared.operations.Op.TheVariants as op
use Rattle.xv_model.specs.declared.outcomes.Then.{Then}
use Rattle.xv_model.specs.declared.outcomes.Then.TheVariants as next
use Rattle.xv_model.specs.declared.outcomes.Wrote.{Wrote}
use Rattle.xv_model.specs.declared.outcomes.EndRun.{EndRun}
use Rattle.xv_model.specs.declared.outcomes.EndRun.TheVariants as run
use Rattle.xv_model.specs.declared.outcomes.Outcome.{Outcome}
use Rattle.xv_model.specs.declared.outcomes.Outcome.TheVariants as out
use Rattle.xv_model.specs.declared.messages.Message.{Message}
use Rattle.xv_model.specs.declared.messages.Message.TheVariants as message
use Rattle.xv_model.specs.declared.entries.Entry.{Entry}
use Rattle.xv_model.specs.account.Start.{Start, start}
use Rattle.xv_model.specs.account.Kinds.{run_of}
use Rattle.xv_model.specs.account.Legal.{IsLegal, IsNext, legal}
use Rattle.xv_model.specs.source.PqTable.{trigger_row}
use Rattle.xv_model.specs.end.Flags.{keeps_backlog, may_escalate, always_escalates, escalates, is_silent, always_notifies}
use Rattle.xv_model.specs.end.Descriptors.{end_config}
use Rattle.xv_model.specs.end.EventStates.{ese}
use Rattle.xv_model.specs.route.Flight.{made, made_by, messages_by, source_of, taken_in, without, is_escalating, escalation_of, messages_after, flight}
use Rattle.xv_model.specs.route.Routing.{end_pass, next_by}
use Rattle.xv_model.specs.route.Taking.{is_undelivered, presented_to, present_by, taken_by}
use Rattle.xv_model.specs.laws.Escalations.{origin_in, EachUndeliveredEscalates, EachSilentEscalates, EachEscalationRuns}
use Rattle.xv_model.proofs.FlightRanges.{IsPassOf, route_pass, take_passes, no_pass}
use Rattle.xv_model.proofs.OneAccount.{legal_before}

-- what a take answers in a legal account
take_answer : (z : Start) (h : List Entry) (x : Entry) (i : ℕ) (m : Message) → IsNext z h x → x.op ≡ op.Take i → slice_get (flight z h) i ≡ Some m → x.outcome ≡ taken_by z h m
take_answer z h x i m n is found = n.outcome ∙ ap (legal z h) is ∙ ap (λ o. option_map_or (taken_by z h) o out.NoMessage) found

-- a presentation that is taken leaves an escalation, where it wasn't delivered and has e
pub undelivered_escalates : EachUndeliveredEscalates
undelivered_escalates b h l before later x i e vp priority esc esc_eisn origin v p flags presented escalates whole is found answer =
    let z = start b in
    let n = (legal_before z later (x ∷ before) (subst (IsLegal z) whole l)).1 in
    let m : Message = message.Present e flags vp priority esc esc_eisn origin in
    let same : out.Present v p presented escalates ≡ present_by flags vp priority (presented_to z before (keeps_backlog flags) vp) = sym answer ∙ take_answer z before x i m n is found in
    let became : presented ≡ presented_to z before (keeps_backlog flags) vp = cc in
    let goes : escalates ≡ (is_undelivered (presented_to z before (keeps_backlog flags) vp) && may_escalate flags) = cc in (
      goes ∙ ap (λ q. is_undelivered q && may_escalate flags) (sym became),
      ap (λ o. messages_after z before o x.outcome (flight z before)) is
          ∙ ap (λ u. messages_after z before (op.Take i) u (flight z before)) answer
          ∙ ap (λ o. remove (flight z before) i ++ option_map_or (λ m. if escalates then escalation_of m else made_by z before (source_of m) None) o []) found,
    )

-- a pass of an END with s and e escalates
silent_by : (c : EndConfig) (state : ℕ) → is_silent c ≡ true → escalates c ≡ true → next_by c state ≡ next.Escalate
silent_by c state s e =
    ap (λ b. if b then (if escalates c then next.Escalate else next.Silent) else (if always_notifies c || (trigger_row state).forwards then next.Present else next.Coalesced)) s
    ∙ ap (λ b. if b then next.Escalate else next.Silent) e

-- the pass of an entry of a legal account is one that its END's configuration gives
legal_pass : (z : Start) (h : List Entry) (o : Op) → IsPassOf z h (run_of o (legal z h o))
legal_pass z h (op.Route s) = route_pass z h s
legal_pass z h (op.Take i) = take_passes z h i (slice_get (flight z h) i)
legal_pass z h _ = no_pass z h

-- the message that a pass makes that escalates: the only one that an operation other than the take of a presentation makes
in_take : (z : Start) (h : List Entry) (i e : ℕ) (wrote : Option Wrote) (goes : Then) (u : Outcome) (m : Message) → run_of (op.Take i) u ≡ Some (run.Ran e wrote goes) →
    (if is_escalating u then escalation_of m else made_by z h (source_of m) (run_of (op.Take i) u)) ≡ messages_by goes e (end_config z h e) (source_of m)
in_take z h i e wrote goes (out.Escalated end r) m ran = ap (made_by z h (source_of m)) ran
in_take z h i e wrote goes _ m ran = absurd cc

makes_one : (z : Start) (h : List Entry) (o : Op) (u : Outcome) (ms : List Message) (e : ℕ) (wrote : Option Wrote) (goes : Then) →
    run_of o u ≡ Some (run.Ran e wrote goes) → ((i : ℕ) → o ≡ op.Take i → slice_get ms i ≡ None → ⊥) →
    (origin : ℕ) × (origin_in ms o ≡ Some origin) × (made z h o u ms ≡ messages_by goes e (end_config z h e) origin)
makes_one z h (op.Route s) u ms e wrote goes ran some = (s, refl, ap (made_by z h s) ran)
makes_one z h (op.Take i) u ms e wrote goes ran some = by (slice_get ms i) refl
  where
    by : (n : Option Message) → slice_get ms i ≡ n → (origin : ℕ) × (origin_in ms (op.Take i) ≡ Some origin) × (made z h (op.Take i) u ms ≡ messages_by goes e (end_config z h e) origin)
    by None none = absurd (some i refl none)
    by (Some m) found = (
      source_of m,
      ap (λ (n : Option Message). option_map_or (λ m. Some (source_of m)) n None) found,
      ap (λ (n : Option Message). option_map_or (λ m. if is_escalating u then escalation_of m else made_by z h (source_of m) (run_of (op.Take i) u)) n []) found
          ∙ in_take z h i e wrote goes u m ran,
    )
makes_one z h _ u ms e wrote goes ran some = absurd cc

no_pass_there : (r : EndRun) → None ≡ Some r → ⊥
no_pass_there r e = cc

pub silent_escalates : EachSilentEscalates
silent_escalates b h l before later x e wrote goes whole ran silent on =
    let z = start b in
    let c = end_config z before e in
    let ms = flight z before in
    let n = (legal_before z later (x ∷ before) (subst (IsLegal z) whole l)).1 in
    let p = (legal_pass z before x.op).goes e wrote goes (ap (run_of x.op) (sym n.outcome) ∙ ran) in
    let escalated : goes ≡ next.Escalate = p.1 ∙ silent_by c p.0 silent on in
    let some : (i : ℕ) → x.op ≡ op.Take i → slice_get ms i ≡ None → ⊥ = λ i is none.
    let answer : x.outcome ≡ out.NoMessage = n.outcome ∙ ap (legal z before) is ∙ ap (λ o. option_map_or (taken_by z before) o out.NoMessage) none in
    no_pass_there (run.Ran e wrote goes) (sym (ap (λ o. run_of o x.outcome) is ∙ ap (run_of (op.Take i)) answer) ∙ ran) in
    let made_one = makes_one z before x.op x.outcome ms e wrote goes ran some in (
      escalated,
      made_one.0,
      made_one.1,
      ap (λ (more : List Message). without (taken_in x.op x.outcome) ms ++ more) (made_one.2 ∙ ap (λ g. messages_by g e c made_one.0) escalated),
    )

-- an escalation that is taken runs its pass, or was coalesced
pub escalation_runs : EachEscalationRuns
escalation_runs b h l before later x i e esc esc_eisn origin flags whole is found =
    let z = start b in
    let n = (legal_before z later (x ∷ before) (subst (IsLegal z) whole l)).1 in
    let answer = take_answer z before x i (message.Escalate e flags esc esc_eisn origin) n is found in
    by z before x.outcome e (end_pass z before esc esc_eisn) (always_escalates flags) refl answer
  where
    untriggered : (q : ℕ) → (trigger_row q).forwards ≡ false → q ≢ 0
    untriggered q off zero_is = let no : true ≡ false = ap (λ k. (trigger_row k).forwards) (sym zero_is) ∙ off in absurd cc

    by : (z : Start) (before : List Entry) (u : Outcome) (e : ℕ) (r : EndRun) (always : Bool) → always_escalates flags ≡ always →
        u ≡ out.Escalated e (if always || (trigger_row (ese z before e)).forwards then Some r else None) →
        (u ≡ out.Escalated e (Some r)) ⊎ ((u ≡ out.Escalated e None) × (always_escalates flags ≡ false) × (ese z before e ≢ 0))
    by z before u e r true a answer = inl answer
    by z before u e r false a answer = on_state (trigger_row (ese z before e)).forwards refl answer
      where
        on_state : (on : Bool) → (trigger_row (ese z before e)).forwards ≡ on → u ≡ out.Escalated e (if on then Some r else None) →
            (u ≡ out.Escalated e (Some r)) ⊎ ((u ≡ out.Escalated e None) × (always_escalates flags ≡ false) × (ese z before e ≢ 0))
        on_state true s answer = inl answer
        on_state false s answer = inr (answer, a, untriggered (ese z before e) s)
