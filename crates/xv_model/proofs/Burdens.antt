-- What brings the burden of an account down, and by how much an entry may raise it.
use Rattle.std.proofs.Common.{ℕ, zero, suc, ◌≡◌, ◌==◌, ◌+◌, ◌-◌, ◌*◌, ◌<◌, ◌≤◌, ◌≢◌, ◌&&◌, Bool, true, false, if◌then◌else◌, List, [], ◌∷◌, ◌++◌, length, slice_get, Option, Some, None, refl, sym, ◌∙◌, ap, subst, inl, inr, arith}
use Rattle.std.proofs.lemmas.Bool.{cases_lt}
use Rattle.std.proofs.lemmas.Bool.Decides.{nat_tests}
use Rattle.std.specs.Option.{option_map_or}
use Rattle.std.specs.List.{remove}
use Rattle.xv_base.specs.Limits.{most_messages}
use Rattle.xv_model.specs.declared.operations.EndConfig.{EndConfig}
use Rattle.xv_model.specs.declared.operations.Op.{Op}
use Rattle.xv_model.specs.declared.operations.Op.TheVariants as op
use Rattle.xv_model.specs.declared.outcomes.Then.{Then}
use Rattle.xv_model.specs.declared.outcomes.Then.TheVariants.{Coalesced, Silent, Present, Escalate}
use Rattle.xv_model.specs.declared.outcomes.EndRun.{EndRun}
use Rattle.xv_model.specs.declared.outcomes.EndRun.TheVariants as run
use Rattle.xv_model.specs.declared.outcomes.Routed.{Routed}
use Rattle.xv_model.specs.declared.outcomes.Outcome.{Outcome}
use Rattle.xv_model.specs.declared.outcomes.Outcome.TheVariants as out
use Rattle.xv_model.specs.declared.messages.Message.{Message}
use Rattle.xv_model.specs.declared.messages.Message.TheVariants as message
use Rattle.xv_model.specs.declared.entries.Entry.{Entry}
use Rattle.xv_model.specs.account.Start.{Start}
use Rattle.xv_model.specs.account.Kinds.{run_of}
use Rattle.xv_model.specs.account.Burden.{weight_of, weight, burden}
use Rattle.xv_model.specs.account.Legal.{IsLegal, legal}
use Rattle.xv_model.specs.source.Pairs.{Touch, touch_at, touch_of}
use Rattle.xv_model.specs.source.Notices.{forwards, route_in, routes, outstanding, sum_below, all_outstanding}
use Rattle.xv_model.specs.end.Flags.{keeps_backlog, may_escalate}
use Rattle.xv_model.specs.end.Descriptors.{end_config}
use Rattle.xv_model.specs.route.Flight.{messages_by, made_by, source_of, taken_in, is_escalating, escalation_of, made, without, messages_after, flight}
use Rattle.xv_model.specs.route.Routing.{route_outcome, routed_by}
use Rattle.xv_model.specs.route.Taking.{is_undelivered, taken_by, take_outcome, presented_to}
use Rattle.xv_model.specs.source.Eas.{eas}
use Rattle.std.specs.Prelude.{All, ◌||◌}
use Rattle.xv_model.specs.source.PqTable.{trigger_row}
use Rattle.xv_model.specs.end.Flags.{always_notifies, escalates, is_silent, is_valid}
use Rattle.xv_model.specs.end.EventStates.{esn, ese}
use Rattle.xv_model.specs.end.Written.{written_count}
use Rattle.xv_model.specs.route.Routing.{end_pass, next_by, write_by}
use Rattle.xv_model.specs.route.Taking.{escalates_on}
use Rattle.xv_model.specs.account.Fit.{IsFitConfig, IsFit, IsFitStart}
use Rattle.xv_model.proofs.FlightRanges.{configs_fit, messages_fit, fit_at}
use Rattle.xv_model.proofs.Sums.{sum_below-more_at}

-- the weight of messages and more messages
pub weight-append : (ms ns : List Message) → weight (ms ++ ns) ≡ weight ms + weight ns
weight-append [] ns = omega arith
weight-append (m ∷ ms) ns = omega (arith, weight-append ms ns)

-- a pass of an END makes at most one message, of weight 3 or less
light_by : (next : Then) (e : ℕ) (c : EndConfig) (s : ℕ) → weight (messages_by next e c s) ≤ 3
light_by Present e c s = by (may_escalate c.flags)
  where
    by : (b : Bool) → (if b then 3 else 1) + 0 ≤ 3
    by true = omega arith
    by false = omega arith
light_by Escalate e c s = omega arith
light_by Coalesced e c s = omega arith
light_by Silent e c s = omega arith

-- what is made for a route weighs 3 or less
pub light : (z : Start) (h : List Entry) (s : ℕ) (m : Option EndRun) → weight (made_by z h s m) ≤ 3
light z h s (Some (run.Ran e wrote next)) = light_by next e (end_config z h e) s
light z h s (Some (run.NoEnd e)) = omega arith
light z h s None = omega arith

-- the outcome of a route that routed a notice, by how many are outstanding
some_notice : (n m k t : ℕ) (by r : Routed) → out.Routed k r ≡ (if n == 0 then out.NoNotice else (if m == most_messages then out.BusFull else out.Routed t by)) → n ≢ 0
some_notice n m k t by r e = grind (arith, nat_tests)

-- a route that routed a notice of s consumes one of s
one_less : (f r s : ℕ) → f - r ≢ 0 → f - r ≡ 0 + f - ((if s == s then 1 else 0) + r) + 1
one_less f r s some = grind (arith, nat_tests)

-- and none of another source
as_many : (f r s q : ℕ) → q ≢ s → f - r ≡ 0 + f - ((if s == q then 1 else 0) + r)
as_many f r s q other = grind (arith, nat_tests)

-- a route that routed a notice brings the burden down
pub route_falls : (z : Start) (h : List Entry) (actor s k : ℕ) (routed : Routed) → s < z.board.limits.sources → out.Routed k routed ≡ route_outcome z h s →
    burden z (record { actor = actor; op = op.Route s; outcome = out.Routed k routed } ∷ h) < burden z h
route_falls z h actor s k routed below is =
    let x : Entry = record { actor = actor; op = op.Route s; outcome = out.Routed k routed } in
    let some = some_notice (outstanding z h s) (length (flight z h)) k (routes z h s + 1) (routed_by z h (eas z h s)) routed is in
    let less : all_outstanding z h ≡ all_outstanding z (x ∷ h) + 1 = sum_below-more_at (outstanding z (x ∷ h)) (outstanding z h) z.board.limits.sources s 1 below (one_less (forwards z h s) (routes z h s) s some) (λ q l other. as_many (forwards z h q) (routes z h q) s q other) in
    let more = weight-append (flight z h) (made_by z h s (run_of (op.Route s) (out.Routed k routed))) in
    let few = light z h s (run_of (op.Route s) (out.Routed k routed)) in
    omega (arith, less, more, few)

-- counts that are nowhere more have no larger sum
no_more : (f g : ℕ → ℕ) (n : ℕ) → ((q : ℕ) → q < n → g q ≤ f q) → sum_below g n ≤ sum_below f n
no_more f g zero less = omega arith
no_more f g (suc n) less =
    let before = no_more f g n (λ q l. less q (omega arith)) in
    let last = less n (omega arith) in
    omega arith

-- at each number one count is more than another by at most one, where it is so at one number and nowhere else more
by_one : (f g : ℕ → ℕ) (s q : ℕ) → g s ≤ f s + 1 → ((q : ℕ) → q ≢ s → g q ≤ f q) → g q ≤ f q + 1
by_one f g s q here less =
    elim (cases_lt q s) [
      | inl below ↦ let other = less q (omega arith) in omega arith
      | inr above ↦ elim (cases_lt s q) [
        | inl below ↦ let other = less q (omega arith) in omega arith
        | inr at ↦ subst (λ k. g k ≤ f k + 1) (omega arith) here
      ]
    ]

-- counts that are more by at most one at one number, and nowhere else more, have a sum that is more by at most one
one_more : (f g : ℕ → ℕ) (n s : ℕ) → g s ≤ f s + 1 → ((q : ℕ) → q ≢ s → g q ≤ f q) → sum_below g n ≤ sum_below f n + 1
one_more f g zero s here less = omega arith
one_more f g (suc n) s here less =
    elim (cases_lt s n) [
      | inl below ↦
          let before = one_more f g n s here less in
          let last = less n (omega arith) in
          omega arith
      | inr above ↦
          let before = no_more f g n (λ q l. less q (omega arith)) in
          let last = by_one f g s n here less in
          omega arith
    ]

-- how many notices the touch of a source makes at most
abbrev most_made : Option Touch → ℕ
most_made (Some t) = 1
most_made None = 0

-- what is outstanding after the touch of a source and the route of a notice, by the counts of forwards and routes before
abbrev outstanding_by : Option Touch → Option ℕ → (ℕ → ℕ) → (ℕ → ℕ) → ℕ → ℕ
outstanding_by m r f g s =
    option_map_or (λ t. if t.forward == 0 then 0 else 1) (touch_at s m) 0 + f s - (option_map_or (λ r. if r == s then 1 else 0) r 0 + g s)

-- a touch of another source makes no notice of s
made_elsewhere : (t : Touch) (r : Option ℕ) (f g : ℕ → ℕ) (s : ℕ) → s ≢ t.source → outstanding_by (Some t) r f g s ≤ f s - g s
made_elsewhere t r f g s other = grind (arith, nat_tests)

-- and one of s makes one at most
made_here : (t : Touch) (r : Option ℕ) (f g : ℕ → ℕ) → outstanding_by (Some t) r f g t.source ≤ f t.source - g t.source + 1
made_here t r f g = grind (arith, nat_tests)

-- what is outstanding over all sources is more by at most what a touch makes
notices_made : (m : Option Touch) (r : Option ℕ) (f g : ℕ → ℕ) (n : ℕ) → sum_below (outstanding_by m r f g) n ≤ sum_below (λ s. f s - g s) n + most_made m
notices_made (Some t) r f g n = one_more (λ s. f s - g s) (outstanding_by (Some t) r f g) n t.source (made_here t r f g) (λ s other. made_elsewhere t r f g s other)
notices_made None r f g n = let less = no_more (λ s. f s - g s) (outstanding_by None r f g) n (λ s l. omega arith) in omega arith

-- without one message the others weigh what they did
removed : (ms : List Message) (i : ℕ) (m : Message) → slice_get ms i ≡ Some m → weight (remove ms i) + weight_of m ≡ weight ms
removed [] i m e = cc
removed (n ∷ ms) zero m e = let here : n ≡ m = cc in subst (λ k. weight ms + weight_of k ≡ weight_of n + weight ms) here (omega arith)
removed (n ∷ ms) (suc i) m e = let rest = removed ms i m e in omega arith

-- the messages but one weigh no more
without_lighter : (i : Option ℕ) (ms : List Message) → weight (without i ms) ≤ weight ms
without_lighter None ms = omega arith
without_lighter (Some zero) [] = omega arith
without_lighter (Some (suc i)) [] = omega arith
without_lighter (Some zero) (m ∷ ms) = omega arith
without_lighter (Some (suc i)) (m ∷ ms) = let rest = without_lighter (Some i) ms in omega arith

-- the escalation of a presentation weighs less than 3
escalation_light : (m : Message) → weight (escalation_of m) ≤ 3
escalation_light (message.Present e flags vp priority esc esc_eisn origin) = omega arith
escalation_light (message.Escalate e flags esc esc_eisn origin) = omega arith

-- what a take makes of a message, where there is one, weighs 3 or less
take_light : (z : Start) (h : List Entry) (i : ℕ) (u : Outcome) (m : Option Message) → weight (option_map_or (λ m. if is_escalating u then escalation_of m else made_by z h (source_of m) (run_of (op.Take i) u)) m []) ≤ 3
take_light z h i u None = omega arith
take_light z h i u (Some m) = by (is_escalating u)
  where
    by : (b : Bool) → weight (if b then escalation_of m else made_by z h (source_of m) (run_of (op.Take i) u)) ≤ 3
    by true = escalation_light m
    by false = light z h (source_of m) (run_of (op.Take i) u)

-- what an operation makes of messages weighs 3 or less
made_light : (z : Start) (h : List Entry) (o : Op) (u : Outcome) (ms : List Message) → weight (made z h o u ms) ≤ 3
made_light z h (op.Route s) u ms = light z h s (run_of (op.Route s) u)
made_light z h (op.Take i) u ms = take_light z h i u (slice_get ms i)
made_light z h _ u ms = omega arith

-- messages weigh at most 3 more after an operation
messages_rise : (z : Start) (h : List Entry) (o : Op) (u : Outcome) (ms : List Message) → weight (messages_after z h o u ms) ≤ weight ms + 3
messages_rise z h o u ms = omega (arith, weight-append (without (taken_in o u) ms) (made z h o u ms), without_lighter (taken_in o u) ms, made_light z h o u ms)

-- by how much more messages may weigh after an operation
abbrev most_weight : Op → ℕ
most_weight (op.Route s) = 3
most_weight (op.Take i) = 3
most_weight _ = 0

messages_after_op : (z : Start) (h : List Entry) (o : Op) (u : Outcome) (ms : List Message) → weight (messages_after z h o u ms) ≤ weight ms + most_weight o
messages_after_op z h (op.Route s) u ms = messages_rise z h (op.Route s) u ms
messages_after_op z h (op.Take i) u ms = messages_rise z h (op.Take i) u ms
messages_after_op z h _ u ms = omega (arith, weight-append ms [])

-- an operation that touches a source makes no message
light_touch : (z : Start) (actor : ℕ) (o : Op) (u : Outcome) → 4 * most_made (touch_of z.board (record { actor = actor; op = o; outcome = u })) + most_weight o ≤ 4
light_touch z actor (op.Route s) u = omega arith
light_touch z actor (op.Take i) u = omega arith
light_touch z actor o u = by (touch_of z.board (record { actor = actor; op = o; outcome = u }))
  where
    by : (m : Option Touch) → 4 * most_made m + 0 ≤ 4
    by (Some t) = omega arith
    by None = omega arith

-- an entry raises the burden by at most 4
pub rises : (z : Start) (h : List Entry) (x : Entry) → burden z (x ∷ h) ≤ burden z h + 4
rises z h x =
    let notices : all_outstanding z (x ∷ h) ≤ all_outstanding z h + most_made (touch_of z.board x) = notices_made (touch_of z.board x) (route_in x.op x.outcome) (forwards z h) (routes z h) z.board.limits.sources in
    let messages : weight (flight z (x ∷ h)) ≤ weight (flight z h) + most_weight x.op = messages_after_op z h x.op x.outcome (flight z h) in
    omega (arith, notices, messages, light_touch z x.actor x.op x.outcome)

-- an END that doesn't escalate makes one message at most, which doesn't escalate either
unescalated : (c : EndConfig) (e s : ℕ) (state : ℕ) → escalates c ≡ false → weight (messages_by (next_by c state) e c s) < 2
unescalated c e s state off = by (is_silent c) (always_notifies c || (trigger_row state).forwards)
  where
    by : (silent notifies : Bool) → weight (messages_by (if silent then (if escalates c then Escalate else Silent) else (if notifies then Present else Coalesced)) e c s) < 2
    by true notifies = rw off (omega arith)
    by false true = rw off (omega arith)
    by false false = omega arith

-- what an escalation makes weighs less than it, since an escalation END doesn't escalate
escalated_lighter : (z : Start) (h : List Entry) (e i esc esc_eisn origin : ℕ) (on : Bool) → escalates (end_config z h esc) ≡ false →
    weight (made_by z h origin (run_of (op.Take i) (out.Escalated e (if on then Some (end_pass z h esc esc_eisn) else None)))) < 2
escalated_lighter z h e i esc esc_eisn origin true off = by (is_valid (end_config z h esc))
  where
    by : (v : Bool) → weight (made_by z h origin (Some (if v then run.Ran esc (write_by (end_config z h esc) (written_count z h esc) esc_eisn) (next_by (end_config z h esc) (esn z h esc)) else run.NoEnd esc))) < 2
    by true = unescalated (end_config z h esc) esc origin (esn z h esc) off
    by false = omega arith
escalated_lighter z h e i esc esc_eisn origin false off = omega arith

-- what a take makes of a message that it found weighs less than that message
made_lighter : (z : Start) (h : List Entry) (i n : ℕ) (m : Message) (u : Outcome) → ((e : ℕ) → IsFitConfig e (end_config z h e)) → IsFit m → u ≡ taken_by z h m → taken_in (op.Take i) u ≡ Some n →
    weight (if is_escalating u then escalation_of m else made_by z h (source_of m) (run_of (op.Take i) u)) < weight_of m
made_lighter z h i n (message.Present e flags vp priority esc esc_eisn origin) u w fit is taken =
    rw is (by (is_undelivered (presented_to z h (keeps_backlog flags) vp)) (may_escalate flags))
  where
    by : (undelivered b : Bool) → weight (if undelivered && b then message.Escalate e flags esc esc_eisn origin ∷ [] else []) < (if b then 3 else 1)
    by true true = omega arith
    by true false = omega arith
    by false true = omega arith
    by false false = omega arith
made_lighter z h i n (message.Escalate e flags esc esc_eisn origin) u w fit is taken =
    rw is (escalated_lighter z h e i esc esc_eisn origin (escalates_on flags (ese z h e)) ((w esc).last (fit.escalation refl)))

-- a take that found a message took the one that it asked for
taken_is : (i n : ℕ) (u : Outcome) → taken_in (op.Take i) u ≡ Some n → taken_in (op.Take i) u ≡ Some i
taken_is i n (out.Present v p presented escalates) e = refl
taken_is i n (out.Escalated e' run) e = refl
taken_is i n _ e = cc

-- the messages after one of them was taken weigh less
pub take_lighter : (z : Start) (h : List Entry) (i n : ℕ) (ms : List Message) (found : Option Message) (u : Outcome) → ((e : ℕ) → IsFitConfig e (end_config z h e)) → All IsFit ms → slice_get ms i ≡ found → u ≡ option_map_or (taken_by z h) found out.NoMessage → taken_in (op.Take i) u ≡ Some n →
    weight (messages_after z h (op.Take i) u ms) < weight ms
take_lighter z h i n ms None u w fit at is taken = cc
take_lighter z h i n ms (Some m) u w fit at is taken =
    rw (at, taken_is i n u taken) (omega (arith, weight-append (remove ms i) (if is_escalating u then escalation_of m else made_by z h (source_of m) (run_of (op.Take i) u)), removed ms i m at, made_lighter z h i n m u w (fit_at ms i m fit at) is taken))

-- a take that found a message brings the burden down, by its outcome
take_falls_by : (z : Start) (h : List Entry) (actor i n : ℕ) (u : Outcome) → IsLegal z h → IsFitStart z → u ≡ take_outcome z h i → taken_in (op.Take i) u ≡ Some n → burden z (record { actor = actor; op = op.Take i; outcome = u } ∷ h) < burden z h
take_falls_by z h actor i n u l w is taken =
    let x : Entry = record { actor = actor; op = op.Take i; outcome = u } in
    let notices : all_outstanding z (x ∷ h) ≤ all_outstanding z h + 0 = notices_made None None (forwards z h) (routes z h) z.board.limits.sources in
    omega (arith, notices, take_lighter z h i n (flight z h) (slice_get (flight z h) i) u (configs_fit z h l w) (messages_fit z h l w) refl is taken)

-- a take that found a message brings the burden down
pub take_falls : (z : Start) (h : List Entry) (x : Entry) (i n : ℕ) → IsFitStart z → IsLegal z (x ∷ h) → x.op ≡ op.Take i → taken_in x.op x.outcome ≡ Some n → burden z (x ∷ h) < burden z h
take_falls z h x i n w l e taken =
    let y : Entry = record { actor = x.actor; op = op.Take i; outcome = x.outcome } in
    let same : x ≡ y = ap (λ o. record { actor = x.actor; op = o; outcome = x.outcome }) e in
    subst (λ v. burden z (v ∷ h) < burden z h) (sym same) (take_falls_by z h x.actor i n x.outcome l.0 w (l.1.outcome ∙ ap (legal z h) e) (subst (λ o. taken_in o x.outcome ≡ Some n) e taken))
