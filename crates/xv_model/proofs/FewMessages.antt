-- How many messages there are in a legal account, and what it means that a source is quiet.
use Rattle.std.proofs.Common.{ℕ, ◌≡◌, ◌==◌, ◌+◌, ◌*◌, ◌≤◌, ◌&&◌, Bool, true, false, if◌then◌else◌, List, [], ◌∷◌, length, slice_get, Some, refl, sym, ◌∙◌, ap, subst, arith, append-nil, length-append}
use Rattle.std.proofs.lemmas.Bool.{eqb-true}
use Rattle.std.specs.Option.{option_map_or}
use Rattle.xv_model.specs.declared.operations.Op.{Op}
use Rattle.xv_model.specs.declared.operations.Op.TheVariants as op
use Rattle.xv_model.specs.declared.outcomes.Routed.TheVariants.{Run}
use Rattle.xv_model.specs.declared.outcomes.Outcome.{Outcome}
use Rattle.xv_model.specs.declared.outcomes.Outcome.TheVariants as out
use Rattle.xv_model.specs.declared.messages.Message.{Message}
use Rattle.xv_model.specs.declared.entries.Entry.{Entry}
use Rattle.xv_model.specs.account.Start.{Start, start}
use Rattle.xv_model.specs.account.Burden.{weight}
use Rattle.xv_model.specs.account.Legal.{IsLegal, IsNext, legal}
use Rattle.xv_model.specs.source.Notices.{route_in, outstanding}
use Rattle.xv_model.specs.route.Flight.{made_by, source_of, escalation_of, taken_in, messages_after, flight}
use Rattle.xv_model.specs.route.Quiet.{messages_of, quiet_by}
use Rattle.xv_model.specs.laws.Notices.{takes, routed, EachQuietIsQuiet, EachTakesFew, EachHasFewMessages}
use Rattle.xv_model.proofs.Burdens.{weight-append, light, take_lighter}
use Rattle.xv_model.specs.account.Fit.{IsFitStart}
use Rattle.xv_model.proofs.FlightRanges.{configs_fit, messages_fit, fit_start}
use Rattle.xv_model.proofs.OneAccount.{legal_before}
use Rattle.xv_model.proofs.RouteLaws.{one_escalation, one_made, taken_room, none_made}

-- the test that makes a source quiet says that there is nothing
quiet_says : (n m : ℕ) → quiet_by n m ≡ out.Quiet → (n ≡ 0) × (m ≡ 0)
quiet_says n m is = by (n == 0) (m == 0) refl refl is
  where
    by : (a b : Bool) → (n == 0) ≡ a → (m == 0) ≡ b → (if a && b then out.Quiet else out.Busy n m) ≡ out.Quiet → (n ≡ 0) × (m ≡ 0)
    by true true c d is = (eqb-true n 0 c, eqb-true m 0 d)
    by true false c d is = cc
    by false b c d is = cc

-- an entry of another operation
abbrev with_op : Entry → Op → Entry
with_op x o = record { actor = x.actor; op = o; outcome = x.outcome }

-- nor is there after that is answered
quiet_after : (z : Start) (h : List Entry) (actor s : ℕ) (u : Outcome) → outstanding z h s ≡ 0 → messages_of (flight z h) s ≡ 0 →
    let x : Entry = record { actor = actor; op = op.Quiet s; outcome = u } in
    (outstanding z (x ∷ h) s ≡ 0) × (messages_of (flight z (x ∷ h)) s ≡ 0)
quiet_after z h actor s u none empty = (omega (arith, none), ap (λ ms. messages_of ms s) (append-nil (flight z h)) ∙ empty)

-- where a source is quiet nothing of it is on its way
pub quiet_is_quiet : EachQuietIsQuiet
quiet_is_quiet b h l before later x s whole is quiet =
    let n : IsNext (start b) before x = (legal_before (start b) later (x ∷ before) (subst (IsLegal (start b)) whole l)).1 in
    let none = quiet_says (outstanding (start b) before s) (messages_of (flight (start b) before) s) (sym (n.outcome ∙ ap (legal (start b) before) is) ∙ quiet) in
    subst (λ (o : Op). (outstanding (start b) (with_op x o ∷ before) s ≡ 0) × (messages_of (flight (start b) (with_op x o ∷ before)) s ≡ 0)) (sym is) (quiet_after (start b) before x.actor s x.outcome none.0 none.1)

-- what an entry leaves weighs no more than three times what it routed, less what it took
weighs : (z : Start) (h : List Entry) (o : Op) (u : Outcome) → IsLegal z h → IsFitStart z → u ≡ legal z h o →
    option_map_or (λ i. 1) (taken_in o u) 0 + weight (messages_after z h o u (flight z h)) ≤ 3 * option_map_or (λ s. 1) (route_in o u) 0 + weight (flight z h)
weighs z h (op.Route s) (out.Routed k (Run r)) l w is = omega (arith, weight-append (flight z h) (made_by z h s (Some r)), light z h s (Some r))
weighs z h (op.Route s) _ l w is = omega (arith, ap weight (append-nil (flight z h)))
weighs z h (op.Take i) (out.Present v p presented escalates) l w is =
    let less = take_lighter z h i i (flight z h) (slice_get (flight z h) i) (out.Present v p presented escalates) (configs_fit z h l w) (messages_fit z h l w) refl is refl in
    omega arith
weighs z h (op.Take i) (out.Escalated e r) l w is =
    let less = take_lighter z h i i (flight z h) (slice_get (flight z h) i) (out.Escalated e r) (configs_fit z h l w) (messages_fit z h l w) refl is refl in
    omega arith
weighs z h (op.Take i) _ l w is = omega (arith, ap weight (none_made (flight z h) (slice_get (flight z h) i)))
weighs z h _ u l w is = omega (arith, ap weight (append-nil (flight z h)))

-- the takes so far, and what is in flight, weigh no more than three times what was routed
takes_within : (z : Start) (h : List Entry) → IsLegal z h → IsFitStart z → takes h + weight (flight z h) ≤ 3 * routed h + weight z.flight
takes_within z [] l w = omega arith
takes_within z (x ∷ h) l w = omega (arith, takes_within z h l.0 w, weighs z h x.op x.outcome l.0 w l.1.outcome)

-- there are at most three takes of a message for each notice that was routed
pub takes_are_few : EachTakesFew
takes_are_few b h l = omega (arith, takes_within (start b) h l (fit_start b))

-- an entry leaves at most one message more than there were, and then it routed a notice
one_more : (z : Start) (h : List Entry) (o : Op) (u : Outcome) (ms : List Message) → length (messages_after z h o u ms) ≤ option_map_or (λ s. 1) (route_in o u) 0 + length ms
one_more z h (op.Route s) (out.Routed k (Run r)) ms = omega (arith, length-append ms (made_by z h s (Some r)), one_made z h s (Some r))
one_more z h (op.Route s) _ ms = omega (arith, ap length (append-nil ms))
one_more z h (op.Take i) (out.Present v p presented escalates) ms = omega (arith, taken_room (λ m. if escalates then escalation_of m else []) (λ m. one_escalation escalates m [] (omega arith)) ms i)
one_more z h (op.Take i) (out.Escalated e r) ms = omega (arith, taken_room (λ m. made_by z h (source_of m) r) (λ m. one_made z h (source_of m) r) ms i)
one_more z h (op.Take i) _ ms = omega (arith, ap length (none_made ms (slice_get ms i)))
one_more z h _ u ms = omega (arith, ap length (append-nil ms))

messages_within : (z : Start) (h : List Entry) → length (flight z h) ≤ routed h + length z.flight
messages_within z [] = omega arith
messages_within z (x ∷ h) = omega (arith, messages_within z h, one_more z h x.op x.outcome (flight z h))

-- there are at most as many messages in flight as notices that were routed
pub messages_are_few : EachHasFewMessages
messages_are_few b h l = omega (arith, messages_within (start b) h)
