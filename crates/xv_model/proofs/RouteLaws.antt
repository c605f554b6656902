-- What becomes of notices in a legal account.
use Rattle.std.proofs.Common.{ℕ, ◌≡◌, ◌==◌, ◌+◌, ◌≤◌, Bool, true, false, not, if◌then◌else◌, ◌&&◌, List, [], ◌∷◌, ◌++◌, length, zero, suc, slice_get, Option, Some, None, refl, sym, ◌∙◌, ap, subst, arith, append_assoc, append-nil, length-append}
use Rattle.std.proofs.lemmas.Bool.Decides.{nat_tests}
use Rattle.std.specs.Option.{option_map_or}
use Rattle.std.specs.List.{remove}
use Rattle.xv_base.specs.Limits.{most_messages}
use Rattle.xv_model.specs.declared.operations.EndConfig.{EndConfig}
use Rattle.xv_model.specs.declared.operations.Op.{Op}
use Rattle.xv_model.specs.declared.operations.Op.TheVariants as op
use Rattle.xv_model.specs.declared.outcomes.Wrote.{Wrote}
use Rattle.xv_model.specs.declared.outcomes.Then.{Then}
use Rattle.xv_model.specs.declared.outcomes.Then.TheVariants.{Coalesced, Silent, Present, Escalate}
use Rattle.xv_model.specs.declared.outcomes.EndRun.{EndRun}
use Rattle.xv_model.specs.declared.outcomes.EndRun.TheVariants as run
use Rattle.xv_model.specs.declared.outcomes.Routed.{Routed}
use Rattle.xv_model.specs.declared.outcomes.Routed.TheVariants.{NoSource, Masked, Run}
use Rattle.xv_model.specs.declared.outcomes.Outcome.{Outcome}
use Rattle.xv_model.specs.declared.outcomes.Outcome.TheVariants as out
use Rattle.xv_model.specs.declared.messages.Message.{Message}
use Rattle.xv_model.specs.declared.messages.Message.TheVariants as message
use Rattle.xv_model.specs.declared.entries.Entry.{Entry}
use Rattle.xv_model.specs.declared.board.Board.{Board}
use Rattle.xv_model.specs.account.Start.{Start, start}
use Rattle.xv_model.specs.account.Kinds.{run_of}
use Rattle.xv_model.specs.source.Notices.{forwards, route_in, routes, outstanding}
use Rattle.xv_model.specs.end.Flags.{is_valid, enqueues}
use Rattle.xv_model.specs.source.Eas.{eas}
use Rattle.xv_model.specs.end.Descriptors.{end_config}
use Rattle.xv_model.specs.end.EventStates.{esn}
use Rattle.xv_model.specs.end.Written.{wrote_in, payload_of, entered, written, written_count}
use Rattle.xv_model.specs.end.Memory.{wrote_at}
use Rattle.xv_model.specs.route.Flight.{messages_by, made_by, source_of, escalation_of, messages_after, flight}
use Rattle.xv_model.specs.route.Routing.{next_by, routed_by, route_outcome}
use Rattle.xv_model.specs.laws.Triggers.{down_from}
use Rattle.xv_model.specs.account.Legal.{IsLegal, IsNext, legal}
use Rattle.xv_model.specs.laws.Entering.{route_number, route_numbers, due_of, due_at, RoutedInOrder, RoutedOnceForwarded, EachEntersOnce}
use Rattle.xv_model.proofs.OneAccount.{legal_before}
use Rattle.xv_model.proofs.TriggerLaws.{down_from-one, down_from-zero}

-- what a route of s answers in a legal account
pub route_answer : (z : Start) (h : List Entry) (x : Entry) (s : ℕ) → IsNext z h x → x.op ≡ op.Route s → x.outcome ≡ route_outcome z h s
route_answer z h x s n e = n.outcome ∙ ap (legal z h) e

-- a route that routed a notice, by its two tests: neither holds, and the number is this
routed_number_by : (a b : Bool) (n k : ℕ) (d r : Routed) → (if a then out.NoNotice else (if b then out.BusFull else out.Routed n d)) ≡ out.Routed k r → (a ≡ false) × (b ≡ false) × (k ≡ n)
routed_number_by true b n k d r e = cc
routed_number_by false true n k d r e = cc
routed_number_by false false n k d r e = (refl, refl, cc)

-- a route of s that routed a notice: one was outstanding, and its number is one more than the routes before
pub routed_number : (z : Start) (h : List Entry) (s k : ℕ) (r : Routed) → route_outcome z h s ≡ out.Routed k r → (1 ≤ outstanding z h s) × (k ≡ routes z h s + 1)
routed_number z h s k r e =
    let t = routed_number_by (outstanding z h s == 0) (length (flight z h) == most_messages) (routes z h s + 1) k _ r e in
    let some = t.0 in
    (grind (arith, nat_tests), t.2)

-- the same of an entry of a legal account
pub legal_routed : (z : Start) (h : List Entry) (x : Entry) (s k : ℕ) (r : Routed) → IsNext z h x → x.op ≡ op.Route s → x.outcome ≡ out.Routed k r → (1 ≤ outstanding z h s) × (k ≡ routes z h s + 1)
legal_routed z h x s k r n e f = routed_number z h s k r (sym (route_answer z h x s n e) ∙ f)

-- what a route of r adds to the numbers of s, by whether r is s
route_adds_by : (same : Bool) (n k : ℕ) (ns : List ℕ) → (same ≡ true → k ≡ n + 1) → ns ≡ down_from n → (if same then k ∷ [] else []) ++ ns ≡ down_from ((if same then 1 else 0) + n)
route_adds_by true n k ns w e = ap (λ v. v ∷ ns) (w refl) ∙ ap (λ v. (n + 1) ∷ v) e ∙ sym (down_from-one n)
route_adds_by false n k ns w e = e ∙ sym (down_from-zero n)

-- what one more entry adds to the numbers of s
route_adds : (s n : ℕ) (o : Op) (u : Outcome) (ns : List ℕ) → ((k : ℕ) (r : Routed) → o ≡ op.Route s → u ≡ out.Routed k r → k ≡ n + 1) → ns ≡ down_from n →
    route_number s o u ++ ns ≡ down_from (option_map_or (λ r. if r == s then 1 else 0) (route_in o u) 0 + n)
route_adds s n (op.Route q) (out.Routed k r) ns w e = route_adds_by (q == s) n k ns (λ same. w k r (grind (arith, nat_tests)) refl) e
route_adds s n (op.Route q) _ ns w e = e ∙ sym (down_from-zero n)
route_adds s n _ u ns w e = e ∙ sym (down_from-zero n)

-- the numbers of the routes go on from those of the start record
pub routes_numbered : (z : Start) (h : List Entry) (s : ℕ) → IsLegal z h → route_numbers h s ++ down_from (z.routes s) ≡ down_from (routes z h s)
routes_numbered z [] s l = refl
routes_numbered z (x ∷ h) s l =
    append_assoc (route_number s x.op x.outcome) (route_numbers h s) (down_from (z.routes s))
    ∙ route_adds s (routes z h s) x.op x.outcome _ (λ k r e f. (legal_routed z h x s k r l.1 e f).1) (routes_numbered z h s l.0)

-- the routes of a source have the numbers 1, 2, 3 and so on, in order
pub routed_in_order : RoutedInOrder
routed_in_order b h l s = sym (append-nil _) ∙ routes_numbered (start b) h s l

-- one more route of s stays within the forwards, by whether it is of s
within_by : (same : Bool) (n m : ℕ) → (same ≡ true → n + 1 ≤ m) → n ≤ m → (if same then 1 else 0) + n ≤ m
within_by true n m w l = let v = w refl in omega arith
within_by false n m w l = omega arith

-- one more entry stays within the forwards
within : (s n m : ℕ) (o : Op) (u : Outcome) → ((k : ℕ) (r : Routed) → o ≡ op.Route s → u ≡ out.Routed k r → n + 1 ≤ m) → n ≤ m → option_map_or (λ r. if r == s then 1 else 0) (route_in o u) 0 + n ≤ m
within s n m (op.Route q) (out.Routed k r) w l = within_by (q == s) n m (λ same. w k r (grind (arith, nat_tests)) refl) l
within s n m (op.Route q) _ w l = omega arith
within s n m _ u w l = omega arith

-- the routes of a source are at most its forwards, where they are so in the start record
pub routes_within_from : (z : Start) (h : List Entry) (s : ℕ) → IsLegal z h → z.routes s ≤ z.forwards s → routes z h s ≤ forwards z h s
routes_within_from z [] s l w = w
routes_within_from z (x ∷ h) s l w =
    let before : routes z h s ≤ forwards z h s = routes_within_from z h s l.0 w in
    let now = within s (routes z h s) (forwards z h s) x.op x.outcome (λ k r e f. let one = (legal_routed z h x s k r l.1 e f).0 in omega arith) before in
    omega arith

-- the routes of a source are at most its forwards in a legal account of a board
pub routes_within : (b : Board) (h : List Entry) → IsLegal (start b) h → (s : ℕ) → routes (start b) h s ≤ forwards (start b) h s
routes_within b h l s = routes_within_from (start b) h s l (omega arith)

-- the outstanding notices of a source and those that were routed are its forwards
pub notices_add : (z : Start) (h : List Entry) (s : ℕ) → IsLegal z h → z.routes s ≤ z.forwards s → outstanding z h s + routes z h s ≡ forwards z h s
notices_add z h s l w = let few = routes_within_from z h s l w in omega arith

-- a pass that goes on so makes one message at most
one_message : (next : Then) (e : ℕ) (c : EndConfig) (s : ℕ) → length (messages_by next e c s) ≤ 1
one_message Present e c s = omega arith
one_message Escalate e c s = omega arith
one_message Coalesced e c s = omega arith
one_message Silent e c s = omega arith

-- a message that goes on is one message at most
pub one_escalation : (escalates : Bool) (m : Message) (ms : List Message) → length ms ≤ 1 → length (if escalates then escalation_of m else ms) ≤ 1
one_escalation true (message.Present e flags vp priority esc esc_eisn origin) ms l = omega arith
one_escalation true (message.Escalate e flags esc esc_eisn origin) ms l = omega arith
one_escalation false m ms l = l

-- so is the pass of an END
pub one_made : (z : Start) (h : List Entry) (s : ℕ) (r : Option EndRun) → length (made_by z h s r) ≤ 1
one_made z h s (Some (run.Ran e wrote next)) = one_message next e (end_config z h e) s
one_made z h s (Some (run.NoEnd e)) = omega arith
one_made z h s None = omega arith

-- where a message is taken, and one is made of it at most, there are no more than before
pub taken_room : (f : Message → List Message) (few : (m : Message) → length (f m) ≤ 1) (ms : List Message) (i : ℕ) → length (remove ms i ++ option_map_or f (slice_get ms i) []) ≤ length ms
taken_room f few [] zero = omega arith
taken_room f few [] (suc i) = omega arith
taken_room f few (m ∷ ms) zero = omega (arith, length-append ms (f m), few m)
taken_room f few (m ∷ ms) (suc i) = let rest = taken_room f few ms i in omega arith

-- nothing is made of a message that isn't taken
pub none_made : (ms : List Message) (m : Option Message) → ms ++ option_map_or (λ n. []) m [] ≡ ms
none_made ms (Some n) = append-nil ms
none_made ms None = append-nil ms

-- one more entry leaves the messages few enough
room : (z : Start) (h : List Entry) (o : Op) (u : Outcome) (ms : List Message) → ((s k : ℕ) (r : Routed) → o ≡ op.Route s → u ≡ out.Routed k r → length ms + 1 ≤ most_messages) → length ms ≤ most_messages → length (messages_after z h o u ms) ≤ most_messages
room z h (op.Route s) (out.Routed k (Run r)) ms w l =
    let one = one_made z h s (Some r) in
    let free = w s k (Run r) refl refl in
    omega (arith, length-append ms (made_by z h s (Some r)), one, free)
room z h (op.Route s) _ ms w l = omega (arith, ap length (append-nil ms))
room z h (op.Take i) (out.Present v p presented escalates) ms w l = omega (arith, taken_room (λ m. if escalates then escalation_of m else []) (λ m. one_escalation escalates m [] (omega arith)) ms i)
room z h (op.Take i) (out.Escalated e r) ms w l = omega (arith, taken_room (λ m. made_by z h (source_of m) r) (λ m. one_made z h (source_of m) r) ms i)
room z h (op.Take i) _ ms w l = omega (arith, ap length (none_made ms (slice_get ms i)))
room z h _ u ms w l = omega (arith, ap length (append-nil ms))

-- where a route routed a notice there is room for a message
routed_room : (z : Start) (h : List Entry) (s k : ℕ) (r : Routed) → route_outcome z h s ≡ out.Routed k r → length (flight z h) ≤ most_messages → length (flight z h) + 1 ≤ most_messages
routed_room z h s k r e l =
    let t = routed_number_by (outstanding z h s == 0) (length (flight z h) == most_messages) (routes z h s + 1) k _ r e in
    let free = t.1 in
    grind (arith, nat_tests)

-- the messages in flight are at most 4,096 in a legal account, where they are so in the start record
pub flight_within : (z : Start) (h : List Entry) → IsLegal z h → length z.flight ≤ most_messages → length (flight z h) ≤ most_messages
flight_within z [] l w = w
flight_within z (x ∷ h) l w =
    let before : length (flight z h) ≤ most_messages = flight_within z h l.0 w in
    room z h x.op x.outcome (flight z h) (λ s k r e f. routed_room z h s k r (sym (route_answer z h x s l.1 e) ∙ f) before) before

-- an entry that has a route number of s is a route of s that routed a notice
pub route_number-is : (s k : ℕ) (o : Op) (u : Outcome) → route_number s o u ≡ k ∷ [] → (r : Routed) × (o ≡ op.Route s) × (u ≡ out.Routed k r)
route_number-is s k (op.Route q) (out.Routed j r) e = (r, grind (arith, nat_tests), grind (arith, nat_tests))
route_number-is s k (op.Route q) _ e = cc
route_number-is s k _ u e = cc

-- the number of a route in a legal account is at most the forwards before it
pub route_forwarded : (z : Start) (h : List Entry) (x : Entry) (s k : ℕ) → IsNext z h x → route_number s x.op x.outcome ≡ k ∷ [] → k ≤ forwards z h s
route_forwarded z h x s k n e =
    let is = route_number-is s k x.op x.outcome e in
    let f = legal_routed z h x s k is.0 n is.1 is.2 in
    let one = f.0 in
    let number = f.1 in
    omega arith

-- the number of each route of a source is at most that of its forwards before it
pub once_forwarded : RoutedOnceForwarded
once_forwarded b h l before after x s k is e = route_forwarded (start b) before x s k (legal_before (start b) after (x ∷ before) (subst (IsLegal (start b)) is l)).1 e

-- what a route's pass writes for e is what is due there, by the four tests
writes_due_by : (s e k end eisn : ℕ) (valid masked v q : Bool) (w : Wrote) (t : Then) →
    option_map_or (λ n. if n == e then eisn ∷ [] else []) (wrote_in (run_of (op.Route s) (out.Routed k (if not valid then NoSource else (if masked then Masked else Run (if v then run.Ran end (if q then Some w else None) t else run.NoEnd end)))))) []
    ≡ due_at e (if valid && (not masked && (v && q)) then Some (record { end = end; payload = eisn }) else None)
writes_due_by s e k end eisn false masked v q w t = refl
writes_due_by s e k end eisn true true v q w t = refl
writes_due_by s e k end eisn true false false q w t = refl
writes_due_by s e k end eisn true false true false w t = refl
writes_due_by s e k end eisn true false true true w t = refl

-- what a route writes for e is what is due there, by its two tests
enters_by : (z : Start) (h : List Entry) (s e : ℕ) (a b : Bool) →
    let o = if a then out.NoNotice else (if b then out.BusFull else out.Routed (routes z h s + 1) (routed_by z h (eas z h s))) in
    option_map_or (λ n. if n == e then (eas z h s).eisn ∷ [] else []) (wrote_in (run_of (op.Route s) o)) [] ≡ due_at e (due_of z h s o)
enters_by z h s e true b = refl
enters_by z h s e false true = refl
enters_by z h s e false false =
    let a = eas z h s in
    let c = end_config z h a.end in
    writes_due_by s e (routes z h s + 1) a.end a.eisn a.valid a.masked (is_valid c) (enqueues c) (wrote_at c (c.start + written_count z h a.end) a.eisn) (next_by c (esn z h a.end))

-- what an operation and its outcome write into the queue of e
abbrev entered_by : Start → List Entry → ℕ → Op → Outcome → List ℕ
entered_by z h e o u = option_map_or (λ end. if end == e then payload_of z h o else []) (wrote_in (run_of o u)) []

-- a route in a legal account writes for e what is due there
pub route_enters : (z : Start) (h : List Entry) (x : Entry) (s e : ℕ) → IsNext z h x → x.op ≡ op.Route s → entered z h x e ≡ due_at e (due_of z h s x.outcome)
route_enters z h x s e n is =
    let answer = route_answer z h x s n is in
    ap (λ o. entered_by z h e o x.outcome) is ∙ ap (entered_by z h e (op.Route s)) answer
    ∙ enters_by z h s e (outstanding z h s == 0) (length (flight z h) == most_messages)
    ∙ ap (λ u. due_at e (due_of z h s u)) (sym answer)

-- a route configures nothing
route_no_config : (z : Start) (h : List Entry) (x : Entry) (s e : ℕ) → x.op ≡ op.Route s → written z (x ∷ h) e ≡ written z h e ++ entered z h x e
route_no_config z h x s e is = rw is refl

-- after a route in a legal account what was written is what was, and then what is due
pub route_written : (z : Start) (h : List Entry) (x : Entry) (s e : ℕ) → IsNext z h x → x.op ≡ op.Route s → written z (x ∷ h) e ≡ written z h e ++ due_at e (due_of z h s x.outcome)
route_written z h x s e n is = route_no_config z h x s e is ∙ ap (λ v. written z h e ++ v) (route_enters z h x s e n is)

-- what a route has to write enters its queue once
pub each_enters_once : EachEntersOnce
each_enters_once b h l before after x s e whole is = route_written (start b) before x s e (legal_before (start b) after (x ∷ before) (subst (IsLegal (start b)) whole l)).1 is
