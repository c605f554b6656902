-- Lines of an operation and of what it goes on with bring their load down, and make valid operations.
use Rattle.std.proofs.Common.{ℕ, zero, suc, ◌-◌, IfSome, ◌≡◌, ◌==◌, ◌+◌, ◌*◌, ◌<◌, ◌≤◌, ◌++◌, Bool, true, false, if◌then◌else◌, ◌&&◌, nat_lt, List, [], ◌∷◌, length, slice_get, Option, Some, None, refl, sym, ◌∙◌, ap, subst, arith}
use Rattle.std.proofs.lemmas.Bool.{ltb-true}
use Rattle.std.proofs.lemmas.Bool.Decides.{nat_tests}
use Rattle.std.specs.Option.{option_map_or}
use Rattle.xv_base.specs.Limits.{most_messages}
use Rattle.xv_model.specs.declared.board.Board.{Board}
use Rattle.xv_model.specs.declared.operations.PqOp.TheVariants.{Set}
use Rattle.xv_model.specs.declared.operations.PqOp.TheVariants as pqs
use Rattle.xv_model.specs.declared.operations.AttrValue.TheVariants.{Number}
use Rattle.xv_model.specs.declared.operations.Op.{Op}
use Rattle.xv_model.specs.declared.operations.Op.TheVariants as op
use Rattle.xv_model.specs.declared.outcomes.Outcome.{Outcome}
use Rattle.xv_model.specs.declared.outcomes.Outcome.TheVariants as out
use Rattle.xv_model.specs.declared.entries.Entry.{Entry}
use Rattle.xv_model.specs.account.Start.{Start}
use Rattle.xv_model.specs.account.Burden.{weight, burden}
use Rattle.xv_base.specs.Limits.{most_forwards}
use Rattle.xv_model.specs.account.Legal.{IsLegal, IsNext, answer_by, cell_after, answer_on, legal}
use Rattle.xv_model.specs.account.Kinds.{Word as WordOf}
use Rattle.xv_model.specs.source.PqTable.{Cell}
use Rattle.xv_model.specs.source.Pairs.{pq}
use Rattle.xv_model.specs.source.Pages.{untouched_answer}
use Rattle.xv_model.specs.source.Notices.{forwards, routes, outstanding, sum_below, all_outstanding}
use Rattle.xv_model.specs.source.Eas.{eas}
use Rattle.xv_model.specs.route.Flight.{taken_in, messages_after, flight}
use Rattle.xv_model.specs.route.Quiet.{messages_of, quiet_by, quiet_answer}
use Rattle.xv_model.specs.route.Taking.{taken_by, take_outcome}
use Rattle.xv_model.specs.declared.messages.Message.{Message}
use Rattle.xv_model.specs.declared.messages.Message.TheVariants as message
use Rattle.xv_model.specs.route.Routing.{routed_by, route_outcome}
use Rattle.xv_model.specs.laws.Triggers.{is_forwarded}
use Rattle.xv_model.specs.account.Kinds.{WordAccess, access_of, is_word, part_beside}
use Rattle.xv_model.specs.call.Accepted.{is_success}
use Rattle.xv_model.specs.call.Hypercalls.{hcall_reply}
use Rattle.xv_model.specs.device.Answers.{attribute_code}
use Rattle.xv_model.proofs.HalvesLemmas.{forwards-skips}
use Rattle.xv_model.proofs.Burdens.{rises, route_falls, take_falls}
use Rattle.xv_model.specs.account.Fit.{IsFitStart}
use Rattle.xv_model.specs.board.Validity.{valid}
use Rattle.board_script.specs.declared.steps.Steps.{Steps}
use Rattle.board_script.specs.declared.steps.Then.{Then}
use Rattle.board_script.specs.declared.steps.Then.TheVariants.{Done, Route, Take, Sync, Drain, Esb, Reset, Init}
use Rattle.board_script.specs.declared.work.Work.TheVariants.{Simple}
use Rattle.board_script.specs.Steps.{has_found, is_accepted, settling, resting, first_from, draining, resets, setting_off, resetting, behind, reset_place, op_after, op_from_place, op_by, next_step, place_of, then_from, at_place, MovesTo, HasComeTo, settling_left, left_after, first_left, last_outcome, BeginsRest, WithThen, StepsAskBelow}
use Rattle.board_script.specs.Work.{AreSteps, IsAt, IsLast, load, Falls, HasValidSteps}
use Rattle.board_script.proofs.Passing.{IsFirst, stays_at, passed_both, first_of, first_below, skips_all}

-- a route forwards nothing
route_forwards : (z : Start) (h : List Entry) (s : ℕ) → is_forwarded (route_outcome z h s) ≡ false
route_forwards z h s = by (outstanding z h s == 0) (length (flight z h) == most_messages)
  where
    by : (none full : Bool) → is_forwarded (if none then out.NoNotice else (if full then out.BusFull else out.Routed (routes z h s + 1) (routed_by z h (eas z h s)))) ≡ false
    by true full = refl
    by false true = refl
    by false false = refl

-- whether a line is one that brings sources to rest
abbrev pub Settles : Then → Type 0
Settles (Sync s) = Unit {0}
Settles (Drain from sources) = Unit {0}
Settles _ = ⊥

-- an outcome is one that a take may have
abbrev pub IsTaken : Outcome → Type 0
IsTaken out.NoMessage = Unit {0}
IsTaken (out.Present v p presented escalates) = Unit {0}
IsTaken (out.Escalated e run) = Unit {0}
IsTaken _ = ⊥

-- nothing is in flight where the take of the oldest message found none
none_by : (z : Start) (h : List Entry) (ms : List Message) → option_map_or (taken_by z h) (slice_get ms 0) out.NoMessage ≡ out.NoMessage → ms ≡ []
none_by z h [] e = refl
none_by z h (message.Present e' flags vp priority esc esc_eisn origin ∷ ms) e = cc
none_by z h (message.Escalate e' flags esc esc_eisn origin ∷ ms) e = cc

-- an entry of a take that found no message
taken_none : (x : Entry) → x.op ≡ op.Take 0 → x.outcome ≡ out.NoMessage → x ≡ record { actor = x.actor; op = op.Take 0; outcome = out.NoMessage }
taken_none x e n = ap (λ o. record { actor = x.actor; op = o; outcome = x.outcome }) e ∙ ap (λ u. record { actor = x.actor; op = op.Take 0; outcome = u }) n

flight_by : (z : Start) (h : List Entry) (ms : List Message) → ms ≡ [] → messages_after z h (op.Take 0) out.NoMessage ms ≡ []
flight_by z h ms e = rw e refl

-- nothing is in flight after it either
pub take_empties : (z : Start) (h : List Entry) (x : Entry) → x.op ≡ op.Take 0 → IsNext z h x → x.outcome ≡ out.NoMessage → flight z (x ∷ h) ≡ []
take_empties z h x e n none =
    let empty : flight z h ≡ [] = none_by z h (flight z h) (sym (n.outcome ∙ ap (legal z h) e) ∙ none) in
    subst (λ v. flight z (v ∷ h) ≡ []) (sym (taken_none x e none)) (flight_by z h (flight z h) empty)

as_many : (f r : ℕ) → 0 + f - (0 + r) ≤ f - r
as_many f r = omega arith

-- counts that are nowhere more have no larger sum
as_few : (g f : ℕ → ℕ) (n : ℕ) → ((q : ℕ) → g q ≤ f q) → sum_below g n ≤ sum_below f n
as_few g f zero less = omega arith
as_few g f (suc n) less = omega (arith, as_few g f n less, less n)

-- and it leaves the burden
take_leaves : (z : Start) (h : List Entry) (x : Entry) → x.op ≡ op.Take 0 → IsNext z h x → x.outcome ≡ out.NoMessage → burden z (x ∷ h) ≤ burden z h
take_leaves z h x e n none =
    let y : Entry = record { actor = x.actor; op = op.Take 0; outcome = out.NoMessage } in
    let empty : flight z (y ∷ h) ≡ [] = flight_by z h (flight z h) (none_by z h (flight z h) (sym (n.outcome ∙ ap (legal z h) e) ∙ none)) in
    let notices : all_outstanding z (y ∷ h) ≤ all_outstanding z h = as_few (outstanding z (y ∷ h)) (outstanding z h) z.board.limits.sources (λ q. as_many (forwards z h q) (routes z h q)) in
    let weightless : weight (flight z (y ∷ h)) ≡ 0 = ap weight empty in
    subst (λ v. burden z (v ∷ h) ≤ burden z h) (sym (taken_none x e none)) (omega (arith, notices, weightless))

-- a route isn't answered as a take that found no message, and no more is the question whether a source is quiet
pub route_answers : (z : Start) (h : List Entry) (s : ℕ) → route_outcome z h s ≡ out.NoMessage → ⊥
route_answers z h s = by (outstanding z h s == 0) (length (flight z h) == most_messages)
  where
    by : (none full : Bool) → (if none then out.NoNotice else (if full then out.BusFull else out.Routed (routes z h s + 1) (routed_by z h (eas z h s)))) ≡ out.NoMessage → ⊥
    by true full e = cc
    by false true e = cc
    by false false e = cc

quiet_left : (notices messages : ℕ) → settling_left (quiet_by notices messages) ≡ 0
quiet_left notices messages = by ((notices == 0) && (messages == 0))
  where
    by : (none : Bool) → settling_left (if none then out.Quiet else out.Busy notices messages) ≡ 0
    by true = refl
    by false = refl

quiet_answers : (z : Start) (h : List Entry) (s : ℕ) → quiet_answer z h s ≡ out.NoMessage → ⊥
quiet_answers z h s e = let ten : 10 ≡ 0 = sym (ap settling_left e) ∙ quiet_left (outstanding z h s) (messages_of (flight z h) s) in absurd (omega (arith, ten))

resting_answers : (z : Start) (h : List Entry) (s n : ℕ) → legal z h (resting s n) ≡ out.NoMessage → ⊥
resting_answers z h s n = by (n == 0)
  where
    by : (none : Bool) → legal z h (if none then op.Quiet s else op.Route s) ≡ out.NoMessage → ⊥
    by true e = quiet_answers z h s e
    by false e = route_answers z h s e

-- a line that drains routes a notice that is outstanding
drained_is : (count : ℕ → ℕ) (n : ℕ) (first : Option ℕ) (o : Op) → first_from count 0 n ≡ first → draining first ≡ Some o → (s : ℕ) × (o ≡ op.Route s) × IsFirst count 0 n s
drained_is count n (Some s) o is e = let here : op.Route s ≡ o = cc in (s, sym here, first_of count n s is)
drained_is count n None o is e = cc

drained_answers : (z : Start) (h : List Entry) (n : ℕ) (o : Op) → draining (first_from (outstanding z h) 0 n) ≡ Some o → legal z h o ≡ out.NoMessage → ⊥
drained_answers z h n o e none =
    let r = drained_is (outstanding z h) n (first_from (outstanding z h) 0 n) o refl e in
    route_answers z h r.0 (sym (ap (legal z h) r.1) ∙ none)

-- after an accepted call a line that settles makes a take
pub called_take : (accepted : Bool) (o : Op) → (if accepted then Some (op.Take 0) else None) ≡ Some o → o ≡ op.Take 0
called_take true o e = cc
called_take false o e = cc

-- where what follows finds no message, it is a take of the oldest one
pub settling_take : (z : Start) (h : List Entry) (m : Option Op) (u : Outcome) (x : Entry) → (m ≡ Some x.op → legal z h x.op ≡ out.NoMessage → ⊥) → settling m u ≡ Some x.op → IsNext z h x → x.outcome ≡ out.NoMessage → x.op ≡ op.Take 0
settling_take z h m out.NoMessage x other e is none = absurd (other e (sym is.outcome ∙ none))
settling_take z h m out.Quiet x other e is none = cc
settling_take z h m (out.Busy notices messages) x other e is none = cc
settling_take z h m (out.Reply reply) x other e is none = called_take (is_success reply.code) x.op e
settling_take z h m (out.Code code) x other e is none = called_take (is_success code) x.op e
settling_take z h m _ x other e is none = cc

resting_other : (z : Start) (h : List Entry) (s n : ℕ) (o : Op) → Some (resting s n) ≡ Some o → legal z h o ≡ out.NoMessage → ⊥
resting_other z h s n o e none = let here : resting s n ≡ o = cc in resting_answers z h s n (ap (legal z h) here ∙ none)

-- the first operation of a line that brings sources to rest is a take where it finds no message, since a call answers otherwise
begins_take : (z : Start) (h : List Entry) (x : Entry) (first : Op) → BeginsRest first → first ≡ x.op → IsNext z h x → x.outcome ≡ out.NoMessage → x.op ≡ op.Take 0
begins_take z h x (op.Take i) is e n none = sym e ∙ ap (λ k. op.Take k) is
begins_take z h x (op.Hcall number args) is e n none =
    let replied : out.Reply (hcall_reply z h number args) ≡ out.NoMessage = ap (legal z h) e ∙ sym n.outcome ∙ none in
    cc
begins_take z h x (op.AttrSet group number (Number value)) is e n none =
    let answered : out.Code (attribute_code z h group number (Number value)) ≡ out.NoMessage = ap (legal z h) e ∙ sym n.outcome ∙ none in
    cc
begins_take z h x _ is e n none = absurd is

-- nothing is in flight once a line has settled
pub rested : (w : Steps) (z : Start) (before part : List Entry) (x : Entry) → BeginsRest w.first → Settles w.then → AreSteps (Simple w) z before part → next_step w z before part ≡ Some x.op → IsLegal z (x ∷ (part ++ before)) → x.outcome ≡ out.NoMessage → flight z (x ∷ (part ++ before)) ≡ []
rested w z before part x first settles steps e l none = take_empties z (part ++ before) x (by w.then part settles e) l.1 none
  where
    by : (t : Then) (p : List Entry) → Settles t → op_by (record w { then = t }) (reset_place p) z (part ++ before) (last_outcome p) ≡ Some x.op → x.op ≡ op.Take 0
    by (Sync s) [] settles e = let here : w.first ≡ x.op = cc in begins_take z (part ++ before) x w.first first here l.1 none
    by (Sync s) (y ∷ p) settles e =
        let h = part ++ before in
        settling_take z h (Some (resting s (outstanding z h s))) y.outcome x (resting_other z h s (outstanding z h s) x.op) e l.1 none
    by (Drain from sources) [] settles e = let here : w.first ≡ x.op = cc in begins_take z (part ++ before) x w.first first here l.1 none
    by (Drain from sources) (y ∷ p) settles e =
        let h = part ++ before in
        settling_take z h (draining (first_from (outstanding z h) 0 sources)) y.outcome x (drained_answers z h sources x.op) e l.1 none
    by _ p settles e = absurd settles

-- a line that brings sources to rest begins as such a line does
rest_first : (b : Board) (first : Op) (t : Then) → WithThen b first t → Settles t → BeginsRest first
rest_first b first (Sync s) v settles = v.0
rest_first b first (Drain from sources) v settles = v.0
rest_first b first _ v settles = absurd settles

-- a route where a notice is outstanding and nothing in flight
pub routed_falls : (z : Start) (h : List Entry) (x : Entry) (s : ℕ) → (outstanding z h s == 0) ≡ false → flight z h ≡ [] → x.op ≡ op.Route s → IsNext z h x → 2 * burden z (x ∷ h) + settling_left x.outcome < 2 * burden z h + 10
routed_falls z h x s some empty e n =
    let u : Outcome = out.Routed (routes z h s + 1) (routed_by z h (eas z h s)) in
    let is : u ≡ route_outcome z h s = rw (some, empty) refl in
    let same : x ≡ record { actor = x.actor; op = op.Route s; outcome = u } =
    ap (λ o. record { actor = x.actor; op = o; outcome = x.outcome }) e ∙ ap (λ v. record { actor = x.actor; op = op.Route s; outcome = v }) (n.outcome ∙ ap (legal z h) e ∙ sym is) in
    let below : s < z.board.limits.sources = ltb-true s z.board.limits.sources (sym (ap (valid z.board) e) ∙ n.valid_op) in
    let less = route_falls z h x.actor s (routes z h s + 1) (routed_by z h (eas z h s)) below is in
    subst (λ (v : Entry). 2 * burden z (v ∷ h) + settling_left v.outcome < 2 * burden z h + 10) (sym same) (omega (arith, less))

quiet_falls : (z : Start) (h : List Entry) (x : Entry) (s : ℕ) → x.op ≡ op.Quiet s → IsNext z h x → 2 * burden z (x ∷ h) + settling_left x.outcome < 2 * burden z h + 10
quiet_falls z h x s e n =
    let none : settling_left x.outcome ≡ 0 = ap settling_left (n.outcome ∙ ap (legal z h) e) ∙ quiet_left (outstanding z h s) (messages_of (flight z h) s) in
    omega (arith, none, rises z h x)

rest_falls : (z : Start) (h : List Entry) (x : Entry) (s : ℕ) (none : Bool) → (outstanding z h s == 0) ≡ none → flight z h ≡ [] → (if none then op.Quiet s else op.Route s) ≡ x.op → IsNext z h x → 2 * burden z (x ∷ h) + settling_left x.outcome < 2 * burden z h + 10
rest_falls z h x s true is empty e n = quiet_falls z h x s (sym e) n
rest_falls z h x s false is empty e n = routed_falls z h x s is empty (sym e) n

-- a take is answered as one that found no message, or by what became of one
pub take_answers : (z : Start) (h : List Entry) (u : Outcome) → u ≡ take_outcome z h 0 → IsTaken u
take_answers z h u e = by (slice_get (flight z h) 0) e
  where
    by : (m : Option Message) → u ≡ option_map_or (taken_by z h) m out.NoMessage → IsTaken u
    by None e = subst IsTaken (sym e) tt
    by (Some (message.Present e' flags vp priority esc esc_eisn origin)) e = subst IsTaken (sym e) tt
    by (Some (message.Escalate e' flags esc esc_eisn origin)) e = subst IsTaken (sym e) tt

-- the take of a line that brings a source to rest
pub take_rest : (z : Start) (h : List Entry) (x : Entry) (u : Outcome) → x.outcome ≡ u → IsFitStart z → x.op ≡ op.Take 0 → IsLegal z (x ∷ h) → 2 * burden z (x ∷ h) + settling_left u < 2 * burden z h + 11
take_rest z h x out.NoMessage is w e l = omega (arith, take_leaves z h x e l.1 is)
take_rest z h x (out.Present v p presented escalates) is w e l =
    omega (arith, take_falls z h x 0 0 w l e (ap (λ o. taken_in o x.outcome) e ∙ ap (taken_in (op.Take 0)) is))
take_rest z h x (out.Escalated e' run) is w e l =
    omega (arith, take_falls z h x 0 0 w l e (ap (λ o. taken_in o x.outcome) e ∙ ap (taken_in (op.Take 0)) is))
take_rest z h x u is w e l = absurd (take_answers z h u (sym is ∙ l.1.outcome ∙ ap (legal z h) e))

settling_falls : (z : Start) (h : List Entry) (x : Entry) (m : Option Op) (u : Outcome) → IsFitStart z → (u ≡ out.NoMessage → m ≡ Some x.op → 2 * burden z (x ∷ h) + settling_left x.outcome < 2 * burden z h + 10) → settling m u ≡ Some x.op → IsLegal z (x ∷ h) →
    2 * burden z (x ∷ h) + settling_left x.outcome < 2 * burden z h + settling_left u
settling_falls z h x m out.NoMessage w rest e l = rest refl e
settling_falls z h x m out.Quiet w rest e l = cc
settling_falls z h x m (out.Busy notices messages) w rest e l = cc
settling_falls z h x m (out.Reply reply) w rest e l = take_rest z h x x.outcome refl w (called_take (is_success reply.code) x.op e) l
settling_falls z h x m (out.Code code) w rest e l = take_rest z h x x.outcome refl w (called_take (is_success code) x.op e) l
settling_falls z h x m _ w rest e l = let here : x.op ≡ op.Take 0 = cc in take_rest z h x x.outcome refl w here l

sync_falls : (z : Start) (h : List Entry) (x : Entry) (s : ℕ) → flight z h ≡ [] → IsNext z h x → Some (resting s (outstanding z h s)) ≡ Some x.op → 2 * burden z (x ∷ h) + settling_left x.outcome < 2 * burden z h + 10
sync_falls z h x s empty n e = let here : resting s (outstanding z h s) ≡ x.op = cc in rest_falls z h x s (outstanding z h s == 0) refl empty here n

drain_falls : (z : Start) (h : List Entry) (x : Entry) (sources : ℕ) → flight z h ≡ [] → IsNext z h x → draining (first_from (outstanding z h) 0 sources) ≡ Some x.op → 2 * burden z (x ∷ h) + settling_left x.outcome < 2 * burden z h + 10
drain_falls z h x sources empty n e =
    let r = drained_is (outstanding z h) sources (first_from (outstanding z h) 0 sources) x.op refl e in
    routed_falls z h x r.0 r.2.some empty r.1 n

-- an entry raises the burden by less than an operation that is counted weighs
pub counted : (z : Start) (h : List Entry) (x : Entry) (after before : ℕ) → after + 8 < before → 2 * burden z (x ∷ h) + after < 2 * burden z h + before
counted z h x after before less = omega (arith, rises z h x)

-- after the route of what an operation forwarded a line has nothing more to do
after_route : (z : Start) (h : List Entry) (x : Entry) (s : ℕ) (forwarded : Bool) → (if forwarded then Some (op.Route s) else None) ≡ Some x.op → IsNext z h x →
    (if is_forwarded x.outcome then 10 else 0) + 8 < (if forwarded then 10 else 0)
after_route z h x s true e n =
    let here : x.op ≡ op.Route s = cc in
    let none : is_forwarded x.outcome ≡ false = ap is_forwarded (n.outcome ∙ ap (legal z h) here) ∙ route_forwards z h s in
    rw none (omega arith)
after_route z h x s false e n = cc

-- a take found a message, by what it answered
found_in : (m : Option ℕ) → option_map_or (λ i. true) m false ≡ true → (n : ℕ) × (m ≡ Some n)
found_in (Some n) e = (n, refl)
found_in None e = cc

-- a take brings the load of a line that settles down, whether it found a message or not
after_take : (z : Start) (h : List Entry) (x : Entry) (found : Bool) → IsFitStart z → x.op ≡ op.Take 0 → IsLegal z (x ∷ h) → has_found x.outcome ≡ found →
    2 * burden z (x ∷ h) + (if found then 10 else 0) < 2 * burden z h + 10
after_take z h x true w e l is =
    let n = found_in (taken_in (op.Take 0) x.outcome) is in
    let less = take_falls z h x 0 n.0 w l e (ap (λ o. taken_in o x.outcome) e ∙ n.1) in
    omega arith
after_take z h x false w e l is = omega (arith, rises z h x)

ten_or_none : (b : Bool) → (if b then 10 else 0) + 8 < 20
ten_or_none true = omega arith
ten_or_none false = omega arith

-- a line that settles makes a take, after one that found a message
take_by : (z : Start) (h : List Entry) (x : Entry) (found : Bool) → IsFitStart z → (if found then Some (op.Take 0) else None) ≡ Some x.op → IsLegal z (x ∷ h) →
    2 * burden z (x ∷ h) + (if has_found x.outcome then 10 else 0) < 2 * burden z h + (if found then 10 else 0)
take_by z h x true w e l = let here : x.op ≡ op.Take 0 = cc in after_take z h x (has_found x.outcome) w here l refl
take_by z h x false w e l = cc

pub little_left : (u : Outcome) → settling_left u + 8 < 20
little_left out.NoMessage = omega arith
little_left out.Quiet = omega arith
little_left (out.Busy notices messages) = omega arith
little_left _ = omega arith

-- an access to a page is no call
access_no_call : (z : Start) (h : List Entry) (s page offset : ℕ) (store : Bool) → is_accepted (legal z h (op.Esb s page offset store)) ≡ false
access_no_call z h s page offset store = by (access_of z.board (op.Esb s page offset store))
  where
    untouched : (store : Bool) → is_accepted (untouched_answer store) ≡ false
    untouched true = refl
    untouched false = refl

    answered : (c : Cell) (q n : ℕ) → is_accepted (answer_by c q n) ≡ false
    answered c q n = spent c.forwards (n == most_forwards)
      where
        spent : (forwards full : Bool) → is_accepted (if forwards then (if full then out.Spent else out.Pq q c.pair (n + 1)) else out.Pq q c.pair 0) ≡ false
        spent true true = refl
        spent true false = refl
        spent false full = refl

    by : (m : Option WordAccess) → is_accepted (answer_on z h (op.Esb s page offset store) (option_map_or WordOf m (part_beside (op.Esb s page offset store)))) ≡ false
    by (Some a) = answered (cell_after z h a) (pq z h a.source) (forwards z h a.source)
    by None = untouched store

-- after the access that an accepted call makes a line has nothing more to do
after_access : (z : Start) (h : List Entry) (x : Entry) (s page offset : ℕ) (store accepted : Bool) → (if accepted then Some (op.Esb s page offset store) else None) ≡ Some x.op → IsNext z h x →
    (if is_accepted x.outcome then 10 else 0) + 8 < (if accepted then 10 else 0)
after_access z h x s page offset store true e n =
    let here : x.op ≡ op.Esb s page offset store = cc in
    let none : is_accepted x.outcome ≡ false = ap is_accepted (n.outcome ∙ ap (legal z h) here) ∙ access_no_call z h s page offset store in
    rw none (omega arith)
after_access z h x s page offset store false e n = cc

-- nor is an initialisation
init_no_call : (z : Start) (h : List Entry) (s : ℕ) (asserted : Bool) → is_accepted (legal z h (op.Pq s (pqs.Init asserted))) ≡ false
init_no_call z h s asserted = refl

after_init : (z : Start) (h : List Entry) (x : Entry) (s : ℕ) (asserted accepted : Bool) → (if accepted then Some (op.Pq s (pqs.Init asserted)) else None) ≡ Some x.op → IsNext z h x →
    (if is_accepted x.outcome then 10 else 0) + 8 < (if accepted then 10 else 0)
after_init z h x s asserted true e n =
    let here : x.op ≡ op.Pq s (pqs.Init asserted) = cc in
    let none : is_accepted x.outcome ≡ false = ap is_accepted (n.outcome ∙ ap (legal z h) here) ∙ init_no_call z h s asserted in
    rw none (omega arith)
after_init z h x s asserted false e n = cc

-- a line that resets sets the pair of a source that is initialised
off_is : (count : ℕ → ℕ) (place n : ℕ) (first : Option ℕ) (o : Op) → first_from count place (n - place) ≡ first → setting_off first ≡ Some o → (s : ℕ) × (o ≡ op.Pq s (Set 1)) × IsFirst count place n s
off_is count place n (Some s) o is e = let here : op.Pq s (Set 1) ≡ o = cc in (s, sym here, first_below count place n s is)
off_is count place n None o is e = cc

called_is : (accepted : Bool) (m : Option Op) (o : Op) → (if accepted then m else None) ≡ Some o → m ≡ Some o
called_is true m o e = e
called_is false m o e = cc

resetting_is : (m : Option Op) (u : Outcome) (o : Op) → resetting m u ≡ Some o → m ≡ Some o
resetting_is m (out.Reply reply) o e = called_is (is_success reply.code) m o e
resetting_is m (out.Code code) o e = called_is (is_success code) m o e
resetting_is m _ o e = e

pub reset_is : (count : ℕ → ℕ) (place n : ℕ) (u : Outcome) (o : Op) → resetting (setting_off (first_from count place (n - place))) u ≡ Some o → (s : ℕ) × (o ≡ op.Pq s (Set 1)) × IsFirst count place n s
reset_is count place n u o e = off_is count place n (first_from count place (n - place)) o refl (resetting_is (setting_off (first_from count place (n - place))) u o e)

-- and then it has that much less to do
after_reset : (z : Start) (h : List Entry) (x : Entry) (place sources : ℕ) (u : Outcome) → resetting (setting_off (first_from (resets z h) place (sources - place))) u ≡ Some x.op →
    10 * (sources - behind x.op) + 8 < 10 * (sources - place)
after_reset z h x place sources u e =
    let r = reset_is (resets z h) place sources u x.op e in
    let next : behind x.op ≡ r.0 + 1 = ap behind r.1 ∙ omega arith in
    let below = r.2.below in
    let later = r.2.passed.later in
    rw next (omega arith)

-- a line has more to do when it begins than after its first operation
begins : (z : Start) (h : List Entry) (x : Entry) (t : Then) → 2 * burden z (x ∷ h) + left_after (then_from 0 t) x.outcome < 2 * burden z h + first_left t
begins z h x Done = counted z h x 0 10 (omega arith)
begins z h x (Route s) = counted z h x (if is_forwarded x.outcome then 10 else 0) 20 (ten_or_none (is_forwarded x.outcome))
begins z h x Take = counted z h x (if has_found x.outcome then 10 else 0) 20 (ten_or_none (has_found x.outcome))
begins z h x (Sync s) = counted z h x (settling_left x.outcome) 20 (little_left x.outcome)
begins z h x (Drain from sources) = counted z h x (settling_left x.outcome) 20 (little_left x.outcome)
begins z h x (Esb s page offset store) = counted z h x (if is_accepted x.outcome then 10 else 0) 20 (ten_or_none (is_accepted x.outcome))
begins z h x (Reset from sources) = counted z h x (10 * (sources - 0)) (20 + 10 * sources) (omega arith)
begins z h x (Init s asserted) = counted z h x (if is_accepted x.outcome then 10 else 0) 20 (ten_or_none (is_accepted x.outcome))

-- and less after each later one, where nothing is in flight after a take that found no message
goes_on : (z : Start) (h : List Entry) (x : Entry) (t : Then) (place : ℕ) (u : Outcome) → IsFitStart z → (Settles t → u ≡ out.NoMessage → flight z h ≡ []) → op_after t place z h u ≡ Some x.op → IsLegal z (x ∷ h) →
    2 * burden z (x ∷ h) + left_after (then_from (behind x.op) t) x.outcome < 2 * burden z h + left_after (then_from place t) u
goes_on z h x Done place u w none e l = cc
goes_on z h x (Route s) place u w none e l = counted z h x (if is_forwarded x.outcome then 10 else 0) (if is_forwarded u then 10 else 0) (after_route z h x s (is_forwarded u) e l.1)
goes_on z h x Take place u w none e l = take_by z h x (has_found u) w e l
goes_on z h x (Sync s) place u w none e l = settling_falls z h x (Some (resting s (outstanding z h s))) u w (λ is. sync_falls z h x s (none tt is) l.1) e l
goes_on z h x (Drain from sources) place u w none e l = settling_falls z h x (draining (first_from (outstanding z h) 0 sources)) u w (λ is. drain_falls z h x sources (none tt is) l.1) e l
goes_on z h x (Esb s page offset store) place u w none e l =
    counted z h x (if is_accepted x.outcome then 10 else 0) (if is_accepted u then 10 else 0) (after_access z h x s page offset store (is_accepted u) e l.1)
goes_on z h x (Reset from sources) place u w none e l = counted z h x (10 * (sources - behind x.op)) (10 * (sources - place)) (after_reset z h x place sources u e)
goes_on z h x (Init s asserted) place u w none e l =
    counted z h x (if is_accepted x.outcome then 10 else 0) (if is_accepted u then 10 else 0) (after_init z h x s asserted (is_accepted u) e l.1)

-- each later legal entry of a line brings its load down, by its place and the outcome of the last entry
later_falls : (w : Steps) (b : Board) (z : Start) (before part : List Entry) (y x : Entry) → IsFitStart z → HasValidSteps b (Simple w) → AreSteps (Simple w) z before (y ∷ part) → next_step w z before (y ∷ part) ≡ Some x.op → IsLegal z (x ∷ (y ∷ (part ++ before))) →
    2 * burden z (x ∷ (y ∷ (part ++ before))) + left_after (then_from (behind x.op) w.then) x.outcome < 2 * burden z (y ∷ (part ++ before)) + left_after (then_from (reset_place (y ∷ part)) w.then) y.outcome
later_falls w b z before part y x fit v steps e l =
    goes_on z (y ∷ (part ++ before)) x w.then (reset_place (y ∷ part)) y.outcome fit (λ settles none. rested w z before part y (rest_first b w.first w.then v settles) settles steps.0 steps.1 l.0 none) e l

-- the load of a line after its entries
abbrev pub load_at : Steps → Start → List Entry → List Entry → ℕ
load_at w z before [] = load (Simple w) None (burden z before)
load_at w z before (x ∷ part) = load (Simple (at_place (reset_place (x ∷ part)) w)) (Some x.outcome) (burden z (x ∷ (part ++ before)))

-- each legal entry of a line brings it down
pub falls_by : (w : Steps) (b : Board) (z : Start) (before part : List Entry) (x : Entry) → IsFitStart z → HasValidSteps b (Simple w) → AreSteps (Simple w) z before part → next_step w z before part ≡ Some x.op → IsLegal z (x ∷ (part ++ before)) →
    load_at w z before (x ∷ part) < load_at w z before part
falls_by w b z before [] x fit v steps e l = begins z before x w.then
falls_by w b z before (y ∷ part) x fit v steps e l = later_falls w b z before part y x fit v steps e l

-- a line has as much to do by the place that it has come to as by the place that its entries tell
left_at : (place : ℕ) (t : Then) (u : Outcome) (z : Start) (before part : List Entry) → HasComeTo (then_from place t) z before part → left_after (then_from place t) u ≡ left_after (then_from (reset_place part) t) u
left_at place Done u z before part come = refl
left_at place (Route s) u z before part come = refl
left_at place Take u z before part come = refl
left_at place (Sync s) u z before part come = refl
left_at place (Drain from sources) u z before part come = refl
left_at place (Esb s page offset store) u z before part come = refl
left_at place (Reset from sources) u z before part come = ap (λ k. 10 * (sources - k)) come
left_at place (Init s asserted) u z before part come = refl

-- and by the place that it moves to with its next operation
left_behind : (old place : ℕ) (t : Then) (u : Outcome) (z : Start) (h : List Entry) (o : Op) → MovesTo (then_from old t) place z h o → left_after (then_from place t) u ≡ left_after (then_from (behind o) t) u
left_behind old place Done u z h o moves = refl
left_behind old place (Route s) u z h o moves = refl
left_behind old place Take u z h o moves = refl
left_behind old place (Sync s) u z h o moves = refl
left_behind old place (Drain from sources) u z h o moves = refl
left_behind old place (Esb s page offset store) u z h o moves = refl
left_behind old place (Reset from sources) u z h o moves = ap (λ k. 10 * (sources - k)) moves
left_behind old place (Init s asserted) u z h o moves = refl

-- its operations are valid where those of the line as it was read are
steps_at : (place : ℕ) (b : Board) (first : Op) (t : Then) → WithThen b first (then_from place t) → WithThen b first t
steps_at place b first Done v = v
steps_at place b first (Route s) v = v
steps_at place b first Take v = v
steps_at place b first (Sync s) v = v
steps_at place b first (Drain from sources) v = v
steps_at place b first (Esb s page offset store) v = v
steps_at place b first (Reset from sources) v = v
steps_at place b first (Init s asserted) v = v

-- and it makes the same operation from the place that it has come to
op_at : (place : ℕ) (t : Then) (z : Start) (before part : List Entry) (u : Outcome) → HasComeTo (then_from place t) z before part → op_from_place (then_from place t) z (part ++ before) u ≡ op_after t (reset_place part) z (part ++ before) u
op_at place Done z before part u come = refl
op_at place (Route s) z before part u come = refl
op_at place Take z before part u come = refl
op_at place (Sync s) z before part u come = refl
op_at place (Drain from sources) z before part u come = ap (λ m. settling (draining m) u) (skips_all (outstanding z (part ++ before)) place sources come)
op_at place (Esb s page offset store) z before part u come = refl
op_at place (Reset from sources) z before part u come = ap (λ k. resetting (setting_off (first_from (resets z (part ++ before)) k (sources - k))) u) come
op_at place (Init s asserted) z before part u come = refl

-- a line that has come to a place, as the line that it was when it was read
come_at : (now w : Steps) (z : Start) (before part : List Entry) → now ≡ at_place (place_of now.then) w → HasComeTo now.then z before part → HasComeTo (then_from (place_of now.then) w.then) z before part
come_at now w z before part same come = subst (λ t. HasComeTo t z before part) (ap (λ v. v.then) same) come

-- the operation that a line makes after its last one
pub next_at : (now : Steps) (m : Option Op) (last : Option Outcome) (u : Outcome) (Knows : Start → List Entry → Type 0) → last ≡ Some u → ((z : Start) (h : List Entry) → Knows z h → m ≡ op_from_place now.then z h u) →
    (w : Steps) (z : Start) (before part : List Entry) → IsAt (Simple now) (Simple w) z before part → Knows z (part ++ before) → IsLast part last → m ≡ next_step w z before part
next_at now m last u Knows is value w z before [] at known l = cc
next_at now m last u Knows is value w z before (y ∷ part) at known l =
    let h = y ∷ (part ++ before) in
    let outcome : u ≡ y.outcome = cc in
    value z h known ∙ ap (op_from_place now.then z h) outcome ∙ ap (λ v. op_from_place v.then z h y.outcome) at.0.0
    ∙ op_at (place_of now.then) w.then z before (y ∷ part) y.outcome (come_at now w z before (y ∷ part) at.0.0 at.0.1)

-- a line that drains makes takes and routes after its first operation, and these are on no word
pub settling_word : (s : ℕ) (b : Board) (m : Option Op) (o : Op) (u : Outcome) → (m ≡ Some o → is_word b s o ≡ false) → settling m u ≡ Some o → is_word b s o ≡ false
settling_word s b m o out.NoMessage v e = v e
settling_word s b m o out.Quiet v e = cc
settling_word s b m o (out.Busy notices messages) v e = cc
settling_word s b m o (out.Reply reply) v e = subst (λ p. is_word b s p ≡ false) (sym (called_take (is_success reply.code) o e)) refl
settling_word s b m o (out.Code code) v e = subst (λ p. is_word b s p ≡ false) (sym (called_take (is_success code) o e)) refl
settling_word s b m o _ v e = let here : op.Take 0 ≡ o = cc in subst (λ p. is_word b s p ≡ false) here refl

drained_word : (s : ℕ) (b : Board) (count : ℕ → ℕ) (sources : ℕ) (o : Op) → draining (first_from count 0 sources) ≡ Some o → is_word b s o ≡ false
drained_word s b count sources o e =
    let r = drained_is count sources (first_from count 0 sources) o refl e in
    subst (λ p. is_word b s p ≡ false) (sym r.1) refl

-- an entry on no word of a source leaves it with no notice outstanding
pub stays_zero : (z : Start) (h : List Entry) (x : Entry) (s : ℕ) → is_word z.board s x.op ≡ false → outstanding z h s ≡ 0 → outstanding z (x ∷ h) s ≡ 0
stays_zero z h x s other none =
    let same = forwards-skips z s x h other in
    omega (arith, same, none)

-- where a line has come to after its next entry
still_come : (old place : ℕ) (t : Then) (z : Start) (before part : List Entry) (y x : Entry) (u : Outcome) → op_after t (reset_place (y ∷ part)) z (y ∷ (part ++ before)) u ≡ Some x.op → HasComeTo (then_from old t) z before (y ∷ part) →
    MovesTo (then_from old t) place z (y ∷ (part ++ before)) x.op → HasComeTo (then_from place t) z before (x ∷ (y ∷ part))
still_come old place Done z before part y x u e come moves = tt
still_come old place (Route s) z before part y x u e come moves = tt
still_come old place Take z before part y x u e come moves = tt
still_come old place (Sync s) z before part y x u e come moves = tt
still_come old place (Drain from sources) z before part y x u e come moves =
    let h = y ∷ (part ++ before) in
    let p = passed_both (outstanding z h) 0 old place come moves in
    record {
      later = p.later;
      none = λ s a b.
          stays_zero z h x s (settling_word s z.board (draining (first_from (outstanding z h) 0 sources)) x.op u (drained_word s z.board (outstanding z h) sources x.op) e) (p.none s a b);
    }
still_come old place (Esb s page offset store) z before part y x u e come moves = tt
still_come old place (Reset from sources) z before part y x u e come moves = moves
still_come old place (Init s asserted) z before part y x u e come moves = tt

-- a line at one place and then at another is at the other
at_again : (one other : ℕ) (t : Then) → then_from other (then_from one t) ≡ then_from other t
at_again one other Done = refl
at_again one other (Route s) = refl
at_again one other Take = refl
at_again one other (Sync s) = refl
at_again one other (Drain from sources) = refl
at_again one other (Esb s page offset store) = refl
at_again one other (Reset from sources) = refl
at_again one other (Init s asserted) = refl

same_line : (old new w : Steps) → old ≡ at_place (place_of old.then) w → new ≡ at_place (place_of new.then) old → new ≡ at_place (place_of new.then) w
same_line old new w before after =
    after ∙ ap (at_place (place_of new.then)) before ∙ ap (λ t. record { first = w.first; then = t }) (at_again (place_of old.then) (place_of new.then) w.then)

-- how a line moves, as the line that it was when it was read
moves_at : (old w : Steps) (place : ℕ) (z : Start) (h : List Entry) (o : Op) → old ≡ at_place (place_of old.then) w → MovesTo old.then place z h o → MovesTo (then_from (place_of old.then) w.then) place z h o
moves_at old w place z h o same moves = subst (λ t. MovesTo t place z h o) (ap (λ v. v.then) same) moves

-- where a line moves to with its next operation
abbrev pub Moves : Steps → Steps → Op → (Start → List Entry → Type 0) → Type 0
Moves old new o Knows = (z : Start) (h : List Entry) → Knows z h → MovesTo old.then (place_of new.then) z h o

-- where a line stands after its next entry
pub after_next : (old new : Steps) (m : Option Op) (last : Option Outcome) (u : Outcome) (Knows : Start → List Entry → Type 0) → last ≡ Some u → ((z : Start) (h : List Entry) → Knows z h → m ≡ op_from_place old.then z h u) → new ≡ at_place (place_of new.then) old →
    IfSome m (λ o. Moves old new o Knows) →
    IfSome m (λ o. (w : Steps) (z : Start) (before part : List Entry) (x : Entry) → IsAt (Simple old) (Simple w) z before part → Knows z (part ++ before) → IsLast part last → x.op ≡ o → IsAt (Simple new) (Simple w) z before (x ∷ part))
after_next old new None last u Knows is value same moves = tt
after_next old new (Some o) last u Knows is value same moves = λ w z before part x at known l e. by w z before part x at known l e (sym (next_at old (Some o) last u Knows is value w z before part at known l) ∙ ap (λ p. Some p) (sym e))
  where
    by : (w : Steps) (z : Start) (before part : List Entry) (x : Entry) → IsAt (Simple old) (Simple w) z before part → Knows z (part ++ before) → IsLast part last → x.op ≡ o → next_step w z before part ≡ Some x.op → IsAt (Simple new) (Simple w) z before (x ∷ part)
    by w z before [] x at known l here e = cc
    by w z before (y ∷ part) x at known l here e =
        let h = y ∷ (part ++ before) in
        let line = same_line old new w at.0.0 same in
        let come = come_at old w z before (y ∷ part) at.0.0 at.0.1 in
        let moved = subst (MovesTo (then_from (place_of old.then) w.then) (place_of new.then) z h) (sym here) (moves_at old w (place_of new.then) z h o at.0.0 (moves z h known)) in
        let still = still_come (place_of old.then) (place_of new.then) w.then z before part y x y.outcome e come moved in
        ((line, subst (λ t. HasComeTo t z before (x ∷ (y ∷ part))) (sym (ap (λ v. v.then) line)) still), (at.1, e))

-- the first operation of a line brings its load down
pub first_falls : (old new : Steps) → new ≡ at_place 0 old → (z : Start) (before : List Entry) → Falls (Simple old) (Simple new) None z before new.first
first_falls old new same z before fit x is legal =
    subst (λ t. 2 * burden z (x ∷ before) + left_after t x.outcome < 2 * burden z before + first_left old.then) (sym (ap (λ v. v.then) same)) (begins z before x old.then)

-- each later operation of a line brings its load down
pub next_falls : (old new : Steps) (m : Option Op) (last : Option Outcome) (u : Outcome) (Knows : Start → List Entry → Type 0) → last ≡ Some u → ((z : Start) (h : List Entry) → Knows z h → m ≡ op_from_place old.then z h u) → new ≡ at_place (place_of new.then) old →
    IfSome m (λ o. Moves old new o Knows) →
    IfSome m (λ o. (w : Steps) (z : Start) (before part : List Entry) → IsAt (Simple old) (Simple w) z before part → Knows z (part ++ before) → IsLast part last → (b : Board) → HasValidSteps b (Simple old) → Falls (Simple old) (Simple new) last z (part ++ before) o)
next_falls old new None last u Knows is value same moves = tt
next_falls old new (Some o) last u Knows is value same moves = λ w z before part at known l b v. by w z before part at known l b v (sym (next_at old (Some o) last u Knows is value w z before part at known l))
  where
    by : (w : Steps) (z : Start) (before part : List Entry) → IsAt (Simple old) (Simple w) z before part → Knows z (part ++ before) → IsLast part last → (b : Board) → HasValidSteps b (Simple old) → next_step w z before part ≡ Some o → Falls (Simple old) (Simple new) last z (part ++ before) o
    by w z before [] at known l b v e = cc
    by w z before (y ∷ part) at known l b v e =
        let h = y ∷ (part ++ before) in
        let steps = steps_at (place_of old.then) b w.first w.then (subst (λ v. HasValidSteps b (Simple v)) at.0.0 v) in
        let line = same_line old new w at.0.0 same in
        let come = come_at old w z before (y ∷ part) at.0.0 at.0.1 in
        let moved = moves_at old w (place_of new.then) z h o at.0.0 (moves z h known) in
        subst (λ m. Falls (Simple old) (Simple new) m z h o) (sym l) (λ fit x here legal.
        let less = later_falls w b z before part y x fit steps at.1 (e ∙ ap (λ p. Some p) (sym here)) legal in
        let was : left_after old.then y.outcome ≡ left_after (then_from (reset_place (y ∷ part)) w.then) y.outcome = ap (λ v. left_after v.then y.outcome) at.0.0 ∙ left_at (place_of old.then) w.then y.outcome z before (y ∷ part) come in
        let now : left_after new.then x.outcome ≡ left_after (then_from (behind x.op) w.then) x.outcome =
        ap (λ v. left_after v.then x.outcome) line ∙ left_behind (place_of old.then) (place_of new.then) w.then x.outcome z h o moved ∙ ap (λ p. left_after (then_from (behind p) w.then) x.outcome) (sym here) in
        omega (arith, less, was, now))

-- what begins a line that brings sources to rest is valid
rest_valid : (b : Board) (first : Op) → BeginsRest first → valid b first ≡ true
rest_valid b (op.Take i) is = refl
rest_valid b (op.Hcall number args) is = refl
rest_valid b (op.AttrSet group number (Number value)) is = refl
rest_valid b _ is = absurd is

-- the first operation of a line is valid
pub first_valid : (w : Steps) (b : Board) → HasValidSteps b (Simple w) → valid b w.first ≡ true
first_valid w b v = by w.then v
  where
    by : (t : Then) → WithThen b w.first t → valid b w.first ≡ true
    by Done v = v
    by (Route s) v = v.0
    by Take v = v
    by (Sync s) v = rest_valid b w.first v.0
    by (Drain from sources) v = rest_valid b w.first v.0
    by (Esb s page offset store) v = v.0
    by (Reset from sources) v = v.0
    by (Init s asserted) v = v.0

resting_valid : (s n : ℕ) (b : Board) → valid b (op.Route s) ≡ true → valid b (resting s n) ≡ true
resting_valid s n b v = by (n == 0)
  where
    by : (none : Bool) → valid b (if none then op.Quiet s else op.Route s) ≡ true
    by true = v
    by false = v

-- an operation that a line that settles makes is valid, where the one after it has settled is
settling_valid : (m : Option Op) (o : Op) (u : Outcome) (b : Board) → (m ≡ Some o → valid b o ≡ true) → settling m u ≡ Some o → valid b o ≡ true
settling_valid m o out.NoMessage b v e = v e
settling_valid m o out.Quiet b v e = cc
settling_valid m o (out.Busy notices messages) b v e = cc
settling_valid m o (out.Reply reply) b v e = subst (λ p. valid b p ≡ true) (sym (called_take (is_success reply.code) o e)) refl
settling_valid m o (out.Code code) b v e = subst (λ p. valid b p ≡ true) (sym (called_take (is_success code) o e)) refl
settling_valid m o _ b v e = let here : op.Take 0 ≡ o = cc in subst (λ p. valid b p ≡ true) here refl

pub sync_valid : (s n : ℕ) (o : Op) (b : Board) → valid b (op.Route s) ≡ true → Some (resting s n) ≡ Some o → valid b o ≡ true
sync_valid s n o b v e = let here : resting s n ≡ o = cc in subst (λ p. valid b p ≡ true) here (resting_valid s n b v)

some_is : {A : Type 0} (m : Option A) (P : A → Type 0) → ((o : A) → m ≡ Some o → P o) → IfSome m P
some_is None P f = tt
some_is (Some o) P f = f o refl

pub sync_says_valid : (first : Op) (t : Then) (s n : ℕ) (u : Outcome) (m : Option Op) → t ≡ Sync s → m ≡ settling (Some (resting s n)) u → IfSome m (λ o. (b : Board) → WithThen b first t → valid b o ≡ true)
sync_says_valid first t s n u m is e =
    some_is m (λ o. (b : Board) → WithThen b first t → valid b o ≡ true) (λ o at b v. settling_valid (Some (resting s n)) o u b (sync_valid s n o b (subst (WithThen b first) is v).1) (sym e ∙ at))

pub below_is : (s n : ℕ) → s < n → nat_lt s n ≡ true
below_is s n l = grind (arith, nat_tests)

drain_valid : (count : ℕ → ℕ) (sources : ℕ) (o : Op) (b : Board) → sources ≤ b.limits.sources → draining (first_from count 0 sources) ≡ Some o → valid b o ≡ true
drain_valid count sources o b few e =
    let r = drained_is count sources (first_from count 0 sources) o refl e in
    subst (λ p. valid b p ≡ true) (sym r.1) (below_is r.0 b.limits.sources (let l = r.2.below in omega arith))

route_valid : (forwarded : Bool) (s : ℕ) (b : Board) (o : Op) → (if forwarded then Some (op.Route s) else None) ≡ Some o → valid b (op.Route s) ≡ true → valid b o ≡ true
route_valid true s b o e v = let here : op.Route s ≡ o = cc in sym (ap (valid b) here) ∙ v
route_valid false s b o e v = cc

take_valid : (found : Bool) (b : Board) (o : Op) → (if found then Some (op.Take 0) else None) ≡ Some o → valid b o ≡ true
take_valid true b o e = let here : op.Take 0 ≡ o = cc in sym (ap (valid b) here)
take_valid false b o e = cc

access_valid : (accepted : Bool) (a o : Op) (b : Board) → (if accepted then Some a else None) ≡ Some o → valid b a ≡ true → valid b o ≡ true
access_valid true a o b e v = let here : a ≡ o = cc in sym (ap (valid b) here) ∙ v
access_valid false a o b e v = cc

pub off_valid : (b : Board) (s : ℕ) → s < b.limits.sources → valid b (op.Pq s (Set 1)) ≡ true
off_valid b s below = rw (below_is s b.limits.sources below) refl

reset_valid : (count : ℕ → ℕ) (place sources : ℕ) (u : Outcome) (o : Op) (b : Board) → sources ≤ b.limits.sources → resetting (setting_off (first_from count place (sources - place))) u ≡ Some o → valid b o ≡ true
reset_valid count place sources u o b few e =
    let r = reset_is count place sources u o e in
    subst (λ p. valid b p ≡ true) (sym r.1) (off_valid b r.0 (let l = r.2.below in omega arith))

-- what a line goes on with is valid
then_valid : (t : Then) (place : ℕ) (z : Start) (h : List Entry) (u : Outcome) (b : Board) (first o : Op) → op_after t place z h u ≡ Some o → WithThen b first t → valid b o ≡ true
then_valid Done place z h u b first o e v = cc
then_valid (Route s) place z h u b first o e v = route_valid (is_forwarded u) s b o e v.1
then_valid Take place z h u b first o e v = take_valid (has_found u) b o e
then_valid (Sync s) place z h u b first o e v = settling_valid (Some (resting s (outstanding z h s))) o u b (sync_valid s (outstanding z h s) o b v.1) e
then_valid (Drain from sources) place z h u b first o e v = settling_valid (draining (first_from (outstanding z h) 0 sources)) o u b (drain_valid (outstanding z h) sources o b v.1) e
then_valid (Esb s page offset store) place z h u b first o e v = access_valid (is_accepted u) (op.Esb s page offset store) o b e v.1
then_valid (Reset from sources) place z h u b first o e v = reset_valid (resets z h) place sources u o b v.1 e
then_valid (Init s asserted) place z h u b first o e v = access_valid (is_accepted u) (op.Pq s (pqs.Init asserted)) o b e v.1

-- each operation of a line is valid
pub valid_by : (w : Steps) (place : ℕ) (z : Start) (h : List Entry) (last : Option Outcome) (b : Board) (o : Op) → op_by w place z h last ≡ Some o → HasValidSteps b (Simple w) → valid b o ≡ true
valid_by w place z h None b o e v = let here : w.first ≡ o = cc in sym (ap (valid b) here) ∙ first_valid w b v
valid_by w place z h (Some u) b o e v = then_valid w.then place z h u b w.first o e v

few_by : (t : Then) (b : ℕ) (board : Board) (first : Op) → WithThen board first t → 2 * b + first_left t ≤ 2 * b + 20 + 10 * board.limits.sources
few_by Done b board first v = omega arith
few_by (Route s) b board first v = omega arith
few_by Take b board first v = omega arith
few_by (Sync s) b board first v = omega arith
few_by (Drain from sources) b board first v = omega arith
few_by (Esb s page offset store) b board first v = omega arith
few_by (Reset from sources) b board first v = omega (arith, v.1)
few_by (Init s asserted) b board first v = omega arith

-- the load of a line that begins is little more than twice the burden, beside the sources that it may set
pub few_steps : (w : Steps) (b : ℕ) (board : Board) → HasValidSteps board (Simple w) → load (Simple w) None b ≤ 2 * b + 20 + 10 * board.limits.sources
few_steps w b board v = few_by w.then b board w.first v

-- a line whose steps are valid on a board asks for sources of the board
pub steps_ask_below : (b : Board) (w : Steps) → HasValidSteps b (Simple w) → StepsAskBelow b.limits.sources w.then
steps_ask_below b w v = by w.then v
  where
    by : (t : Then) → WithThen b w.first t → StepsAskBelow b.limits.sources t
    by Done v = tt
    by (Route s) v = tt
    by Take v = tt
    by (Sync s) v = ltb-true s b.limits.sources v.1
    by (Drain from sources) v = v.1
    by (Esb s page offset store) v = tt
    by (Reset from sources) v = v.1
    by (Init s asserted) v = tt
