-- What lines that bring to rest leave once they have ended.
use Rattle.std.proofs.Common.{ℕ, ◌≡◌, ◌==◌, ◌+◌, ◌++◌, Bool, true, false, if◌then◌else◌, List, [], ◌∷◌, length, Option, Some, None, refl, sym, ◌∙◌, ap, subst, arith}
use Rattle.xv_base.specs.Limits.{most_messages}
use Rattle.xv_model.specs.declared.operations.AttrValue.TheVariants.{Number}
use Rattle.xv_model.specs.declared.operations.Op.{Op}
use Rattle.xv_model.specs.declared.operations.Op.TheVariants as op
use Rattle.xv_model.specs.declared.outcomes.Outcome.{Outcome}
use Rattle.xv_model.specs.declared.outcomes.Outcome.TheVariants as out
use Rattle.xv_model.specs.declared.entries.Entry.{Entry}
use Rattle.xv_model.specs.account.Start.{Start}
use Rattle.xv_model.specs.account.Legal.{IsLegal, legal}
use Rattle.xv_model.specs.account.Kinds.{is_word}
use Rattle.xv_model.specs.call.Accepted.{is_success}
use Rattle.xv_model.specs.source.Notices.{routes, outstanding, sum_below}
use Rattle.xv_model.specs.source.Eas.{eas}
use Rattle.xv_model.specs.route.Flight.{flight, messages_after}
use Rattle.xv_model.specs.route.Quiet.{quiet_answer}
use Rattle.xv_model.specs.route.Routing.{routed_by, route_outcome}
use Rattle.xv_model.specs.declared.messages.Message.{Message}
use Rattle.board_script.specs.declared.work.Work.{Work}
use Rattle.board_script.specs.declared.steps.Then.TheVariants.{Sync, Drain}
use Rattle.board_script.specs.Steps.{has_found, settling, resting, first_from, draining, last_outcome, HasPassed, BeginsRest}
use Rattle.board_script.specs.Work.{with_then, settle, next_op, AreSteps}
use Rattle.board_script.specs.Resting.{HasEnded, IsAtRest, SettlesLeaveNoMessage, SyncsEndQuiet, SyncCallsEndQuiet, SourceSyncsEndQuiet, DrainsLeaveNothing, EqSyncsLeaveNothing}
use Rattle.board_script.proofs.AcceptedCalls.{sync_called}
use Rattle.board_script.proofs.AcceptedSettings.{eq_sync_set, source_sync_set}
use Rattle.board_script.proofs.Passing.{zero_at, none_is, sum_passed}
use Rattle.board_script.proofs.StepLines.{IsTaken, take_empties, take_answers, rested, stays_zero}
use Rattle.board_script.proofs.WorkLines.{are_steps}

-- a line that settles makes takes
take_is : (found : Bool) (o : Op) → (if found then Some (op.Take 0) else None) ≡ Some o → o ≡ op.Take 0
take_is true o e = cc
take_is false o e = cc

each_takes : (z : Start) (before part : List Entry) (o : Op) → next_op settle z before part ≡ Some o → o ≡ op.Take 0
each_takes z before [] o e = cc
each_takes z before (x ∷ part) o e = take_is (has_found x.outcome) o e

-- and its last one found no message
found_none : (u : Outcome) → IsTaken u → (if has_found u then Some (op.Take 0) else None) ≡ None → u ≡ out.NoMessage
found_none out.NoMessage taken e = refl
found_none (out.Present v p presented escalates) taken e = cc
found_none (out.Escalated e' run) taken e = cc
found_none _ taken e = absurd taken

settle_leaves : (z : Start) (before part : List Entry) → AreSteps settle z before part → next_op settle z before part ≡ None → IsLegal z (part ++ before) → flight z (part ++ before) ≡ []
settle_leaves z before [] steps none l = cc
settle_leaves z before (x ∷ part) steps none l =
    let h = part ++ before in
    let here : x.op ≡ op.Take 0 = each_takes z before part x.op steps.1 in
    take_empties z h x here l.1 (found_none x.outcome (take_answers z h x.outcome (l.1.outcome ∙ ap (legal z h) here)) none)

pub settles_leave_no_message : SettlesLeaveNoMessage
settles_leave_no_message z actor before part ended =
    settle_leaves z before part (are_steps z (record { actor = actor; work = settle }) before part ended.part_is.begins) ended.part_is.ends ended.legal

-- an outcome after which a line that has not settled goes on
abbrev pub GoesOn : Outcome → Type 0
GoesOn out.Quiet = ⊥
GoesOn (out.Busy notices messages) = ⊥
GoesOn (out.Reply reply) = is_success reply.code ≡ true
GoesOn (out.Code code) = is_success code ≡ true
GoesOn _ = Unit {0}

take_goes_on : (u : Outcome) → IsTaken u → GoesOn u
take_goes_on out.NoMessage taken = tt
take_goes_on (out.Present v p presented escalates) taken = tt
take_goes_on (out.Escalated e run) taken = tt
take_goes_on _ taken = absurd taken

pub route_goes_on : (z : Start) (h : List Entry) (s : ℕ) → GoesOn (route_outcome z h s)
route_goes_on z h s = by (outstanding z h s == 0) (length (flight z h) == most_messages)
  where
    by : (none full : Bool) → GoesOn (if none then out.NoNotice else (if full then out.BusFull else out.Routed (routes z h s + 1) (routed_by z h (eas z h s))))
    by true full = tt
    by false true = tt
    by false false = tt

-- so it ends where it has settled, with nothing to do then
pub settled : (m : Option Op) (u : Outcome) → GoesOn u → settling m u ≡ None → (u ≡ out.NoMessage) × (m ≡ None)
settled m out.NoMessage on e = (refl, e)
settled m out.Quiet on e = absurd on
settled m (out.Busy notices messages) on e = absurd on
settled m (out.Reply reply) on e = let goes : ◌≡◌ {A = Option Op} (Some (op.Take 0)) None = sym (ap (λ b. if b then Some (op.Take 0) else None) on) ∙ e in cc
settled m (out.Code code) on e = let goes : ◌≡◌ {A = Option Op} (Some (op.Take 0)) None = sym (ap (λ b. if b then Some (op.Take 0) else None) on) ∙ e in cc
settled m _ on e = cc

-- what it makes is a take, or what it does once it has settled
pub settling_is : (P : Op → Type 0) (m : Option Op) (u : Outcome) (o : Op) → P (op.Take 0) → (u ≡ out.NoMessage → m ≡ Some o → P o) → settling m u ≡ Some o → P o
settling_is P m out.NoMessage o take rest e = rest refl e
settling_is P m out.Quiet o take rest e = cc
settling_is P m (out.Busy notices messages) o take rest e = cc
settling_is P m (out.Reply reply) o take rest e = subst P (sym (take_is (is_success reply.code) o e)) take
settling_is P m (out.Code code) o take rest e = subst P (sym (take_is (is_success code) o e)) take
settling_is P m _ o take rest e = let here : op.Take 0 ≡ o = cc in subst P here take

-- the answer to a take or a route is one after which it goes on
pub take_legal : (z : Start) (h : List Entry) → GoesOn (legal z h (op.Take 0))
take_legal z h = take_goes_on (legal z h (op.Take 0)) (take_answers z h (legal z h (op.Take 0)) refl)

drained_legal : (z : Start) (h : List Entry) (first : Option ℕ) (o : Op) → draining first ≡ Some o → GoesOn (legal z h o)
drained_legal z h (Some s) o e = let here : op.Route s ≡ o = cc in subst (λ p. GoesOn (legal z h p)) here (route_goes_on z h s)
drained_legal z h None o e = cc

-- a line that drains, by its first operation
abbrev drains : Op → ℕ → Work
drains first n = with_then first (Drain 0 n)

drain_legal : (z : Start) (first : Op) (n : ℕ) (before part : List Entry) (o : Op) → GoesOn (legal z before first) → next_op (drains first n) z before part ≡ Some o → GoesOn (legal z (part ++ before) o)
drain_legal z first n before [] o on e = let here : first ≡ o = cc in subst (λ p. GoesOn (legal z before p)) here on
drain_legal z first n before (x ∷ part) o on e =
    let h = x ∷ (part ++ before) in
    settling_is (λ p. GoesOn (legal z h p)) (draining (first_from (outstanding z h) 0 n)) x.outcome o (take_legal z h) (λ none is. drained_legal z h (first_from (outstanding z h) 0 n) o is) e

none_first : (first : Option ℕ) → draining first ≡ None → first ≡ None
none_first None e = refl
none_first (Some s) e = cc

drain_leaves : (z : Start) (first : Op) (n : ℕ) (before part : List Entry) → BeginsRest first → GoesOn (legal z before first) → AreSteps (drains first n) z before part → next_op (drains first n) z before part ≡ None → IsLegal z (part ++ before) →
    (flight z (part ++ before) ≡ []) × (sum_below (outstanding z (part ++ before)) n ≡ 0)
drain_leaves z first n before [] begins on steps none l = cc
drain_leaves z first n before (x ∷ part) begins on steps none l =
    let h = x ∷ (part ++ before) in
    let goes : GoesOn x.outcome = subst GoesOn (sym l.1.outcome) (drain_legal z first n before part x.op on steps.1) in
    let e = settled (draining (first_from (outstanding z h) 0 n)) x.outcome goes none in
    let all : 0 + n ≡ n = omega arith in
    let passed = subst (HasPassed (outstanding z h) 0) all (none_is (outstanding z h) 0 n (none_first (first_from (outstanding z h) 0 n) e.1)) in
    (rested (record { first = first; then = Drain 0 n }) z before part x begins tt steps.0 steps.1 l e.0, sum_passed (outstanding z h) n passed)

drains_leave : (z : Start) (actor : ℕ) (first : Op) (before part : List Entry) → BeginsRest first → GoesOn (legal z before first) → HasEnded z actor (drains first z.board.limits.sources) before part →
    (flight z (part ++ before) ≡ []) × (sum_below (outstanding z (part ++ before)) z.board.limits.sources ≡ 0)
drains_leave z actor first before part begins on ended =
    let n = z.board.limits.sources in
    drain_leaves z first n before part begins on (are_steps z (record { actor = actor; work = drains first n }) before part ended.part_is.begins) ended.part_is.ends ended.legal

pub drains_leave_nothing : DrainsLeaveNothing
drains_leave_nothing z actor before part ended = drains_leave z actor (op.Take 0) before part refl (take_legal z before) ended

pub eq_syncs_leave_nothing : EqSyncsLeaveNothing
eq_syncs_leave_nothing z actor group number value before part a ended =
    drains_leave z actor (op.AttrSet group number (Number value)) before part tt a.succeeds (subst (λ w. HasEnded z actor w before part) (eq_sync_set z before group number value a) ended)

-- a line that brings a source to rest, by its first operation
abbrev rests : Op → ℕ → Work
rests first s = with_then first (Sync s)

-- what a line that brings a source to rest has asked for when it ends: nothing is in flight, and the source has no notice outstanding
pub record HasAsked (z : Start) (h : List Entry) (s : ℕ) (o : Op) : Type 0 where
  pub is : o ≡ op.Quiet s
  pub rest : IsAtRest z h s

-- its next operation is one after which it goes on, or it asks
pub data Step (z : Start) (h : List Entry) (s : ℕ) (o : Op) : Type 0 where
  On : (on : GoesOn (legal z h o)) → Step z h s o
  Asks : (asked : HasAsked z h s o) → Step z h s o

rest_step : (z : Start) (h : List Entry) (s : ℕ) (o : Op) (none : Bool) → (outstanding z h s == 0) ≡ none → flight z h ≡ [] → Some (if none then op.Quiet s else op.Route s) ≡ Some o → Step z h s o
rest_step z h s o true is empty e = let here : op.Quiet s ≡ o = cc in Asks (record { is = sym here; rest = record { no_message = empty; no_notice = zero_at (outstanding z h s) is } })
rest_step z h s o false is empty e = let here : op.Route s ≡ o = cc in On (subst (λ p. GoesOn (legal z h p)) here (route_goes_on z h s))

sync_step : (z : Start) (first : Op) (s : ℕ) (before part : List Entry) (o : Op) → BeginsRest first → GoesOn (legal z before first) → AreSteps (rests first s) z before part → IsLegal z (part ++ before) → next_op (rests first s) z before part ≡ Some o →
    Step z (part ++ before) s o
sync_step z first s before [] o begins on steps l e = let here : first ≡ o = cc in On (subst (λ p. GoesOn (legal z before p)) here on)
sync_step z first s before (x ∷ part) o begins on steps l e =
    let h = x ∷ (part ++ before) in
    settling_is (λ p. Step z h s p) (Some (resting s (outstanding z h s))) x.outcome o (On (take_legal z h)) (λ none is.
    rest_step z h s o (outstanding z h s == 0) refl (rested (record { first = first; then = Sync s }) z before part x begins tt steps.0 steps.1 l none) is) e

-- a source at rest is quiet
rest_quiet : (z : Start) (h : List Entry) (s : ℕ) → IsAtRest z h s → quiet_answer z h s ≡ out.Quiet
rest_quiet z h s r = rw (r.no_notice, r.no_message) refl

-- and at rest after that is asked
flight_stays : (z : Start) (h : List Entry) (s : ℕ) (u : Outcome) (ms : List Message) → ms ≡ [] → messages_after z h (op.Quiet s) u ms ≡ []
flight_stays z h s u ms e = rw e refl

asked_rest : (z : Start) (h : List Entry) (x : Entry) (s : ℕ) → x.op ≡ op.Quiet s → IsAtRest z h s → IsAtRest z (x ∷ h) s
asked_rest z h x s e r = record {
  no_message = subst (λ o. messages_after z h o x.outcome (flight z h) ≡ []) (sym e) (flight_stays z h s x.outcome (flight z h) r.no_message);
  no_notice = stays_zero z h x s (subst (λ o. is_word z.board s o ≡ false) (sym e) refl) r.no_notice;
}

sync_ends : (z : Start) (before part : List Entry) (x : Entry) (s : ℕ) → x.outcome ≡ legal z (part ++ before) x.op → settling (Some (resting s (outstanding z (x ∷ (part ++ before)) s))) x.outcome ≡ None → Step z (part ++ before) s x.op →
    IsAtRest z (x ∷ (part ++ before)) s × (Some x.outcome ≡ Some out.Quiet)
sync_ends z before part x s is none (On on) =
    let e = settled (Some (resting s (outstanding z (x ∷ (part ++ before)) s))) x.outcome (subst GoesOn (sym is) on) none in
    let some = e.1 in
    cc
sync_ends z before part x s is none (Asks asked) =
    let h = part ++ before in
    (asked_rest z h x s asked.is asked.rest, ap (λ u. Some u) (is ∙ ap (legal z h) asked.is ∙ rest_quiet z h s asked.rest))

sync_leaves : (z : Start) (first : Op) (s : ℕ) (before part : List Entry) → BeginsRest first → GoesOn (legal z before first) → AreSteps (rests first s) z before part → next_op (rests first s) z before part ≡ None → IsLegal z (part ++ before) →
    IsAtRest z (part ++ before) s × (last_outcome part ≡ Some out.Quiet)
sync_leaves z first s before [] begins on steps none l = cc
sync_leaves z first s before (x ∷ part) begins on steps none l = sync_ends z before part x s l.1.outcome none (sync_step z first s before part x.op begins on steps.0 l.0 steps.1)

rests_leave : (z : Start) (actor : ℕ) (first : Op) (s : ℕ) (before part : List Entry) → BeginsRest first → GoesOn (legal z before first) → HasEnded z actor (rests first s) before part → IsAtRest z (part ++ before) s × (last_outcome part ≡ Some out.Quiet)
rests_leave z actor first s before part begins on ended =
    sync_leaves z first s before part begins on (are_steps z (record { actor = actor; work = rests first s }) before part ended.part_is.begins) ended.part_is.ends ended.legal

pub syncs_end_quiet : SyncsEndQuiet
syncs_end_quiet z actor s before part ended = rests_leave z actor (op.Take 0) s before part refl (take_legal z before) ended

pub sync_calls_end_quiet : SyncCallsEndQuiet
sync_calls_end_quiet z actor number args c before part a ended =
    rests_leave z actor (op.Hcall number args) c.lisn before part tt a.succeeds (subst (λ w. HasEnded z actor w before part) (sync_called z before number args c a) ended)

pub source_syncs_end_quiet : SourceSyncsEndQuiet
source_syncs_end_quiet z actor group number value s before part a ended =
    rests_leave z actor (op.AttrSet group number (Number value)) s before part tt a.succeeds (subst (λ w. HasEnded z actor w before part) (source_sync_set z before group number value s a) ended)
