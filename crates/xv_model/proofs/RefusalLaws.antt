-- The laws of operations that are refused, find nothing, or only look.
use Rattle.std.proofs.Common.{ℕ, ◌≡◌, ◌+◌, ◌==◌, ◌&&◌, ◌||◌, Bool, true, false, not, if◌then◌else◌, List, [], ◌∷◌, length, slice_get, Option, Some, None, option_and_then, refl, ap, append-nil, arith, ◌-◌, ◌∙◌}
use Rattle.std.specs.Option.{option_map_or}
use Rattle.xv_model.specs.declared.operations.Op.{Op}
use Rattle.xv_model.specs.declared.operations.Op.TheVariants as op
use Rattle.xv_model.specs.declared.outcomes.Phase.{Phase}
use Rattle.xv_model.specs.declared.outcomes.Outcome.{Outcome}
use Rattle.xv_model.specs.declared.outcomes.Outcome.TheVariants as out
use Rattle.xv_model.specs.declared.messages.Message.{Message}
use Rattle.xv_model.specs.declared.tima.RingOp.{RingOp}
use Rattle.xv_model.specs.declared.tima.RingOp.TheVariants.{SetCppr, Accept, Inject, Push, Pull}
use Rattle.xv_model.specs.declared.entries.Entry.{Entry}
use Rattle.xv_model.specs.account.Start.{Start}
use Rattle.xv_model.specs.account.Kinds.{WordAccess, access_of, run_of}
use Rattle.xv_model.specs.source.Pairs.{change_in, touch_by, touch_of}
use Rattle.xv_model.specs.source.Notices.{route_in, forwards, routes}
use Rattle.xv_model.specs.call.Accepted.{is_success, call_in}
use Rattle.xv_model.specs.call.Arguments.{call_of}
use Rattle.xv_model.specs.device.Attributes.{setting_by}
use Rattle.xv_model.specs.device.Accepted.{setting_in}
use Rattle.xv_model.specs.end.Descriptors.{configuration_by, configuration_set, configuration_in, config_at, config_by, until_config}
use Rattle.xv_model.specs.end.EventStates.{load_in, load_at, load_by}
use Rattle.xv_model.specs.end.Written.{written}
use Rattle.xv_model.specs.end.Memory.{zeroed_in, word_by}
use Rattle.xv_model.specs.end.Reading.{item_in, taken}
use Rattle.xv_model.specs.route.Flight.{source_of, taken_in, is_escalating, made_by, messages_after, flight}
use Rattle.xv_model.specs.processor.RingOps.{RingAccess, ring_op, ring_access_by, ring_access}
use Rattle.xv_model.specs.processor.Phases.{connected_in, moved_by, pushed_in, move_in, is_on, phase, cam_of, user_below}
use Rattle.xv_model.specs.processor.Pending.{presentation_in, accepted_in, injected_in, ring_says, access_says, ipb_set, pending, kept}
use Rattle.xv_model.specs.processor.Registers.{stored_cppr, cppr_in, cppr_at, cppr_set, cppr, ring_of, used_ring}
use Rattle.xv_model.specs.declared.tima.TheConstants.{CAM_FIRST}
use Rattle.xv_model.specs.declared.outcomes.Phase.TheVariants.{Saved, Restored, On, Pulled}
use Rattle.xv_model.specs.laws.Refusals.{is_refusal, is_look, IsAsBefore, EachRefusalLeavesAll, EachLookLeavesAll}

-- An outcome leaves all: it tells of nothing that changes anything.
abbrev LeavesAll : Outcome → Type 0
LeavesAll u = (is_refusal u || is_look u) ≡ true

no_change : (u : Outcome) → LeavesAll u → change_in u ≡ None
no_change (out.Pq old new forward) w = cc
no_change _ w = refl

no_touch : (m : Option WordAccess) → touch_by m None ≡ None
no_touch (Some a) = refl
no_touch None = refl

no_route : (o : Op) (u : Outcome) → LeavesAll u → route_in o u ≡ None
no_route (op.Route s) (out.Routed k routed) w = cc
no_route (op.Route s) _ w = refl
no_route _ u w = refl

no_call : (o : Op) (u : Outcome) → LeavesAll u → call_in o u ≡ None
no_call (op.Hcall number args) (out.Reply reply) w = by (is_success reply.code) w
  where
    by : (accepted : Bool) → (not accepted || false) ≡ true → (if accepted then call_of number args else None) ≡ None
    by true w = cc
    by false w = refl
no_call (op.Hcall number args) _ w = refl
no_call _ u w = refl

no_setting : (o : Op) (u : Outcome) → LeavesAll u → setting_in o u ≡ None
no_setting (op.AttrSet group number value) (out.Code code) w = by (is_success code) w
  where
    by : (accepted : Bool) → (not accepted || false) ≡ true → (if accepted then setting_by group number value else None) ≡ None
    by true w = cc
    by false w = refl
no_setting (op.AttrSet group number value) _ w = refl
no_setting _ u w = refl

no_configuration : (o : Op) (u : Outcome) → LeavesAll u → configuration_in o u ≡ None
no_configuration (op.EndSet e c) out.Fine w = cc
no_configuration (op.EndSet e c) _ w = refl
no_configuration (op.AttrSet group number value) u w = ap (option_and_then configuration_set) (no_setting (op.AttrSet group number value) u w)
no_configuration (op.Hcall number args) u w = ap (option_and_then configuration_by) (no_call (op.Hcall number args) u w)
no_configuration _ u w = refl

no_config_by : (e : ℕ) (x : Entry) → LeavesAll x.outcome → config_by e x ≡ None
no_config_by e x w = ap (config_at e) (no_configuration x.op x.outcome w)

no_run : (o : Op) (u : Outcome) → LeavesAll u → run_of o u ≡ None
no_run (op.Route s) (out.Routed k routed) w = cc
no_run (op.Route s) _ w = refl
no_run (op.Take i) (out.Escalated e run) w = cc
no_run (op.Take i) _ w = refl
no_run _ u w = refl

no_taken : (o : Op) (u : Outcome) → LeavesAll u → taken_in o u ≡ None
no_taken (op.Take i) (out.Present v p presented escalates) w = cc
no_taken (op.Take i) (out.Escalated e run) w = cc
no_taken (op.Take i) _ w = refl
no_taken _ u w = refl

not_escalating : (u : Outcome) → LeavesAll u → is_escalating u ≡ false
not_escalating (out.Present v p presented escalates) w = cc
not_escalating _ w = refl

none_of : (z : Start) (h : List Entry) (m : Option Message) → option_map_or (λ m. made_by z h (source_of m) None) m [] ≡ []
none_of z h (Some m) = refl
none_of z h None = refl

no_messages : (z : Start) (h : List Entry) (o : Op) (u : Outcome) (ms : List Message) → LeavesAll u → messages_after z h o u ms ≡ ms
no_messages z h (op.Route s) u ms w = rw (no_run (op.Route s) u w) (append-nil ms)
no_messages z h (op.Take i) u ms w = rw (no_taken (op.Take i) u w, not_escalating u w, no_run (op.Take i) u w, none_of z h (slice_get ms i)) (append-nil ms)
no_messages z h _ u ms w = append-nil ms

no_load : (o : Op) (u : Outcome) → LeavesAll u → load_in o u ≡ None
no_load (op.EndEsb e page offset store) (out.EndPq old new) w = cc
no_load (op.EndEsb e page offset store) _ w = refl
no_load _ u w = refl

no_load_by : (page e : ℕ) (x : Entry) → LeavesAll x.outcome → load_by page e x ≡ None
no_load_by page e x w = ap (load_at page e) (no_load x.op x.outcome w)

no_zeroed : (o : Op) (u : Outcome) → LeavesAll u → zeroed_in o u ≡ None
no_zeroed (op.Zero addr len) out.Fine w = cc
no_zeroed (op.Zero addr len) _ w = refl
no_zeroed _ u w = refl

no_word_by : (a : ℕ) (x : Entry) → LeavesAll x.outcome → word_by a x ≡ None
no_word_by a x w = rw (no_run x.op x.outcome w, no_zeroed x.op x.outcome w) refl

no_item : (o : Op) (u : Outcome) (e : ℕ) → LeavesAll u → item_in o u e ≡ []
no_item (op.Read r) (out.Item payload) e w = cc
no_item (op.Read r) _ e w = refl
no_item _ u e w = refl

no_connection : (o : Op) (u : Outcome) → LeavesAll u → connected_in o u ≡ None
no_connection (op.Connect v) (out.Code code) w = by (is_success code) w
  where
    by : (accepted : Bool) → (not accepted || false) ≡ true → (if accepted then Some v else None) ≡ None
    by true w = cc
    by false w = refl
no_connection (op.Connect v) _ w = refl
no_connection _ u w = refl

no_moved : (t : ℕ) (o : RingOp) (u : Outcome) → LeavesAll u → moved_by t o u ≡ None
no_moved t (Push cam) out.Fine w = cc
no_moved t (Push cam) _ w = refl
no_moved t Pull (out.Value cam) w = cc
no_moved t Pull _ w = refl
no_moved t _ u w = refl

no_pushed : (a : Option RingAccess) (u : Outcome) → LeavesAll u → pushed_in a u ≡ None
no_pushed (Some a) u w = no_moved a.thread a.op u w
no_pushed None u w = refl

no_move : (o : Op) (u : Outcome) → LeavesAll u → move_in o u ≡ None
no_move (op.Restore v t) out.Fine w = cc
no_move (op.Restore v t) _ w = refl
no_move (op.Save v) out.Fine w = cc
no_move (op.Save v) _ w = refl
no_move (op.Tima t page offset size access) u w = no_pushed (ring_access_by t (ring_op page offset size access)) u w
no_move _ u w = refl

no_presentation : (o : Op) (u : Outcome) → LeavesAll u → presentation_in o u ≡ None
no_presentation (op.Take i) (out.Present v p presented escalates) w = cc
no_presentation (op.Take i) _ w = refl
no_presentation _ u w = refl

no_injected : (o : RingOp) (u : Outcome) → LeavesAll u → injected_in o u ≡ None
no_injected (Inject p) out.Stored w = cc
no_injected (Inject p) _ w = refl
no_injected _ u w = refl

no_accepted : (o : RingOp) (u : Outcome) → LeavesAll u → accepted_in o u ≡ None
no_accepted Accept (out.Value answer) w = cc
no_accepted Accept _ w = refl
no_accepted _ u w = refl

no_cppr_in : (o : RingOp) (u : Outcome) → LeavesAll u → cppr_in o u ≡ None
no_cppr_in (SetCppr value) out.Stored w = cc
no_cppr_in (SetCppr value) _ w = refl
no_cppr_in Accept u w = no_accepted Accept u w
no_cppr_in _ u w = refl

unless_none : {T : Type 0} (b : Bool) (m : Option T) → m ≡ None → (if b then m else None) ≡ None
unless_none true m none = none
unless_none false m none = refl

says_none : (now : Phase) (p : ℕ) (a : Option RingAccess) (u : Outcome) → LeavesAll u → access_says now p a u ≡ None
says_none now p (Some a) u w = unless_none (is_on a.thread now) (ring_says p a.op u) (rw (no_injected a.op u w, no_accepted a.op u w) refl)
says_none now p None u w = refl

no_cppr_at : (now : Phase) (a : Option RingAccess) (u : Outcome) → LeavesAll u → cppr_at now a u ≡ None
no_cppr_at now (Some a) u w = unless_none (is_on a.thread now) (cppr_in a.op u) (no_cppr_in a.op u w)
no_cppr_at now None u w = refl

no_ipb : (v : ℕ) (o : Op) (u : Outcome) → LeavesAll u → ipb_set v o u ≡ None
no_ipb v (op.VpSet n cppr ipb) (out.Code code) w = by (n == v) (is_success code) w
  where
    by : (same accepted : Bool) → (not accepted || false) ≡ true → (if same && accepted then Some ipb else None) ≡ None
    by true true w = cc
    by true false w = refl
    by false accepted w = refl
no_ipb v (op.VpSet n cppr ipb) _ w = refl
no_ipb v _ u w = refl

no_cppr : (v : ℕ) (o : Op) (u : Outcome) → LeavesAll u → cppr_set v o u ≡ None
no_cppr v (op.VpSet n cppr ipb) (out.Code code) w = by (n == v) (is_success code) w
  where
    by : (same accepted : Bool) → (not accepted || false) ≡ true → (if same && accepted then Some (stored_cppr cppr) else None) ≡ None
    by true true w = cc
    by true false w = refl
    by false accepted w = refl
no_cppr v (op.VpSet n cppr ipb) _ w = refl
no_cppr v _ u w = refl

-- the ring of a processor's thread is as before, where what it shows is
used_as_before : (z : Start) (g h : List Entry) (v : ℕ) (now : Phase) → cppr z g v ≡ cppr z h v → ((p : ℕ) → pending z g v p ≡ pending z h v p) → ((p : ℕ) → kept z g v p ≡ kept z h v p) →
    used_ring z g v now ≡ used_ring z h v now
used_as_before z g h v Saved c p k = refl
used_as_before z g h v (Restored t) c p k = λ i. ring_of false (c i) (λ q. k q i) 0
used_as_before z g h v (On t) c p k = λ i. ring_of true (c i) (λ q. p q i) (cam_of v)
used_as_before z g h v (Pulled t) c p k = λ i. ring_of false (c i) (λ q. k q i) (CAM_FIRST + v)

-- So after it all is as before.
leaves_all : (z : Start) (h : List Entry) (x : Entry) → LeavesAll x.outcome → IsAsBefore z h x
leaves_all z h x w = record {
  pairs = λ s. rw untouched refl;
  lines = λ s. rw untouched refl;
  old_pairs = λ s. rw untouched refl;
  forwards = forwarded;
  routes = routed;
  notices = λ s. λ i. forwarded s i - routed s i;
  eases = λ s. rw (no_setting x.op x.outcome w, no_call x.op x.outcome w) refl;
  configs = λ e. rw (no_config_by e x w) refl;
  notifications = λ e. rw (no_config_by e x w, no_load_by 0 e x w, no_run x.op x.outcome w) refl;
  escalations = λ e. rw (no_config_by e x w, no_load_by 1 e x w, no_taken x.op x.outcome w) refl;
  written = wrote;
  written_counts = λ e. λ i. length (wrote e i) + as_many (z.written_count e) e i;
  taken = took;
  taken_counts = λ e. λ i. length (took e i) + as_many (z.taken_count e) e i;
  words = λ a. rw (no_word_by a x w) refl;
  flight = no_messages z h x.op x.outcome (flight z h) w;
  servers = rw (no_setting x.op x.outcome w) refl;
  connected = λ v. rw (no_connection x.op x.outcome w) refl;
  phases = at_phase;
  pending = is_pending;
  kept = is_kept;
  late = λ v p. rw (no_presentation x.op x.outcome w, no_move x.op x.outcome w, no_ipb v x.op x.outcome w) refl;
  cpprs = has_cppr;
  rings = λ t. λ i. option_map_or (λ v. ring_now v i) (user_below (λ v. at_phase v i) t z.board.limits.processors) (ring_of false 0 (λ p. false) 0);
}
  where
    untouched : touch_of z.board x ≡ None
    untouched = rw (no_change x.outcome w) (no_touch (access_of z.board x.op))

    wrote : (e : ℕ) → written z (x ∷ h) e ≡ written z h e
    wrote e = rw (no_config_by e x w, no_run x.op x.outcome w) (append-nil (written z h e))

    took : (e : ℕ) → taken (x ∷ h) e ≡ taken h e
    took e = rw (no_config_by e x w, no_item x.op x.outcome e w) (append-nil (taken h e))

    forwarded : (s : ℕ) → forwards z (x ∷ h) s ≡ forwards z h s
    forwarded s = rw untouched (omega arith)

    routed : (s : ℕ) → routes z (x ∷ h) s ≡ routes z h s
    routed s = rw (no_route x.op x.outcome w) (omega arith)

    at_phase : (v : ℕ) → phase z (x ∷ h) v ≡ phase z h v
    at_phase v = rw (no_move x.op x.outcome w) refl

    is_pending : (v p : ℕ) → pending z (x ∷ h) v p ≡ pending z h v p
    is_pending v p = rw (no_presentation x.op x.outcome w, no_ipb v x.op x.outcome w, says_none (phase z h v) p (ring_access x.op) x.outcome w) refl

    is_kept : (v p : ℕ) → kept z (x ∷ h) v p ≡ kept z h v p
    is_kept v p = rw (no_move x.op x.outcome w, no_ipb v x.op x.outcome w) refl

    has_cppr : (v : ℕ) → cppr z (x ∷ h) v ≡ cppr z h v
    has_cppr v = rw (no_cppr v x.op x.outcome w, no_cppr_at (phase z h v) (ring_access x.op) x.outcome w) refl

    ring_now : (v : ℕ) → used_ring z (x ∷ h) v (phase z (x ∷ h) v) ≡ used_ring z h v (phase z h v)
    ring_now v = ap (used_ring z (x ∷ h) v) (at_phase v) ∙ used_as_before z (x ∷ h) h v (phase z h v) (has_cppr v) (is_pending v) (is_kept v)

    as_many : (n e : ℕ) → until_config n (x ∷ h) e ≡ until_config n h e
    as_many n e = rw (no_config_by e x w) refl

or_true : (b : Bool) → (b || true) ≡ true
or_true true = refl
or_true false = refl

pub refusal_leaves_all : EachRefusalLeavesAll
refusal_leaves_all z h x w = leaves_all z h x (rw w refl)

pub look_leaves_all : EachLookLeavesAll
look_leaves_all z h x w = leaves_all z h x (rw w (or_true (is_refusal x.outcome)))
