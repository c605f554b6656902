-- The configurations and the messages of a legal account: payloads are in range, and what escalates has an escalation END, which doesn't.
use Rattle.std.proofs.Common.{ℕ, ◌≡◌, ◌==◌, ◌&&◌, ◌||◌, ◌^◌, nat_lt, not, Bool, true, false, if◌then◌else◌, List, [], ◌∷◌, ◌+◌, length, suc, zero, slice_get, option_and_then, Option, Some, None, refl, sym, ◌∙◌, ap, subst, arith, lit<}
use Rattle.std.proofs.lemmas.Bool.{and_parts, ltb-true, eqb-true}
use Rattle.std.proofs.lemmas.List.Elements.{All-nil, All-push, All-append, All-take, All-drop, All-head, All-tail}
use Rattle.std.specs.Prelude.{All}
use Rattle.std.specs.Option.{option_map_or}
use Rattle.xv_base.specs.Limits.{most_messages, ends_per_processor}
use Rattle.xv_model.specs.declared.board.Board.{Board}
use Rattle.xv_model.specs.declared.operations.EndConfig.{EndConfig}
use Rattle.xv_model.specs.declared.operations.Op.{Op}
use Rattle.xv_model.specs.declared.operations.Op.TheVariants as op
use Rattle.xv_model.specs.declared.outcomes.Wrote.{Wrote}
use Rattle.xv_model.specs.declared.outcomes.Then.{Then}
use Rattle.xv_model.specs.declared.outcomes.Then.TheVariants.{Coalesced, Silent, Present, Escalate}
use Rattle.xv_model.specs.declared.outcomes.EndRun.{EndRun}
use Rattle.xv_model.specs.declared.outcomes.EndRun.TheVariants as run
use Rattle.xv_model.specs.declared.outcomes.Outcome.{Outcome}
use Rattle.xv_model.specs.declared.outcomes.Outcome.TheVariants as out
use Rattle.xv_model.specs.declared.messages.Message.{Message}
use Rattle.xv_model.specs.declared.messages.Message.TheVariants as message
use Rattle.xv_model.specs.declared.entries.Entry.{Entry}
use Rattle.xv_model.specs.source.PqTable.{trigger_row}
use Rattle.xv_model.specs.account.Start.{Start, start, no_config}
use Rattle.xv_model.specs.account.Kinds.{run_of}
use Rattle.xv_model.specs.account.Fit.{IsFitConfig, IsFit, IsFitStart}
use Rattle.xv_model.specs.account.Legal.{IsLegal, legal}
use Rattle.xv_model.specs.board.Validity.{valid, end_count, has_queue, has_nothing, notifies_one, is_escalation_end, has_escalation, has_no_escalation, valid_config, may_be_configured, may_be_set}
use Rattle.xv_model.specs.end.Flags.{has_bit, keeps_backlog, may_escalate, escalates, is_valid, is_silent, always_notifies}
use Rattle.xv_model.specs.declared.hypercalls.flags.TheConstants.{END_ALWAYS_NOTIFY}
use Rattle.xv_model.specs.declared.hypercalls.arguments.SetQueueConfigArgs.{SetQueueConfigArgs}
use Rattle.xv_model.specs.declared.hypercalls.Call.{Call}
use Rattle.xv_model.specs.declared.hypercalls.Call.TheVariants as call
use Rattle.xv_model.specs.call.Arguments.{end_of}
use Rattle.xv_model.specs.call.Accepted.{call_in}
use Rattle.xv_model.specs.declared.kvm.arguments.EqArgs.{EqArgs}
use Rattle.xv_model.specs.declared.kvm.Setting.{Setting}
use Rattle.xv_model.specs.declared.kvm.Setting.TheVariants as setting
use Rattle.xv_model.specs.device.Accepted.{setting_in}
use Rattle.xv_model.specs.end.Descriptors.{resets, queue_told, config_told, configuration_by, resets_end, queue_set, config_set, configuration_set, configuration_in, config_at, config_by, end_config}
use Rattle.xv_model.specs.route.Flight.{messages_by, made_by, source_of, taken_in, is_escalating, escalation_of, made, without, messages_after, flight}
use Rattle.xv_model.specs.route.Routing.{next_by, write_by, end_pass, route_outcome}
use Rattle.xv_model.specs.route.Taking.{is_undelivered, presented_to, escalates_on, taken_by}
use Rattle.xv_model.specs.source.Notices.{outstanding, routes}
use Rattle.xv_model.specs.source.Eas.{eas}
use Rattle.xv_model.specs.end.EventStates.{esn, ese}
use Rattle.xv_model.specs.end.Written.{written_count}
use Rattle.xv_model.specs.declared.outcomes.Routed.TheVariants.{NoSource, Masked, Run}

-- a configuration with v, by whether it escalates
with_v : (b : Board) (e : ℕ) (c : EndConfig) (on : Bool) → escalates c ≡ on → (if on then nat_lt c.esc (end_count b) && (is_escalation_end c.esc && nat_lt c.esc_eisn (2 ^ 31)) else has_no_escalation c) ≡ true →
    not (on && is_escalation_end e) ≡ true → IsFitConfig e c
with_v b e c true is w lone =
    let rest = and_parts (is_escalation_end c.esc) (nat_lt c.esc_eisn (2 ^ 31)) (and_parts (nat_lt c.esc (end_count b)) (is_escalation_end c.esc && nat_lt c.esc_eisn (2 ^ 31)) w).1 in
    record {
      payload = ltb-true c.esc_eisn (2 ^ 31) rest.1;
      escalation = λ on. rest.0;
      last = λ l. let no : not true ≡ true = ap not (sym l) ∙ lone in absurd cc;
    }
with_v b e c false is w lone =
    let none = and_parts (c.esc == 0) (c.esc_eisn == 0) w in
    record {
      payload = let zero_is : c.esc_eisn ≡ 0 = eqb-true c.esc_eisn 0 none.1 in omega arith;
      escalation = λ on. let no : false ≡ true = sym is ∙ on in absurd cc;
      last = λ l. is;
    }

-- a configuration, by whether it has v
by_v : (b : Board) (e : ℕ) (c : EndConfig) (v : Bool) → (if v then notifies_one b c else has_nothing c) ≡ true → not (escalates c && is_escalation_end e) ≡ true → IsFitConfig e c
by_v b e c true w lone =
    let r = and_parts (nat_lt c.flags.0 128) _ w in
    let r = and_parts (nat_lt c.vp b.limits.processors) _ r.1 in
    let r = and_parts (nat_lt c.priority ends_per_processor) (has_escalation b c) r.1 in
    with_v b e c (escalates c) refl r.1 lone
by_v b e c false w lone =
    let r = and_parts (c.flags.0 == 0) _ w in
    let none : c.flags.0 ≡ 0 = eqb-true c.flags.0 0 r.0 in
    let off : escalates c ≡ false = ap (λ n. has_bit n 16) none in
    let r = and_parts (c.vp == 0) _ r.1 in
    let r = and_parts (c.priority == 0) (has_no_escalation c) r.1 in
    with_v b e c false off r.1 refl

-- a configuration that the board's END e may have
fit_config : (b : Board) (e : ℕ) (c : EndConfig) → valid b (op.EndSet e c) ≡ true → IsFitConfig e c
fit_config b e c v =
    let r = and_parts (nat_lt e (end_count b)) (may_be_set b e c) v in
    let q = and_parts (c.start == 0) (may_be_configured b e c) r.1 in
    let u = and_parts (valid_config b c) (not (escalates c && is_escalation_end e)) q.1 in
    let w = and_parts (has_queue b c) _ u.0 in
    by_v b e c (is_valid c) w.1 u.1

-- a configuration that doesn't escalate
unescalating : (e : ℕ) (c : EndConfig) → escalates c ≡ false → c.esc_eisn ≡ 0 → IsFitConfig e c
unescalating e c off none = record {
  payload = omega (arith, none);
  escalation = λ on. let no : false ≡ true = sym off ∙ on in absurd cc;
  last = λ l. off;
}

-- a hypercall tells an END nothing that escalates
told_quietly : (c : SetQueueConfigArgs) → escalates (queue_told c) ≡ false
told_quietly c = by (has_bit c.flags END_ALWAYS_NOTIFY)
  where
    by : (always : Bool) → has_bit (1 + 2 + 8 + (if always then 4 else 0)) 16 ≡ false
    by true = refl
    by false = refl

fit_told : (e : ℕ) (c : SetQueueConfigArgs) → IsFitConfig e (config_told c)
fit_told e c = by (resets c)
  where
    by : (reset : Bool) → IsFitConfig e (if reset then no_config else queue_told c)
    by true = unescalating e no_config refl refl
    by false = unescalating e (queue_told c) (told_quietly c) refl

-- what is told to an END is told to e, where it is the same
fit_same : (same : Bool) (end e : ℕ) (d c : EndConfig) → (end == e) ≡ same → IsFitConfig end d → (if same then Some d else None) ≡ Some c → IsFitConfig e c
fit_same true end e d c here fit is =
    let at : end ≡ e = eqb-true end e here in
    let what : d ≡ c = cc in
    subst (λ n. IsFitConfig n c) at (subst (IsFitConfig end) what fit)
fit_same false end e d c here fit is = cc

-- an accepted call's configuration of e is one that doesn't escalate
fit_called : (m : Option Call) (e : ℕ) (c : EndConfig) → config_at e (option_and_then configuration_by m) ≡ Some c → IsFitConfig e c
fit_called (Some (call.SetQueueConfig args)) e c is = fit_same (end_of args.target args.priority == e) (end_of args.target args.priority) e (config_told args) c refl (fit_told (end_of args.target args.priority) args) is
fit_called (Some (call.Reset args)) e c is = let what : no_config ≡ c = cc in subst (IsFitConfig e) what (unescalating e no_config refl refl)
fit_called (Some _) e c is = cc
fit_called None e c is = cc

-- nor does the KVM device set an END to what escalates
fit_set : (e : ℕ) (c : EqArgs) → IsFitConfig e (config_set c)
fit_set e c = by (resets_end c.eq)
  where
    by : (reset : Bool) → IsFitConfig e (if reset then no_config else queue_set c)
    by true = unescalating e no_config refl refl
    by false = unescalating e (queue_set c) refl refl

-- an accepted setting's configuration of e is one that doesn't escalate
fit_setting : (m : Option Setting) (e : ℕ) (c : EndConfig) → config_at e (option_and_then configuration_set m) ≡ Some c → IsFitConfig e c
fit_setting (Some (setting.EqConfig args)) e c is = fit_same (end_of args.id.server args.id.priority == e) (end_of args.id.server args.id.priority) e (config_set args) c refl (fit_set (end_of args.id.server args.id.priority) args) is
fit_setting (Some setting.Reset) e c is = let what : no_config ≡ c = cc in subst (IsFitConfig e) what (unescalating e no_config refl refl)
fit_setting (Some _) e c is = cc
fit_setting None e c is = cc

-- an entry's configuration of e is one that the board has
fit_configured : (b : Board) (o : Op) (u : Outcome) (e : ℕ) (c : EndConfig) → valid b o ≡ true → config_at e (configuration_in o u) ≡ Some c → IsFitConfig e c
fit_configured b (op.EndSet end d) out.Fine e c v is = fit_same (end == e) end e d c refl (fit_config b end d v) is
fit_configured b (op.EndSet end d) _ e c v is = cc
fit_configured b (op.Hcall number args) u e c v is = fit_called (call_in (op.Hcall number args) u) e c is
fit_configured b (op.AttrSet group number value) u e c v is = fit_setting (setting_in (op.AttrSet group number value) u) e c is
fit_configured b _ u e c v is = cc

-- the configuration after an entry, where it configures e, or not
fit_more : (e : ℕ) (m : Option EndConfig) (before : EndConfig) → ((c : EndConfig) → m ≡ Some c → IsFitConfig e c) → IsFitConfig e before → IsFitConfig e (option_map_or (λ c. c) m before)
fit_more e (Some c) before now so_far = now c refl
fit_more e None before now so_far = so_far

-- the configurations of a legal account are so
pub configs_fit : (z : Start) (h : List Entry) → IsLegal z h → IsFitStart z → (e : ℕ) → IsFitConfig e (end_config z h e)
configs_fit z [] l w e = w.configs e
configs_fit z (x ∷ h) l w e = fit_more e (config_by e x) (end_config z h e) (λ c is. fit_configured z.board x.op x.outcome e c l.1.valid_op is) (configs_fit z h l.0 w e)

-- the message of a pass that goes on so
fit_messages : (next : Then) (e : ℕ) (c : EndConfig) (s : ℕ) → IsFitConfig e c → (next ≡ Escalate → escalates c ≡ true) → All IsFit (messages_by next e c s)
fit_messages Present e c s w on = All-push IsFit [] _ (All-nil IsFit) (record { payload = w.payload; escalation = w.escalation })
fit_messages Escalate e c s w on = All-push IsFit [] _ (All-nil IsFit) (record { payload = w.payload; escalation = λ t. w.escalation (on refl) })
fit_messages Coalesced e c s w on = All-nil IsFit
fit_messages Silent e c s w on = All-nil IsFit

-- a pass escalates where its END does
escalating : (c : EndConfig) (state : ℕ) → next_by c state ≡ Escalate → escalates c ≡ true
escalating c state is = by (is_silent c) (escalates c) (always_notifies c || (trigger_row state).forwards) is
  where
    by : (silent on notifies : Bool) → (if silent then (if on then Escalate else Silent) else (if notifies then Present else Coalesced)) ≡ Escalate → on ≡ true
    by true true notifies is = refl
    by true false notifies is = cc
    by false on true is = cc
    by false on false is = cc

-- a pass of an END is one that its configuration gives
pub record IsPassOf (z : Start) (h : List Entry) (r : Option EndRun) : Type 0 where
  pub goes : (e : ℕ) (wrote : Option Wrote) (next : Then) → r ≡ Some (run.Ran e wrote next) → (state : ℕ) × (next ≡ next_by (end_config z h e) state)

fit_made_by : (z : Start) (h : List Entry) (s : ℕ) (r : Option EndRun) → ((e : ℕ) → IsFitConfig e (end_config z h e)) → IsPassOf z h r → All IsFit (made_by z h s r)
fit_made_by z h s (Some (run.Ran e wrote next)) w p =
    let g = p.goes e wrote next refl in
    fit_messages next e (end_config z h e) s (w e) (λ is. escalating (end_config z h e) g.0 (sym g.1 ∙ is))
fit_made_by z h s (Some (run.NoEnd e)) w p = All-nil IsFit
fit_made_by z h s None w p = All-nil IsFit

-- the pass of an END goes on as its configuration says
pub pass_of_end : (z : Start) (h : List Entry) (e payload : ℕ) → IsPassOf z h (Some (end_pass z h e payload))
pass_of_end z h e payload = record { goes = λ end wrote next is. by (is_valid (end_config z h e)) end wrote next is }
  where
    c : EndConfig
    c = end_config z h e

    by : (v : Bool) (end : ℕ) (wrote : Option Wrote) (next : Then) → Some (if v then run.Ran e (write_by c (written_count z h e) payload) (next_by c (esn z h e)) else run.NoEnd e) ≡ Some (run.Ran end wrote next) →
        (state : ℕ) × (next ≡ next_by (end_config z h end) state)
    by true end wrote next is =
        let here : e ≡ end = cc in
        let goes : next ≡ next_by c (esn z h e) = cc in
        (esn z h e, goes ∙ ap (λ n. next_by (end_config z h n) (esn z h e)) here)
    by false end wrote next is = cc

pub no_pass : (z : Start) (h : List Entry) → IsPassOf z h None
no_pass z h = record { goes = λ e wrote next is. cc }

-- so does that of a route
pub route_pass : (z : Start) (h : List Entry) (s : ℕ) → IsPassOf z h (run_of (op.Route s) (route_outcome z h s))
route_pass z h s = by (outstanding z h s == 0) (length (flight z h) == most_messages) (eas z h s).valid (eas z h s).masked
  where
    by : (none full v masked : Bool) → IsPassOf z h (run_of (op.Route s) (if none then out.NoNotice else (if full then out.BusFull else out.Routed (routes z h s + 1)
        (if not v then NoSource else (if masked then Masked else Run (end_pass z h (eas z h s).end (eas z h s).eisn))))))
    by true full v masked = no_pass z h
    by false true v masked = no_pass z h
    by false false false masked = no_pass z h
    by false false true true = no_pass z h
    by false false true false = pass_of_end z h (eas z h s).end (eas z h s).eisn

-- and that of an escalation
escalation_pass : (z : Start) (h : List Entry) (i esc esc_eisn : ℕ) (e : ℕ) (on : Bool) → IsPassOf z h (run_of (op.Take i) (out.Escalated e (if on then Some (end_pass z h esc esc_eisn) else None)))
escalation_pass z h i esc esc_eisn e true = pass_of_end z h esc esc_eisn
escalation_pass z h i esc esc_eisn e false = no_pass z h

-- and that of a take, by the message that it found
pub take_passes : (z : Start) (h : List Entry) (i : ℕ) (found : Option Message) → IsPassOf z h (run_of (op.Take i) (option_map_or (taken_by z h) found out.NoMessage))
take_passes z h i (Some (message.Present e flags vp priority esc esc_eisn origin)) = no_pass z h
take_passes z h i (Some (message.Escalate e flags esc esc_eisn origin)) = escalation_pass z h i esc esc_eisn e (escalates_on flags (ese z h e))
take_passes z h i None = no_pass z h

-- the messages that a take makes
fit_taken : (z : Start) (h : List Entry) (i : ℕ) (m : Message) → ((e : ℕ) → IsFitConfig e (end_config z h e)) → IsFit m →
    All IsFit (if is_escalating (taken_by z h m) then escalation_of m else made_by z h (source_of m) (run_of (op.Take i) (taken_by z h m)))
fit_taken z h i (message.Present e flags vp priority esc esc_eisn origin) w fit = by (is_undelivered (presented_to z h (keeps_backlog flags) vp)) (may_escalate flags) refl
  where
    by : (undelivered on : Bool) → may_escalate flags ≡ on → All IsFit (if undelivered && on then message.Escalate e flags esc esc_eisn origin ∷ [] else [])
    by true true is = All-push IsFit [] _ (All-nil IsFit) (record { payload = fit.payload; escalation = λ t. fit.escalation is })
    by true false is = All-nil IsFit
    by false true is = All-nil IsFit
    by false false is = All-nil IsFit
fit_taken z h i (message.Escalate e flags esc esc_eisn origin) w fit =
    fit_made_by z h origin _ w (escalation_pass z h i esc esc_eisn e (escalates_on flags (ese z h e)))

-- the messages but one are so
fit_without : (i : Option ℕ) (ms : List Message) → All IsFit ms → All IsFit (without i ms)
fit_without (Some i) ms all = All-append IsFit _ _ (All-take IsFit i ms all) (All-drop IsFit (suc i) ms all)
fit_without None ms all = all

-- one of them is
pub fit_at : (ms : List Message) (i : ℕ) (m : Message) → All IsFit ms → slice_get ms i ≡ Some m → IsFit m
fit_at [] i m all is = cc
fit_at (n ∷ ms) zero m all is = let same : n ≡ m = cc in subst IsFit same (All-head IsFit n ms all)
fit_at (n ∷ ms) (suc i) m all is = fit_at ms i m (All-tail IsFit n ms all) is

-- what a take of message i makes, by whether there is one
fit_take : (z : Start) (h : List Entry) (i : ℕ) (ms : List Message) (found : Option Message) → ((e : ℕ) → IsFitConfig e (end_config z h e)) → ((m : Message) → found ≡ Some m → IsFit m) →
    let u = option_map_or (taken_by z h) found out.NoMessage in
    All IsFit (option_map_or (λ m. if is_escalating u then escalation_of m else made_by z h (source_of m) (run_of (op.Take i) u)) found [])
fit_take z h i ms (Some m) w fit = fit_taken z h i m w (fit m refl)
fit_take z h i ms None w fit = All-nil IsFit

-- what an operation makes
fit_made : (z : Start) (h : List Entry) (o : Op) → ((e : ℕ) → IsFitConfig e (end_config z h e)) → All IsFit (flight z h) → All IsFit (made z h o (legal z h o) (flight z h))
fit_made z h (op.Route s) w all = fit_made_by z h s _ w (route_pass z h s)
fit_made z h (op.Take i) w all = fit_take z h i (flight z h) (slice_get (flight z h) i) w (λ m is. fit_at (flight z h) i m all is)
fit_made z h _ w all = All-nil IsFit

-- the messages in flight of a legal account are so
pub messages_fit : (z : Start) (h : List Entry) → IsLegal z h → IsFitStart z → All IsFit (flight z h)
messages_fit z [] l w = w.messages
messages_fit z (x ∷ h) l w =
    let before = messages_fit z h l.0 w in
    subst (λ u. All IsFit (messages_after z h x.op u (flight z h))) (sym l.1.outcome)
    (All-append IsFit _ _ (fit_without (taken_in x.op (legal z h x.op)) (flight z h) before) (fit_made z h x.op (configs_fit z h l.0 w) before))

-- the start of a board is so
pub fit_start : (b : Board) → IsFitStart (start b)
fit_start b = record {
  configs = λ e. record { payload = lit< tt; escalation = λ on. cc; last = λ l. refl };
  messages = All-nil IsFit;
  pairs = λ s. lit< tt;
  old_pairs = λ s. lit< tt;
}
