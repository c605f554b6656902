-- The messages in flight: those that a pass makes, and those that one is taken out of.
use Rattle.std.proofs.Common.{ℕ, suc, ◌≡◌, ◌<◌, ◌^◌, ◌&&◌, Bool, true, false, if◌then◌else◌, nat_lt, List, [], ◌∷◌, ◌++◌, length, Option, Some, None, slice_get, slice_index_or, refl, sym, ◌∙◌, ap, subst, arith}
use Rattle.std.specs.Prelude.{All}
use Rattle.std.specs.List.{remove}
use Rattle.std.proofs.lemmas.Bool.Decides.{nat_tests}
use Rattle.std.proofs.lemmas.Option.{get_or_from_slice_get}
use Rattle.std.proofs.lemmas.List.Elements.{All-nil, All-push, All-append, All-take, All-drop, All-get_or}
use Rattle.xv_base.specs.Limits.{ends_per_processor}
use Rattle.xv_model.specs.declared.board.Board.{Board}
use Rattle.xv_model.specs.declared.eas.Eas.{Eas}
use Rattle.xv_model.specs.declared.messages.Message.{Message}
use Rattle.xv_model.specs.declared.messages.Message.TheVariants as message
use Rattle.xv_model.specs.declared.operations.EndConfig.{EndConfig}
use Rattle.xv_model.specs.declared.operations.EndFlags.{EndFlags}
use Rattle.xv_model.specs.declared.outcomes.Then.{Then}
use Rattle.xv_model.specs.declared.outcomes.Then.TheVariants as then
use Rattle.xv_model.specs.declared.outcomes.EndRun.TheVariants.{Ran, NoEnd}
use Rattle.xv_model.specs.board.Validity.{end_count, valid_config, has_queue, has_nothing, notifies_one, has_escalation, has_no_escalation, is_escalation_end}
use Rattle.xv_model.specs.end.Flags.{is_valid, escalates}
use Rattle.xv_model.specs.route.Flight.{messages_by}
use Rattle.xv_model.specs.route.Routing.{next_by, write_by}
use Rattle.end_queue.specs.declared.ends.EndRecord.{EndRecord}
use Rattle.end_queue.specs.Ends.{first_end, end_in}
use Rattle.end_queue.specs.Accounts.{IsEnd}
use Rattle.router.specs.Messages.{IsEscalation, IsMessage, IsTarget}
use Rattle.router.specs.Passes.{pass_by, made_for}
use Rattle.router.specs.Routing.{reaches_end, messages_after}

left : (a b : Bool) → (a && b) ≡ true → a ≡ true
left true b is = refl
left false b is = absurd cc

right : (a b : Bool) → (a && b) ≡ true → b ≡ true
right true b is = is
right false b is = absurd cc

picked : (v a b : Bool) → (if v then a else b) ≡ true → v ≡ true → a ≡ true
picked true a b is on = is
picked false a b is on = absurd cc

-- a valid END notifies in range
noted : (b : Board) (c : EndConfig) → valid_config b c ≡ true → is_valid c ≡ true → notifies_one b c ≡ true
noted b c valid on = picked (is_valid c) (notifies_one b c) (has_nothing c) (right (has_queue b c) _ valid) on

-- one processor of its board
notifying : (b : Board) (c : EndConfig) → notifies_one b c ≡ true → IsTarget b c.vp c.priority
notifying b c is =
    let rest = right (nat_lt c.flags.0 128) _ is in
    let level = left (nat_lt c.priority ends_per_processor) (has_escalation b c) (right (nat_lt c.vp b.limits.processors) _ rest) in
    record { vp = below c.vp b.limits.processors (left (nat_lt c.vp b.limits.processors) _ rest); priority = below c.priority ends_per_processor level }
  where
    below : (n m : ℕ) → nat_lt n m ≡ true → n < m
    below n m is = grind (arith, nat_tests)

has_one : (b : Board) (c : EndConfig) → notifies_one b c ≡ true → has_escalation b c ≡ true
has_one b c is = right (nat_lt c.priority ends_per_processor) _ (right (nat_lt c.vp b.limits.processors) _ (right (nat_lt c.flags.0 128) _ is))

-- and escalates to one of its ENDs, or has no other END
escalating_by : (b : Board) (e : ℕ) (c : EndConfig) (may : Bool) → e < end_count b →
    (if may then nat_lt c.esc (end_count b) && (is_escalation_end c.esc && nat_lt c.esc_eisn (2 ^ 31)) else has_no_escalation c) ≡ true → IsEscalation b e c.esc c.esc_eisn
escalating_by b e c true l is = record { end = l; esc = grind (arith, nat_tests); esc_eisn = grind (arith, nat_tests) }
escalating_by b e c false l is = record { end = l; esc = grind (arith, nat_tests); esc_eisn = grind (arith, nat_tests) }

-- so what it sends is in range
sent_by : (b : Board) (s e : ℕ) (c : EndConfig) (next : Then) → IsTarget b c.vp c.priority → IsEscalation b e c.esc c.esc_eisn → All (IsMessage b) (messages_by next e c s)
sent_by b s e c then.Present target other = All-push (IsMessage b) [] _ (All-nil (IsMessage b)) (target, other)
sent_by b s e c then.Escalate target other = All-push (IsMessage b) [] _ (All-nil (IsMessage b)) other
sent_by b s e c then.Coalesced target other = All-nil (IsMessage b)
sent_by b s e c then.Silent target other = All-nil (IsMessage b)

-- what a pass of an END of a board makes
pub sent : (b : Board) (s e p : ℕ) (r : EndRecord) → e < end_count b → IsEnd b r → All (IsMessage b) (made_for s r.config (pass_by r e p))
sent b s e p r l is = by (is_valid r.config) refl
  where
    by : (on : Bool) → is_valid r.config ≡ on →
        All (IsMessage b) (made_for s r.config (if on then Ran e (write_by r.config r.written p) (next_by r.config r.esn) else NoEnd e))
    by true on = sent_by b s e r.config (next_by r.config r.esn) (notifying b r.config (noted b r.config is.config on)) (escalating_by b e r.config (escalates r.config) l (has_one b r.config (noted b r.config is.config on)))
    by false on = All-nil (IsMessage b)

-- the messages after a pass, behind those before
pub ran_in_range : (b : Board) (s : ℕ) (ends : List EndRecord) (e p : ℕ) (messages : List Message) → e < length ends → length ends ≡ end_count b → All (IsEnd b) ends → All (IsMessage b) messages →
    All (IsMessage b) (messages ++ made_for s (end_in ends e).config (pass_by (end_in ends e) e p))
ran_in_range b s ends e p messages l many all before = All-append (IsMessage b) messages _ before (sent b s e p (end_in ends e) (subst (λ n. e < n) many l) (All-get_or (IsEnd b) ends e first_end l all))

-- the messages after a notice
pub messages_in_range : (b : Board) (s : ℕ) (ends : List EndRecord) (a : Eas) (messages : List Message) → a.end < length ends → length ends ≡ end_count b → All (IsEnd b) ends → All (IsMessage b) messages →
    All (IsMessage b) (messages_after s ends a messages)
messages_in_range b s ends a messages l many all before = by (reaches_end a)
  where
    r : EndRecord
    r = end_in ends a.end

    by : (going : Bool) → All (IsMessage b) (if going then messages ++ made_for s r.config (pass_by r a.end a.eisn) else messages)
    by true = ran_in_range b s ends a.end a.eisn messages l many all before
    by false = before

-- the messages but one of them
pub rest_in_range : (b : Board) (messages : List Message) (i : ℕ) → All (IsMessage b) messages → All (IsMessage b) (remove messages i)
rest_in_range b messages i all = All-append (IsMessage b) _ _ (All-take (IsMessage b) i messages all) (All-drop (IsMessage b) (suc i) messages all)

abbrev unwrapped : Message → Option Message → Message
unwrapped d (Some m) = m
unwrapped d None = d

-- one of them, which was taken
pub taken_in_range : (b : Board) (messages : List Message) (i : ℕ) (got : Option Message) (m : Message) → All (IsMessage b) messages → i < length messages → got ≡ Some (slice_index_or messages i m) → got ≡ Some m → IsMessage b m
taken_in_range b messages i got m all l at is = subst (IsMessage b) (ap (unwrapped m) (sym at ∙ is)) (all i m l)

-- and it is the one that lay there
pub taken_is : (messages : List Message) (i : ℕ) (got : Option Message) (m n : Message) → slice_get messages i ≡ Some m → got ≡ Some (slice_index_or messages i m) → got ≡ Some n →
    ◌≡◌ {A = Option Message} (Some n) (Some m)
taken_is messages i got m n found at is = sym is ∙ at ∙ ap Some (get_or_from_slice_get messages i m m found)

-- the others, and the escalation of a presentation behind them
pub escalated_in_range : (b : Board) (messages : List Message) (i e vp priority esc esc_eisn origin : ℕ) (flags : EndFlags) → All (IsMessage b) messages →
    IsMessage b (message.Present e flags vp priority esc esc_eisn origin) → All (IsMessage b) (remove messages i ++ (message.Escalate e flags esc esc_eisn origin ∷ []))
escalated_in_range b messages i e vp priority esc esc_eisn origin flags all is =
    All-append (IsMessage b) (remove messages i) _ (rest_in_range b messages i all) (All-push (IsMessage b) [] _ (All-nil (IsMessage b)) is.1)

-- what was pushed is behind those that were there
pub behind : (messages rest before more : List Message) → messages ≡ rest ++ more → rest ≡ before → messages ≡ before ++ more
behind messages rest before more is same = is ∙ ap (λ (ms : List Message). ms ++ more) same
