-- What the fabric's definitions say of an account they say of its fabric entries alone.
use Rattle.std.proofs.Common.{ℕ, ◌≡◌, ◌==◌, ◌+◌, ◌-◌, ◌&&◌, ◌||◌, Bool, true, false, not, cond, if◌then◌else◌, List, [], ◌∷◌, ◌++◌, length, slice_get, filter, Option, Some, None, refl, sym, ◌∙◌, ap, append-nil}
use Rattle.std.specs.Option.{option_map_or}
use Rattle.xv_base.specs.Limits.{most_messages}
use Rattle.xv_model.specs.declared.eas.Eas.{Eas}
use Rattle.xv_model.specs.declared.operations.EndConfig.{EndConfig}
use Rattle.xv_model.specs.declared.operations.Op.{Op}
use Rattle.xv_model.specs.declared.operations.Op.TheVariants as op
use Rattle.xv_model.specs.declared.outcomes.EndRun.{EndRun}
use Rattle.xv_model.specs.declared.outcomes.EndRun.TheVariants as run
use Rattle.xv_model.specs.declared.outcomes.Routed.TheVariants.{NoSource, Masked, Run}
use Rattle.xv_model.specs.declared.outcomes.Outcome.{Outcome}
use Rattle.xv_model.specs.declared.outcomes.Outcome.TheVariants as out
use Rattle.xv_model.specs.declared.messages.Message.{Message}
use Rattle.xv_model.specs.declared.entries.Entry.{Entry}
use Rattle.xv_model.specs.declared.board.Board.{Board}
use Rattle.xv_model.specs.account.Start.{Start}
use Rattle.xv_model.specs.account.Kinds.{is_fabric, run_of}
use Rattle.xv_model.specs.source.PqTable.{trigger_row}
use Rattle.xv_model.specs.source.Notices.{forwards, routes, outstanding}
use Rattle.xv_model.specs.end.Flags.{is_valid, enqueues}
use Rattle.xv_model.specs.source.Eas.{eas_after, eas_after_setting, eas}
use Rattle.xv_model.specs.end.Descriptors.{configuration_in, config_at, config_by, end_config, since_config, until_config}
use Rattle.xv_model.specs.end.EventStates.{first_state, ran_at, asks_state, asked_end, load_in, load_at, load_by, esn, ese}
use Rattle.xv_model.specs.end.Pages.{loaded, end_page_answer}
use Rattle.xv_model.specs.end.Written.{wrote_in, payload_in, payload_of, written, written_count}
use Rattle.xv_model.specs.end.Memory.{place, zeroed_in, word_by, word_at, peek_outcome}
use Rattle.xv_model.specs.end.Reading.{item_in, taken, taken_count, read_by, read_outcome}
use Rattle.xv_model.specs.board.Validity.{ram_size, fits}
use Rattle.xv_model.specs.route.Flight.{made_by, messages_by, source_of, taken_in, message_in, is_escalating, escalation_of, made, without, messages_after, flight}
use Rattle.xv_model.specs.route.Routing.{write_by, next_by, end_pass, routed_by, route_outcome}
use Rattle.xv_model.specs.route.Quiet.{messages_of, quiet_by, quiet_answer}
use Rattle.xv_model.specs.processor.Phases.{connected_in, is_connected, servers}
use Rattle.xv_model.specs.call.Accepted.{call_in}
use Rattle.xv_model.specs.device.Accepted.{setting_in, servers_in}
use Rattle.xv_model.specs.account.Halves.{words_of, fabric_of}
use Rattle.xv_model.proofs.HalvesLemmas.{half, forwards-half, routes-half}

-- an operation that isn't the fabric's is no hypercall
no_call : (b : Board) (o : Op) (u : Outcome) → is_fabric b o ≡ false → call_in o u ≡ None
no_call b (op.Hcall number args) u other = cc
no_call b _ u other = refl

-- an operation that isn't the fabric's is no setting
no_setting : (b : Board) (o : Op) (u : Outcome) → is_fabric b o ≡ false → setting_in o u ≡ None
no_setting b (op.AttrSet group number value) u other = cc
no_setting b _ u other = refl

-- an operation that isn't the fabric's configures no END
no_configuration : (b : Board) (o : Op) (u : Outcome) → is_fabric b o ≡ false → configuration_in o u ≡ None
no_configuration b (op.EndSet e c) u other = cc
no_configuration b (op.Hcall number args) u other = cc
no_configuration b (op.AttrSet group number value) u other = cc
no_configuration b _ u other = refl

-- an operation that isn't the fabric's is no pass of an END
no_run : (b : Board) (o : Op) (u : Outcome) → is_fabric b o ≡ false → run_of o u ≡ None
no_run b (op.Route s) u other = cc
no_run b (op.Take i) u other = cc
no_run b _ u other = refl

-- an operation that isn't the fabric's neither takes nor makes a message
no_messages : (z : Start) (h : List Entry) (o : Op) (u : Outcome) (ms : List Message) → is_fabric z.board o ≡ false → messages_after z h o u ms ≡ ms
no_messages z h (op.Route s) u ms other = cc
no_messages z h (op.Take i) u ms other = cc
no_messages z h _ u ms other = append-nil ms

-- an operation that isn't the fabric's takes no message
no_taken : (b : Board) (o : Op) (u : Outcome) → is_fabric b o ≡ false → taken_in o u ≡ None
no_taken b (op.Take i) u other = cc
no_taken b _ u other = refl

-- an operation that isn't the fabric's connects no processor
no_connection : (b : Board) (o : Op) (u : Outcome) → is_fabric b o ≡ false → connected_in o u ≡ None
no_connection b (op.Connect v) u other = cc
no_connection b _ u other = refl

-- an entry that isn't the fabric's configures no END
no_config_by : (b : Board) (e : ℕ) (x : Entry) → is_fabric b x.op ≡ false → config_by e x ≡ None
no_config_by b e x other = ap (config_at e) (no_configuration b x.op x.outcome other)

-- an operation that isn't the fabric's loads no END's page
no_load : (b : Board) (o : Op) (u : Outcome) → is_fabric b o ≡ false → load_in o u ≡ None
no_load b (op.EndEsb e page offset store) u other = cc
no_load b _ u other = refl

-- an entry that isn't the fabric's loads no END's page
no_load_by : (b : Board) (page e : ℕ) (x : Entry) → is_fabric b x.op ≡ false → load_by page e x ≡ None
no_load_by b page e x other = ap (load_at page e) (no_load b x.op x.outcome other)

-- an operation that isn't the fabric's zeroes nothing
no_zeroed : (b : Board) (o : Op) (u : Outcome) → is_fabric b o ≡ false → zeroed_in o u ≡ None
no_zeroed b (op.Zero addr len) u other = cc
no_zeroed b _ u other = refl

-- an entry that isn't the fabric's changes no word
no_word_by : (b : Board) (a : ℕ) (x : Entry) → is_fabric b x.op ≡ false → word_by a x ≡ None
no_word_by b a x other = rw (no_run b x.op x.outcome other, no_zeroed b x.op x.outcome other) refl

-- an operation that isn't the fabric's takes nothing from a queue
no_item : (b : Board) (o : Op) (u : Outcome) (e : ℕ) → is_fabric b o ≡ false → item_in o u e ≡ []
no_item b (op.Read r) u e other = cc
no_item b _ u e other = refl

-- an entry that isn't the fabric's leaves the EAS of s
pub eas-skips : (z : Start) (s : ℕ) (x : Entry) (h : List Entry) → is_fabric z.board x.op ≡ false → eas z (x ∷ h) s ≡ eas z h s
eas-skips z s x h other = rw (no_setting z.board x.op x.outcome other, no_call z.board x.op x.outcome other) refl

-- an entry that isn't the fabric's leaves the configuration of e
pub end_config-skips : (z : Start) (e : ℕ) (x : Entry) (h : List Entry) → is_fabric z.board x.op ≡ false → end_config z (x ∷ h) e ≡ end_config z h e
end_config-skips z e x h other = rw (no_config_by z.board e x other) refl

-- an entry that isn't the fabric's leaves a number that goes on until e is configured
pub until_config-skips : (z : Start) (n e : ℕ) (x : Entry) (h : List Entry) → is_fabric z.board x.op ≡ false → until_config n (x ∷ h) e ≡ until_config n h e
until_config-skips z n e x h other = rw (no_config_by z.board e x other) refl

-- an entry that isn't the fabric's is one more since the configuration of e
pub since_config-skips : (z : Start) (e : ℕ) (x : Entry) (h : List Entry) → is_fabric z.board x.op ≡ false → since_config (x ∷ h) e ≡ x ∷ since_config h e
since_config-skips z e x h other = rw (no_config_by z.board e x other) refl

-- an entry that isn't the fabric's leaves the state of notifications of e
pub esn-skips : (z : Start) (e : ℕ) (x : Entry) (h : List Entry) → is_fabric z.board x.op ≡ false → esn z (x ∷ h) e ≡ esn z h e
esn-skips z e x h other = rw (no_config_by z.board e x other, no_load_by z.board 0 e x other, no_run z.board x.op x.outcome other) refl

-- an entry that isn't the fabric's leaves the state of escalations of e
pub ese-skips : (z : Start) (e : ℕ) (x : Entry) (h : List Entry) → is_fabric z.board x.op ≡ false → ese z (x ∷ h) e ≡ ese z h e
ese-skips z e x h other = rw (no_config_by z.board e x other, no_load_by z.board 1 e x other, no_taken z.board x.op x.outcome other) refl

-- an entry that isn't the fabric's leaves what was written for e
pub written-skips : (z : Start) (e : ℕ) (x : Entry) (h : List Entry) → is_fabric z.board x.op ≡ false → written z (x ∷ h) e ≡ written z h e
written-skips z e x h other = rw (no_config_by z.board e x other, no_run z.board x.op x.outcome other) (append-nil (written z h e))

-- an entry that isn't the fabric's leaves how many entries were written for e
pub written_count-skips : (z : Start) (e : ℕ) (x : Entry) (h : List Entry) → is_fabric z.board x.op ≡ false → written_count z (x ∷ h) e ≡ written_count z h e
written_count-skips z e x h other = λ i. length (written-skips z e x h other i) + until_config-skips z (z.written_count e) e x h other i

-- an entry that isn't the fabric's leaves the word at an address
pub word_at-skips : (z : Start) (a : ℕ) (x : Entry) (h : List Entry) → is_fabric z.board x.op ≡ false → word_at z (x ∷ h) a ≡ word_at z h a
word_at-skips z a x h other = rw (no_word_by z.board a x other) refl

-- an entry that isn't the fabric's leaves what was taken of e
pub taken-skips : (z : Start) (e : ℕ) (x : Entry) (h : List Entry) → is_fabric z.board x.op ≡ false → taken (x ∷ h) e ≡ taken h e
taken-skips z e x h other = rw (no_config_by z.board e x other, no_item z.board x.op x.outcome e other) (append-nil (taken h e))

-- an entry that isn't the fabric's leaves how many entries of e were taken
pub taken_count-skips : (z : Start) (e : ℕ) (x : Entry) (h : List Entry) → is_fabric z.board x.op ≡ false → taken_count z (x ∷ h) e ≡ taken_count z h e
taken_count-skips z e x h other = λ i. length (taken-skips z e x h other i) + until_config-skips z (z.taken_count e) e x h other i

-- an entry that isn't the fabric's leaves the messages in flight
pub flight-skips : (z : Start) (x : Entry) (h : List Entry) → is_fabric z.board x.op ≡ false → flight z (x ∷ h) ≡ flight z h
flight-skips z x h other = no_messages z h x.op x.outcome (flight z h) other

-- the EAS of s is that of the fabric's entries
pub eas-half : (z : Start) (s : ℕ) (h : List Entry) → eas z (fabric_of z.board h) s ≡ eas z h s
eas-half z s = half (λ x. is_fabric z.board x.op) (λ h. eas z h s) (λ x h. ap (λ before. option_map_or (λ c. eas_after_setting c s before) (setting_in x.op x.outcome) (option_map_or (λ c. eas_after c s before) (call_in x.op x.outcome) before))) (eas-skips z s)

-- the configuration of e is that of the fabric's entries
pub end_config-half : (z : Start) (e : ℕ) (h : List Entry) → end_config z (fabric_of z.board h) e ≡ end_config z h e
end_config-half z e = half (λ x. is_fabric z.board x.op) (λ h. end_config z h e) (λ x h. ap (option_map_or (λ c. c) (config_by e x))) (end_config-skips z e)

-- an entry that isn't the fabric's connects no processor
pub is_connected-skips : (z : Start) (v : ℕ) (x : Entry) (h : List Entry) → is_fabric z.board x.op ≡ false → is_connected z (x ∷ h) v ≡ is_connected z h v
is_connected-skips z v x h other = rw (no_connection z.board x.op x.outcome other) refl

-- whether v is connected is what the fabric's entries say
pub is_connected-half : (z : Start) (v : ℕ) (h : List Entry) → is_connected z (fabric_of z.board h) v ≡ is_connected z h v
is_connected-half z v = half (λ x. is_fabric z.board x.op) (λ h. is_connected z h v) (λ x h. ap (λ before. option_map_or (λ u. u == v) (connected_in x.op x.outcome) false || before)) (is_connected-skips z v)

-- an entry that isn't the fabric's leaves how many processors can be connected
pub servers-skips : (z : Start) (x : Entry) (h : List Entry) → is_fabric z.board x.op ≡ false → servers z (x ∷ h) ≡ servers z h
servers-skips z x h other = rw (no_setting z.board x.op x.outcome other) refl

-- how many can be is what the fabric's entries say
pub servers-half : (z : Start) (h : List Entry) → servers z (fabric_of z.board h) ≡ servers z h
servers-half z = half (λ x. is_fabric z.board x.op) (servers z) (λ x h. ap (option_map_or (λ n. n) (servers_in x.op x.outcome))) (servers-skips z)

-- the message that a pass makes after the fabric's entries is the one that it makes after the account
made_by-half : (z : Start) (h : List Entry) (s : ℕ) (r : Option EndRun) → made_by z (fabric_of z.board h) s r ≡ made_by z h s r
made_by-half z h s (Some (run.Ran e wrote next)) = ap (λ c. messages_by next e c s) (end_config-half z e h)
made_by-half z h s (Some (run.NoEnd e)) = refl
made_by-half z h s None = refl

-- the message that is made of one that was taken
made_of-half : (z : Start) (h : List Entry) (escalates : Bool) (r : Option EndRun) (m : Option Message) →
    option_map_or (λ n. if escalates then escalation_of n else made_by z (fabric_of z.board h) (source_of n) r) m [] ≡ option_map_or (λ n. if escalates then escalation_of n else made_by z h (source_of n) r) m []
made_of-half z h true r m = refl
made_of-half z h false r (Some n) = made_by-half z h (source_of n) r
made_of-half z h false r None = refl

-- what an operation makes after the fabric's entries it makes after the account
made-half : (z : Start) (h : List Entry) (o : Op) (u : Outcome) (ms : List Message) → made z (fabric_of z.board h) o u ms ≡ made z h o u ms
made-half z h (op.Route s) u ms = made_by-half z h s (run_of (op.Route s) u)
made-half z h (op.Take i) u ms = made_of-half z h (is_escalating u) (run_of (op.Take i) u) (slice_get ms i)
made-half z h _ u ms = refl

-- so it leaves the same messages
pub messages_after-half : (z : Start) (h : List Entry) (o : Op) (u : Outcome) (ms : List Message) → messages_after z (fabric_of z.board h) o u ms ≡ messages_after z h o u ms
messages_after-half z h o u ms = ap (λ more. without (taken_in o u) ms ++ more) (made-half z h o u ms)

-- the messages in flight are those of the fabric's entries
pub flight-half : (z : Start) (h : List Entry) → flight z (fabric_of z.board h) ≡ flight z h
flight-half z = half (λ x. is_fabric z.board x.op) (flight z) (λ x h so_far. ap (messages_after z (fabric_of z.board h) x.op x.outcome) so_far ∙ messages_after-half z h x.op x.outcome (flight z h)) (flight-skips z)

-- a number that goes on until e is configured is that of the fabric's entries
pub until_config-half : (z : Start) (n e : ℕ) (h : List Entry) → until_config n (fabric_of z.board h) e ≡ until_config n h e
until_config-half z n e = half (λ x. is_fabric z.board x.op) (λ h. until_config n h e) (λ x h. ap (option_map_or (λ c. 0) (config_by e x))) (until_config-skips z n e)

-- the entries that are kept of none or of one more, by whether it is kept
kept : (p : Entry → Bool) (m : Option EndConfig) (x : Entry) (g h : List Entry) (b : Bool) → p x ≡ b → (b ≡ false → m ≡ None) → g ≡ filter p h →
    cond b (option_map_or (λ c. []) m (x ∷ g)) g ≡ filter p (option_map_or (λ c. []) m (x ∷ h))
kept p (Some c) x g h true is w e = refl
kept p (Some c) x g h false is w e = let k : Some c ≡ None = w refl in absurd cc
kept p None x g h true is w e = rw is (ap (λ v. x ∷ v) e)
kept p None x g h false is w e = rw is e

-- one more entry, by whether it is the fabric's
since_config_more : (z : Start) (e : ℕ) (x : Entry) (h : List Entry) (b : Bool) → is_fabric z.board x.op ≡ b → since_config (fabric_of z.board h) e ≡ fabric_of z.board (since_config h e) →
    since_config (cond b (x ∷ fabric_of z.board h) (fabric_of z.board h)) e ≡ fabric_of z.board (since_config (x ∷ h) e)
since_config_more z e x h true is so_far = kept (λ y. is_fabric z.board y.op) (config_by e x) x (since_config (fabric_of z.board h) e) (since_config h e) true is (λ n. cc) so_far
since_config_more z e x h false is so_far = kept (λ y. is_fabric z.board y.op) (config_by e x) x (since_config (fabric_of z.board h) e) (since_config h e) false is (λ n. no_config_by z.board e x is) so_far

-- the fabric's entries since a configuration of e are those of the entries since then
pub since_config-half : (z : Start) (e : ℕ) (h : List Entry) → since_config (fabric_of z.board h) e ≡ fabric_of z.board (since_config h e)
since_config-half z e [] = refl
since_config-half z e (x ∷ h) = since_config_more z e x h (is_fabric z.board x.op) refl (since_config-half z e h)

-- the state of notifications of e is that of the fabric's entries
pub esn-half : (z : Start) (e : ℕ) (h : List Entry) → esn z (fabric_of z.board h) e ≡ esn z h e
esn-half z e = half (λ x. is_fabric z.board x.op) (λ h. esn z h e) (λ x h so_far. λ i. option_map_or first_state (config_by e x) (option_map_or (λ new. new) (load_by 0 e x) (if ran_at e (run_of x.op x.outcome) && asks_state (end_config-half z e h i) then (trigger_row (so_far i)).pair else so_far i))) (esn-skips z e)

-- the state of escalations of e is that of the fabric's entries
pub ese-half : (z : Start) (e : ℕ) (h : List Entry) → ese z (fabric_of z.board h) e ≡ ese z h e
ese-half z e = half (λ x. is_fabric z.board x.op) (λ h. ese z h e) (λ x h so_far. λ i. option_map_or first_state (config_by e x) (option_map_or (λ new. new) (load_by 1 e x) (if option_map_or (λ end. end == e) (asked_end (message_in (flight-half z h i) x.op x.outcome)) false then (trigger_row (so_far i)).pair else so_far i))) (ese-skips z e)

-- what an operation routes after the fabric's entries is what it routes after the account
payload_of-half : (z : Start) (h : List Entry) (o : Op) → payload_of z (fabric_of z.board h) o ≡ payload_of z h o
payload_of-half z h (op.Route s) = ap (λ a. a.eisn ∷ []) (eas-half z s h)
payload_of-half z h (op.Take i) = ap (λ ms. option_map_or payload_in (slice_get ms i) []) (flight-half z h)
payload_of-half z h _ = refl

-- what an access to a page of e answers after the fabric's entries is what it answers after the account
pub end_page_answer-half : (z : Start) (e page offset : ℕ) (store : Bool) (h : List Entry) → end_page_answer z (fabric_of z.board h) e page offset store ≡ end_page_answer z h e page offset store
end_page_answer-half z e page offset store h =
    λ i. if store then out.BadOffset
    else (if is_valid (end_config-half z e h i) then loaded offset (if page == 0 then esn-half z e h i else ese-half z e h i) else out.NoEnd)

-- what was written for e is what the fabric's entries wrote
pub written-half : (z : Start) (e : ℕ) (h : List Entry) → written z (fabric_of z.board h) e ≡ written z h e
written-half z e = half (λ x. is_fabric z.board x.op) (λ h. written z h e) (λ x h so_far. λ i. option_map_or (λ c. []) (config_by e x) (so_far i ++ option_map_or (λ end. if end == e then payload_of-half z h x.op i else []) (wrote_in (run_of x.op x.outcome)) [])) (written-skips z e)

-- how many entries were written for e is how many the fabric's entries wrote
pub written_count-half : (z : Start) (e : ℕ) (h : List Entry) → written_count z (fabric_of z.board h) e ≡ written_count z h e
written_count-half z e h = λ i. length (written-half z e h i) + until_config-half z (z.written_count e) e h i

-- what was taken of e is what the fabric's entries took
pub taken-half : (z : Start) (e : ℕ) (h : List Entry) → taken (fabric_of z.board h) e ≡ taken h e
taken-half z e = half (λ x. is_fabric z.board x.op) (λ h. taken h e) (λ x h so_far. λ i. option_map_or (λ c. []) (config_by e x) (so_far i ++ item_in x.op x.outcome e)) (taken-skips z e)

-- how many entries of e were taken is how many the fabric's entries took
pub taken_count-half : (z : Start) (e : ℕ) (h : List Entry) → taken_count z (fabric_of z.board h) e ≡ taken_count z h e
taken_count-half z e h = λ i. length (taken-half z e h i) + until_config-half z (z.taken_count e) e h i

-- the word at an address is that of the fabric's entries
pub word_at-half : (z : Start) (a : ℕ) (h : List Entry) → word_at z (fabric_of z.board h) a ≡ word_at z h a
word_at-half z a = half (λ x. is_fabric z.board x.op) (λ h. word_at z h a) (λ x h. ap (option_map_or (λ w. w) (word_by a x))) (word_at-skips z a)

-- what a read of e answers after the fabric's entries is what it answers after the account
pub read_outcome-half : (z : Start) (e : ℕ) (h : List Entry) → read_outcome z (fabric_of z.board h) e ≡ read_outcome z h e
read_outcome-half z e h =
    let number : (end_config z (fabric_of z.board h) e).start + taken_count z (fabric_of z.board h) e ≡ (end_config z h e).start + taken_count z h e =
    λ i. (end_config-half z e h i).start + taken_count-half z e h i in
    λ i. if is_valid (end_config-half z e h i) && enqueues (end_config-half z e h i)
    then read_by (end_config-half z e h i) (number i) (word_at-half z (place (end_config-half z e h i) (number i)) h i)
    else out.NoQueue

-- what looking at a word answers after the fabric's entries is what it answers after the account
pub peek_outcome-half : (z : Start) (a : ℕ) (h : List Entry) → peek_outcome z (fabric_of z.board h) a ≡ peek_outcome z h a
peek_outcome-half z a h = λ i. if fits (ram_size z.board) a 4 then out.Cell (word_at-half z a h i) else out.BadRange

-- a pass of e after the fabric's entries is the one after the account
pub end_pass-half : (z : Start) (e payload : ℕ) (h : List Entry) → end_pass z (fabric_of z.board h) e payload ≡ end_pass z h e payload
end_pass-half z e payload h = λ i. if is_valid (end_config-half z e h i) then run.Ran e (write_by (end_config-half z e h i) (written_count-half z e h i) payload) (next_by (end_config-half z e h i) (esn-half z e h i)) else run.NoEnd e

-- what becomes of a notice after the fabric's entries is what becomes of it after the account
pub routed_by-half : (z : Start) (a : Eas) (h : List Entry) → routed_by z (fabric_of z.board h) a ≡ routed_by z h a
routed_by-half z a h = λ i. if not a.valid then NoSource else (if a.masked then Masked else Run (end_pass-half z a.end a.eisn h i))

-- what says the same of an account as of its fabric entries says the same of accounts with the same ones
pub same_fabric : {R : Type 0} (b : Board) (d : List Entry → R) (g h : List Entry) → ((f : List Entry) → d (fabric_of b f) ≡ d f) → fabric_of b g ≡ fabric_of b h → d g ≡ d h
same_fabric b d g h says same = sym (says g) ∙ ap d same ∙ says h

-- the outstanding notices of s are as many after accounts with the same entries on its word and the same fabric entries
pub outstanding_halves : (z : Start) (g h : List Entry) (s : ℕ) → words_of z.board s g ≡ words_of z.board s h → fabric_of z.board g ≡ fabric_of z.board h → outstanding z g s ≡ outstanding z h s
outstanding_halves z g h s words same =
    let forwarded : forwards z g s ≡ forwards z h s = sym (forwards-half z s g) ∙ ap (λ f. forwards z f s) words ∙ forwards-half z s h in
    λ i. forwarded i - same_fabric z.board (λ f. routes z f s) g h (routes-half z s) same i

-- the messages in flight are the same after accounts with the same fabric entries
pub same_flight : (z : Start) (g h : List Entry) → fabric_of z.board g ≡ fabric_of z.board h → flight z g ≡ flight z h
same_flight z g h same = same_fabric z.board (flight z) g h (flight-half z) same

-- a route of s answers the same after accounts with the same fabric entries, where a notice of s is outstanding after both or after neither
pub route_half : (z : Start) (g h : List Entry) (s : ℕ) → fabric_of z.board g ≡ fabric_of z.board h → (outstanding z g s == 0) ≡ (outstanding z h s == 0) → route_outcome z g s ≡ route_outcome z h s
route_half z g h s same none =
    let full = same_flight z g h same in
    let number = same_fabric z.board (λ f. routes z f s) g h (routes-half z s) same in
    let routed = ap (routed_by z g) (same_fabric z.board (λ f. eas z f s) g h (eas-half z s) same) ∙ same_fabric z.board (λ f. routed_by z f (eas z h s)) g h (routed_by-half z (eas z h s)) same in
    λ i. if none i then out.NoNotice else (if length (full i) == most_messages then out.BusFull else out.Routed (number i + 1) (routed i))

-- whether s is quiet is answered the same after accounts with the same fabric entries and as many outstanding notices of s
pub quiet_half : (z : Start) (g h : List Entry) (s : ℕ) → fabric_of z.board g ≡ fabric_of z.board h → outstanding z g s ≡ outstanding z h s → quiet_answer z g s ≡ quiet_answer z h s
quiet_half z g h s same notices = let messages = same_flight z g h same in λ i. quiet_by (notices i) (messages_of (messages i) s)
