-- The rounds of the example of a queue: each is legal, and leaves the queue as the law asks.
use Rattle.std.proofs.Common.{ℕ, zero, suc, ◌≡◌, ◌==◌, ◌+◌, ◌^◌, ◌%◌, ◌<◌, ◌≤◌, Bool, true, false, if◌then◌else◌, List, [], ◌∷◌, ◌++◌, length, Some, refl, sym, ◌∙◌, ap, subst, arith, lit<, append-nil, ne_eqb, mod-eq_of_lt, zero-add}
use Rattle.std.proofs.lemmas.Bool.Decides.{nat_tests}
use Rattle.std.specs.Option.{option_map_or}
use Rattle.xv_base.specs.Limits.{most_forwards}
use Rattle.xv_model.specs.declared.outcomes.Then.TheVariants.{Coalesced}
use Rattle.xv_model.specs.declared.outcomes.EndRun.TheVariants as run
use Rattle.xv_model.specs.declared.outcomes.Routed.TheVariants.{Run}
use Rattle.xv_model.specs.declared.outcomes.Outcome.TheVariants as out
use Rattle.xv_model.specs.declared.entries.Entry.{Entry}
use Rattle.xv_model.specs.declared.eas.Eas.{Eas}
use Rattle.xv_model.specs.account.Legal.{IsLegal, IsNext}
use Rattle.xv_model.specs.source.PqTable.{trigger_row}
use Rattle.xv_model.specs.source.Notices.{forwards, routes, outstanding}
use Rattle.xv_model.specs.source.Eas.{eas}
use Rattle.xv_model.specs.end.Descriptors.{end_config}
use Rattle.xv_model.specs.end.EventStates.{asks_state, esn}
use Rattle.xv_model.specs.end.Written.{written, written_count}
use Rattle.xv_model.specs.end.Memory.{entries, wrote_at}
use Rattle.xv_model.specs.end.Reading.{taken, taken_count, read_outcome}
use Rattle.xv_model.specs.route.Flight.{flight}
use Rattle.xv_model.specs.route.Routing.{route_outcome}
use Rattle.xv_model.specs.laws.Queues.{KeepsUp, next_item}
use Rattle.xv_model.specs.laws.QueueExample.{one_source, one_page}
use Rattle.xv_model.proofs.QueueLaws.{IsQueue, small_start_of, is_queue, read_next}
use Rattle.xv_model.proofs.QueueAccount.{z, configuring, telling, triggering, routing, reading, ending, since, account, Own, up_to, up_to-more, length-up_to, get-next, AfterRounds, own_more, own_quiet, none_after}

-- the entries since the configuration, as far as a round has come
abbrev told : ℕ → List Entry
told n = telling n ∷ since n

abbrev triggered : ℕ → List Entry
triggered n = triggering n ∷ told n

abbrev passed : ℕ → List Entry
passed n = routing n ∷ triggered n

abbrev was_read : ℕ → List Entry
was_read n = reading n ∷ passed n

-- the call is accepted
telling_next : (n : ℕ) → AfterRounds n (since n) → IsNext z (account (since n)) (telling n)
telling_next n a = record { actor = lit< tt; valid_op = refl; outcome = rw (a.valid_eas, a.connected) refl }

-- the trigger forwards
triggering_next : (n : ℕ) → n < 2 ^ 31 → AfterRounds n (since n) → IsNext z (account (told n)) (triggering n)
triggering_next n l a =
    let few : (n == most_forwards) ≡ false = ne_eqb n most_forwards (λ e. omega arith) in
    record { actor = lit< tt; valid_op = refl; outcome = rw (a.pair, a.forwarded, zero-add n, few) refl }

-- one more forward
one_more : (n k : ℕ) → k ≡ n → (if n + 1 == 0 then 0 else 1) + k ≡ n + 1
one_more n k e = grind (arith, nat_tests)

-- an EAS of END 0, with an EISN
abbrev with_eisn : ℕ → Eas
with_eisn n = record { valid = true; masked = false; end = 0; eisn = n }

-- the route writes entry n
routes_by : (h : List Entry) (n : ℕ) → (outstanding z h 0 == 0) ≡ false → flight z h ≡ [] → routes z h 0 ≡ n → eas z h 0 ≡ with_eisn n → end_config z h 0 ≡ one_page → esn z h 0 ≡ 1 → written_count z h 0 ≡ n →
    (routing n).outcome ≡ route_outcome z h 0
routes_by h n some none_flies routed eas_is config off count =
    rw (some, none_flies, routed, eas_is, config, off, count) (ap (λ k. out.Routed (n + 1) (Run (run.Ran 0 (Some (wrote_at one_page k n)) Coalesced))) (sym (zero-add n)))

-- the forwards before the route
forwarded_before : (n : ℕ) → AfterRounds n (since n) → forwards z (account (triggered n)) 0 ≡ n + 1
forwarded_before n a = one_more n (0 + forwards z (account (since n)) 0) (zero-add (forwards z (account (since n)) 0) ∙ a.forwarded)

-- and the routes
routed_before : (n : ℕ) → AfterRounds n (since n) → routes z (account (triggered n)) 0 ≡ n
routed_before n a = zero-add (0 + routes z (account (since n)) 0) ∙ zero-add (routes z (account (since n)) 0) ∙ a.routed

-- END 0 has a queue after entries that leave it that
queue_after : (later : List Entry) → IsLegal z (account later) → Own later → IsQueue z (account later) 0 one_page
queue_after later l own = is_queue z [] configuring 0 one_page (small_start_of one_source) later l own

-- the entries up to the trigger leave the END its queue
own_triggered : (n : ℕ) → AfterRounds n (since n) → Own (triggered n)
own_triggered n a = own_quiet (told n) (triggering n) (own_quiet (since n) (telling n) a.own refl (λ w. refl) (λ read. cc)) refl (λ w. refl) (λ read. cc)

-- and are legal
legal_triggered : (n : ℕ) → n < 2 ^ 31 → AfterRounds n (since n) → IsLegal z (account (triggered n))
legal_triggered n l a = ((a.is_legal, telling_next n a), triggering_next n l a)

-- what was written before the route
wrote_before : (n : ℕ) → AfterRounds n (since n) → written z (account (triggered n)) 0 ≡ up_to n
wrote_before n a = simp append-nil a.wrote

-- what was taken before it
took_before : (n : ℕ) → AfterRounds n (since n) → taken (account (triggered n)) 0 ≡ up_to n
took_before n a = simp append-nil a.took

-- the EAS of the source before the route
eas_before : (n : ℕ) → n < 2 ^ 31 → eas z (account (triggered n)) 0 ≡ with_eisn n
eas_before n l = ap with_eisn (mod-eq_of_lt l)

-- the route routes
routing_next : (n : ℕ) → n < 2 ^ 31 → AfterRounds n (since n) → IsNext z (account (triggered n)) (routing n)
routing_next n l a =
    let h = account (triggered n) in
    let q = queue_after (triggered n) (legal_triggered n l a) (own_triggered n a) in
    let forwarded : forwards z h 0 ≡ n + 1 = forwarded_before n a in
    let routed = routed_before n a in
    let some : (outstanding z h 0 == 0) ≡ false = ne_eqb (outstanding z h 0) 0 (λ e. omega arith) in
    let count : written_count z h 0 ≡ n = omega (arith, ap length (wrote_before n a), length-up_to n, q.fresh_count 0) in
    record { actor = lit< tt; valid_op = refl; outcome = routes_by h n some (simp append-nil a.none_flies) routed (eas_before n l) q.config a.off count }

-- the pass leaves the END its queue
own_passed : (n : ℕ) → AfterRounds n (since n) → Own (passed n)
own_passed n a = own_more (triggered n) (routing n) (own_triggered n a) (record { config = refl; words = λ j word is. refl }) (λ read. cc)

-- what was written before the read
wrote_passed : (n : ℕ) → n < 2 ^ 31 → AfterRounds n (since n) → written z (account (passed n)) 0 ≡ up_to (suc n)
wrote_passed n l a = ap (λ v. v ++ (n % 2 ^ 31) ∷ []) (wrote_before n a) ∙ ap (λ k. up_to n ++ k ∷ []) (mod-eq_of_lt l) ∙ sym (up_to-more n)

-- what was taken before it
took_passed : (n : ℕ) → AfterRounds n (since n) → taken (account (passed n)) 0 ≡ up_to n
took_passed n a = append-nil (taken (account (triggered n)) 0) ∙ took_before n a

-- the account up to the pass is legal
legal_passed : (n : ℕ) → n < 2 ^ 31 → AfterRounds n (since n) → IsLegal z (account (passed n))
legal_passed n l a = (legal_triggered n l a, routing_next n l a)

-- the reader takes each payload at once, so it keeps up
keeps_up : (n : ℕ) → n < 2 ^ 31 → AfterRounds n (since n) → KeepsUp z (account (passed n)) 0
keeps_up n l a =
    let q = queue_after (passed n) (legal_passed n l a) (own_passed n a) in
    subst (λ c. written_count z (account (passed n)) 0 ≤ taken_count z (account (passed n)) 0 + entries c) (sym q.config)
    (omega (arith, ap length (wrote_passed n l a), ap length (took_passed n a), length-up_to n, length-up_to (suc n), q.fresh_count 0))

-- the read answers the payload that was just written
reads_next_item : (n : ℕ) → n < 2 ^ 31 → AfterRounds n (since n) → out.Item n ≡ read_outcome z (account (passed n)) 0
reads_next_item n l a =
    let h = account (passed n) in
    let q = queue_after (passed n) (legal_passed n l a) (own_passed n a) in
    let count : taken_count z h 0 ≡ length (up_to n) = omega (arith, ap length (took_passed n a), q.fresh_count 0) in
    sym (read_next z h 0 one_page refl refl q (keeps_up n l a)
    ∙ ap (λ v. next_item v (taken_count z h 0)) (wrote_passed n l a ∙ up_to-more n)
    ∙ ap (next_item (up_to n ++ n ∷ [])) count
    ∙ ap (λ p. option_map_or out.Item p out.Empty) (get-next (up_to n) n))

-- the account up to the read is legal
legal_read : (n : ℕ) → n < 2 ^ 31 → AfterRounds n (since n) → IsLegal z (account (was_read n))
legal_read n l a = (legal_passed n l a, record { actor = lit< tt; valid_op = refl; outcome = reads_next_item n l a })

-- so is the whole round
legal_round : (n : ℕ) → n < 2 ^ 31 → AfterRounds n (since n) → IsLegal z (account (since (suc n)))
unfolding since
legal_round n l a = (legal_read n l a, record { actor = lit< tt; valid_op = refl; outcome = refl })

-- the whole round leaves the END its queue
own_round : (n : ℕ) → n < 2 ^ 31 → AfterRounds n (since n) → Own (since (suc n))
unfolding since
own_round n l a =
    own_quiet (was_read n) ending (own_more (passed n) (reading n) (own_passed n a) (record { config = refl; words = λ j word is. cc }) (λ read. keeps_up n l a))
    refl (λ w. refl) (λ read. cc)

-- a pass leaves the state 01
stays_off : (b : Bool) (k : ℕ) → k ≡ 1 → (if b then (trigger_row k).pair else k) ≡ 1
stays_off true k e = ap (λ k. (trigger_row k).pair) e
stays_off false k e = e

-- the forwards and routes after the round, by those before
sums_round : (f r n : ℕ) → f ≡ n + 1 → r ≡ n → (0 + (0 + (0 + f)) ≡ suc n) × (0 + (0 + (1 + r)) ≡ suc n)
sums_round f r n e g = (omega arith, omega arith)

-- the board after one more round
one_round : (n : ℕ) → n < 2 ^ 31 → AfterRounds n (since n) → AfterRounds (suc n) (since (suc n))
unfolding since
one_round n l a =
    let sums = sums_round (forwards z (account (triggered n)) 0) (routes z (account (triggered n)) 0) n (forwarded_before n a) (routed_before n a) in
    record {
      is_legal = legal_round n l a;
      own = own_round n l a;
      pair = refl;
      forwarded = sums.0;
      routed = sums.1;
      valid_eas = refl;
      connected = a.connected;
      off = stays_off (asks_state (end_config z (account (triggered n)) 0)) (esn z (account (triggered n)) 0) a.off;
      none_flies = simp append-nil a.none_flies;
      wrote = append-nil (written z (account (was_read n)) 0) ∙ append-nil (written z (account (passed n)) 0) ∙ wrote_passed n l a;
      took = append-nil (taken (account (was_read n)) 0) ∙ ap (λ v. v ++ n ∷ []) (took_passed n a) ∙ sym (up_to-more n);
    }

-- the board after so many rounds
pub rounds : (n : ℕ) → n ≤ 2 ^ 31 → AfterRounds n (since n)
rounds zero l = none_after
rounds (suc n) l = one_round n (omega arith) (rounds n (omega arith))
