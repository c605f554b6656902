-- Entries that route a notice: what the tables represent then, and what is answered.
use Rattle.std.proofs.Common.{ℕ, ◌≡◌, ◌≢◌, ◌<◌, ◌+◌, ◌*◌, ◌-◌, ◌==◌, Bool, true, false, if◌then◌else◌, List, [], ◌∷◌, ◌++◌, length, Some, None, refl, sym, ◌∙◌, ap, subst, arith, slice_set, slice_get, slice_index_or}
use Rattle.std.proofs.lemmas.Bool.{eq-eqb, ne_eqb}
use Rattle.std.proofs.lemmas.List.{append-nil}
use Rattle.std.specs.Prelude.{◌&&◌, not}
use Rattle.xv_base.specs.Limits.{ends_per_processor, most_messages}
use Rattle.xv_model.specs.declared.eas.Eas.{Eas}
use Rattle.xv_model.specs.declared.messages.Message.{Message}
use Rattle.xv_model.specs.declared.operations.Op.TheVariants as op
use Rattle.xv_model.specs.declared.outcomes.Wrote.{Wrote}
use Rattle.xv_model.specs.declared.outcomes.Then.{Then}
use Rattle.xv_model.specs.declared.outcomes.EndRun.TheVariants.{Ran, NoEnd}
use Rattle.xv_model.specs.declared.outcomes.Routed.{Routed}
use Rattle.xv_model.specs.declared.outcomes.Routed.TheVariants as routed
use Rattle.xv_model.specs.declared.outcomes.Outcome.TheVariants as out
use Rattle.xv_model.specs.declared.entries.Entry.{Entry}
use Rattle.xv_model.specs.account.Start.{Start}
use Rattle.xv_model.specs.source.Notices.{routes, forwards}
use Rattle.xv_model.specs.source.Eas.{eas, masked_off}
use Rattle.xv_model.specs.end.Flags.{is_valid, enqueues}
use Rattle.xv_model.specs.end.Descriptors.{end_config}
use Rattle.xv_model.specs.end.EventStates.{esn, ese}
use Rattle.xv_model.specs.end.Memory.{wrote_at}
use Rattle.xv_model.specs.end.Written.{written_count}
use Rattle.xv_model.specs.end.Reading.{taken}
use Rattle.xv_model.specs.route.Flight.{flight, messages_by}
use Rattle.xv_model.specs.route.Routing.{next_by, route_outcome, routed_by}
use Rattle.eas_table.specs.Table.{eas_in}
use Rattle.end_queue.specs.declared.ends.EndRecord.{EndRecord}
use Rattle.end_queue.specs.Ends.{first_end, end_in, with_ese}
use Rattle.router.specs.Passes.{after_pass, pass_by, made_for}
use Rattle.router.specs.Routing.{routed_in, ends_after, messages_after}
use Rattle.router.specs.Tables.{Kept, StandsFor}
use Rattle.end_queue.specs.Accounts.{record_of}
use Rattle.xv_model.proofs.Elements.{at_same, at_other, set_gives, read}
use Rattle.end_queue.proofs.Entering.{nothing_entered}
use Rattle.router.proofs.Ran.{counted_in, count_by, ran}

-- the entry of a notice of s that is routed as number k
abbrev pub route_of : ℕ → ℕ → ℕ → Routed → Entry
route_of actor s k r = record { actor = actor; op = op.Route s; outcome = out.Routed k r }

-- the tables after s had k notices routed, with these ENDs and messages
abbrev pub after_route : Kept → ℕ → ℕ → List EndRecord → List Message → Kept
after_route t s k ends messages = record {
  board = t.board;
  eases = t.eases;
  routes = slice_set t.routes s k;
  ends = ends;
  messages = messages;
}

-- What a pass makes of an END.

-- what a pass that goes through answers, where it writes w or nothing
abbrev ran_by : ℕ → Bool → Wrote → Then → Routed
ran_by e q w next = routed.Run (Ran e (if q then Some w else None) next)

-- an END after a pass of e
ran_routed : (z : Start) (h : List Entry) (s actor k e j : ℕ) (w : Wrote) (next : Then) (q : Bool) →
    record_of z (route_of actor s k (ran_by e q w next) ∷ h) j
    ≡ (if e == j then counted_in z h j true (count_by z h j q) (taken h j) else record_of z h j)
ran_routed z h s actor k e j w next q = ran z h e j (eas z h s).eisn (ese z h j) w next q ∙ by (e == j)
  where
    by : (same : Bool) →
        with_ese (ese z h j) (if same then counted_in z h j true (count_by z h j q) (taken h j) else record_of z h j)
        ≡ (if same then counted_in z h j true (count_by z h j q) (taken h j) else record_of z h j)
    by true = refl
    by false = refl

-- What the tables represent.

-- the tables after a route of s by which the ENDs and the messages are these
routed_stands : (t : Kept) (z : Start) (h : List Entry) (s actor k : ℕ) (r : Routed)
    (ends : List EndRecord) (messages : List Message) →
    StandsFor t z h → s < z.board.limits.sources → k ≡ routes z h s →
    ((j : ℕ) → j < ends_per_processor * z.board.limits.processors →
    slice_get ends j ≡ Some (record_of z (route_of actor s (k + 1) r ∷ h) j)) →
    messages ≡ flight z (route_of actor s (k + 1) r ∷ h) →
    StandsFor (after_route t s (k + 1) ends messages) z (route_of actor s (k + 1) r ∷ h)
routed_stands t z h s actor k r ends messages st l is ends_are messages_are = record {
  board = st.board;
  eases = st.eases;
  routes = set_gives t.routes s z.board.limits.sources (k + 1)
      (routes z h) (routes z (route_of actor s (k + 1) r ∷ h)) st.routes l
      (rw (eq-eqb s s refl) (omega arith))
      (λ j other. rw (ne_eqb s j (λ same. other (sym same))) (omega arith));
  ends = ends_are;
  messages = messages_are;
}

-- a route that reaches no END
dropped : (t : Kept) (z : Start) (h : List Entry) (s actor k : ℕ) →
    StandsFor t z h → s < z.board.limits.sources → k ≡ routes z h s →
    StandsFor (after_route t s (k + 1) t.ends t.messages) z
    (route_of actor s (k + 1) routed.NoSource ∷ h)
dropped t z h s actor k st l is = routed_stands t z h s actor k routed.NoSource t.ends t.messages st l is
    (λ j l. st.ends j l ∙ ap Some (sym (nothing_entered z h j)))
    (st.messages ∙ sym (append-nil (flight z h)))

masked : (t : Kept) (z : Start) (h : List Entry) (s actor k : ℕ) →
    StandsFor t z h → s < z.board.limits.sources → k ≡ routes z h s →
    StandsFor (after_route t s (k + 1) t.ends t.messages) z
    (route_of actor s (k + 1) routed.Masked ∷ h)
masked t z h s actor k st l is = routed_stands t z h s actor k routed.Masked t.ends t.messages st l is
    (λ j l. st.ends j l ∙ ap Some (sym (nothing_entered z h j)))
    (st.messages ∙ sym (append-nil (flight z h)))

-- a route by a pass of e, whose END is valid or not, and writes or not
passed_by : (t : Kept) (z : Start) (h : List Entry) (s actor k e : ℕ) (w : Wrote) (next : Then)
    (writes valid : Bool) → StandsFor t z h → s < z.board.limits.sources → k ≡ routes z h s →
    e < ends_per_processor * z.board.limits.processors →
    let after = if valid then counted_in z h e true (count_by z h e writes) (taken h e) else record_of z h e in
    let run = if valid then Ran e (if writes then Some w else None) next else NoEnd e in
    StandsFor (after_route t s (k + 1) (slice_set t.ends e after)
    (t.messages ++ made_for s (end_config z h e) run)) z
    (route_of actor s (k + 1) (routed.Run run) ∷ h)
passed_by t z h s actor k e w next writes true st l is le =
    let r = ran_by e writes w next in
    routed_stands t z h s actor k r _ _ st l is
    (set_gives t.ends e (ends_per_processor * z.board.limits.processors) _
    (record_of z h) (record_of z (route_of actor s (k + 1) r ∷ h)) st.ends le
    (sym (ran_routed z h s actor (k + 1) e e w next writes ∙ at_same e _ (record_of z h e)))
    (λ j other. ran_routed z h s actor (k + 1) e j w next writes ∙ at_other e j _ (record_of z h j) other))
    (ap (λ ms. ms ++ messages_by next e (end_config z h e) s) st.messages)
passed_by t z h s actor k e w next writes false st l is le =
    let r = routed.Run (NoEnd e) in
    routed_stands t z h s actor k r _ _ st l is
    (set_gives t.ends e (ends_per_processor * z.board.limits.processors) (record_of z h e)
    (record_of z h) (record_of z (route_of actor s (k + 1) r ∷ h)) st.ends le
    (sym (nothing_entered z h e)) (λ j other. nothing_entered z h j))
    (ap (λ ms. ms ++ []) st.messages)

-- a route by a pass of e, where r is what is kept of e, and p the payload
passed : (t : Kept) (z : Start) (h : List Entry) (s actor k e p : ℕ) (r : EndRecord) →
    StandsFor t z h → s < z.board.limits.sources → k ≡ routes z h s →
    e < ends_per_processor * z.board.limits.processors → r ≡ record_of z h e →
    StandsFor (after_route t s (k + 1) (slice_set t.ends e (after_pass r))
    (t.messages ++ made_for s r.config (pass_by r e p))) z
    (route_of actor s (k + 1) (routed.Run (pass_by r e p)) ∷ h)
passed t z h s actor k e p r st l is le same =
    let c = end_config z h e in
    subst (λ (r : EndRecord). StandsFor (after_route t s (k + 1) (slice_set t.ends e (after_pass r))
    (t.messages ++ made_for s r.config (pass_by r e p))) z
    (route_of actor s (k + 1) (routed.Run (pass_by r e p)) ∷ h)) (sym same)
    (passed_by t z h s actor k e (wrote_at c (c.start + written_count z h e) p)
    (next_by c (esn z h e)) (enqueues c) (is_valid c) st l is le)

-- a notice of a source with the EAS of these parts, whose END is r
routed_by_parts : (t : Kept) (z : Start) (h : List Entry) (s actor k : ℕ) (valid off : Bool) (e p : ℕ)
    (r : EndRecord) → StandsFor t z h → s < z.board.limits.sources → k ≡ routes z h s →
    e < ends_per_processor * z.board.limits.processors → r ≡ record_of z h e →
    StandsFor (after_route t s (k + 1)
    (if valid && not off then slice_set t.ends e (after_pass r) else t.ends)
    (if valid && not off then t.messages ++ made_for s r.config (pass_by r e p) else t.messages))
    z
    (route_of actor s (k + 1)
    (if not valid then routed.NoSource
    else (if off then routed.Masked else routed.Run (pass_by r e p))) ∷ h)
routed_by_parts t z h s actor k false off e p r st l is le same = dropped t z h s actor k st l is
routed_by_parts t z h s actor k true true e p r st l is le same = masked t z h s actor k st l is
routed_by_parts t z h s actor k true false e p r st l is le same =
    passed t z h s actor k e p r st l is le same

-- what is kept of the END of an EAS
pub end_found : (t : Kept) (z : Start) (h : List Entry) (e : ℕ) →
    StandsFor t z h → e < ends_per_processor * t.board.limits.processors → end_in t.ends e ≡ record_of z h e
end_found t z h e st l =
    read t.ends e (ends_per_processor * z.board.limits.processors) (end_in t.ends e) first_end (record_of z h) st.ends
    (subst (λ b. e < ends_per_processor * b.limits.processors) st.board l) refl

-- a notice of a source with the EAS a, by which the answer, the ENDs and the messages are these
pub route_stands : (t : Kept) (z : Start) (h : List Entry) (s actor k : ℕ) (a : Eas) (r : Routed)
    (ends : List EndRecord) (messages : List Message) →
    StandsFor t z h → s < t.board.limits.sources → k ≡ slice_index_or t.routes s k →
    a.end < ends_per_processor * t.board.limits.processors →
    r ≡ routed_in t.ends a → ends ≡ ends_after t.ends a →
    messages ≡ messages_after s t.ends a t.messages →
    StandsFor (after_route t s (k + 1) ends messages) z (route_of actor s (k + 1) r ∷ h)
route_stands t z h s actor k a r ends messages st l is_k le is_r are_ends are_messages =
    let inside = subst (λ b. s < b.limits.sources) st.board l in
    let done = routed_by_parts t z h s actor k a.valid a.masked a.end a.eisn (end_in t.ends a.end)
    st inside (read t.routes s z.board.limits.sources k k (routes z h) st.routes inside is_k)
    (subst (λ b. a.end < ends_per_processor * b.limits.processors) st.board le) (end_found t z h a.end st le) in
    subst (λ (r : Routed). StandsFor (after_route t s (k + 1) ends messages) z
    (route_of actor s (k + 1) r ∷ h)) (sym is_r)
    (subst (λ (ends : List EndRecord). StandsFor (after_route t s (k + 1) ends messages) z
    (route_of actor s (k + 1) (routed_in t.ends a) ∷ h)) (sym are_ends)
    (subst (λ (messages : List Message). StandsFor (after_route t s (k + 1) (ends_after t.ends a)
    messages) z (route_of actor s (k + 1) (routed_in t.ends a) ∷ h)) (sym are_messages)
    done))

-- What is answered.

routed_same : (z : Start) (h : List Entry) (a : Eas) (r : EndRecord) → r ≡ record_of z h a.end →
    (if not a.valid then routed.NoSource
    else (if a.masked then routed.Masked else routed.Run (pass_by r a.end a.eisn)))
    ≡ routed_by z h a
routed_same z h a r e =
    ap (λ r. if not a.valid then routed.NoSource
    else (if a.masked then routed.Masked else routed.Run (pass_by r a.end a.eisn))) e

-- what a route answers, where a notice is outstanding and there is room for a message
answer_by : (f k messages : ℕ) (r : Routed) → k < f → messages ≢ most_messages →
    (if f - k == 0 then out.NoNotice
    else (if messages == most_messages then out.BusFull else out.Routed (k + 1) r))
    ≡ out.Routed (k + 1) r
answer_by f k messages r l room = rw (ne_eqb (f - k) 0 (λ e. omega arith), ne_eqb messages most_messages room) refl

full_by : (f k messages : ℕ) (r : Routed) → k < f → messages ≡ most_messages →
    (if f - k == 0 then out.NoNotice
    else (if messages == most_messages then out.BusFull else out.Routed (k + 1) r))
    ≡ out.BusFull
full_by f k messages r l full = rw (ne_eqb (f - k) 0 (λ e. omega arith), eq-eqb messages most_messages full) refl

-- the answer r of a notice of a source with the EAS a
pub route_answer : (t : Kept) (z : Start) (h : List Entry) (s f k : ℕ) (a : Eas) (r : Routed) →
    StandsFor t z h → s < t.board.limits.sources → k ≡ slice_index_or t.routes s k →
    a ≡ eas_in t.eases s → a.end < ends_per_processor * t.board.limits.processors →
    f ≡ forwards z h s → k < f → length t.messages ≢ most_messages → r ≡ routed_in t.ends a →
    out.Routed (k + 1) r ≡ route_outcome z h s
route_answer t z h s f k a r st l is_k is_a le is_f due room is_r =
    let inside = subst (λ b. s < b.limits.sources) st.board l in
    let same_k = read t.routes s z.board.limits.sources k k (routes z h) st.routes inside is_k in
    let same_a = read t.eases s z.board.limits.sources a masked_off (eas z h) st.eases inside is_a in
    let same : routed_in t.ends a ≡ routed_by z h (eas z h s) =
    routed_same z h a (end_in t.ends a.end) (end_found t z h a.end st le)
    ∙ ap (routed_by z h) same_a in
    ap (λ k. out.Routed (k + 1) r) same_k ∙ ap (out.Routed (routes z h s + 1)) (is_r ∙ same)
    ∙ sym (answer_by (forwards z h s) (routes z h s) (length (flight z h))
    (routed_by z h (eas z h s)) (omega arith) (λ e. room (ap length st.messages ∙ e)))

pub full_answer : (t : Kept) (z : Start) (h : List Entry) (s f k : ℕ) →
    StandsFor t z h → s < t.board.limits.sources → k ≡ slice_index_or t.routes s k →
    f ≡ forwards z h s → k < f → length t.messages ≡ most_messages → out.BusFull ≡ route_outcome z h s
full_answer t z h s f k st l is_k is_f due full =
    let inside = subst (λ b. s < b.limits.sources) st.board l in
    let same_k = read t.routes s z.board.limits.sources k k (routes z h) st.routes inside is_k in
    sym (full_by (forwards z h s) (routes z h s) (length (flight z h))
    (routed_by z h (eas z h s)) (omega arith) (sym (ap length st.messages) ∙ full))
