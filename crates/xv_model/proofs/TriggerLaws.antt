-- What becomes of triggers in a legal account.
use Rattle.std.proofs.Common.{ℕ, suc, ◌≡◌, ◌==◌, ◌+◌, ◌<◌, Bool, true, false, not, if◌then◌else◌, ◌&&◌, List, [], ◌∷◌, ◌++◌, Option, Some, None, refl, sym, ◌∙◌, ap, subst, ◌⊎◌, arith, lit<, append_assoc, append-nil}
use Rattle.std.proofs.lemmas.Bool.{and_parts}
use Rattle.std.proofs.lemmas.Bool.Decides.{nat_tests}
use Rattle.std.proofs.lemmas.List.Sums.{sum_by-cons}
use Rattle.std.specs.List.{list_all}
use Rattle.std.specs.Option.{option_map_or}
use Rattle.xv_model.specs.declared.board.Board.{Board}
use Rattle.xv_model.specs.declared.operations.PqOp.{PqOp}
use Rattle.xv_model.specs.declared.operations.PqOp.TheVariants.{Trigger, Eoi, Get, Set, Raise, Lower, Init}
use Rattle.xv_model.specs.declared.outcomes.Outcome.{Outcome}
use Rattle.xv_model.specs.declared.entries.Entry.{Entry}
use Rattle.xv_model.specs.account.Start.{Start, start}
use Rattle.xv_model.specs.account.Kinds.{WordAccess, access_of}
use Rattle.xv_model.specs.source.PqTable.{pq_row}
use Rattle.xv_model.specs.source.Pairs.{Touch, change_in, touch_by, touch_at, touch_of, pq, asserted}
use Rattle.xv_model.specs.source.Notices.{forwards}
use Rattle.xv_model.specs.board.Boards.{is_level}
use Rattle.xv_model.specs.account.Legal.{IsLegal, IsNext, answer_by}
use Rattle.xv_model.specs.laws.Triggers.{number_of, forward_numbers, down_from, is_trigger, is_eoi, ends_queue, is_access, is_forwarded, is_coalesced, is_ignored, is_spent, triggers, leaves_queue, NumberedInOrder, EachTriggerAccounted, CoalescedComesAgain}
use Rattle.xv_model.proofs.OneAccount.{legal_before}
use Rattle.xv_model.proofs.Touches.{cell_at, legal_touch, touch_is, word_outcome}
use Rattle.xv_model.proofs.SmallPairs.{pq-below}

-- one more number
pub down_from-one : (n : ℕ) → down_from (1 + n) ≡ (n + 1) ∷ down_from n
down_from-one n = let e : 1 + n ≡ suc n = omega arith in let f : n + 1 ≡ suc n = omega arith in rw (e, f) refl

-- no more number
pub down_from-zero : (n : ℕ) → down_from (0 + n) ≡ down_from n
down_from-zero n = ap down_from (omega arith)

-- what a touch adds to the numbers, by whether it forwards
added_by : (f : Bool) (n : ℕ) (t : Touch) (ns : List ℕ) → t.forward ≡ (if f then n + 1 else 0) → ns ≡ down_from n → number_of (Some t) ++ ns ≡ down_from ((if t.forward == 0 then 0 else 1) + n)
added_by true n t ns w e = grind (arith, nat_tests, down_from-one n, down_from-zero n)
added_by false n t ns w e = grind (arith, nat_tests, down_from-one n, down_from-zero n)

-- what one more entry adds to the numbers
added : (f : Touch → Bool) (n : ℕ) (m : Option Touch) (ns : List ℕ) → ((t : Touch) → m ≡ Some t → t.forward ≡ (if f t then n + 1 else 0)) → ns ≡ down_from n → number_of m ++ ns ≡ down_from (option_map_or (λ t. if t.forward == 0 then 0 else 1) m 0 + n)
added f n None ns follows e = e ∙ sym (down_from-zero n)
added f n (Some t) ns follows e = added_by (f t) n t ns (follows t refl) e

-- the numbers of the forwards go on from those of the start record
numbered : (z : Start) (h : List Entry) (s : ℕ) → IsLegal z h → forward_numbers z.board h s ++ down_from (z.forwards s) ≡ down_from (forwards z h s)
numbered z [] s l = refl
numbered z (x ∷ h) s l =
    append_assoc (number_of (touch_at s (touch_of z.board x))) (forward_numbers z.board h s) (down_from (z.forwards s))
    ∙ added (λ t. (cell_at z h s t).forwards) (forwards z h s) (touch_at s (touch_of z.board x)) _ (λ t e. (legal_touch z h s x t l.1 e).forward) (numbered z h s l.0)

-- the forwards of a source have the numbers 1, 2, 3 and so on, in order
pub numbered_in_order : NumberedInOrder
numbered_in_order b h l s = sym (append-nil _) ∙ numbered (start b) h s l

-- an operation that leaves a queued event leaves the pair 11
keeps_three : (o : PqOp) (level on : Bool) → ends_queue o ≡ false → (pq_row o level on 3).pair ≡ 3
keeps_three Trigger level on e = refl
keeps_three Get level on e = refl
keeps_three Raise level on e = refl
keeps_three Lower level on e = refl
keeps_three Eoi level on e = cc
keeps_three (Set new) level on e = cc
keeps_three (Init asserted) level on e = cc

-- the operation of an entry on s that leaves the queued event of s
kept_op : (s : ℕ) (m : Option WordAccess) (o : PqOp) → m ≡ Some (record { source = s; op = o }) → not (is_access s ends_queue m) ≡ true → ends_queue o ≡ false
kept_op s m o e k = let w = subst (λ v. not (is_access s ends_queue v) ≡ true) e k in grind (arith, nat_tests)

-- the pair after an entry is that of its touch
after_touch : (q : ℕ) (m : Option Touch) → ((t : Touch) → m ≡ Some t → t.new ≡ q) → (k : ℕ) → k ≡ q → option_map_or (λ t. t.new) m k ≡ q
after_touch q None w k e = e
after_touch q (Some t) w k e = w t refl

-- the pair stays 11 while each later entry leaves the queued event
kept_queued : (z : Start) (h later : List Entry) (s : ℕ) → IsLegal z (later ++ h) → list_all (leaves_queue z.board s) later ≡ true → pq z h s ≡ 3 → pq z (later ++ h) s ≡ 3
kept_queued z h [] s l k e = e
kept_queued z h (x ∷ later) s l k e =
    let both = and_parts (leaves_queue z.board s x) (list_all (leaves_queue z.board s) later) k in
    let before : pq z (later ++ h) s ≡ 3 = kept_queued z h later s l.0 both.1 e in
    after_touch 3 (touch_at s (touch_of z.board x)) (λ t w.
    let op_is = touch_is s (access_of z.board x.op) x.outcome t w in
    let f = legal_touch z (later ++ h) s x t l.1 w in
    let keeps = kept_op s (access_of z.board x.op) t.op op_is both.0 in
    f.new ∙ subst (λ q. (pq_row t.op (is_level z.board s) (asserted z (later ++ h) s) q).pair ≡ 3) (sym before) (keeps_three t.op _ _ keeps))
    _ before

-- an access to s by an operation of a kind has an operation of that kind
access_at : (s : ℕ) (kind : PqOp → Bool) (m : Option WordAccess) → is_access s kind m ≡ true → (o : PqOp) × (m ≡ Some (record { source = s; op = o })) × (kind o ≡ true)
access_at s kind None e = cc
access_at s kind (Some a) e = (a.op, grind (arith, nat_tests), (and_parts (a.source == s) (kind a.op) e).1)

-- an operation that is a trigger is Trigger
trigger_op : (o : PqOp) → is_trigger o ≡ true → o ≡ Trigger
trigger_op Trigger e = refl
trigger_op _ e = cc

-- an operation that is an EOI is Eoi
eoi_op : (o : PqOp) → is_eoi o ≡ true → o ≡ Eoi
eoi_op Eoi e = refl
eoi_op _ e = cc

-- an access to s that is a trigger is the trigger of s
trigger_access : (s : ℕ) (m : Option WordAccess) → is_access s is_trigger m ≡ true → m ≡ Some (record { source = s; op = Trigger })
trigger_access s m e = let a = access_at s is_trigger m e in a.1 ∙ ap (λ o. Some (record { source = s; op = o })) (trigger_op a.0 a.2)

-- an access to s that is an EOI is the EOI of s
eoi_access : (s : ℕ) (m : Option WordAccess) → is_access s is_eoi m ≡ true → m ≡ Some (record { source = s; op = Eoi })
eoi_access s m e = let a = access_at s is_eoi m e in a.1 ∙ ap (λ o. Some (record { source = s; op = o })) (eoi_op a.0 a.2)

-- a coalesced trigger of a message source leaves the pair 11, by its answer
queued_by : (s q n k : ℕ) (on : Bool) → is_coalesced (answer_by (pq_row Trigger false on q) q n) ≡ true → option_map_or (λ t. t.new) (touch_at s (touch_by (Some (record { source = s; op = Trigger })) (change_in (answer_by (pq_row Trigger false on q) q n)))) k ≡ 3
queued_by s q n k on c = grind (arith, nat_tests)

-- a coalesced trigger of a message source leaves the pair 11
queued : (s q n k : ℕ) (on level : Bool) (m : Option WordAccess) (o : Outcome) → level ≡ false → m ≡ Some (record { source = s; op = Trigger }) → o ≡ answer_by (pq_row Trigger level on q) q n → is_coalesced o ≡ true → option_map_or (λ t. t.new) (touch_at s (touch_by m (change_in o))) k ≡ 3
queued s q n k on level m o f a e c =
    let e' = subst (λ v. o ≡ answer_by (pq_row Trigger v on q) q n) f e in
    rw (a, e') (queued_by s q n k on (subst (λ v. is_coalesced v ≡ true) e' c))

-- an EOI at the pair 11 forwards or is spent
eoi_by : (n : ℕ) (on level : Bool) → (is_forwarded (answer_by (pq_row Eoi level on 3) 3 n) ≡ true) ⊎ (is_spent (answer_by (pq_row Eoi level on 3) 3 n) ≡ true)
eoi_by n true true = grind (arith, nat_tests)
eoi_by n true false = grind (arith, nat_tests)
eoi_by n false true = grind (arith, nat_tests)
eoi_by n false false = grind (arith, nat_tests)

-- after a coalesced trigger of a message source its next EOI, as the last entry, forwards or is spent
last_again : (b : Board) (h later : List Entry) (t e : Entry) (s : ℕ) → IsLegal (start b) (e ∷ (later ++ t ∷ h)) → is_level b s ≡ false →
    is_access s is_trigger (access_of b t.op) ≡ true → is_coalesced t.outcome ≡ true →
    list_all (leaves_queue b s) later ≡ true → is_access s is_eoi (access_of b e.op) ≡ true →
    (is_forwarded e.outcome ≡ true) ⊎ (is_spent e.outcome ≡ true)
last_again b h later t e s l message trigger coalesced leaves eoi =
    let z = start b in
    let at_t = legal_before z later (t ∷ h) l.0 in
    let a = trigger_access s (access_of b t.op) trigger in
    let three : pq z (t ∷ h) s ≡ 3 = queued s (pq z h s) (forwards z h s) _ (asserted z h s) (is_level b s) (access_of b t.op) t.outcome message a (word_outcome z h s t Trigger at_t.1 a) coalesced in
    let still : pq z (later ++ t ∷ h) s ≡ 3 = kept_queued z (t ∷ h) later s l.0 leaves three in
    let out_is = word_outcome z (later ++ t ∷ h) s e Eoi l.1 (eoi_access s (access_of b e.op) eoi) in
    let out_three : e.outcome ≡ answer_by (pq_row Eoi (is_level b s) (asserted z (later ++ t ∷ h) s) 3) 3 (forwards z (later ++ t ∷ h) s) = subst (λ q. e.outcome ≡ answer_by (pq_row Eoi (is_level b s) (asserted z (later ++ t ∷ h) s) q) q (forwards z (later ++ t ∷ h) s)) still out_is in
    subst (λ o. (is_forwarded o ≡ true) ⊎ (is_spent o ≡ true)) (sym out_three) (eoi_by (forwards z (later ++ t ∷ h) s) (asserted z (later ++ t ∷ h) s) (is_level b s))

-- after a coalesced trigger of a message source its next EOI forwards or is spent
pub comes_again : CoalescedComesAgain
comes_again b h l before between after t e s is = last_again b before between t e s (legal_before (start b) after (e ∷ (between ++ t ∷ before)) (subst (IsLegal (start b)) is l))

-- the answer to a trigger is of one of the four kinds
four_kinds : (n q : ℕ) (level on : Bool) → q < 4 →
    let o = answer_by (pq_row Trigger level on q) q n in
    (if is_forwarded o then 1 else 0) + (if is_coalesced o then 1 else 0) + (if is_ignored o then 1 else 0) + (if is_spent o then 1 else 0) ≡ 1
four_kinds n q level on l = grind (arith, nat_tests)

-- the kinds of one outcome, where it is a trigger's or not
kinds_of_one : (u : Bool) (o : Outcome) → (u ≡ true → (if is_forwarded o then 1 else 0) + (if is_coalesced o then 1 else 0) + (if is_ignored o then 1 else 0) + (if is_spent o then 1 else 0) ≡ 1) →
    (if u && true then 1 else 0) ≡ (if u && is_forwarded o then 1 else 0) + (if u && is_coalesced o then 1 else 0) + (if u && is_ignored o then 1 else 0) + (if u && is_spent o then 1 else 0)
kinds_of_one true o w = sym (w refl)
kinds_of_one false o w = refl

-- the outcome of a trigger of s in a legal account is of one of the four kinds
one_trigger : (z : Start) (h : List Entry) (s : ℕ) (x : Entry) → IsLegal z h → z.pair s < 4 → IsNext z h x → is_access s is_trigger (access_of z.board x.op) ≡ true →
    (if is_forwarded x.outcome then 1 else 0) + (if is_coalesced x.outcome then 1 else 0) + (if is_ignored x.outcome then 1 else 0) + (if is_spent x.outcome then 1 else 0) ≡ 1
one_trigger z h s x l w n e =
    rw (word_outcome z h s x Trigger n (trigger_access s (access_of z.board x.op) e)) (four_kinds (forwards z h s) (pq z h s) (is_level z.board s) (asserted z h s) (pq-below z h s l w))

-- one more entry
triggers_more : (b : Board) (s : ℕ) (kind : Outcome → Bool) (x : Entry) (h : List Entry) → triggers b s kind (x ∷ h) ≡ (if is_access s is_trigger (access_of b x.op) && kind x.outcome then 1 else 0) + triggers b s kind h
triggers_more b s kind x h = sum_by-cons (λ x. if is_access s is_trigger (access_of b x.op) && kind x.outcome then 1 else 0) x h

-- each trigger of s after a start record whose pairs are pairs is of one of the four kinds
accounted : (z : Start) (h : List Entry) (s : ℕ) → IsLegal z h → z.pair s < 4 →
    triggers z.board s (λ o. true) h ≡ triggers z.board s is_forwarded h + triggers z.board s is_coalesced h + triggers z.board s is_ignored h + triggers z.board s is_spent h
accounted z [] s l w = refl
accounted z (x ∷ h) s l w =
    let before = accounted z h s l.0 w in
    let one = kinds_of_one (is_access s is_trigger (access_of z.board x.op)) x.outcome (one_trigger z h s x l.0 w l.1) in
    rw (triggers_more z.board s (λ o. true) x h, triggers_more z.board s is_forwarded x h, triggers_more z.board s is_coalesced x h, triggers_more z.board s is_ignored x h, triggers_more z.board s is_spent x h) (omega (arith, before, one))

-- each trigger of a source is forwarded, coalesced, ignored or spent
pub each_accounted : EachTriggerAccounted
each_accounted b h l s = accounted (start b) h s l (lit< tt)
