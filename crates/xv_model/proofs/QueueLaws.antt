-- What is read of a queue in a legal account: what was written, in order.
use Rattle.std.proofs.Common.{ℕ, ◌≡◌, ◌+◌, ◌<◌, ◌≤◌, ◌^◌, ◌==◌, true, if◌then◌else◌, ◌&&◌, List, [], ◌∷◌, ◌++◌, length, Some, None, refl, sym, ◌∙◌, ap, subst, arith, ◌⊎◌, inl, inr, lit<, append_assoc, append-nil, length-append, eq-eqb, ne_eqb}
use Rattle.std.proofs.lemmas.Bool.{cases_eq, and_from}
use Rattle.std.proofs.lemmas.List.Elements.{All-head, All-tail}
use Rattle.std.specs.Option.{option_map_or}
use Rattle.xv_model.specs.declared.operations.EndConfig.{EndConfig}
use Rattle.xv_model.specs.declared.operations.Op.{Op}
use Rattle.xv_model.specs.declared.operations.Op.TheVariants as op
use Rattle.xv_model.specs.declared.outcomes.Outcome.{Outcome}
use Rattle.xv_model.specs.declared.outcomes.Outcome.TheVariants as out
use Rattle.xv_model.specs.declared.board.Board.{Board}
use Rattle.xv_model.specs.declared.entries.Entry.{Entry}
use Rattle.xv_model.specs.account.Start.{Start, start}
use Rattle.xv_model.specs.account.Kinds.{run_of}
use Rattle.xv_model.specs.account.Legal.{IsLegal, IsNext, legal}
use Rattle.xv_model.specs.end.Flags.{is_valid, enqueues}
use Rattle.xv_model.specs.end.Descriptors.{config_by, end_config, until_config}
use Rattle.xv_model.specs.end.Written.{wrote_in, payload_of, entered, written, written_count}
use Rattle.xv_model.specs.end.Memory.{entries, place, word_at}
use Rattle.xv_model.specs.end.Reading.{item_in, taken, taken_count, read_by, read_outcome}
use Rattle.xv_model.specs.laws.Queues.{IsFresh, KeepsUp, LeavesQueue, IsOwnQueue, next_item, EachReadsNext, EachReadsAsWritten}
use Rattle.xv_model.proofs.OneAccount.{legal_before}
use Rattle.xv_model.proofs.QueueWords.{word_of, Sets, Holds, holds_kept, holds_more, reads_next}
use Rattle.xv_model.proofs.QueuePasses.{pass_of, pass_sets, pass_enters, wrote_or_not, enters_none, word_kept}
use Rattle.xv_model.specs.account.Fit.{IsFitStart}
use Rattle.xv_model.proofs.FlightRanges.{messages_fit, fit_start}
use Rattle.xv_model.proofs.SmallEisns.{small_start}

-- the queue of e after an account: it is configured so, what was taken is a beginning of what was written, and the page holds the rest
pub record IsQueue (z : Start) (h : List Entry) (e : ℕ) (c : EndConfig) : Type 0 where
  pub config : end_config z h e ≡ c
  pub fresh_count : (n : ℕ) → until_config n h e ≡ 0
  pub page : Holds c (word_at z h) (written z h e)
  pub unread : List ℕ
  pub whole : written z h e ≡ taken h e ++ unread

-- the payloads that an account begins with are in range
pub record IsSmallStart (z : Start) : Type 0 where
  pub eisns : (s : ℕ) → (z.eas s).eisn < 2 ^ 31
  pub fit : IsFitStart z

pub small_start_of : (b : Board) → IsSmallStart (start b)
small_start_of b = record { eisns = small_start b; fit = fit_start b }

-- a configuration begins a queue
begins : (z : Start) (before : List Entry) (x : Entry) (e : ℕ) (c : EndConfig) → config_by e x ≡ Some c → IsFresh z (x ∷ before) c → IsQueue z (x ∷ before) e c
begins z before x e c is fresh =
    let nothing : written z (x ∷ before) e ≡ [] = ap (λ m. option_map_or (λ c. []) m (written z before e ++ entered z before x e)) is in
    let none : taken (x ∷ before) e ≡ [] = ap (λ m. option_map_or (λ c. []) m (taken before e ++ item_in x.op x.outcome e)) is in
    record {
      config = ap (λ m. option_map_or (λ c. c) m (end_config z before e)) is;
      fresh_count = λ n. ap (λ m. option_map_or (λ c. 0) m (until_config n before e)) is;
      page = subst (Holds c (word_at z (x ∷ before))) (sym nothing) (record {
        held = λ k l m. absurd (omega arith);
        free = λ k l m. fresh k (omega arith);
        small = λ k. lit< tt;
      });
      unread = [];
      whole = nothing ∙ sym (append-nil []) ∙ ap (λ v. v ++ []) (sym none);
    }

-- an entry that doesn't configure e adds what it wrote
written_more : (z : Start) (h : List Entry) (x : Entry) (e : ℕ) → config_by e x ≡ None → written z (x ∷ h) e ≡ written z h e ++ entered z h x e
written_more z h x e none = ap (λ m. option_map_or (λ c. []) m (written z h e ++ entered z h x e)) none

-- and what it took
taken_more : (h : List Entry) (x : Entry) (e : ℕ) → config_by e x ≡ None → taken (x ∷ h) e ≡ taken h e ++ item_in x.op x.outcome e
taken_more h x e none = ap (λ m. option_map_or (λ c. []) m (taken h e ++ item_in x.op x.outcome e)) none

-- after an entry, the words of an account have the word of one more entry of a queue
abbrev SetsEntry : Start → List Entry → Entry → ℕ → ℕ → EndConfig → Type 0
SetsEntry z h x j payload c = Sets (place c j) (word_of c j payload) (word_at z h) (word_at z (x ∷ h))

-- one more entry that leaves e its queue: the page holds what was written then
page_more : (z : Start) (h : List Entry) (x : Entry) (e : ℕ) (c : EndConfig) → IsNext z h x → LeavesQueue e c x → IsSmallStart z → IsLegal z h → IsQueue z h e c →
    Holds c (word_at z (x ∷ h)) (written z h e ++ entered z h x e)
page_more z h x e c n leaves small l q =
    elim (wrote_or_not e (wrote_in (run_of x.op x.outcome))) [
      | inl is ↦
          let p = pass_of z h x e small.eisns (messages_fit z h l small.fit) n is in
          let count : written_count z h e ≡ length (written z h e) = omega (arith, q.fresh_count (z.written_count e)) in
          let number : (end_config z h e).start + written_count z h e ≡ c.start + length (written z h e) = ap (λ v. v.start + written_count z h e) q.config ∙ ap (λ v. c.start + v) count in
          let sets = subst (SetsEntry z h x (c.start + length (written z h e)) p.payload) q.config (pass_sets z h x e (c.start + length (written z h e)) p number) in
          subst (λ v. Holds c (word_at z (x ∷ h)) (written z h e ++ v)) (sym (pass_enters z h x e p is))
          (holds_more c (word_at z h) (word_at z (x ∷ h)) (written z h e) p.payload p.small sets q.page)
      | inr differs ↦
          let nothing : written z h e ++ entered z h x e ≡ written z h e = ap (λ v. written z h e ++ v) (enters_none z h x e differs) ∙ append-nil (written z h e) in
          subst (Holds c (word_at z (x ∷ h))) (sym nothing)
          (holds_kept c (word_at z h) (word_at z (x ∷ h)) (written z h e) (λ j. word_kept z h x (place c j) (λ word is. differs (leaves.words j word is))) q.page)
    ]

-- what a read of a queue with v and q answers
read_on : (c d : EndConfig) (t : ℕ) (words : ℕ → ℕ) → d ≡ c → is_valid c ≡ true → enqueues c ≡ true →
    (if is_valid d && enqueues d then read_by d (d.start + t) (words (place d (d.start + t))) else out.NoQueue) ≡ read_by c (c.start + t) (words (place c (c.start + t)))
read_on c d t words same v q =
    ap (λ d. if is_valid d && enqueues d then read_by d (d.start + t) (words (place d (d.start + t))) else out.NoQueue) same
    ∙ ap (λ b. if b then read_by c (c.start + t) (words (place c (c.start + t))) else out.NoQueue) (and_from (is_valid c) (enqueues c) v q)

-- where the reader keeps up, a read finds the next payload
pub read_next : (z : Start) (h : List Entry) (e : ℕ) (c : EndConfig) → is_valid c ≡ true → enqueues c ≡ true → IsQueue z h e c → KeepsUp z h e →
    read_outcome z h e ≡ next_item (written z h e) (taken_count z h e)
read_next z h e c v on q keeps =
    let no_more : until_config (z.taken_count e) h e ≡ 0 = q.fresh_count (z.taken_count e) in
    let no_other : until_config (z.written_count e) h e ≡ 0 = q.fresh_count (z.written_count e) in
    let some : taken_count z h e ≤ length (written z h e) = omega (arith, ap length q.whole, length-append (taken h e) q.unread) in
    let near : length (written z h e) ≤ taken_count z h e + entries c = subst (λ d. length (written z h e) ≤ taken_count z h e + entries d) q.config (omega arith) in
    read_on c (end_config z h e) (taken_count z h e) (word_at z h) q.config v on
    ∙ reads_next c (word_at z h) (written z h e) (taken_count z h e) q.page some near

-- an entry took nothing from the queue of e, or it is a read of e that found a payload
takes : (e : ℕ) (o : Op) (u : Outcome) → (item_in o u e ≡ []) ⊎ ((p : ℕ) × (o ≡ op.Read e) × (u ≡ out.Item p))
takes e (op.Read r) (out.Item p) = elim (cases_eq r e) [ inl same ↦ inr (p, ap op.Read same, refl) | inr differs ↦ inl (ap (λ b. if b then p ∷ [] else []) (ne_eqb r e differs)) ]
takes e (op.Read r) _ = inl refl
takes e _ u = inl refl

-- the next payload after so many is the first of the rest
next_of : (ts rest : List ℕ) (p : ℕ) → out.Item p ≡ next_item (ts ++ rest) (length ts) → (more : List ℕ) × (rest ≡ p ∷ more)
next_of [] [] p is = cc
next_of [] (r ∷ rest) p is = (rest, cc)
next_of (t ∷ ts) rest p is = next_of ts rest p is

-- one more entry leaves what was taken a beginning of what was written
unread_more : (z : Start) (h : List Entry) (x : Entry) (e : ℕ) (c : EndConfig) → (x.op ≡ op.Read e → x.outcome ≡ next_item (written z h e) (taken_count z h e)) → IsQueue z h e c →
    (unread : List ℕ) × (written z h e ++ entered z h x e ≡ (taken h e ++ item_in x.op x.outcome e) ++ unread)
unread_more z h x e c reads q =
    elim (takes e x.op x.outcome) [
      | inl none ↦ (
        q.unread ++ entered z h x e,
        ap (λ v. v ++ entered z h x e) q.whole ∙ append_assoc (taken h e) q.unread (entered z h x e)
            ∙ ap (λ v. v ++ (q.unread ++ entered z h x e)) (sym (append-nil (taken h e)) ∙ ap (λ v. taken h e ++ v) (sym none)),
      )
      | inr (p, is, item) ↦
          let count : taken_count z h e ≡ length (taken h e) = omega (arith, q.fresh_count (z.taken_count e)) in
          let next = next_of (taken h e) q.unread p (sym item ∙ reads is ∙ ap (λ v. next_item v (taken_count z h e)) q.whole ∙ ap (next_item (taken h e ++ q.unread)) count) in
          let nothing : entered z h x e ≡ [] = ap (λ o. option_map_or (λ end. if end == e then payload_of z h o else []) (wrote_in (run_of o x.outcome)) []) is in
          let one : item_in x.op x.outcome e ≡ p ∷ [] = ap (λ o. item_in o x.outcome e) is ∙ ap (λ u. item_in (op.Read e) u e) item ∙ ap (λ b. if b then p ∷ [] else []) (eq-eqb e e refl) in (
            next.0,
            ap (λ v. written z h e ++ v) nothing ∙ append-nil (written z h e) ∙ q.whole ∙ ap (λ v. taken h e ++ v) next.1
                ∙ sym (append_assoc (taken h e) (p ∷ []) next.0) ∙ ap (λ v. (taken h e ++ v) ++ next.0) (sym one),
          )
    ]

-- a read of a legal account answers what a read answers
read_answer : (z : Start) (h : List Entry) (x : Entry) (e : ℕ) → IsNext z h x → x.op ≡ op.Read e → x.outcome ≡ read_outcome z h e
read_answer z h x e n is = n.outcome ∙ ap (legal z h) is

-- one more entry that leaves e its queue
goes_on : (z : Start) (h : List Entry) (x : Entry) (e : ℕ) (c : EndConfig) → IsNext z h x → is_valid c ≡ true → enqueues c ≡ true → LeavesQueue e c x → IsSmallStart z → IsLegal z h →
    (x.op ≡ op.Read e → KeepsUp z h e) → IsQueue z h e c → IsQueue z (x ∷ h) e c
goes_on z h x e c n v on leaves small l keeps q =
    let more = written_more z h x e leaves.config in
    let rest = unread_more z h x e c (λ is. read_answer z h x e n is ∙ read_next z h e c v on q (keeps is)) q in
    record {
      config = ap (λ m. option_map_or (λ c. c) m (end_config z h e)) leaves.config ∙ q.config;
      fresh_count = λ k. ap (λ m. option_map_or (λ c. 0) m (until_config k h e)) leaves.config ∙ q.fresh_count k;
      page = subst (Holds c (word_at z (x ∷ h))) (sym more) (page_more z h x e c n leaves small l q);
      unread = rest.0;
      whole = more ∙ rest.1 ∙ ap (λ v. v ++ rest.0) (sym (taken_more h x e leaves.config));
    }

-- the premises of the law hold of an account before its last entry
own_before : (z : Start) (before since : List Entry) (x y : Entry) (e : ℕ) (c : EndConfig) → IsOwnQueue z before x (y ∷ since) e c → IsOwnQueue z before x since e c
own_before z before since x y e c w = record {
  configured = w.configured;
  is_on = w.is_on;
  has_queue = w.has_queue;
  fresh = w.fresh;
  own = All-tail (LeavesQueue e c) y since w.own;
  keeps_up = λ later earlier r is read. w.keeps_up (y ∷ later) earlier r (ap (λ v. y ∷ v) is) read;
}

-- and before its last entries
own_earlier : (z : Start) (before earlier : List Entry) (x : Entry) (e : ℕ) (c : EndConfig) (later : List Entry) → IsOwnQueue z before x (later ++ earlier) e c → IsOwnQueue z before x earlier e c
own_earlier z before earlier x e c [] w = w
own_earlier z before earlier x e c (y ∷ later) w = own_earlier z before earlier x e c later (own_before z before (later ++ earlier) x y e c w)

-- on a page of its own that was fresh, and whose reader keeps up, the queue of e is a queue
pub is_queue : (z : Start) (before : List Entry) (x : Entry) (e : ℕ) (c : EndConfig) → IsSmallStart z → (since : List Entry) → IsLegal z (since ++ x ∷ before) →
    IsOwnQueue z before x since e c → IsQueue z (since ++ x ∷ before) e c
is_queue z before x e c small [] l w = begins z before x e c w.configured w.fresh
is_queue z before x e c small (y ∷ since) l w =
    goes_on z (since ++ x ∷ before) y e c l.1 w.is_on w.has_queue (All-head (LeavesQueue e c) y since w.own) small l.0 (w.keeps_up [] since y refl)
    (is_queue z before x e c small since l.0 (own_before z before since x y e c w))

-- each read of such a queue answers the next payload that was written
pub each_reads_next : EachReadsNext
each_reads_next b h l before since x e c whole w later earlier y is read =
    let z = start b in
    let legal_at : IsLegal z (later ++ (y ∷ (earlier ++ x ∷ before))) =
    subst (IsLegal z) (whole ∙ ap (λ v. v ++ x ∷ before) is ∙ append_assoc later (y ∷ earlier) (x ∷ before)) l in
    let at = legal_before z later (y ∷ (earlier ++ x ∷ before)) legal_at in
    let own = own_earlier z before (y ∷ earlier) x e c later (subst (λ v. IsOwnQueue z before x v e c) is w) in
    let q = is_queue z before x e c (small_start_of b) earlier at.0 (own_before z before earlier x y e c own) in
    read_answer z (earlier ++ x ∷ before) y e at.1 read
    ∙ read_next z (earlier ++ x ∷ before) e c w.is_on w.has_queue q (w.keeps_up later earlier y is read)

-- what was read of such a queue is a beginning of what was written
pub each_reads_as_written : EachReadsAsWritten
each_reads_as_written b h l before since x e c whole w =
    let z = start b in
    let q = is_queue z before x e c (small_start_of b) since (subst (IsLegal z) whole l) w in
    (q.unread, subst (λ v. written z v e ≡ taken v e ++ q.unread) (sym whole) q.whole)
