-- The laws that a migration rests on.
use Rattle.std.proofs.Common.{ℕ, ◌≡◌, ◌==◌, ◌+◌, ◌*◌, ◌/◌, ◌%◌, ◌<◌, ◌&&◌, nat_lt, Bool, true, false, not, if◌then◌else◌, List, [], ◌∷◌, ◌++◌, Option, Some, None, refl, sym, ◌∙◌, ap, subst, arith, div-add-mod'}
use Rattle.std.specs.Prelude.{ℤ, pos}
use Rattle.std.specs.List.{list_all}
use Rattle.std.specs.Option.{option_map_or, option_or}
use Rattle.std.proofs.Math.Nat.{add-mul-mod_self_right, add-mul-div_right}
use Rattle.std.proofs.lemmas.Bool.{and_parts, eqb-true, eq-eqb, ltb-true}
use Rattle.std.proofs.lemmas.Bool.Decides.{nat_tests}
use Rattle.xv_model.specs.declared.board.Board.{Board}
use Rattle.xv_model.specs.declared.kvm.arguments.EqId.{EqId}
use Rattle.xv_model.specs.declared.operations.PqOp.{PqOp}
use Rattle.xv_model.specs.declared.operations.PqOp.TheVariants.{Trigger, Eoi, Get, Set, Raise, Lower, Init}
use Rattle.xv_model.specs.declared.operations.EndConfig.{EndConfig}
use Rattle.xv_model.specs.declared.operations.EqFields.{EqFields}
use Rattle.xv_model.specs.declared.operations.Op.{Op}
use Rattle.xv_model.specs.declared.operations.Op.TheVariants as op
use Rattle.xv_model.specs.declared.outcomes.Outcome.{Outcome}
use Rattle.xv_model.specs.declared.outcomes.Outcome.TheVariants as out
use Rattle.xv_model.specs.declared.entries.Entry.{Entry}
use Rattle.xv_model.specs.declared.outcomes.Phase.{Phase}
use Rattle.xv_model.specs.declared.tima.RingOp.{RingOp}
use Rattle.xv_model.specs.declared.tima.RingOp.TheVariants.{SetCppr, Accept}
use Rattle.xv_model.specs.account.Start.{Start, start}
use Rattle.xv_model.specs.account.Kinds.{WordAccess, access_of}
use Rattle.xv_model.specs.account.Legal.{IsLegal, IsNext}
use Rattle.xv_model.specs.source.Pairs.{Change, Touch, change_in, touch_by, touch_at, old_in, pq, old_pair}
use Rattle.xv_model.specs.end.Descriptors.{end_config, queue_set, first_entry}
use Rattle.xv_model.specs.end.Memory.{entries}
use Rattle.xv_model.specs.end.Written.{written_count}
use Rattle.xv_model.specs.call.Accepted.{is_success}
use Rattle.xv_model.specs.processor.Priorities.{priorities, no_priority, has_priority, byte_of}
use Rattle.xv_model.specs.processor.RingOps.{RingAccess, ring_access}
use Rattle.xv_model.specs.processor.Phases.{is_on, phase}
use Rattle.xv_model.specs.processor.Pending.{accepted_in, pending}
use Rattle.xv_model.specs.processor.Registers.{stored_cppr, cppr_in, cppr_at, cppr_set, cppr}
use Rattle.xv_model.specs.device.Answers.{queue_fields, no_fields, fields_of, vp_state_code}
use Rattle.xv_model.specs.laws.Triggers.{is_access}
use Rattle.xv_model.specs.laws.Migrations.{is_set, sets, EachTellsOldPairs, GoOnAs, EachQueueGoesOn, EachStateGoesOn}
use Rattle.xv_model.proofs.Bytes.{has_byte_of}
use Rattle.xv_model.proofs.Touches.{word_outcome}
use Rattle.xv_model.proofs.QueuePlaces.{some_entries}
use Rattle.xv_model.proofs.SoundMoves.{single, start_single}
use Rattle.xv_model.proofs.AcknowledgementLaws.{IsNextAcknowledgement, ring_answer, cppr_within, accepts_most_favoured}

-- Old pairs.

-- an access that sets the pair of s is one to s, by a set
set_is : (s : ℕ) (m : Option WordAccess) → is_access s is_set m ≡ true → (new : ℕ) × (m ≡ Some (record { source = s; op = Set new }))
set_is s None e = cc
set_is s (Some a) e = by a.op refl
  where
    parts : ((a.source == s) ≡ true) × (is_set a.op ≡ true)
    parts = and_parts (a.source == s) (is_set a.op) e

    by : (o : PqOp) → a.op ≡ o → (new : ℕ) × (Some a ≡ Some (record { source = s; op = Set new }))
    by (Set new) is = (new, let same : a.source ≡ s = eqb-true a.source s parts.0 in λ i. Some (record { source = same i; op = is i }))
    by Trigger is = absurd (let no : is_set Trigger ≡ true = ap is_set (sym is) ∙ parts.1 in cc)
    by Eoi is = absurd (let no : is_set Eoi ≡ true = ap is_set (sym is) ∙ parts.1 in cc)
    by Get is = absurd (let no : is_set Get ≡ true = ap is_set (sym is) ∙ parts.1 in cc)
    by Raise is = absurd (let no : is_set Raise ≡ true = ap is_set (sym is) ∙ parts.1 in cc)
    by Lower is = absurd (let no : is_set Lower ≡ true = ap is_set (sym is) ∙ parts.1 in cc)
    by (Init asserted) is = absurd (let no : is_set (Init asserted) ≡ true = ap is_set (sym is) ∙ parts.1 in cc)

-- what a set of s answers tells the pair before it
old_told : (s new q before : ℕ) → option_map_or (λ t. old_in t.op t.old before) (touch_at s (touch_by (Some (record { source = s; op = Set new })) (change_in (out.Pq q new 0)))) before ≡ q
old_told s new q before = rw (eq-eqb s s refl) refl

-- the pair before a set is told after it
pub set_tells : (z : Start) (h : List Entry) (x : Entry) (s : ℕ) → IsNext z h x → sets z.board s x ≡ true → old_pair z (x ∷ h) s ≡ pq z h s
set_tells z h x s n is =
    let (new, at) = set_is s (access_of z.board x.op) is in
    rw (at, word_outcome z h s x (Set new) n at) (old_told s new (pq z h s) (old_pair z h s))

-- an operation that isn't a set tells of no other pair
same_old : (o : PqOp) (old before : ℕ) → is_set o ≡ false → old_in o old before ≡ before
same_old (Set new) old before e = cc
same_old _ old before e = refl

kept_old_by : (s : ℕ) (m : Option WordAccess) (c : Option Change) (before : ℕ) → is_access s is_set m ≡ false → option_map_or (λ t. old_in t.op t.old before) (touch_at s (touch_by m c)) before ≡ before
kept_old_by s None c before e = refl
kept_old_by s (Some a) None before e = refl
kept_old_by s (Some a) (Some c) before e = by (a.source == s) e
  where
    by : (same : Bool) → (same && is_set a.op) ≡ false → option_map_or (λ (t : Touch). old_in t.op t.old before) (if same then Some (record { source = a.source; op = a.op; old = c.old; new = c.new; forward = c.forward }) else None) before ≡ before
    by true e = same_old a.op c.old before e
    by false e = refl

-- an entry that doesn't set the pair of s leaves what is told
pub kept_old : (z : Start) (h : List Entry) (x : Entry) (s : ℕ) → sets z.board s x ≡ false → old_pair z (x ∷ h) s ≡ old_pair z h s
kept_old z h x s e = kept_old_by s (access_of z.board x.op) (change_in x.outcome) (old_pair z h s) e

not_true : (b : Bool) → not b ≡ true → b ≡ false
not_true true e = cc
not_true false e = refl

-- the pair before a set of s is told, as long as no other one comes
pub tells_old : (z : Start) (since before : List Entry) (x : Entry) (s : ℕ) → IsLegal z (since ++ x ∷ before) → sets z.board s x ≡ true → list_all (λ y. not (sets z.board s y)) since ≡ true →
    old_pair z (since ++ x ∷ before) s ≡ pq z before s
tells_old z [] before x s l is none = set_tells z before x s l.1 is
tells_old z (y ∷ since) before x s l is none =
    let parts = and_parts (not (sets z.board s y)) (list_all (λ y. not (sets z.board s y)) since) none in
    kept_old z (since ++ x ∷ before) y s (not_true (sets z.board s y) parts.0) ∙ tells_old z since before x s l.0 is parts.1

pub each_tells_old_pairs : EachTellsOldPairs
each_tells_old_pairs b h l before since x s whole is none =
    ap (λ h. old_pair (start b) h s) whole ∙ tells_old (start b) since before x s (subst (IsLegal (start b)) whole l) is none

-- Queues.

-- the generation of the entries of one time through a queue
abbrev bit_of : ℕ → ℕ
bit_of time = if time % 2 == 0 then 1 else 0

-- a number is the first entry that is set by its generation and its index, and an even number of times through the queue
wraps : (n j : ℕ) → (if bit_of (j / n) == 1 then j % n else n + j % n) + j / n / 2 * 2 * n ≡ j
wraps n j = by (j / n % 2 == 0) refl
  where
    whole : j / n * n + j % n ≡ j
    whole = div-add-mod' j n

    by : (even : Bool) → (j / n % 2 == 0) ≡ even → (if (if even then 1 else 0) == 1 then j % n else n + j % n) + j / n / 2 * 2 * n ≡ j
    by true is =
        let rest : j / n % 2 ≡ 0 = eqb-true (j / n % 2) 0 is in
        let twice : j / n / 2 * 2 ≡ j / n = omega (arith, rest) in
        let times : j / n / 2 * 2 * n ≡ j / n * n = ap (λ q. q * n) twice in
        omega (arith, times, whole)
    by false is =
        let rest : j / n % 2 ≡ 1 = grind (arith, nat_tests) in
        let twice : j / n / 2 * 2 + 1 ≡ j / n = omega (arith, rest) in
        let times : (j / n / 2 * 2 + 1) * n ≡ j / n * n = ap (λ q. q * n) twice in
        omega (arith, times, whole)

-- so from it on each entry has the same index, and the same generation
same_index : (n i t k : ℕ) → (i + k) % n ≡ (i + t * n + k) % n
same_index n i t k = let r : i + t * n + k ≡ i + k + t * n = omega arith in sym (ap (λ j. j % n) r ∙ add-mul-mod_self_right (i + k) t n)

even_more : (a t : ℕ) → bit_of (a + t * 2) ≡ bit_of a
even_more a t = ap (λ r. if r == 0 then 1 else 0) (omega arith)

same_generation : (n i t k : ℕ) → 0 < n → bit_of ((i + k) / n) ≡ bit_of ((i + t * 2 * n + k) / n)
same_generation n i t k some =
    let r : i + t * 2 * n + k ≡ i + k + t * 2 * n = omega arith in
    sym (ap (λ j. bit_of (j / n)) r ∙ ap bit_of (add-mul-div_right (i + k) (t * 2) some) ∙ even_more ((i + k) / n) t)

-- a queue that is set to the fields of one whose next entry has the number j goes on from there
goes_on : (c : EndConfig) (j : ℕ) (id : EqId) → let d = queue_set (record { id = id; eq = queue_fields c j }) in GoOnAs c j d d.start
goes_on c j id = record {
  places = λ k. ap (λ r. c.qaddr + 4 * r) (same_index n i (j / n / 2 * 2) k ∙ ap (λ m. (m + k) % n) is);
  generations = λ k. same_generation n i (j / n / 2) k (some_entries c) ∙ ap (λ m. bit_of ((m + k) / n)) is;
}
  where
    n : ℕ
    n = entries c

    i : ℕ
    i = first_entry (queue_fields c j)

    is : i + j / n / 2 * 2 * n ≡ j
    is = wraps n j

pub each_queue_goes_on : EachQueueGoesOn
each_queue_goes_on z h e id on =
    let c = end_config z h e in
    let next = c.start + written_count z h e in
    let fields : fields_of z h e ≡ queue_fields c next = ap (λ b. if b then queue_fields c next else no_fields) on in
    subst (λ (eq : EqFields). let d = queue_set (record { id = id; eq = eq }) in GoOnAs c next d d.start) (sym fields) (goes_on c next id)

-- States.

-- a CPPR is stored as it is
abbrev IsStored : ℕ → Type 0
IsStored n = stored_cppr n ≡ n

stored_stored : (n : ℕ) → IsStored (stored_cppr n)
stored_stored n = by (nat_lt 7 n) refl
  where
    by : (b : Bool) → nat_lt 7 n ≡ b → IsStored (if b then no_priority else n)
    by true e = refl
    by false e = rw e refl

priority_stored : (p : ℕ) → p < priorities → IsStored p
priority_stored p w = by (nat_lt 7 p) refl
  where
    by : (b : Bool) → nat_lt 7 p ≡ b → (if b then no_priority else p) ≡ p
    by true e = absurd (let more = ltb-true 7 p e in omega arith)
    by false e = refl

-- what an entry sets CPPR to, if anything
abbrev AreStored : Option ℕ → Type 0
AreStored m = (n : ℕ) → m ≡ Some n → IsStored n

stored_if : (b : Bool) (m : Option ℕ) → AreStored m → AreStored (if b then m else None)
stored_if true m w = w
stored_if false m w = λ n e. cc

stored_or : (m o : Option ℕ) → AreStored m → AreStored o → AreStored (option_or m o)
stored_or (Some n) o w v = w
stored_or None o w v = v

stored_given : (m : Option ℕ) (n : ℕ) → AreStored m → IsStored n → IsStored (option_map_or (λ n. n) m n)
stored_given (Some k) n w v = w k refl
stored_given None n w v = v

stored_set : (v : ℕ) (o : Op) (u : Outcome) → AreStored (cppr_set v o u)
stored_set v (op.VpSet w c ipb) (out.Code code) = stored_if ((w == v) && is_success code) (Some (stored_cppr c)) (λ n e. let same : stored_cppr c ≡ n = cc in subst IsStored same (stored_stored c))
stored_set v (op.VpSet w c ipb) _ = λ n e. cc
stored_set v _ u = λ n e. cc

stored_in : (o : RingOp) (u : Outcome) → (o ≡ Accept → AreStored (accepted_in Accept u)) → AreStored (cppr_in o u)
stored_in (SetCppr value) out.Stored w = λ n e. let same : stored_cppr value ≡ n = cc in subst IsStored same (stored_stored value)
stored_in (SetCppr value) _ w = λ n e. cc
stored_in Accept u w = w refl
stored_in _ u w = λ n e. cc

stored_at : (now : Phase) (a : Option RingAccess) (u : Outcome) → ((t : ℕ) → a ≡ Some (record { thread = t; op = Accept }) → AreStored (accepted_in Accept u)) → AreStored (cppr_at now a u)
stored_at now (Some a) u w = stored_if (is_on a.thread now) (cppr_in a.op u) (stored_in a.op u (λ is. w a.thread (λ i. Some (record { thread = a.thread; op = is i }))))
stored_at now None u w = λ n e. cc

-- what is accepted is a priority
accepted_stored : (b : Board) (h : List Entry) (x : Entry) (t : ℕ) → IsLegal (start b) (x ∷ h) → ring_access x.op ≡ Some (record { thread = t; op = Accept }) → AreStored (accepted_in Accept x.outcome)
accepted_stored b h x t l is p e =
    let n : IsNextAcknowledgement (start b) h t x = record {
      single = single (start b) h (start_single b) l.0;
      within = λ v. cppr_within (start b) h v (omega arith);
      outcome = l.1.outcome ∙ ring_answer (start b) h x.op (record { thread = t; op = Accept }) is;
    } in
    let (v, on, m) = (accepts_most_favoured (start b) h t p x n).0 e in
    priority_stored p m.is_priority

-- the CPPR of a legal account is stored as it is
cppr_stored : (b : Board) (h : List Entry) (v : ℕ) → IsLegal (start b) h → IsStored (cppr (start b) h v)
cppr_stored b [] v l = refl
cppr_stored b (x ∷ h) v l =
    stored_given (option_or (cppr_set v x.op x.outcome) (cppr_at (phase (start b) h v) (ring_access x.op) x.outcome)) (cppr (start b) h v)
    (stored_or (cppr_set v x.op x.outcome) (cppr_at (phase (start b) h v) (ring_access x.op) x.outcome) (stored_set v x.op x.outcome)
    (stored_at (phase (start b) h v) (ring_access x.op) x.outcome (λ t is. accepted_stored b h x t l is)))
    (cppr_stored b h v l.0)

-- what a set of a processor's state makes of it
set_gives : (z : Start) (g : List Entry) (x : Entry) (w n ipb : ℕ) → x.op ≡ op.VpSet w n ipb → x.outcome ≡ out.Code (pos 0) → (cppr z (x ∷ g) w ≡ stored_cppr n) × ((p : ℕ) → pending z (x ∷ g) w p ≡ has_priority ipb p)
set_gives z g x w n ipb is answer = (rw (is, answer, eq-eqb w w refl) refl, λ p. rw (is, answer, eq-eqb w w refl) refl)

-- what is got is a context where it isn't refused
got_context : (accepted : Bool) (code : ℤ) (c i n ipb : ℕ) → (if accepted then out.Context c i else out.Code code) ≡ out.Context n ipb → (c ≡ n) × (i ≡ ipb)
got_context true code c i n ipb e = (cc, cc)
got_context false code c i n ipb e = cc

pub each_state_goes_on : EachStateGoesOn
each_state_goes_on b h l v n ipb got z g x w is answer =
    let (same_cppr, same_ipb) = got_context (is_success (vp_state_code (start b) h v)) (vp_state_code (start b) h v) (cppr (start b) h v) (byte_of (pending (start b) h v)) n ipb got in
    let gives = set_gives z g x w n ipb is answer in (
      gives.0 ∙ ap stored_cppr (sym same_cppr) ∙ cppr_stored b h v l,
      λ p below. gives.1 p ∙ ap (λ byte. has_priority byte p) (sym same_ipb) ∙ has_byte_of (pending (start b) h v) p below,
    )
