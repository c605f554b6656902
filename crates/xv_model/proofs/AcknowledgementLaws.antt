-- What acknowledgements accept in a legal account.
use Rattle.std.proofs.Common.{ℕ, ◌≡◌, ◌==◌, ◌<◌, ◌≤◌, ◌+◌, ◌*◌, ◌/◌, ◌%◌, ◌^◌, ◌&&◌, nat_lt, Bool, true, false, not, if◌then◌else◌, List, [], ◌∷◌, ◌++◌, Option, Some, None, refl, sym, ◌∙◌, ap, subst, arith, inl, inr}
use Rattle.std.specs.Prelude.{◌⊎◌, ◌↔◌}
use Rattle.std.specs.Option.{option_map_or, option_or}
use Rattle.std.proofs.lemmas.Bool.{cases_eq, eq-eqb, ne_eqb, lt-ltb, ltb-true, ltb-false}
use Rattle.std.proofs.lemmas.Bool.Decides.{nat_tests}
use Rattle.xv_model.specs.declared.board.Board.{Board}
use Rattle.xv_model.specs.declared.operations.Op.{Op}
use Rattle.xv_model.specs.declared.operations.Op.TheVariants as op
use Rattle.xv_model.specs.declared.outcomes.Outcome.{Outcome}
use Rattle.xv_model.specs.declared.outcomes.Outcome.TheVariants as out
use Rattle.xv_model.specs.declared.outcomes.Phase.{Phase}
use Rattle.xv_model.specs.declared.outcomes.Phase.TheVariants.{On}
use Rattle.xv_model.specs.declared.entries.Entry.{Entry}
use Rattle.xv_model.specs.account.Start.{Start, start}
use Rattle.xv_model.specs.account.Legal.{IsLegal, legal}
use Rattle.xv_model.specs.declared.tima.RingOp.{RingOp}
use Rattle.xv_model.specs.declared.tima.RingOp.TheVariants.{SetCppr, Accept}
use Rattle.xv_model.specs.call.Accepted.{is_success}
use Rattle.xv_model.specs.processor.Priorities.{priorities, no_priority, least_of}
use Rattle.xv_model.specs.processor.RingOps.{RingAccess, ring_op, ring_access_by, ring_access}
use Rattle.xv_model.specs.processor.Phases.{cam_of, thread_of, is_on, phase}
use Rattle.xv_model.specs.processor.Pending.{presentation_in, accepted_in, ipb_set, pending}
use Rattle.xv_model.specs.processor.Registers.{stored_cppr, cppr_in, cppr_at, cppr_set, cppr, ring_of}
use Rattle.xv_model.specs.processor.Moves.{on_of}
use Rattle.xv_model.specs.processor.Accesses.{acknowledged, ring_outcome}
use Rattle.xv_model.specs.laws.Acknowledgements.{IsAcknowledgement, IsMostFavoured, EachAcceptsMostFavoured, EachAnswersAccepted, EachLeavesAlone, EachLeavesAll}
use Rattle.xv_model.proofs.Bytes.{IsLeast, IsNone, least_of-tells, least_of-is}
use Rattle.xv_model.proofs.OneAccount.{legal_before}
use Rattle.xv_model.proofs.Users.{AreSingle, on_uses}
use Rattle.xv_model.proofs.SoundMoves.{single, start_single, on_of-tells, on_of-is}
use Rattle.xv_model.proofs.PendingLaws.{ring-is_of}

-- what is done to a ring answers in a legal account
pub ring_answer : (z : Start) (h : List Entry) (o : Op) (a : RingAccess) → ring_access o ≡ Some a → legal z h o ≡ ring_outcome z h a.thread a.op
ring_answer z h (op.Tima t page offset size access) a e = by (ring_op page offset size access) e
  where
    by : (r : Option RingOp) → ring_access_by t r ≡ Some a → option_map_or (ring_outcome z h t) r out.BadAccess ≡ ring_outcome z h a.thread a.op
    by (Some o) e = let same : record { thread = t; op = o } ≡ a = cc in ap (λ a. ring_outcome z h a.thread a.op) same
    by None e = cc
ring_answer z h _ a e = cc

-- CPPR is a byte.

stored_within : (n : ℕ) → stored_cppr n ≤ no_priority
stored_within n = by (nat_lt 7 n) refl
  where
    by : (b : Bool) → nat_lt 7 n ≡ b → (if b then no_priority else n) ≤ no_priority
    by true e = omega arith
    by false e = let small = ltb-false 7 n e in omega arith

abbrev Within : Option ℕ → Type 0
Within (Some n) = n ≤ no_priority
Within None = Unit {0}

if_within : (b : Bool) (o : Option ℕ) → Within o → Within (if b then o else None)
if_within true o w = w
if_within false o w = tt

or_within : (o q : Option ℕ) → Within o → Within q → Within (option_or o q)
or_within (Some n) q w v = w
or_within None q w v = v

accepted_within : (o : RingOp) (u : Outcome) → Within (accepted_in o u)
accepted_within Accept (out.Value answer) = if_within (answer / 2 ^ 15 == 1) (Some (answer % 2 ^ 8)) (omega arith)
accepted_within _ u = tt

in_within : (o : RingOp) (u : Outcome) → Within (cppr_in o u)
in_within (SetCppr value) out.Stored = stored_within value
in_within o u = accepted_within o u

at_within : (now : Phase) (a : Option RingAccess) (u : Outcome) → Within (cppr_at now a u)
at_within now (Some a) u = if_within (is_on a.thread now) (cppr_in a.op u) (in_within a.op u)
at_within now None u = tt

set_within : (v : ℕ) (o : Op) (u : Outcome) → Within (cppr_set v o u)
set_within v (op.VpSet u cppr ipb) (out.Code code) = if_within ((u == v) && is_success code) (Some (stored_cppr cppr)) (stored_within cppr)
set_within v _ u = tt

given_within : (o : Option ℕ) (n : ℕ) → Within o → n ≤ no_priority → option_map_or (λ n. n) o n ≤ no_priority
given_within (Some m) n w l = w
given_within None n w l = l

-- CPPR is a byte, where it is one in the start record
pub cppr_within : (z : Start) (h : List Entry) (v : ℕ) → z.cppr v ≤ no_priority → cppr z h v ≤ no_priority
cppr_within z [] v w = w
cppr_within z (x ∷ h) v w =
    given_within (option_or (cppr_set v x.op x.outcome) (cppr_at (phase z h v) (ring_access x.op) x.outcome)) (cppr z h v)
    (or_within (cppr_set v x.op x.outcome) (cppr_at (phase z h v) (ring_access x.op) x.outcome) (set_within v x.op x.outcome) (at_within (phase z h v) (ring_access x.op) x.outcome)) (cppr_within z h v w)

-- What is accepted.

-- what an acknowledgement of a ring answers that has an interrupt to present, or hasn't, is read so
accepted_number : (n : ℕ) → n < 2 ^ 8 → accepted_in Accept (out.Value (2 ^ 7 * 2 ^ 8 + n)) ≡ Some n
accepted_number n l =
    let bit : (2 ^ 15 + n) / 2 ^ 15 ≡ 1 = omega arith in
    let rest : (2 ^ 15 + n) % 2 ^ 8 ≡ n = omega arith in
    rw (bit, rest) refl

accepted_nothing : (n : ℕ) → n < 2 ^ 8 → accepted_in Accept (out.Value n) ≡ None
accepted_nothing n l =
    let bit : n / 2 ^ 15 ≡ 0 = omega arith in
    rw bit refl

-- so an acknowledgement of the ring of a processor that is on a thread accepts the least priority, where that is below CPPR
accepts_by : (c : ℕ) (f : ℕ → Bool) (cam : ℕ) → c ≤ no_priority → accepted_in Accept (out.Value (acknowledged (ring_of true c f cam))) ≡ (if nat_lt (least_of f) c then Some (least_of f) else None)
accepts_by c f cam w = by (nat_lt (least_of f) c) refl
  where
    n : ℕ
    n = least_of f

    by : (b : Bool) → nat_lt (least_of f) c ≡ b → accepted_in Accept (out.Value ((if b then 2 ^ 7 else 0) * 2 ^ 8 + (if (if b then 2 ^ 7 else 0) == 0 then c else n))) ≡ (if b then Some n else None)
    by true is = accepted_number n (let small = ltb-true n c is in omega arith)
    by false is = ap (λ m. accepted_in Accept (out.Value m)) (omega arith) ∙ accepted_nothing c (omega arith)

-- the least priority below CPPR is the most favoured one
favoured : (z : Start) (h : List Entry) (v p : ℕ) → cppr z h v ≤ no_priority → (if nat_lt (least_of (pending z h v)) (cppr z h v) then Some (least_of (pending z h v)) else None) ≡ Some p → IsMostFavoured z h v p
favoured z h v p w e = by (nat_lt (least_of (pending z h v)) (cppr z h v)) refl e
  where
    least : (r : ℕ) → r < cppr z h v → IsLeast (pending z h v) priorities r ⊎ IsNone (pending z h v) priorities r → IsMostFavoured z h v r
    least r l (inl is) = record { is_priority = is.below; is_pending = is.picked; none_less = is.none_less; passes = l }
    least r l (inr is) = absurd (let none = is.none in omega arith)

    by : (b : Bool) → nat_lt (least_of (pending z h v)) (cppr z h v) ≡ b → (if b then Some (least_of (pending z h v)) else None) ≡ Some p → IsMostFavoured z h v p
    by true is e =
        let same : least_of (pending z h v) ≡ p = cc in
        subst (IsMostFavoured z h v) same (least (least_of (pending z h v)) (ltb-true _ _ is) (least_of-tells (pending z h v)))
    by false is e = cc

least_favoured : (z : Start) (h : List Entry) (v p : ℕ) → IsMostFavoured z h v p → (if nat_lt (least_of (pending z h v)) (cppr z h v) then Some (least_of (pending z h v)) else None) ≡ Some p
least_favoured z h v p m =
    let same : least_of (pending z h v) ≡ p = least_of-is (pending z h v) p (record { below = m.is_priority; picked = m.is_pending; none_less = m.none_less }) in
    rw (same, lt-ltb p (cppr z h v) m.passes) refl

-- What is known of an acknowledgement on t, that is the next entry after an account in which no thread has two users and CPPR is a byte.
pub record IsNextAcknowledgement (z : Start) (h : List Entry) (t : ℕ) (x : Entry) : Type 0 where
  pub single : AreSingle z.board.limits.processors (phase z h)
  pub within : (v : ℕ) → cppr z h v ≤ no_priority
  pub outcome : x.outcome ≡ ring_outcome z h t Accept

-- it accepts nothing where no processor is on the thread
accepts_none : (z : Start) (h : List Entry) (t : ℕ) (x : Entry) → IsNextAcknowledgement z h t x → on_of z h t ≡ None → accepted_in Accept x.outcome ≡ None
accepts_none z h t x n off = ap (accepted_in Accept) n.outcome ∙ (rw off refl)

-- and where one is, what its ring says
answers_on : (z : Start) (h : List Entry) (t v : ℕ) (x : Entry) → IsNextAcknowledgement z h t x → phase z h v ≡ On t → x.outcome ≡ out.Value (acknowledged (ring_of true (cppr z h v) (pending z h v) (cam_of v)))
answers_on z h t v x n on = n.outcome ∙ rw (on_of-is z h v t n.single on, ring-is_of z h v t n.single on) refl

accepts_on : (z : Start) (h : List Entry) (t v : ℕ) (x : Entry) → IsNextAcknowledgement z h t x → phase z h v ≡ On t → accepted_in Accept x.outcome ≡ (if nat_lt (least_of (pending z h v)) (cppr z h v) then Some (least_of (pending z h v)) else None)
accepts_on z h t v x n on = ap (accepted_in Accept) (answers_on z h t v x n on) ∙ accepts_by (cppr z h v) (pending z h v) (cam_of v) (n.within v)

-- so it accepts a priority exactly where that is the most favoured of the processor on the thread
pub accepts_most_favoured : (z : Start) (h : List Entry) (t p : ℕ) (x : Entry) → IsNextAcknowledgement z h t x → (accepted_in Accept x.outcome ≡ Some p) ↔ ((v : ℕ) × (phase z h v ≡ On t) × IsMostFavoured z h v p)
accepts_most_favoured z h t p x n = (λ e. there (on_of z h t) refl e, λ m. accepts_on z h t m.0 x n m.1 ∙ least_favoured z h m.0 p m.2)
  where
    there : (on : Option ℕ) → on_of z h t ≡ on → accepted_in Accept x.outcome ≡ Some p → (v : ℕ) × (phase z h v ≡ On t) × IsMostFavoured z h v p
    there (Some v) is e = let on = on_of-tells z h v t is in (v, on, favoured z h v p (n.within v) (sym (accepts_on z h t v x n on) ∙ e))
    there None is e = let none = accepts_none z h t x n is in cc

-- the next acknowledgement of a legal account of a board
pub next_acknowledgement : (b : Board) (h before later : List Entry) (x : Entry) (t : ℕ) → IsLegal (start b) h → h ≡ later ++ x ∷ before → IsAcknowledgement t x → IsNextAcknowledgement (start b) before t x
next_acknowledgement b h before later x t l whole is =
    let so_far : IsLegal (start b) (x ∷ before) = legal_before (start b) later (x ∷ before) (subst (IsLegal (start b)) whole l) in
    record {
      single = single (start b) before (start_single b) so_far.0;
      within = λ v. cppr_within (start b) before v (omega arith);
      outcome = so_far.1.outcome ∙ ring_answer (start b) before x.op (record { thread = t; op = Accept }) is;
    }

pub each_accepts_most_favoured : EachAcceptsMostFavoured
each_accepts_most_favoured b h l before later x t p whole is = accepts_most_favoured (start b) before t p x (next_acknowledgement b h before later x t l whole is)

-- where it accepts a priority it answers NSR with its bit, and that priority
answer_by : (c : ℕ) (f : ℕ → Bool) (cam p : ℕ) → least_of f ≡ p → p < c → acknowledged (ring_of true c f cam) ≡ 2 ^ 15 + p
answer_by c f cam p same l = rw (same, lt-ltb p c l) refl

pub each_answers_accepted : EachAnswersAccepted
each_answers_accepted b h l before later x t p whole is e =
    let n = next_acknowledgement b h before later x t l whole is in
    let (v, on, m) = (accepts_most_favoured (start b) before t p x n).0 e in
    let same = least_of-is (pending (start b) before v) p (record { below = m.is_priority; picked = m.is_pending; none_less = m.none_less }) in
    answers_on (start b) before t v x n on ∙ ap out.Value (answer_by (cppr (start b) before v) (pending (start b) before v) (cam_of v) p same m.passes)

-- What is pending afterwards.

-- an access to a ring presents nothing, and sets no state
ring_only : (o : Op) (a : RingAccess) (u : Outcome) (v : ℕ) → ring_access o ≡ Some a → (presentation_in o u ≡ None) × (ipb_set v o u ≡ None)
ring_only (op.Tima t page offset size access) a u v e = (refl, refl)
ring_only _ a u v e = cc

-- so an acknowledgement says of a priority of v what is said of it in the ring that it is on
acknowledged_says : (z : Start) (h : List Entry) (x : Entry) (t w q : ℕ) → IsAcknowledgement t x →
    pending z (x ∷ h) w q ≡ option_map_or (λ b. b) (if is_on t (phase z h w) then (if option_map_or (λ r. r == q) (accepted_in Accept x.outcome) false then Some false else None) else None) (pending z h w q)
acknowledged_says z h x t w q is =
    let only = ring_only x.op (record { thread = t; op = Accept }) x.outcome w is in
    rw (only.0, only.1, is) refl

-- an acknowledgement that accepted nothing leaves all
left_all : (on before : Bool) → option_map_or (λ b. b) (if on then None else None) before ≡ before
left_all true before = refl
left_all false before = refl

pub each_leaves_all : EachLeavesAll
each_leaves_all b h l before later x t whole is e w q = acknowledged_says (start b) before x t w q is ∙ (rw e (left_all (is_on t (phase (start b) before w)) (pending (start b) before w q)))

-- one that accepted a priority of v leaves all but that
left_alone : (on same before : Bool) → option_map_or (λ b. b) (if on then (if same then Some false else None) else None) before ≡ (before && not (on && same))
left_alone true true true = refl
left_alone true true false = refl
left_alone true false true = refl
left_alone true false false = refl
left_alone false same true = refl
left_alone false same false = refl

turned : (p q : ℕ) → (p == q) ≡ (q == p)
turned p q = grind (arith, nat_tests)

-- v alone is on its thread
on_alone : (z : Start) (h : List Entry) (t v w : ℕ) → AreSingle z.board.limits.processors (phase z h) → phase z h v ≡ On t → is_on t (phase z h w) ≡ (w == v)
on_alone z h t v w s on = elim (cases_eq w v) [
  | inl same ↦ rw (same, on) (eq-eqb t t refl ∙ sym (eq-eqb v v refl))
  | inr other ↦ by other (is_on t (phase z h w)) refl ∙ sym (ne_eqb w v other)
]
  where
    by : (w ≡ v → ⊥) → (b : Bool) → is_on t (phase z h w) ≡ b → b ≡ false
    by other true is = absurd (other (s.same w v t (ap thread_of (on_uses t (phase z h w) is)) (ap thread_of on)))
    by other false is = refl

pub each_leaves_alone : EachLeavesAlone
each_leaves_alone b h l before later x t v p whole is on e w q =
    let n = next_acknowledgement b h before later x t l whole is in
    let z = start b in
    acknowledged_says z before x t w q is
    ∙ (rw (e, on_alone z before t v w n.single on, turned p q) (left_alone (w == v) (q == p) (pending z before w q)))
