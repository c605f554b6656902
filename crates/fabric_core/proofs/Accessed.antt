-- What accesses to a ring answer, and what they leave.
use Rattle.std.proofs.Common.{arith, not, ◌&&◌, ◌+◌, ◌*◌, ◌/◌, ◌%◌, ◌^◌, ℕ, ◌≡◌, ◌<◌, ◌||◌, ◌==◌, Bool, true, false, if◌then◌else◌, Option, Some, None, List, ◌∷◌, length, refl, sym, ◌∙◌, ap, subst, slice_set}
use Rattle.std.specs.Prelude.{nat_lt}
use Rattle.std.specs.Option.{option_map_or}
use Rattle.std.proofs.lemmas.Bool.{eq-eqb, ne_eqb}
use Rattle.xv_model.specs.declared.entries.Entry.{Entry}
use Rattle.xv_model.specs.declared.operations.Access.{Access}
use Rattle.xv_model.specs.declared.operations.Op.TheVariants as op
use Rattle.xv_model.specs.declared.outcomes.MoveRefused.{MoveRefused}
use Rattle.xv_model.specs.declared.outcomes.MoveRefused.TheVariants.{NoContext}
use Rattle.xv_model.specs.declared.outcomes.Outcome.{Outcome}
use Rattle.xv_model.specs.declared.outcomes.Outcome.TheVariants as out
use Rattle.xv_model.specs.declared.tima.RingOp.{RingOp}
use Rattle.xv_model.specs.declared.tima.RingOp.TheVariants.{Accept, Inject, SetCppr}
use Rattle.xv_model.specs.account.Start.{Start}
use Rattle.xv_model.specs.processor.Priorities.{has_priority}
use Rattle.xv_model.specs.processor.RingOps.{ring_op}
use Rattle.xv_model.specs.processor.Accesses.{acknowledged, if_on}
use Rattle.xv_model.specs.processor.Pending.{ring_says}
use Rattle.xv_model.specs.processor.Registers.{ring}
use Rattle.thread_context.specs.Ring.{is_valid, notified, nsr_of}
use Rattle.thread_context.specs.declared.ring.RingRecord.{RingRecord}
use Rattle.thread_context.specs.Priorities.{least_pending, with_pending}
use Rattle.thread_context.specs.Rings.{accepted, pending_added, ring_in, with_cppr, with_ipb}
use Rattle.thread_context.proofs.Effects.{after_accept, after_add, notified_least}
use Rattle.presenter.specs.Contexts.{AreFit}
use Rattle.presenter.proofs.Fitting.{ring_here}
use Rattle.std.proofs.Math.Bool.{and-false, and-true, or-false, or-true}
use Rattle.fabric_core.proofs.Choices.{eqb_swap}
use Rattle.fabric_core.specs.Processors.{Parts, StandsFor}
use Rattle.fabric_core.proofs.OnRing.{access_then}
use Rattle.fabric_core.proofs.OnThread.{off_by_cam, off_named, on_by_cam}
use Rattle.fabric_core.proofs.Shown.{ring_says as says_of}
use Rattle.fabric_core.proofs.Silent.{access_refused}
use Rattle.fabric_core.proofs.Untouched.{keeps}

-- ---- where no processor is on the thread
pub refuses : (p : Parts) (z : Start) (h : List Entry) (t : ℕ) (u : Outcome) → StandsFor p z h → AreFit p.vps.vps p.rings → is_valid (ring_in p.rings t).cam ≡ false → out.Refused NoContext ≡ if_on z h t u
refuses p z h t u s f none = ap (λ o. option_map_or (λ (v : ℕ). u) o (out.Refused NoContext)) (sym (off_named p z h s t (off_by_cam p f t none)))

pub stays_refused : (p : Parts) (z : Start) (h : List Entry) (t actor page offset size : ℕ) (access : Access) (why : MoveRefused) (o : RingOp) → StandsFor p z h → ring_op page offset size access ≡ Some o →
    StandsFor p z (record { actor = actor; op = op.Tima t page offset size access; outcome = out.Refused why } ∷ h)
stays_refused p z h t actor page offset size access why o s e =
    keeps p z h (record { actor = actor; op = op.Tima t page offset size access; outcome = out.Refused why }) refl (λ v l. access_refused z h v t actor page offset size access why o e) s

-- ---- where one is
pub answers : (p : Parts) (z : Start) (h : List Entry) (t : ℕ) (u : Outcome) → StandsFor p z h → AreFit p.vps.vps p.rings → is_valid (ring_in p.rings t).cam ≡ true → u ≡ if_on z h t u
answers p z h t u s f valid = ap (λ o. option_map_or (λ (v : ℕ). u) o (out.Refused NoContext)) (sym ((on_by_cam p z h s f t valid).1.answers))

pub stores_cppr : (p p' : Parts) (z : Start) (h : List Entry) (t actor page offset size : ℕ) (access : Access) (value : ℕ) → StandsFor p z h → AreFit p.vps.vps p.rings → t < length p.rings →
    is_valid (ring_in p.rings t).cam ≡ true → ring_op page offset size access ≡ Some (SetCppr value) → p'.vps ≡ p.vps → p'.rings ≡ slice_set p.rings t (with_cppr value (ring_in p.rings t)) →
    StandsFor p' z (record { actor = actor; op = op.Tima t page offset size access; outcome = out.Stored } ∷ h)
stores_cppr p p' z h t actor page offset size access value s f l valid e same set =
    access_then p p' z h (on_by_cam p z h s f t valid).0 t actor page offset size access out.Stored (SetCppr value) (with_cppr value (ring_in p.rings t)) s (on_by_cam p z h s f t valid).1 l e refl same set refl (λ q b. refl)

-- a priority that became pending, beside those that were
pub raised : (a : Bool) (p q : ℕ) → (a || (q == p)) ≡ option_map_or (λ b. b) (if p == q then Some true else None) a
raised a p q = ap (λ c. a || c) (eqb_swap q p) ∙ by (p == q)
  where
    by : (c : Bool) → (a || c) ≡ option_map_or (λ b. b) (if c then Some true else None) a
    by true = or-true a
    by false = or-false a

added_cppr : (b : Bool) (ipb : ℕ) (r : RingRecord) → (if b then r else with_ipb ipb r).cppr ≡ r.cppr
added_cppr true ipb r = refl
added_cppr false ipb r = refl

pub pending_cppr : (p : ℕ) (r : RingRecord) → (pending_added p r).cppr ≡ r.cppr
pending_cppr p r = added_cppr (nat_lt 7 p) (with_pending r.ipb p) r

pub injects : (p p' : Parts) (z : Start) (h : List Entry) (t actor page offset size : ℕ) (access : Access) (priority : ℕ) → StandsFor p z h → AreFit p.vps.vps p.rings → t < length p.rings →
    is_valid (ring_in p.rings t).cam ≡ true → ring_op page offset size access ≡ Some (Inject priority) → p'.vps ≡ p.vps → p'.rings ≡ slice_set p.rings t (pending_added priority (ring_in p.rings t)) →
    StandsFor p' z (record { actor = actor; op = op.Tima t page offset size access; outcome = out.Stored } ∷ h)
injects p p' z h t actor page offset size access priority s f l valid e same set =
    access_then p p' z h (on_by_cam p z h s f t valid).0 t actor page offset size access out.Stored (Inject priority) (pending_added priority (ring_in p.rings t)) s (on_by_cam p z h s f t valid).1 l e refl same set
    (pending_cppr priority (ring_in p.rings t)) (λ q b. after_add priority (ring_in p.rings t) q b ∙ raised (has_priority (ring_in p.rings t).ipb q) priority q)

-- ---- an acknowledgement
-- what is answered: NSR as it was, and CPPR as it is then
abbrev answer_of : RingRecord → ℕ
answer_of r = nsr_of r.cppr r.ipb r.cam * 256 + (accepted r).cppr

-- the account's answer, of the same registers
acknowledged_by : (r : RingRecord) (t : Bool) → notified r ≡ t → answer_of r ≡ nsr_of r.cppr r.ipb r.cam * 2 ^ 8 + (if nsr_of r.cppr r.ipb r.cam == 0 then r.cppr else least_pending r.ipb)
acknowledged_by r true e = rw e refl
acknowledged_by r false e = rw e refl

acknowledges : (p : Parts) (z : Start) (h : List Entry) (t : ℕ) → StandsFor p z h → AreFit p.vps.vps p.rings → answer_of (ring_in p.rings t) ≡ acknowledged (ring z h t)
acknowledges p z h t s f =
    let r : RingRecord = ring_in p.rings t in
    let x = says_of p z h s f t in
    acknowledged_by r (notified r) refl ∙ (λ i. x.nsr i * 2 ^ 8 + (if x.nsr i == 0 then x.cppr i else x.pipr i))

-- the priority that was accepted, by the answer
abbrev accepted_by : ℕ → Option ℕ
accepted_by answer = if answer / 2 ^ 15 == 1 then Some (answer % 2 ^ 8) else None

answer_taken : (n : ℕ) → n < 2 ^ 8 → accepted_by (0x80 * 256 + n) ≡ Some n
answer_taken n l = ap (λ b. if b then Some ((0x80 * 256 + n) % 2 ^ 8) else None) (eq-eqb ((0x80 * 256 + n) / 2 ^ 15) 1 (omega (arith, l))) ∙ ap Some (omega (arith, l))

answer_kept : (n : ℕ) → n < 2 ^ 8 → accepted_by (0 * 256 + n) ≡ None
answer_kept n l = ap (λ b. if b then Some ((0 * 256 + n) % 2 ^ 8) else None) (ne_eqb ((0 * 256 + n) / 2 ^ 15) 1 (λ e. omega (arith, l, e)))

accepts_cppr : (r : RingRecord) → r.cppr < 2 ^ 8 → (accepted r).cppr ≡ option_map_or (λ n. n) (accepted_by (answer_of r)) r.cppr
accepts_cppr r byte = by (notified r) refl
  where
    by : (t : Bool) → notified r ≡ t → (accepted r).cppr ≡ option_map_or (λ n. n) (accepted_by (answer_of r)) r.cppr
    by true e = rw (e, answer_taken (least_pending r.ipb) (omega (arith, notified_least r byte e))) refl
    by false e = rw (e, answer_kept r.cppr byte) refl

-- a priority that isn't pending any more
lowered : (a : Bool) (p q : ℕ) → (a && not (q == p)) ≡ option_map_or (λ b. b) (if p == q then Some false else None) a
lowered a p q = ap (λ c. a && not c) (eqb_swap q p) ∙ by (p == q)
  where
    by : (c : Bool) → (a && not c) ≡ option_map_or (λ b. b) (if c then Some false else None) a
    by true = and-false a
    by false = and-true a

accepts_pending : (r : RingRecord) → r.cppr < 2 ^ 8 → (q : ℕ) → q < 8 → has_priority (accepted r).ipb q ≡ option_map_or (λ b. b) (ring_says q Accept (out.Value (answer_of r))) (has_priority r.ipb q)
accepts_pending r byte q l = after_accept r q byte l ∙ by (notified r) refl
  where
    by : (t : Bool) → notified r ≡ t → (has_priority r.ipb q && not (notified r && (q == least_pending r.ipb))) ≡ option_map_or (λ b. b) (ring_says q Accept (out.Value (answer_of r))) (has_priority r.ipb q)
    by true e = rw (e, answer_taken (least_pending r.ipb) (omega (arith, notified_least r byte e))) (lowered (has_priority r.ipb q) (least_pending r.ipb) q)
    by false e = rw (e, answer_kept r.cppr byte) (and-true (has_priority r.ipb q))

accepts : (p p' : Parts) (z : Start) (h : List Entry) (t actor page offset size : ℕ) (access : Access) → StandsFor p z h → AreFit p.vps.vps p.rings → t < length p.rings → (ring_in p.rings t).cppr < 2 ^ 8 →
    is_valid (ring_in p.rings t).cam ≡ true → ring_op page offset size access ≡ Some Accept → p'.vps ≡ p.vps → p'.rings ≡ slice_set p.rings t (accepted (ring_in p.rings t)) →
    StandsFor p' z (record { actor = actor; op = op.Tima t page offset size access; outcome = out.Value (answer_of (ring_in p.rings t)) } ∷ h)
accepts p p' z h t actor page offset size access s f l byte valid e same set =
    let r : RingRecord = ring_in p.rings t in
    access_then p p' z h (on_by_cam p z h s f t valid).0 t actor page offset size access (out.Value (answer_of r)) Accept (accepted r) s (on_by_cam p z h s f t valid).1 l e refl same set
    (accepts_cppr r byte) (accepts_pending r byte)

answer_is : (rings rings' : List RingRecord) (t n : ℕ) → t < length rings → rings' ≡ slice_set rings t (accepted (ring_in rings t)) → n ≡ nsr_of (ring_in rings t).cppr (ring_in rings t).ipb (ring_in rings t).cam * 256 + (ring_in rings' t).cppr →
    n ≡ answer_of (ring_in rings t)
answer_is rings rings' t n l set e = e ∙ ap (λ (y : RingRecord). nsr_of (ring_in rings t).cppr (ring_in rings t).ipb (ring_in rings t).cam * 256 + y.cppr) (ap (λ rs. ring_in rs t) set ∙ ring_here rings t (accepted (ring_in rings t)) l)

-- the same, of what is answered
pub answers_accept : (p p' : Parts) (z : Start) (h : List Entry) (t n : ℕ) → StandsFor p z h → AreFit p.vps.vps p.rings → t < length p.rings → is_valid (ring_in p.rings t).cam ≡ true → p'.rings ≡ slice_set p.rings t (accepted (ring_in p.rings t)) →
    n ≡ nsr_of (ring_in p.rings t).cppr (ring_in p.rings t).ipb (ring_in p.rings t).cam * 256 + (ring_in p'.rings t).cppr → out.Value n ≡ if_on z h t (out.Value (acknowledged (ring z h t)))
answers_accept p p' z h t n s f l valid set e = ap (λ m. out.Value m) (answer_is p.rings p'.rings t n l set e ∙ acknowledges p z h t s f) ∙ answers p z h t (out.Value (acknowledged (ring z h t))) s f valid

pub accepts_as : (p p' : Parts) (z : Start) (h : List Entry) (t actor page offset size n : ℕ) (access : Access) → StandsFor p z h → AreFit p.vps.vps p.rings → t < length p.rings → (ring_in p.rings t).cppr < 2 ^ 8 →
    is_valid (ring_in p.rings t).cam ≡ true → ring_op page offset size access ≡ Some Accept → p'.vps ≡ p.vps → p'.rings ≡ slice_set p.rings t (accepted (ring_in p.rings t)) →
    n ≡ nsr_of (ring_in p.rings t).cppr (ring_in p.rings t).ipb (ring_in p.rings t).cam * 256 + (ring_in p'.rings t).cppr →
    StandsFor p' z (record { actor = actor; op = op.Tima t page offset size access; outcome = out.Value n } ∷ h)
accepts_as p p' z h t actor page offset size n access s f l byte valid o same set e =
    subst (λ m. StandsFor p' z (record { actor = actor; op = op.Tima t page offset size access; outcome = out.Value m } ∷ h)) (sym (answer_is p.rings p'.rings t n l set e))
    (accepts p p' z h t actor page offset size access s f l byte valid o same set)
