-- What presentations leave: a priority in a ring, one in a backlog, or nothing.
use Rattle.std.proofs.Common.{ℕ, ◌≡◌, ◌≢◌, ◌<◌, ◌&&◌, ◌||◌, ◌==◌, ◌⊎◌, Bool, true, false, true≢false, if◌then◌else◌, Some, None, List, ◌∷◌, length, refl, sym, ◌∙◌, ap, subst, inl, inr, slice_set, eq-eqb}
use Rattle.std.specs.Option.{option_map_or}
use Rattle.std.proofs.lemmas.Bool.{cases_eq}
use Rattle.std.proofs.Math.ListN.{length-set}
use Rattle.xv_model.specs.declared.entries.Entry.{Entry}
use Rattle.xv_model.specs.declared.operations.Op.TheVariants as op
use Rattle.xv_model.specs.declared.outcomes.Outcome.TheVariants as out
use Rattle.xv_model.specs.declared.outcomes.Phase.{Phase}
use Rattle.xv_model.specs.declared.outcomes.Phase.TheVariants.{On, Pulled, Restored, Saved}
use Rattle.xv_model.specs.declared.outcomes.Presented.{Presented}
use Rattle.xv_model.specs.declared.outcomes.Presented.TheVariants.{Found, Backlogged, Lost, NoProcessor}
use Rattle.xv_model.specs.account.Start.{Start}
use Rattle.xv_model.specs.processor.Priorities.{has_priority}
use Rattle.xv_model.specs.processor.Phases.{is_running, phase, thread_of}
use Rattle.xv_model.specs.processor.Pending.{is_kept, late, pending}
use Rattle.nvt_backlog.specs.declared.vp.Vp.{Vp}
use Rattle.nvt_backlog.specs.Vps.{vp_in}
use Rattle.thread_context.specs.Rings.{pending_added, ring_in}
use Rattle.thread_context.proofs.Effects.{after_add}
use Rattle.thread_context.proofs.Pending.{with_one}
use Rattle.presenter.specs.Contexts.{AreFit, ipb_in}
use Rattle.presenter.specs.Moves.{backlogged, presented_by}
use Rattle.presenter.proofs.Fitting.{phases_set, vp_here, vp_there}
use Rattle.presenter.proofs.Keeping.{pending_of}
use Rattle.fabric_core.specs.Processors.{IsProcessor, Parts, StandsFor, cppr_in}
use Rattle.std.proofs.Math.Bool.{and-true, or_assoc, or_comm}
use Rattle.fabric_core.proofs.Accessed.{pending_cppr, raised}
use Rattle.fabric_core.proofs.Choices.{eqb_swap}
use Rattle.fabric_core.proofs.OnRing.{on_then, ring_cppr, ring_pending, ring_then}
use Rattle.fabric_core.proofs.OnThread.{IsOn, on_by_phase}
use Rattle.fabric_core.proofs.Silent.{lost_take, other_take}
use Rattle.fabric_core.proofs.Untouched.{keeps, stays}

-- ---- what the answer says of the phase
found_on : (q : Phase) (valid b : Bool) → presented_by valid q b ≡ Found → (t : ℕ) × (q ≡ On t)
found_on (On t) valid b e = (t, refl)
found_on Saved true true e = absurd cc
found_on Saved true false e = absurd cc
found_on Saved false b e = absurd cc
found_on (Restored t) true true e = absurd cc
found_on (Restored t) true false e = absurd cc
found_on (Restored t) false b e = absurd cc
found_on (Pulled t) true true e = absurd cc
found_on (Pulled t) true false e = absurd cc
found_on (Pulled t) false b e = absurd cc

backlogged_off : (q : Phase) (valid b : Bool) → presented_by valid q b ≡ Backlogged → is_running q ≡ false
backlogged_off (On t) true b e = absurd cc
backlogged_off (On t) false b e = absurd cc
backlogged_off Saved valid b e = refl
backlogged_off (Restored t) valid b e = refl
backlogged_off (Pulled t) valid b e = refl

-- one that is a take after h
abbrev entry : ℕ → ℕ → ℕ → ℕ → Presented → Bool → Entry
entry actor i v p w escalates = record { actor = actor; op = op.Take i; outcome = out.Present v p w escalates }

-- the priority of a presentation to v, where that is kept
is_one : (v : ℕ) (b : Bool) → ((v == v) && (b && true)) ≡ b
is_one v b = ap (λ c. c && (b && true)) (eq-eqb v v refl) ∙ and-true b

pending_then : (z : Start) (h : List Entry) (actor i v p : ℕ) (w : Presented) (escalates : Bool) → is_kept w ≡ true → (q : ℕ) →
    pending z (entry actor i v p w escalates ∷ h) v q ≡ option_map_or (λ b. b) (if p == q then Some true else None) (pending z h v q)
pending_then z h actor i v p w escalates kept q =
    ap (λ b. option_map_or (λ b. b) (if b then Some true else None) (pending z h v q)) (ap (λ b. (v == v) && ((p == q) && b)) kept ∙ is_one v (p == q))

-- ---- the priority is in the ring
module _ (p p' : Parts) (z : Start) (h : List Entry) (actor i v priority t : ℕ) (escalates : Bool) (s : StandsFor p z h) (f : AreFit p.vps.vps p.rings) (at : (vp_in p.vps.vps v).phase ≡ On t) where
  abbrev found : Entry
  found = entry actor i v priority Found escalates

  pub finds : p'.vps ≡ p.vps → p'.rings ≡ slice_set p.rings t (pending_added priority (ring_in p.rings t)) → StandsFor p' z (found ∷ h)
  finds same set =
      let o : IsOn p z h v t = on_by_phase p z h s f v t at in
      let is : IsProcessor p.vps.vps p.rings z h v = s.each v o.inside in
      ring_then p p' z h found v t (pending_added priority (ring_in p.rings t)) refl s o same set
      (λ w l other. other_take z h w v priority actor i Found escalates (λ e. other (sym e)))
      (on_then p.vps.vps p.rings z h found v t (pending_added priority (ring_in p.rings t)) is o.phase_is (f.threads v t (ap thread_of at)) refl o.phase_is
      (pending_cppr priority (ring_in p.rings t) ∙ ring_cppr p.vps.vps p.rings z h v t is o.phase_is)
      (λ q b. after_add priority (ring_in p.rings t) q b ∙ ap (λ c. c || (q == priority)) (ring_pending p.vps.vps p.rings z h v t is o.phase_is q b) ∙ raised (pending z h v q) priority q ∙ sym (pending_then z h actor i v priority Found escalates refl q)))

-- ---- the priority is in the backlog
-- a priority that came late, beside those that did
comes_late : (a : Bool) (v p q : ℕ) → (a || (q == p)) ≡ (((v == v) && ((p == q) && true)) || a)
comes_late a v p q = ap (λ b. a || b) (eqb_swap q p) ∙ or_comm a (p == q) ∙ ap (λ b. b || a) (sym (is_one v (p == q)))

module _ (p p' : Parts) (z : Start) (h : List Entry) (actor i v priority : ℕ) (escalates : Bool) (s : StandsFor p z h) (l : v < z.board.limits.processors) (few : priority < 8) (off : is_running (phase z h v) ≡ false) where
  abbrev came : Entry
  came = entry actor i v priority Backlogged escalates

  abbrev vp : Vp
  vp = vp_in p.vps.vps v

  abbrev vps : List Vp
  vps = slice_set p.vps.vps v (backlogged priority vp)

  inside : v < length p.vps.vps
  inside = subst (λ n. v < n) (sym s.processors) l

  late_one : IsProcessor vps p.rings z (came ∷ h) v
  late_one =
      let is : IsProcessor p.vps.vps p.rings z h v = s.each v l in
      let here : vp_in vps v ≡ backlogged priority vp = vp_here p.vps.vps v (backlogged priority vp) inside in
      record {
        valid = ap (λ (y : Vp). y.valid) here ∙ is.valid;
        at = ap (λ (y : Vp). y.phase) here ∙ is.at;
        cppr_is = ap (λ (y : Vp). cppr_in y p.rings (thread_of (phase z h v))) here ∙ is.cppr_is;
        is_pending_as = λ q b.
            ap (λ (y : Vp). pending_of y p.rings q) here
            ∙ ap (λ c. has_priority (ipb_in vp p.rings (thread_of vp.phase)) q || c) (with_one vp.backlog priority q few b)
            ∙ sym (or_assoc (has_priority (ipb_in vp p.rings (thread_of vp.phase)) q) (has_priority vp.backlog q) (q == priority))
            ∙ ap (λ c. c || (q == priority)) (is.is_pending_as q b)
            ∙ raised (pending z h v q) priority q
            ∙ sym (pending_then z h actor i v priority Backlogged escalates refl q);
        is_kept_as = λ e q b. ap (λ (y : Vp). has_priority (ipb_in y p.rings (thread_of (phase z h v))) q) here ∙ is.is_kept_as off q b;
        is_late_as = λ e q b. ap (λ (y : Vp). has_priority y.backlog q) here ∙ with_one vp.backlog priority q few b ∙ ap (λ c. c || (q == priority)) (is.is_late_as off q b) ∙ comes_late (late z h v q) v priority q;
        none_late = λ e. absurd (true≢false (sym e ∙ off));
        no_cppr = λ e. ap (λ (y : Vp). y.cppr) here ∙ is.no_cppr e;
        no_ipb = λ e. ap (λ (y : Vp). y.ipb) here ∙ is.no_ipb e;
      }

  each_late : (w : ℕ) → w < z.board.limits.processors → (w ≡ v) ⊎ (w ≢ v) → IsProcessor vps p.rings z (came ∷ h) w
  each_late w less (inl same) = subst (λ k. IsProcessor vps p.rings z (came ∷ h) k) (sym same) late_one
  each_late w less (inr other) = stays p.vps.vps vps p.rings p.rings z h w came (other_take z h w v priority actor i Backlogged escalates (λ e. other (sym e))) (s.each w less)
      (vp_there p.vps.vps v w (backlogged priority vp) other) (λ t uses. refl)

  pub backlogs : p'.vps.servers ≡ p.vps.servers → p'.vps.vps ≡ vps → p'.rings ≡ p.rings → StandsFor p' z (came ∷ h)
  backlogs servers set same = subst (λ q. StandsFor q z (came ∷ h)) (λ i. record { vps = record { servers = sym servers i; vps = sym set i }; rings = sym same i }) (record {
    servers_are = s.servers_are;
    processors = length-set p.vps.vps v (backlogged priority vp) ∙ s.processors;
    threads = s.threads;
    each = λ w less. each_late w less (cases_eq w v);
    free = λ t none. s.free t (λ w uses. none w (ap thread_of (phases_set p.vps.vps v (backlogged priority vp) inside refl w) ∙ uses));
  })

-- ---- it is lost
pub loses : (p p' : Parts) (z : Start) (h : List Entry) (actor i v priority : ℕ) (w : Presented) (escalates : Bool) → StandsFor p z h → is_kept w ≡ false → p' ≡ p → StandsFor p' z (entry actor i v priority w escalates ∷ h)
loses p p' z h actor i v priority w escalates s lost same =
    subst (λ q. StandsFor q z (entry actor i v priority w escalates ∷ h)) (sym same) (keeps p z h (entry actor i v priority w escalates) refl (λ u l. lost_take z h u v priority actor i w escalates lost) s)

-- ---- what a presentation leaves, whatever became of it
-- what is kept changes so
pub record Changes (p p' : Parts) (v priority : ℕ) (w : Presented) : Type 0 where
  pub ring : (t : ℕ) → w ≡ Found → (vp_in p.vps.vps v).phase ≡ On t → p'.rings ≡ slice_set p.rings t (pending_added priority (ring_in p.rings t))
  pub rings : w ≢ Found → p'.rings ≡ p.rings
  pub backlog : w ≡ Backlogged → p'.vps.vps ≡ slice_set p.vps.vps v (backlogged priority (vp_in p.vps.vps v))
  pub vps : w ≢ Backlogged → p'.vps.vps ≡ p.vps.vps
  pub servers : p'.vps.servers ≡ p.vps.servers

all_same : (p p' : Parts) (v priority : ℕ) (w : Presented) → Changes p p' v priority w → w ≢ Found → w ≢ Backlogged → p' ≡ p
all_same p p' v priority w c found late = λ i. record { vps = record { servers = c.servers i; vps = c.vps late i }; rings = c.rings found i }

pub presents : (p p' : Parts) (z : Start) (h : List Entry) (actor i v priority : ℕ) (w : Presented) (escalates b : Bool) → StandsFor p z h → AreFit p.vps.vps p.rings → v < length p.vps.vps → priority < 8 →
    w ≡ presented_by (vp_in p.vps.vps v).valid (vp_in p.vps.vps v).phase b → Changes p p' v priority w → StandsFor p' z (entry actor i v priority w escalates ∷ h)
presents p p' z h actor i v priority Found escalates b s f l few e c =
    let at : (t : ℕ) × ((vp_in p.vps.vps v).phase ≡ On t) = found_on (vp_in p.vps.vps v).phase (vp_in p.vps.vps v).valid b (sym e) in
    finds p p' z h actor i v priority at.0 escalates s f at.1 (λ k. record { servers = c.servers k; vps = c.vps (λ g. cc) k }) (c.ring at.0 refl at.1)
presents p p' z h actor i v priority Backlogged escalates b s f l few e c =
    let less : v < z.board.limits.processors = subst (λ n. v < n) s.processors l in
    backlogs p p' z h actor i v priority escalates s less few (ap is_running (sym (s.each v less).at) ∙ backlogged_off (vp_in p.vps.vps v).phase (vp_in p.vps.vps v).valid b (sym e)) c.servers (c.backlog refl) (c.rings (λ g. cc))
presents p p' z h actor i v priority Lost escalates b s f l few e c = loses p p' z h actor i v priority Lost escalates s refl (all_same p p' v priority Lost c (λ g. cc) (λ g. cc))
presents p p' z h actor i v priority NoProcessor escalates b s f l few e c = loses p p' z h actor i v priority NoProcessor escalates s refl (all_same p p' v priority NoProcessor c (λ g. cc) (λ g. cc))
