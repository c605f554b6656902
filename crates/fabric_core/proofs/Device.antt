-- Processors and calls to the KVM device: what is saved of one is what the account says, and they represent the account with the entry of such a call.
use Rattle.std.proofs.Common.{ℕ, ℤ, Bool, ◌≡◌, ◌≢◌, ◌<◌, ◌||◌, true, false, true≢false, List, ◌∷◌, length, refl, sym, ◌∙◌, ap, subst, inl, inr, slice_set}
use Rattle.std.proofs.lemmas.Bool.{cases_eq}
use Rattle.std.proofs.Math.ListN.{length-set}
use Rattle.xv_model.specs.declared.operations.AttrValue.{AttrValue}
use Rattle.xv_model.specs.declared.operations.Op.TheVariants as op
use Rattle.xv_model.specs.declared.outcomes.Outcome.TheVariants as out
use Rattle.xv_model.specs.declared.outcomes.Outcome.{Outcome}
use Rattle.xv_model.specs.declared.outcomes.Phase.{Phase}
use Rattle.xv_model.specs.declared.outcomes.Phase.TheVariants.{Saved, Restored, On, Pulled}
use Rattle.xv_model.specs.declared.entries.Entry.{Entry}
use Rattle.xv_model.specs.account.Start.{Start}
use Rattle.xv_model.specs.call.Accepted.{is_success}
use Rattle.xv_model.specs.processor.Phases.{is_running, is_saved, phase, servers, thread_of}
use Rattle.xv_model.specs.processor.Priorities.{has_priority}
use Rattle.nvt_backlog.specs.declared.vp.Vp.{Vp}
use Rattle.nvt_backlog.specs.Accounts.{IsSavedAs, IsVp, StandFor}
use Rattle.nvt_backlog.specs.Vps.{AreConnected, vp_in, with_state}
use Rattle.thread_context.specs.declared.ring.RingRecord.{RingRecord}
use Rattle.thread_context.specs.Rings.{ring_in}
use Rattle.presenter.specs.Contexts.{AreFit, ipb_in}
use Rattle.presenter.proofs.Fitting.{phases_set, same_places, vp_there}
use Rattle.fabric_core.specs.Processors.{IsProcessor, Parts, StandsFor, cppr_in}
use Rattle.fabric_core.proofs.Places.{counted}
use Rattle.fabric_core.proofs.Silent.{asked_attribute, asked_state, other_state, refused_state, set_attribute, untouched}
use Rattle.fabric_core.proofs.Untouched.{keeps, stays}

-- ---- what is saved
-- a context that is saved is in this phase
is_phase : (q : Phase) → is_saved q ≡ true → q ≡ Saved
is_phase Saved e = refl
is_phase (Restored t) e = absurd (true≢false (sym e))
is_phase (On t) e = absurd (true≢false (sym e))
is_phase (Pulled t) e = absurd (true≢false (sym e))

saved_as : (vps : List Vp) (rings : List RingRecord) (z : Start) (h : List Entry) (v : ℕ) → IsProcessor vps rings z h v → phase z h v ≡ Saved → IsSavedAs (vp_in vps v) z h v
saved_as vps rings z h v is at = record {
  cppr_is = sym (ap (λ p. cppr_in vp rings (thread_of p)) at) ∙ is.cppr_is;
  is_pending_as = λ q l. sym (ap (λ p. has_priority (ipb_in vp rings (thread_of p)) q || has_priority vp.backlog q) (is.at ∙ at)) ∙ is.is_pending_as q l;
  is_kept_as = λ q l. sym (ap (λ p. has_priority (ipb_in vp rings (thread_of p)) q) at) ∙ is.is_kept_as (ap is_running at) q l;
  is_late_as = λ q l. is.is_late_as (ap is_running at) q l;
}
  where
    vp : Vp
    vp = vp_in vps v

pub as_vp : (vps : List Vp) (rings : List RingRecord) (z : Start) (h : List Entry) (v : ℕ) → IsProcessor vps rings z h v → IsVp (vp_in vps v) z h v
as_vp vps rings z h v is = record { valid = is.valid; at = is.at; saved = λ saved. saved_as vps rings z h v is (is_phase (phase z h v) saved) }

-- the processors without the rings represent the account too
pub stand : (p : Parts) (z : Start) (h : List Entry) → StandsFor p z h → StandFor p.vps.vps z h
stand p z h s = λ v l. as_vp p.vps.vps p.rings z h v (s.each v (counted p z h s v l))

pub are_connected : (p : Parts) (z : Start) (h : List Entry) → StandsFor p z h → AreConnected p.vps.vps z h
are_connected p z h s = λ v l. (s.each v l).valid

-- one whose context is saved is as the account has it, whatever is in the rings
from_vp : (vps : List Vp) (rings : List RingRecord) (z : Start) (h : List Entry) (v : ℕ) → IsVp (vp_in vps v) z h v → phase z h v ≡ Saved → IsProcessor vps rings z h v
from_vp vps rings z h v is at = record {
  valid = is.valid;
  at = is.at;
  cppr_is = ap (λ p. cppr_in vp rings (thread_of p)) at ∙ now.cppr_is;
  is_pending_as = λ q l. ap (λ p. has_priority (ipb_in vp rings (thread_of p)) q || has_priority vp.backlog q) (is.at ∙ at) ∙ now.is_pending_as q l;
  is_kept_as = λ off q l. ap (λ p. has_priority (ipb_in vp rings (thread_of p)) q) at ∙ now.is_kept_as q l;
  is_late_as = λ off q l. now.is_late_as q l;
  none_late = λ on. absurd (true≢false (sym on ∙ ap is_running at));
  no_cppr = λ away. absurd (true≢false (sym (ap is_saved at) ∙ away));
  no_ipb = λ away. absurd (true≢false (sym (ap is_saved at) ∙ away));
}
  where
    vp : Vp
    vp = vp_in vps v

    now : IsSavedAs vp z h v
    now = is.saved (ap is_saved at)

-- ---- the state of one is set
pub states_fit : (vps vps' : List Vp) (rings : List RingRecord) (v cppr ipb : ℕ) → AreFit vps rings → v < length vps → vps' ≡ slice_set vps v (with_state cppr ipb (vp_in vps v)) → AreFit vps' rings
states_fit vps vps' rings v cppr ipb f l e =
    let vp = with_state cppr ipb (vp_in vps v) in
    subst (λ vps. AreFit vps rings) (sym e) (same_places vps (slice_set vps v vp) rings rings f (length-set vps v vp) refl (phases_set vps v vp l refl) (λ u. refl))

module _ (p p' : Parts) (z : Start) (h : List Entry) (s : StandsFor p z h) (v cppr ipb actor : ℕ) (code : ℤ) where
  abbrev entry : Entry
  entry = record { actor = actor; op = op.VpSet v cppr ipb; outcome = out.Code code }

  accepted_stands : v < length p.vps.vps → is_saved (vp_in p.vps.vps v).phase ≡ true → p'.vps.vps ≡ slice_set p.vps.vps v (with_state cppr ipb (vp_in p.vps.vps v)) → p'.rings ≡ p.rings → p'.vps.servers ≡ p.vps.servers →
      StandFor p'.vps.vps z (entry ∷ h) → StandsFor p' z (entry ∷ h)
  accepted_stands l saved e g servers now = record {
    servers_are = servers ∙ s.servers_are;
    processors = same_length ∙ s.processors;
    threads = ap length g ∙ s.threads;
    each = λ w b. elim (cases_eq w v) [
      | inl same ↦ subst (λ k. IsProcessor p'.vps.vps p'.rings z (entry ∷ h) k) (sym same) here
      | inr other ↦ stays p.vps.vps p'.vps.vps p.rings p'.rings z h w entry (other_state z h w v cppr ipb actor code (λ same. other (sym same))) (s.each w b) (there w other) (λ t uses. ap (λ rings. ring_in rings t) g)
    ];
    free = λ t none. ap (λ rings. ring_in rings t) g ∙ s.free t (λ w uses. none w (ap thread_of (phases w) ∙ uses));
  }
    where
      vp : Vp
      vp = with_state cppr ipb (vp_in p.vps.vps v)

      same_length : length p'.vps.vps ≡ length p.vps.vps
      same_length = ap length e ∙ length-set p.vps.vps v vp

      there : (w : ℕ) → w ≢ v → vp_in p'.vps.vps w ≡ vp_in p.vps.vps w
      there w other = ap (λ vps. vp_in vps w) e ∙ vp_there p.vps.vps v w vp other

      phases : (w : ℕ) → (vp_in p'.vps.vps w).phase ≡ (vp_in p.vps.vps w).phase
      phases w = ap (λ vps. (vp_in vps w).phase) e ∙ phases_set p.vps.vps v vp l refl w

      here : IsProcessor p'.vps.vps p'.rings z (entry ∷ h) v
      here = from_vp p'.vps.vps p'.rings z (entry ∷ h) v (now v (subst (λ n. v < n) (sym same_length) l))
          (sym (s.each v (counted p z h s v l)).at ∙ is_phase (vp_in p.vps.vps v).phase saved)

  refused_stands : is_success code ≡ false → p'.vps ≡ p.vps → p'.rings ≡ p.rings → StandsFor p' z (entry ∷ h)
  refused_stands refused e g =
      subst (λ vps. StandsFor (record { vps = vps; rings = p'.rings }) z (entry ∷ h)) (sym e)
      (subst (λ rings. StandsFor (record { vps = p.vps; rings = rings }) z (entry ∷ h)) (sym g)
      (keeps p z h entry refl (λ w l. untouched z h w entry (refused_state v cppr ipb code refused)) s))

  pub state_stands : v < length p.vps.vps → (is_success code ≡ true → is_saved (vp_in p.vps.vps v).phase ≡ true) →
      (is_success code ≡ true → p'.vps.vps ≡ slice_set p.vps.vps v (with_state cppr ipb (vp_in p.vps.vps v))) → (is_success code ≡ false → p'.vps ≡ p.vps) → p'.rings ≡ p.rings → p'.vps.servers ≡ p.vps.servers →
      StandFor p'.vps.vps z (entry ∷ h) → StandsFor p' z (entry ∷ h)
  state_stands l saved e same g servers now = by (is_success code) refl
    where
      by : (b : Bool) → is_success code ≡ b → StandsFor p' z (entry ∷ h)
      by true accepted = accepted_stands l (saved accepted) (e accepted) g servers now
      by false refused = refused_stands refused (same refused) g

-- the processors after it fit, accepted or not
pub set_fit : (vps vps' : List Vp) (rings : List RingRecord) (v cppr ipb : ℕ) (code : ℤ) → AreFit vps rings → v < length vps →
    (is_success code ≡ true → vps' ≡ slice_set vps v (with_state cppr ipb (vp_in vps v))) → (is_success code ≡ false → vps' ≡ vps) → AreFit vps' rings
set_fit vps vps' rings v cppr ipb code f l accepted refused = by (is_success code) refl
  where
    by : (b : Bool) → is_success code ≡ b → AreFit vps' rings
    by true e = states_fit vps vps' rings v cppr ipb f l (accepted e)
    by false e = subst (λ vps. AreFit vps rings) (sym (refused e)) f

-- and are as many
pub set_length : (vps vps' : List Vp) (v cppr ipb : ℕ) (code : ℤ) → (is_success code ≡ true → vps' ≡ slice_set vps v (with_state cppr ipb (vp_in vps v))) → (is_success code ≡ false → vps' ≡ vps) → length vps' ≡ length vps
set_length vps vps' v cppr ipb code accepted refused = by (is_success code) refl
  where
    by : (b : Bool) → is_success code ≡ b → length vps' ≡ length vps
    by true e = ap length (accepted e) ∙ length-set vps v (with_state cppr ipb (vp_in vps v))
    by false e = ap length (refused e)

-- ---- an attribute is set, or something is asked
-- a setting changes no processor, but perhaps how many can be connected
pub attribute_stands : (p p' : Parts) (z : Start) (h : List Entry) (actor group number : ℕ) (value : AttrValue) (u : Outcome) → StandsFor p z h → p'.vps.vps ≡ p.vps.vps → p'.rings ≡ p.rings →
    p'.vps.servers ≡ servers z (record { actor = actor; op = op.AttrSet group number value; outcome = u } ∷ h) → StandsFor p' z (record { actor = actor; op = op.AttrSet group number value; outcome = u } ∷ h)
attribute_stands p p' z h actor group number value u s e g servers =
    let x : Entry = record { actor = actor; op = op.AttrSet group number value; outcome = u } in
    record {
      servers_are = servers;
      processors = ap length e ∙ s.processors;
      threads = ap length g ∙ s.threads;
      each = λ w l. stays p.vps.vps p'.vps.vps p.rings p'.rings z h w x (untouched z h w x (set_attribute group number value u)) (s.each w l) (ap (λ vps. vp_in vps w) e) (λ t uses. ap (λ rings. ring_in rings t) g);
      free = λ t none. ap (λ rings. ring_in rings t) g ∙ s.free t (λ w uses. none w (ap (λ vps. thread_of (vp_in vps w).phase) e ∙ uses));
    }

pub asked_attribute_stands : (p : Parts) (z : Start) (h : List Entry) (actor group number : ℕ) (u : Outcome) → StandsFor p z h → StandsFor p z (record { actor = actor; op = op.AttrGet group number; outcome = u } ∷ h)
asked_attribute_stands p z h actor group number u s =
    let x : Entry = record { actor = actor; op = op.AttrGet group number; outcome = u } in
    keeps p z h x refl (λ w l. untouched z h w x (asked_attribute group number u)) s

pub asked_state_stands : (p : Parts) (z : Start) (h : List Entry) (actor v : ℕ) (u : Outcome) → StandsFor p z h → StandsFor p z (record { actor = actor; op = op.VpGet v; outcome = u } ∷ h)
asked_state_stands p z h actor v u s =
    let x : Entry = record { actor = actor; op = op.VpGet v; outcome = u } in
    keeps p z h x refl (λ w l. untouched z h w x (asked_state v u)) s
