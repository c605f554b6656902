-- Processors after a connection, by its code: those that represent the account represent it with that connection.
use Rattle.std.proofs.Common.{ℕ, ℤ, pos, ◌≡◌, ◌≢◌, ◌<◌, ◌≤◌, ◌==◌, ◌||◌, true, false, if◌then◌else◌, Some, None, List, ◌∷◌, length, refl, sym, ◌∙◌, ap, subst, inl, inr, slice_set}
use Rattle.std.specs.Prelude.{◌⊎◌}
use Rattle.std.specs.Option.{option_map_or}
use Rattle.std.proofs.lemmas.Bool.{cases_eq, cases_lt, eq-eqb}
use Rattle.std.proofs.Math.ListN.{length-set}
use Rattle.xv_model.specs.declared.kvm.errors.TheConstants.{EINVAL}
use Rattle.xv_model.specs.declared.entries.Entry.{Entry}
use Rattle.xv_model.specs.declared.operations.Op.TheVariants.{Connect}
use Rattle.xv_model.specs.declared.outcomes.Outcome.TheVariants.{Code}
use Rattle.xv_model.specs.account.Start.{Start}
use Rattle.xv_model.specs.call.Accepted.{is_success}
use Rattle.xv_model.specs.processor.Phases.{is_connected, thread_of}
use Rattle.nvt_backlog.specs.declared.vp.Vp.{Vp}
use Rattle.nvt_backlog.specs.Vps.{connected, vp_in}
use Rattle.thread_context.specs.declared.ring.RingRecord.{RingRecord}
use Rattle.thread_context.specs.Rings.{ring_in}
use Rattle.presenter.specs.Contexts.{AreFit}
use Rattle.presenter.proofs.Fitting.{phases_set, same_places, vp_here, vp_there}
use Rattle.fabric_core.specs.Processors.{IsProcessor, Parts, StandsFor}
use Rattle.fabric_core.proofs.Silent.{connect_still, other_connect, refused_connect, untouched}
use Rattle.fabric_core.proofs.Untouched.{keeps, stays, stays_same}

-- contexts stay where they are
pub connects_fit : (vps vps' : List Vp) (rings : List RingRecord) (v servers : ℕ) → AreFit vps rings → v < length vps → (servers ≤ v → vps' ≡ vps) → (v < servers → vps' ≡ slice_set vps v (connected (vp_in vps v))) → AreFit vps' rings
connects_fit vps vps' rings v servers f l refused accepted = by (cases_lt v servers)
  where
    by : (v < servers) ⊎ (servers ≤ v) → AreFit vps' rings
    by (inl less) = subst (λ vps. AreFit vps rings) (sym (accepted less)) (same_places vps (slice_set vps v (connected (vp_in vps v))) rings rings f (length-set vps v (connected (vp_in vps v))) refl (phases_set vps v (connected (vp_in vps v)) l refl) (λ u. refl))
    by (inr past) = subst (λ vps. AreFit vps rings) (sym (refused past)) f

module _ (p p' : Parts) (z : Start) (h : List Entry) (s : StandsFor p z h) (v actor : ℕ) where
  -- the entry of a connection
  abbrev entry : ℤ → Entry
  entry code = record { actor = actor; op = Connect v; outcome = Code code }

  -- v is connected then
  is_then : (code : ℤ) → code ≡ pos 0 → is_connected z (entry code ∷ h) v ≡ true
  is_then code e = ap (λ code. option_map_or (λ u. u == v) (if is_success code then Some v else None) false || is_connected z h v) e ∙ ap (λ b. b || is_connected z h v) (eq-eqb v v refl)

  accepted_stands : (code : ℤ) → v < length p.vps.vps → code ≡ pos 0 → p'.vps.vps ≡ slice_set p.vps.vps v (connected (vp_in p.vps.vps v)) → p'.rings ≡ p.rings → p'.vps.servers ≡ p.vps.servers → StandsFor p' z (entry code ∷ h)
  accepted_stands code l done e g servers = record {
    servers_are = servers ∙ s.servers_are;
    processors = ap length e ∙ length-set p.vps.vps v vp ∙ s.processors;
    threads = ap length g ∙ s.threads;
    each = λ w b. elim (cases_eq w v) [
      | inl same ↦ subst (λ k. IsProcessor p'.vps.vps p'.rings z (entry code ∷ h) k) (sym same) here
      | inr other ↦ stays p.vps.vps p'.vps.vps p.rings p'.rings z h w (entry code) (other_connect z h w v actor code (λ same. other (sym same))) (s.each w b) (there w other) (λ t uses. ap (λ rings. ring_in rings t) g)
    ];
    free = λ t none. ap (λ rings. ring_in rings t) g ∙ s.free t (λ w uses. none w (ap thread_of (phases w) ∙ uses));
  }
    where
      vp : Vp
      vp = connected (vp_in p.vps.vps v)

      there : (w : ℕ) → w ≢ v → vp_in p'.vps.vps w ≡ vp_in p.vps.vps w
      there w other = ap (λ vps. vp_in vps w) e ∙ vp_there p.vps.vps v w vp other

      phases : (w : ℕ) → (vp_in p'.vps.vps w).phase ≡ (vp_in p.vps.vps w).phase
      phases w = ap (λ vps. (vp_in vps w).phase) e ∙ phases_set p.vps.vps v vp l refl w

      here : IsProcessor p'.vps.vps p'.rings z (entry code ∷ h) v
      here = stays_same p.vps.vps p'.vps.vps p.rings p'.rings z h v (entry code) (connect_still z h v v actor code) (s.each v (subst (λ n. v < n) s.processors l))
          (ap (λ vps. vp_in vps v) e ∙ vp_here p.vps.vps v vp l
          ∙ ap (λ b. record { valid = b; phase = (vp_in p.vps.vps v).phase; cppr = (vp_in p.vps.vps v).cppr; ipb = (vp_in p.vps.vps v).ipb; backlog = (vp_in p.vps.vps v).backlog }) (sym (is_then code done))) (λ t uses. ap (λ rings. ring_in rings t) g)

  refused_stands : (code : ℤ) → code ≡ EINVAL → p'.vps ≡ p.vps → p'.rings ≡ p.rings → StandsFor p' z (entry code ∷ h)
  refused_stands code refused e g =
      subst (λ vps. StandsFor (record { vps = vps; rings = p'.rings }) z (entry code ∷ h)) (sym e)
      (subst (λ rings. StandsFor (record { vps = p.vps; rings = rings }) z (entry code ∷ h)) (sym g)
      (keeps p z h (entry code) refl (λ w l. untouched z h w (entry code) (refused_connect v code (ap is_success refused))) s))

  pub connect_stands : (code : ℤ) → v < length p.vps.vps → (v < p.vps.servers → code ≡ pos 0) → (p.vps.servers ≤ v → code ≡ EINVAL) → (p.vps.servers ≤ v → p'.vps ≡ p.vps) →
      (v < p.vps.servers → p'.vps.vps ≡ slice_set p.vps.vps v (connected (vp_in p.vps.vps v))) → p'.rings ≡ p.rings → p'.vps.servers ≡ p.vps.servers → StandsFor p' z (entry code ∷ h)
  connect_stands code l done refused same e g servers = by (cases_lt v p.vps.servers)
    where
      by : (v < p.vps.servers) ⊎ (p.vps.servers ≤ v) → StandsFor p' z (entry code ∷ h)
      by (inl less) = accepted_stands code l (done less) (e less) g servers
      by (inr past) = refused_stands code (refused past) (same past) g
