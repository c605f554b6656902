-- An entry that says nothing of a processor leaves it as the account has it.
use Rattle.std.proofs.Common.{ℕ, ◌≡◌, ◌<◌, ◌&&◌, ◌||◌, ◌==◌, not, Bool, true, false, if◌then◌else◌, Option, Some, None, List, ◌∷◌, refl, sym, ◌∙◌, ap}
use Rattle.std.specs.Option.{option_map_or, option_or}
use Rattle.xv_model.specs.declared.entries.Entry.{Entry}
use Rattle.xv_model.specs.declared.outcomes.Presented.{Presented}
use Rattle.xv_model.specs.declared.outcomes.Presented.TheVariants.{Found, Backlogged, Lost, NoProcessor}
use Rattle.xv_model.specs.account.Start.{Start}
use Rattle.xv_model.specs.processor.Priorities.{has_priority}
use Rattle.xv_model.specs.processor.RingOps.{ring_access}
use Rattle.xv_model.specs.device.Accepted.{servers_in}
use Rattle.xv_model.specs.processor.Phases.{connected_in, is_connected, is_running, is_saved, move_in, moved_at, phase, servers, thread_of}
use Rattle.xv_model.specs.processor.Pending.{Presentation, access_says, ipb_set, is_kept, is_late, is_of, keeps as saves_pending, kept, late, pending, presentation_in}
use Rattle.xv_model.specs.processor.Registers.{cppr, cppr_at, cppr_set}
use Rattle.nvt_backlog.specs.declared.vp.Vp.{Vp}
use Rattle.nvt_backlog.specs.Vps.{vp_in}
use Rattle.thread_context.specs.declared.ring.RingRecord.{RingRecord}
use Rattle.thread_context.specs.Rings.{ring_in}
use Rattle.presenter.specs.Contexts.{Uses, ipb_in}
use Rattle.presenter.proofs.Keeping.{pending_of}
use Rattle.fabric_core.specs.Processors.{IsProcessor, Parts, StandsFor, cppr_in}

-- the entry x after h says nothing of processor v, but perhaps that it is connected
pub record IsStill (z : Start) (h : List Entry) (v : ℕ) (x : Entry) : Type 0 where
  pub moves : moved_at v (move_in x.op x.outcome) ≡ None
  pub presents : (p : ℕ) → p < 8 → is_of v p is_kept (presentation_in x.op x.outcome) ≡ false
  pub sets_ipb : ipb_set v x.op x.outcome ≡ None
  pub sets_cppr : cppr_set v x.op x.outcome ≡ None
  pub says : (p : ℕ) → p < 8 → access_says (phase z h v) p (ring_access x.op) x.outcome ≡ None
  pub stores : cppr_at (phase z h v) (ring_access x.op) x.outcome ≡ None

-- the entry x after h says nothing of processor v
pub record IsUntouched (z : Start) (h : List Entry) (v : ℕ) (x : Entry) : Type 0 where
  pub still : IsStill z h v x
  pub connects : option_map_or (λ u. u == v) (connected_in x.op x.outcome) false ≡ false

-- ---- what the account says of the processor then
pub connected_stays : (z : Start) (h : List Entry) (v : ℕ) (x : Entry) → IsUntouched z h v x → is_connected z (x ∷ h) v ≡ is_connected z h v
connected_stays z h v x e = ap (λ b. b || is_connected z h v) e.connects

pub phase_stays : (z : Start) (h : List Entry) (v : ℕ) (x : Entry) → IsStill z h v x → phase z (x ∷ h) v ≡ phase z h v
phase_stays z h v x e = ap (λ m. option_map_or (λ p. p) m (phase z h v)) e.moves

pub pending_stays : (z : Start) (h : List Entry) (v : ℕ) (x : Entry) → IsStill z h v x → (p : ℕ) → p < 8 → pending z (x ∷ h) v p ≡ pending z h v p
pending_stays z h v x e p l =
    ap (λ b. option_map_or (λ b. b) (if b then Some true else option_or (option_map_or (λ ipb. Some (has_priority ipb p)) (ipb_set v x.op x.outcome) None) (access_says (phase z h v) p (ring_access x.op) x.outcome)) (pending z h v p)) (e.presents p l)
    ∙ ap (λ o. option_map_or (λ b. b) (option_or (option_map_or (λ ipb. Some (has_priority ipb p)) o None) (access_says (phase z h v) p (ring_access x.op) x.outcome)) (pending z h v p)) e.sets_ipb
    ∙ ap (λ o. option_map_or (λ b. b) o (pending z h v p)) (e.says p l)

saves_none : (z : Start) (h : List Entry) (v : ℕ) (x : Entry) → IsStill z h v x → saves_pending v x ≡ false
saves_none z h v x e = rw (e.moves, e.sets_ipb) refl

pub kept_stays : (z : Start) (h : List Entry) (v : ℕ) (x : Entry) → IsStill z h v x → (p : ℕ) → kept z (x ∷ h) v p ≡ kept z h v p
kept_stays z h v x e p = ap (λ b. if b then pending z (x ∷ h) v p else kept z h v p) (saves_none z h v x e)

-- what comes late isn't lost
late_kept : (w : Presented) → is_kept w ≡ false → is_late w ≡ false
late_kept Found e = refl
late_kept Backlogged e = e
late_kept Lost e = refl
late_kept NoProcessor e = refl

both_late : (a b : Bool) (w : Presented) → (a && (b && is_kept w)) ≡ false → (a && (b && is_late w)) ≡ false
both_late true true w e = late_kept w e
both_late true false w e = refl
both_late false b w e = refl

none_late : (v p : ℕ) (o : Option Presentation) → is_of v p is_kept o ≡ false → is_of v p is_late o ≡ false
none_late v p (Some x) e = both_late (x.processor == v) (x.priority == p) x.presented e
none_late v p None e = refl

pub late_stays : (z : Start) (h : List Entry) (v : ℕ) (x : Entry) → IsStill z h v x → (p : ℕ) → p < 8 → late z (x ∷ h) v p ≡ late z h v p
late_stays z h v x e p l =
    ap (λ b. not b && (is_of v p is_late (presentation_in x.op x.outcome) || late z h v p)) (saves_none z h v x e)
    ∙ ap (λ b. b || late z h v p) (none_late v p (presentation_in x.op x.outcome) (e.presents p l))

pub cppr_stays : (z : Start) (h : List Entry) (v : ℕ) (x : Entry) → IsStill z h v x → cppr z (x ∷ h) v ≡ cppr z h v
cppr_stays z h v x e =
    ap (λ o. option_map_or (λ n. n) (option_or o (cppr_at (phase z h v) (ring_access x.op) x.outcome)) (cppr z h v)) e.sets_cppr
    ∙ ap (λ o. option_map_or (λ n. n) o (cppr z h v)) e.stores

-- ---- the processor is as the account has it then
-- the ring of the thread that it uses is as it was
abbrev pub KeepsRing : List Vp → List RingRecord → List RingRecord → ℕ → Type 0
KeepsRing vps rings rings' v = (t : ℕ) → Uses vps v t → ring_in rings' t ≡ ring_in rings t

cppr_same : (vp : Vp) (rings rings' : List RingRecord) (o : Option ℕ) → ((t : ℕ) → o ≡ Some t → ring_in rings' t ≡ ring_in rings t) → cppr_in vp rings' o ≡ cppr_in vp rings o
cppr_same vp rings rings' None same = refl
cppr_same vp rings rings' (Some t) same = ap (λ (r : RingRecord). r.cppr) (same t refl)

ipb_same : (vp : Vp) (rings rings' : List RingRecord) (o : Option ℕ) → ((t : ℕ) → o ≡ Some t → ring_in rings' t ≡ ring_in rings t) → ipb_in vp rings' o ≡ ipb_in vp rings o
ipb_same vp rings rings' None same = refl
ipb_same vp rings rings' (Some t) same = ap (λ (r : RingRecord). r.ipb) (same t refl)

-- the same processor, which is connected or not
pub stays_same : (vps vps' : List Vp) (rings rings' : List RingRecord) (z : Start) (h : List Entry) (v : ℕ) (x : Entry) → IsStill z h v x → IsProcessor vps rings z h v →
    vp_in vps' v ≡ record { valid = is_connected z (x ∷ h) v; phase = (vp_in vps v).phase; cppr = (vp_in vps v).cppr; ipb = (vp_in vps v).ipb; backlog = (vp_in vps v).backlog } →
    KeepsRing vps rings rings' v → IsProcessor vps' rings' z (x ∷ h) v
stays_same vps vps' rings rings' z h v x still is e same = record {
  valid = ap (λ (y : Vp). y.valid) e;
  at = ap (λ (y : Vp). y.phase) e ∙ is.at ∙ sym at;
  cppr_is = ap (λ p. cppr_in (vp_in vps' v) rings' (thread_of p)) at ∙ ap (λ (y : Vp). cppr_in y rings' (thread_of (phase z h v))) e ∙ cppr_same vp rings rings' (thread_of (phase z h v)) used ∙ is.cppr_is ∙ sym (cppr_stays z h v x still);
  is_pending_as = λ q l. ap (λ (y : Vp). pending_of y rings' q) e ∙ ap (λ i. has_priority i q || has_priority vp.backlog q) (ipb_same vp rings rings' (thread_of vp.phase) same) ∙ is.is_pending_as q l ∙ sym (pending_stays z h v x still q l);
  is_kept_as = λ off q l. ap (λ p. has_priority (ipb_in (vp_in vps' v) rings' (thread_of p)) q) at ∙ ap (λ (y : Vp). has_priority (ipb_in y rings' (thread_of (phase z h v))) q) e
      ∙ ap (λ i. has_priority i q) (ipb_same vp rings rings' (thread_of (phase z h v)) used) ∙ is.is_kept_as (ap is_running (sym at) ∙ off) q l ∙ sym (kept_stays z h v x still q);
  is_late_as = λ off q l. ap (λ (y : Vp). has_priority y.backlog q) e ∙ is.is_late_as (ap is_running (sym at) ∙ off) q l ∙ sym (late_stays z h v x still q l);
  none_late = λ on. ap (λ (y : Vp). y.backlog) e ∙ is.none_late (ap is_running (sym at) ∙ on);
  no_cppr = λ away. ap (λ (y : Vp). y.cppr) e ∙ is.no_cppr (ap is_saved (sym at) ∙ away);
  no_ipb = λ away. ap (λ (y : Vp). y.ipb) e ∙ is.no_ipb (ap is_saved (sym at) ∙ away);
}
  where
    vp : Vp
    vp = vp_in vps v

    at : phase z (x ∷ h) v ≡ phase z h v
    at = phase_stays z h v x still

    used : (t : ℕ) → thread_of (phase z h v) ≡ Some t → ring_in rings' t ≡ ring_in rings t
    used t uses = same t (ap thread_of is.at ∙ uses)

pub stays : (vps vps' : List Vp) (rings rings' : List RingRecord) (z : Start) (h : List Entry) (v : ℕ) (x : Entry) → IsUntouched z h v x → IsProcessor vps rings z h v →
    vp_in vps' v ≡ vp_in vps v → KeepsRing vps rings rings' v → IsProcessor vps' rings' z (x ∷ h) v
stays vps vps' rings rings' z h v x untouched is e same = stays_same vps vps' rings rings' z h v x untouched.still is
    (e ∙ ap (λ b. record { valid = b; phase = (vp_in vps v).phase; cppr = (vp_in vps v).cppr; ipb = (vp_in vps v).ipb; backlog = (vp_in vps v).backlog }) (is.valid ∙ sym (connected_stays z h v x untouched))) same

-- an entry that doesn't set the number of servers leaves it
pub servers_stay : (z : Start) (h : List Entry) (x : Entry) → servers_in x.op x.outcome ≡ None → servers z (x ∷ h) ≡ servers z h
servers_stay z h x none = ap (λ o. option_map_or (λ n. n) o (servers z h)) none

-- an entry that says nothing of any processor
pub keeps : (p : Parts) (z : Start) (h : List Entry) (x : Entry) → servers_in x.op x.outcome ≡ None → ((v : ℕ) → v < z.board.limits.processors → IsUntouched z h v x) → StandsFor p z h → StandsFor p z (x ∷ h)
keeps p z h x none untouched s = record {
  servers_are = s.servers_are ∙ sym (servers_stay z h x none);
  processors = s.processors;
  threads = s.threads;
  each = λ v l. stays p.vps.vps p.vps.vps p.rings p.rings z h v x (untouched v l) (s.each v l) refl (λ t uses. refl);
  free = s.free;
}
