-- What is shown of a processor in a legal account: its IPB and its backlog have the priorities that are pending, wherever its context is.
use Rattle.std.proofs.Common.{ℕ, ◌≡◌, ◌<◌, ◌||◌, Bool, true, false, if◌then◌else◌, List, Some, refl, sym, ◌∙◌, ap}
use Rattle.std.specs.Option.{option_map_or}
use Rattle.xv_model.specs.declared.outcomes.Phase.{Phase}
use Rattle.xv_model.specs.declared.outcomes.Phase.TheVariants.{Saved, Restored, On, Pulled}
use Rattle.xv_model.specs.declared.entries.Entry.{Entry}
use Rattle.xv_model.specs.account.Start.{Start, start}
use Rattle.xv_model.specs.account.Legal.{IsLegal}
use Rattle.xv_model.specs.processor.Priorities.{priorities, has_priority, byte_of}
use Rattle.xv_model.specs.processor.Phases.{thread_of, is_running, phase}
use Rattle.xv_model.specs.processor.Pending.{pending, kept, late}
use Rattle.xv_model.specs.processor.Registers.{used_ring, ring, saved_ipb, backlog}
use Rattle.xv_model.specs.laws.Pending.{shown_ipb, EachIsShown}
use Rattle.xv_model.proofs.Bytes.{has_byte_of}
use Rattle.xv_model.proofs.Users.{AreSingle}
use Rattle.xv_model.proofs.SoundMoves.{single, start_single, user_of-is}
use Rattle.xv_model.proofs.KeptOff.{kept_off}

-- the ring of the thread that a processor's context uses
ring-used : (z : Start) (h : List Entry) (v t : ℕ) → AreSingle z.board.limits.processors (phase z h) → thread_of (phase z h v) ≡ Some t → ring z h t ≡ used_ring z h v (phase z h v)
ring-used z h v t s uses = rw (user_of-is z h v t s uses) refl

-- the IPB that is shown is the one in that ring
shown_ipb-used : (z : Start) (h : List Entry) (v t : ℕ) → AreSingle z.board.limits.processors (phase z h) → thread_of (phase z h v) ≡ Some t → shown_ipb z h v ≡ (used_ring z h v (phase z h v)).ipb
shown_ipb-used z h v t s uses = ap (λ user. option_map_or (λ t. (ring z h t).ipb) user (saved_ipb z h v)) uses ∙ ap (λ r. r.ipb) (ring-used z h v t s uses)

-- it has what is pending while the context is on the thread, and else what was kept
pub shown_ipb-is : (z : Start) (h : List Entry) (v : ℕ) (now : Phase) → AreSingle z.board.limits.processors (phase z h) → phase z h v ≡ now → shown_ipb z h v ≡ byte_of (if is_running now then pending z h v else kept z h v)
shown_ipb-is z h v Saved s e = rw e refl
shown_ipb-is z h v (Restored t) s e = shown_ipb-used z h v t s (ap thread_of e) ∙ ap (λ now. (used_ring z h v now).ipb) e
shown_ipb-is z h v (On t) s e = shown_ipb-used z h v t s (ap thread_of e) ∙ ap (λ now. (used_ring z h v now).ipb) e
shown_ipb-is z h v (Pulled t) s e = shown_ipb-used z h v t s (ap thread_of e) ∙ ap (λ now. (used_ring z h v now).ipb) e

-- what the IPB and the backlog have, where they are these bytes
has_either : (ipb late : ℕ → Bool) (p : ℕ) → p < priorities → (ipb p || late p) ≡ (has_priority (byte_of ipb) p || has_priority (byte_of late) p)
has_either ipb late p w = λ i. sym (has_byte_of ipb p w) i || sym (has_byte_of late p w) i

or_none : (b : Bool) → b ≡ (b || false)
or_none true = refl
or_none false = refl

-- wherever the context is, those priorities are pending that are shown
pub are_shown : (z : Start) (h : List Entry) (v p : ℕ) → AreSingle z.board.limits.processors z.phase → IsLegal z h → p < priorities → pending z h v p ≡ (has_priority (shown_ipb z h v) p || has_priority (backlog z h v) p)
are_shown z h v p s l w = by (is_running (phase z h v)) refl ∙ ap (λ ipb. has_priority ipb p || has_priority (backlog z h v) p) (sym (shown_ipb-is z h v (phase z h v) (single z h s l) refl))
  where
    by : (b : Bool) → is_running (phase z h v) ≡ b → pending z h v p ≡ (has_priority (byte_of (if b then pending z h v else kept z h v)) p || has_priority (if b then 0 else byte_of (late z h v)) p)
    by true on = or_none (pending z h v p) ∙ has_either (pending z h v) (λ p. false) p w
    by false off = kept_off z h v p s l off ∙ has_either (kept z h v) (late z h v) p w

pub each_is_shown : EachIsShown
each_is_shown b h l v p w = are_shown (start b) h v p (start_single b) l w
