-- What is pending for a processor that isn't on a thread in a legal account: what was kept, and what came late.
use Rattle.std.proofs.Common.{ℕ, ◌≡◌, ◌==◌, ◌&&◌, ◌||◌, Bool, true, false, not, if◌then◌else◌, List, [], ◌∷◌, slice_get, Option, Some, None, refl, sym, ap, subst}
use Rattle.std.specs.Option.{option_map_or, option_or}
use Rattle.std.proofs.lemmas.Bool.{eqb-true, or_parts}
use Rattle.xv_model.specs.declared.operations.Op.{Op}
use Rattle.xv_model.specs.declared.operations.Op.TheVariants as op
use Rattle.xv_model.specs.declared.outcomes.Outcome.{Outcome}
use Rattle.xv_model.specs.declared.outcomes.Outcome.TheVariants as out
use Rattle.xv_model.specs.declared.outcomes.Phase.{Phase}
use Rattle.xv_model.specs.declared.outcomes.Phase.TheVariants.{Saved, Restored, On, Pulled}
use Rattle.xv_model.specs.declared.outcomes.Presented.{Presented}
use Rattle.xv_model.specs.declared.outcomes.Presented.TheVariants.{Backlogged, Lost, NoProcessor}
use Rattle.xv_model.specs.declared.messages.Message.{Message}
use Rattle.xv_model.specs.declared.messages.Message.TheVariants as message
use Rattle.xv_model.specs.declared.entries.Entry.{Entry}
use Rattle.xv_model.specs.account.Start.{Start, start}
use Rattle.xv_model.specs.account.Legal.{IsLegal, IsNext, legal}
use Rattle.xv_model.specs.end.Flags.{keeps_backlog}
use Rattle.xv_model.specs.route.Flight.{flight}
use Rattle.xv_model.specs.route.Taking.{presented_to, taken_by}
use Rattle.xv_model.specs.processor.Priorities.{has_priority}
use Rattle.xv_model.specs.processor.RingOps.{RingAccess, ring_access}
use Rattle.xv_model.specs.processor.Phases.{Move, move_in, moved_at, is_running, is_connected, phase}
use Rattle.xv_model.specs.processor.Pending.{presentation_in, is_kept, is_late, is_of, access_says, ipb_set, pending, is_pulled as is_pulled_at, keeps, kept, late}
use Rattle.xv_model.specs.laws.Pending.{EachIsKeptOff}
use Rattle.xv_model.proofs.Users.{AreSingle, IsSound, moved}
use Rattle.xv_model.proofs.SoundMoves.{next_sound, single, start_single}

-- a processor that isn't on a thread after an entry by which it isn't pulled wasn't on one before it
was_off : (z : Start) (h : List Entry) (x : Entry) (v : ℕ) → AreSingle z.board.limits.processors (phase z h) → IsNext z h x → keeps v x ≡ false → is_running (phase z (x ∷ h) v) ≡ false → is_running (phase z h v) ≡ false
was_off z h x v s n k off = by (move_in x.op x.outcome) refl (or_parts _ _ k).0 off
  where
    by_test : (m : Move) → IsSound z.board.limits.processors (phase z h) m → (b : Bool) → (m.processor == v) ≡ b → is_pulled_at (if b then Some m.phase else None) ≡ false → is_running (option_map_or (λ p. p) (if b then Some m.phase else None) (phase z h v)) ≡ false → is_running (phase z h v) ≡ false
    by_test m ok true is stays off = subst (λ v. is_running (phase z h v) ≡ false) (eqb-true m.processor v is) (ok.off off stays)
    by_test m ok false is stays off = off

    by : (m : Option Move) → move_in x.op x.outcome ≡ m → is_pulled_at (moved_at v m) ≡ false → is_running (moved m (phase z h) v) ≡ false → is_running (phase z h v) ≡ false
    by (Some m) e stays off = by_test m (next_sound z h x m s n e) (m.processor == v) refl stays off
    by None e stays off = off

-- a presentation to a processor that isn't on a thread, where it isn't lost, is late
late_by : (connected b : Bool) → let p = if not connected then NoProcessor else (if b then Backlogged else Lost) in is_kept p ≡ is_late p
late_by false b = refl
late_by true true = refl
late_by true false = refl

presented_late : (z : Start) (h : List Entry) (b : Bool) (v : ℕ) → is_running (phase z h v) ≡ false → is_kept (presented_to z h b v) ≡ is_late (presented_to z h b v)
presented_late z h b v off = rw off (late_by (is_connected z h v) b)

taken_late : (z : Start) (h : List Entry) (i v p : ℕ) (m : Option Message) → is_running (phase z h v) ≡ false →
    let u = option_map_or (taken_by z h) m out.NoMessage in
    is_of v p is_kept (presentation_in (op.Take i) u) ≡ is_of v p is_late (presentation_in (op.Take i) u)
taken_late z h i v p (Some (message.Present e flags vp priority esc esc_eisn origin)) off = by (vp == v) refl
  where
    became : Presented
    became = presented_to z h (keeps_backlog flags) vp

    by : (b : Bool) → (vp == v) ≡ b → (b && ((priority == p) && is_kept became)) ≡ (b && ((priority == p) && is_late became))
    by true is = ap (λ b. (priority == p) && b) (presented_late z h (keeps_backlog flags) vp (subst (λ v. is_running (phase z h v) ≡ false) (sym (eqb-true vp v is)) off))
    by false is = refl
taken_late z h i v p (Some (message.Escalate e flags esc esc_eisn origin)) off = refl
taken_late z h i v p None off = refl

only_late : (z : Start) (h : List Entry) (o : Op) (v p : ℕ) → is_running (phase z h v) ≡ false → is_of v p is_kept (presentation_in o (legal z h o)) ≡ is_of v p is_late (presentation_in o (legal z h o))
only_late z h (op.Take i) v p off = taken_late z h i v p (slice_get (flight z h) i) off
only_late z h _ v p off = refl

-- nothing is done to the ring of a processor that isn't on a thread
says_none : (now : Phase) (p : ℕ) (a : Option RingAccess) (u : Outcome) → is_running now ≡ false → access_says now p a u ≡ None
says_none (On t) p a u off = cc
says_none Saved p (Some a) u off = refl
says_none (Restored t) p (Some a) u off = refl
says_none (Pulled t) p (Some a) u off = refl
says_none Saved p None u off = refl
says_none (Restored t) p None u off = refl
says_none (Pulled t) p None u off = refl

-- what is kept and late after an entry, by whether it saves what is pending, and whether it presents the priority
kept_if_saved : (now : Bool) → now ≡ (now || false)
kept_if_saved true = refl
kept_if_saved false = refl

more_late : (late_now before kept late : Bool) → before ≡ (kept || late) → option_map_or (λ b. b) (if late_now then Some true else None) before ≡ (kept || (late_now || late))
more_late true before true late e = refl
more_late true before false late e = refl
more_late false before kept late e = e

-- an entry that saves nothing, and does nothing to a ring: what is pending is more by what came late
unsaved : (presents late_now before kept late : Bool) (set : Option ℕ) (says : Option Bool) (has : ℕ → Bool) →
    presents ≡ late_now → option_map_or (λ ipb. true) set false ≡ false → says ≡ None → before ≡ (kept || late) →
    option_map_or (λ b. b) (if presents then Some true else option_or (option_map_or (λ ipb. Some (has ipb)) set None) says) before ≡ (kept || (late_now || late))
unsaved presents late_now before kept late (Some ipb) says has e f g w = cc
unsaved presents late_now before kept late None says has e f g w = rw (e, g) (more_late late_now before kept late w)

-- one more entry of a legal account
kept_more : (z : Start) (h : List Entry) (x : Entry) (v p : ℕ) → AreSingle z.board.limits.processors (phase z h) → IsNext z h x →
    (is_running (phase z h v) ≡ false → pending z h v p ≡ (kept z h v p || late z h v p)) →
    is_running (phase z (x ∷ h) v) ≡ false → pending z (x ∷ h) v p ≡ (kept z (x ∷ h) v p || late z (x ∷ h) v p)
kept_more z h x v p s n before off = by (keeps v x) refl
  where
    late_now : Bool
    late_now = is_of v p is_late (presentation_in x.op x.outcome)

    by : (k : Bool) → keeps v x ≡ k → pending z (x ∷ h) v p ≡ ((if k then pending z (x ∷ h) v p else kept z h v p) || (not k && (late_now || late z h v p)))
    by true is = kept_if_saved (pending z (x ∷ h) v p)
    by false is =
        let was = was_off z h x v s n is off in
        let presents = subst (λ u. is_of v p is_kept (presentation_in x.op u) ≡ is_of v p is_late (presentation_in x.op u)) (sym n.outcome) (only_late z h x.op v p was) in
        unsaved (is_of v p is_kept (presentation_in x.op x.outcome)) late_now (pending z h v p) (kept z h v p) (late z h v p) (ipb_set v x.op x.outcome) (access_says (phase z h v) p (ring_access x.op) x.outcome) (λ ipb. has_priority ipb p)
        presents (or_parts _ _ is).1 (says_none (phase z h v) p (ring_access x.op) x.outcome was) (before was)

-- of a processor that isn't on a thread those priorities are pending that were kept, or came late
pub kept_off : (z : Start) (h : List Entry) (v p : ℕ) → AreSingle z.board.limits.processors z.phase → IsLegal z h → is_running (phase z h v) ≡ false → pending z h v p ≡ (kept z h v p || late z h v p)
kept_off z [] v p s l off = refl
kept_off z (x ∷ h) v p s l off = kept_more z h x v p (single z h s l.0) l.1 (kept_off z h v p s l.0) off

pub each_is_kept_off : EachIsKeptOff
each_is_kept_off b h l v p off = kept_off (start b) h v p (start_single b) l off
