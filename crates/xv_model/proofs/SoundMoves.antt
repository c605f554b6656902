-- The moves of a legal account: no thread has two users, and who is on a thread is its user.
use Rattle.std.proofs.Common.{ℕ, ◌≡◌, ◌+◌, ◌-◌, Bool, true, false, not, if◌then◌else◌, List, [], ◌∷◌, Option, Some, None, refl, sym, ◌∙◌, ap, subst, arith}
use Rattle.std.specs.Option.{option_map_or}
use Rattle.std.proofs.lemmas.Bool.{eqb-true, eq-eqb, ltb-true, and_parts}
use Rattle.xv_model.specs.declared.tima.TheConstants.{CAM_VALID, CAM_FIRST}
use Rattle.xv_model.specs.declared.operations.Op.{Op}
use Rattle.xv_model.specs.declared.operations.Op.TheVariants as op
use Rattle.xv_model.specs.declared.outcomes.MoveRefused.TheVariants.{NotValid, VpBusy, RingBusy, NotPulled, NotRestored, NoContext}
use Rattle.xv_model.specs.declared.outcomes.Outcome.TheVariants as out
use Rattle.xv_model.specs.declared.outcomes.Phase.{Phase}
use Rattle.xv_model.specs.declared.outcomes.Phase.TheVariants.{Saved, Restored, On, Pulled}
use Rattle.xv_model.specs.declared.entries.Entry.{Entry}
use Rattle.xv_model.specs.declared.board.Board.{Board}
use Rattle.xv_model.specs.account.Start.{Start, start}
use Rattle.xv_model.specs.account.Legal.{IsLegal, IsNext, legal}
use Rattle.xv_model.specs.board.Validity.{valid}
use Rattle.xv_model.specs.declared.tima.RingOp.{RingOp}
use Rattle.xv_model.specs.declared.tima.RingOp.TheVariants.{Load, SetCppr, Accept, Inject, Push, Pull}
use Rattle.xv_model.specs.processor.RingOps.{ring_op, ring_access_by}
use Rattle.xv_model.specs.processor.Phases.{Move, cam_of, moved_by, pushed_in, move_in, thread_of, is_saved, is_running, phase, user_of, is_connected}
use Rattle.xv_model.specs.processor.Moves.{is_restored, is_pulled, is_cam, restore_outcome, save_outcome, push_outcome, on_of, pull_outcome}
use Rattle.xv_model.specs.processor.Accesses.{ring_outcome}
use Rattle.xv_model.specs.laws.Pending.{EachHasOneUser, EachIsUser}
use Rattle.xv_model.proofs.Users.{AreSingle, IsSound, moved, single_moved, none_below, user_below-is, found_below, found_on}

-- a restore that moves a context was of one that was saved, for a thread that no one used
restore_moves : (v t : ℕ) (connected saved : Bool) (now : Phase) (user : Option ℕ) (m : Move) →
    move_in (op.Restore v t) (if not connected then out.Refused NotValid else (if not saved then out.Refused (VpBusy now) else option_map_or (λ user. out.Refused (RingBusy user)) user out.Fine)) ≡ Some m →
    (record { processor = v; phase = Restored t } ≡ m) × (saved ≡ true) × (user ≡ None)
restore_moves v t false saved now user m e = cc
restore_moves v t true false now user m e = cc
restore_moves v t true true now (Some w) m e = cc
restore_moves v t true true now None m e = (cc, refl, refl)

-- a save that moves one was of one that was pulled
save_moves : (v : ℕ) (connected pulled : Bool) (now : Phase) (m : Move) →
    move_in (op.Save v) (if not connected then out.Refused NotValid else (if not pulled then out.Refused (NotPulled now) else out.Fine)) ≡ Some m →
    (record { processor = v; phase = Saved } ≡ m) × (pulled ≡ true)
save_moves v false pulled now m e = cc
save_moves v true false now m e = cc
save_moves v true true now m e = (cc, refl)

-- a push that moves one was by the CAM word of one that was restored on the thread
push_moves : (t cam : ℕ) (known restored : Bool) (now : Phase) (m : Move) →
    moved_by t (Push cam) (if not known then out.Refused NotValid else (if not restored then out.Refused (NotRestored now) else out.Fine)) ≡ Some m →
    (record { processor = cam - (CAM_VALID + CAM_FIRST); phase = On t } ≡ m) × (known ≡ true) × (restored ≡ true)
push_moves t cam false restored now m e = cc
push_moves t cam true false now m e = cc
push_moves t cam true true now m e = (cc, refl, refl)

-- a pull that moves one was of the processor that was on the thread
pull_moves : (t : ℕ) (user : Option ℕ) (m : Move) →
    moved_by t Pull (option_map_or (λ v. out.Value (cam_of v)) user (out.Refused NoContext)) ≡ Some m →
    (v : ℕ) × (record { processor = cam_of v - (CAM_VALID + CAM_FIRST); phase = Pulled t } ≡ m) × (user ≡ Some v)
pull_moves t (Some v) m e = (v, cc, refl)
pull_moves t None m e = cc

-- one that is saved or pulled isn't on a thread
saved_off : (now : Phase) → is_saved now ≡ true → is_running now ≡ false
saved_off Saved e = refl
saved_off (Restored t) e = refl
saved_off (On t) e = cc
saved_off (Pulled t) e = refl

pulled_off : (now : Phase) → is_pulled now ≡ true → is_running now ≡ false
pulled_off Saved e = refl
pulled_off (Restored t) e = refl
pulled_off (On t) e = cc
pulled_off (Pulled t) e = refl

restored_uses : (t : ℕ) (now : Phase) → is_restored t now ≡ true → thread_of now ≡ Some t
restored_uses t (Restored u) e = ap Some (eqb-true u t e)
restored_uses t Saved e = cc
restored_uses t (On u) e = cc
restored_uses t (Pulled u) e = cc

-- the moves that are legal after an account in which no thread has two users

abbrev pub SingleAfter : Start → List Entry → Type 0
SingleAfter z h = AreSingle z.board.limits.processors (phase z h)

abbrev pub SoundAfter : Start → List Entry → Move → Type 0
SoundAfter z h m = IsSound z.board.limits.processors (phase z h) m

restore_sound : (z : Start) (h : List Entry) (v t : ℕ) (m : Move) → SingleAfter z h → valid z.board (op.Restore v t) ≡ true → move_in (op.Restore v t) (restore_outcome z h v t) ≡ Some m → SoundAfter z h m
restore_sound z h v t m s ok e =
    let r = restore_moves v t (is_connected z h v) (is_saved (phase z h v)) (phase z h v) (user_of z h t) m e in
    subst (SoundAfter z h) r.0 (record {
      below = ltb-true v z.board.limits.processors (and_parts _ _ ok).0;
      alone = λ w u at uses. let same : u ≡ t = cc in absurd (none_below (phase z h) t z.board.limits.processors r.2 w (s.below w u uses) (uses ∙ ap Some same));
      off = λ a b. saved_off (phase z h v) r.1;
    })

save_sound : (z : Start) (h : List Entry) (v : ℕ) (m : Move) → valid z.board (op.Save v) ≡ true → move_in (op.Save v) (save_outcome z h v) ≡ Some m → SoundAfter z h m
save_sound z h v m ok e =
    let r = save_moves v (is_connected z h v) (is_pulled (phase z h v)) (phase z h v) m e in
    subst (SoundAfter z h) r.0 (record {
      below = ltb-true v z.board.limits.processors ok;
      alone = λ w u at uses. cc;
      off = λ a b. pulled_off (phase z h v) r.1;
    })

push_sound : (z : Start) (h : List Entry) (t cam : ℕ) (m : Move) → SingleAfter z h → moved_by t (Push cam) (push_outcome z h t cam) ≡ Some m → SoundAfter z h m
push_sound z h t cam m s e =
    let v = cam - cam_of 0 in
    let r = push_moves t cam (is_cam z h cam) (is_restored t (phase z h v)) (phase z h v) m e in
    let uses : thread_of (phase z h v) ≡ Some t = restored_uses t (phase z h v) r.2 in
    subst (SoundAfter z h) r.0 (record {
      below = s.below v t uses;
      alone = λ w u at other. let same : u ≡ t = cc in s.same w v t (other ∙ ap Some same) uses;
      off = λ a b. cc;
    })

pull_sound : (z : Start) (h : List Entry) (t : ℕ) (m : Move) → SingleAfter z h → moved_by t Pull (pull_outcome z h t) ≡ Some m → SoundAfter z h m
pull_sound z h t m s e =
    let r = pull_moves t (on_of z h t) m e in
    let v = r.0 in
    let number : cam_of v - (CAM_VALID + CAM_FIRST) ≡ v = omega arith in
    let uses : thread_of (phase z h v) ≡ Some t = ap thread_of (found_on z.board.limits.processors (phase z h) t v r.2) in
    subst (SoundAfter z h) (ap (λ v. record { processor = v; phase = Pulled t }) (sym number) ∙ r.1) (record {
      below = s.below v t uses;
      alone = λ w u at other. let same : u ≡ t = cc in s.same w v t (other ∙ ap Some same) uses;
      off = λ a b. cc;
    })

-- the move of what is done to a ring
ring_sound : (z : Start) (h : List Entry) (t : ℕ) (o : RingOp) (m : Move) → SingleAfter z h → moved_by t o (ring_outcome z h t o) ≡ Some m → SoundAfter z h m
ring_sound z h t (Push cam) m s e = push_sound z h t cam m s e
ring_sound z h t Pull m s e = pull_sound z h t m s e
ring_sound z h t (Load at size) m s e = cc
ring_sound z h t (SetCppr value) m s e = cc
ring_sound z h t (Inject priority) m s e = cc
ring_sound z h t Accept m s e = cc

-- each move of a legal account
pub sound : (z : Start) (h : List Entry) (o : Op) (m : Move) → SingleAfter z h → valid z.board o ≡ true → move_in o (legal z h o) ≡ Some m → SoundAfter z h m
sound z h (op.Restore v t) m s ok e = restore_sound z h v t m s ok e
sound z h (op.Save v) m s ok e = save_sound z h v m ok e
sound z h (op.Tima t page offset size access) m s ok e = by (ring_op page offset size access) e
  where
    by : (r : Option RingOp) → pushed_in (ring_access_by t r) (option_map_or (ring_outcome z h t) r out.BadAccess) ≡ Some m → SoundAfter z h m
    by (Some o) e = ring_sound z h t o m s e
    by None e = cc
sound z h _ m s ok e = cc

-- the move of the next entry is sound
pub next_sound : (z : Start) (h : List Entry) (x : Entry) (m : Move) → SingleAfter z h → IsNext z h x → move_in x.op x.outcome ≡ Some m → SoundAfter z h m
next_sound z h x m s n e = sound z h x.op m s n.valid_op (ap (move_in x.op) (sym n.outcome) ∙ e)

-- after the next entry too no thread has two users
next_single : (z : Start) (h : List Entry) (x : Entry) → SingleAfter z h → IsNext z h x → SingleAfter z (x ∷ h)
next_single z h x s n = by (move_in x.op x.outcome) refl
  where
    by : (m : Option Move) → move_in x.op x.outcome ≡ m → AreSingle z.board.limits.processors (moved m (phase z h))
    by (Some m) e = single_moved z.board.limits.processors (phase z h) m s (next_sound z h x m s n e)
    by None e = s

-- in a legal account no thread has two users, where none has two in the start record
pub single : (z : Start) (h : List Entry) → AreSingle z.board.limits.processors z.phase → IsLegal z h → SingleAfter z h
single z [] s l = s
single z (x ∷ h) s l = next_single z h x (single z h s l.0) l.1

-- no thread has a user at the start of a board
pub start_single : (b : Board) → AreSingle b.limits.processors (start b).phase
start_single b = record { below = λ v t e. cc; same = λ v w t e f. cc }

-- the user of a thread is the processor whose context uses it
pub user_of-is : (z : Start) (h : List Entry) (v t : ℕ) → SingleAfter z h → thread_of (phase z h v) ≡ Some t → user_of z h t ≡ Some v
user_of-is z h v t s uses = user_below-is z.board.limits.processors (phase z h) v t s uses

-- the processor that is found on a thread is the one that is on it
pub on_of-tells : (z : Start) (h : List Entry) (v t : ℕ) → on_of z h t ≡ Some v → phase z h v ≡ On t
on_of-tells z h v t e = found_on z.board.limits.processors (phase z h) t v e

pub on_of-is : (z : Start) (h : List Entry) (v t : ℕ) → SingleAfter z h → phase z h v ≡ On t → on_of z h t ≡ Some v
on_of-is z h v t s e = rw (user_of-is z h v t s (ap thread_of e), e, eq-eqb t t refl) refl

-- no thread has two users
pub each_has_one_user : EachHasOneUser
each_has_one_user b h l v w t e f = (single (start b) h (start_single b) l).same v w t e f

-- the user of a thread is the processor whose context uses it
pub each_is_user : EachIsUser
each_is_user b h l v t = (λ e. (found_below (phase (start b) h) t b.limits.processors v e).1, λ uses. user_of-is (start b) h v t (single (start b) h (start_single b) l) uses)
