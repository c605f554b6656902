-- What the command `run` leaves, by its status.
use Rattle.std.proofs.Common.{ℕ, ◌≡◌, ◌≤◌, ◌<◌, List, [], ◌∷◌, ◌++◌, length, Option, Some, refl, sym, ◌∙◌, ap, subst, append-nil, arith, ◌⊎◌, inl, inr}
use Rattle.std.specs.Io.KnownBytes.{Appends}
use Rattle.xv_base.specs.declared.status.Status.{Status}
use Rattle.xv_base.specs.declared.status.Status.TheVariants as status
use Rattle.xv_io.specs.Faults.{HasRisen}
use Rattle.xv_io.proofs.Appending.{appends_both}
use Rattle.account.specs.text.Refusal.{too_long_line}
use Rattle.board_script.specs.Script.{Script, Accepted, Refused as Rejected, TooLong as Exceeds, script_of}
use Rattle.xive_cli.specs.declared.stop.Stop.{Stop}
use Rattle.xive_cli.specs.declared.stop.Stop.TheVariants.{ReadFault, WriteFault, Refused, TooLong, NoMemory}
use Rattle.xive_cli.specs.Input.{Unread}
use Rattle.xive_cli.specs.Output.{Told, Tells, Fails}
use Rattle.xive_cli.specs.Stop.{Stops, FailsWriting}
use Rattle.xive_cli.specs.Ending.{status_of_stop, last_line}
use Rattle.xive_cli.specs.commands.Run.{WritesAccount, WritesRefusal, WritesTooLong, WritesSoFar, WritesPart, HasHeader, status_of, AreScript, refusal_of}
use Rattle.xive_cli.proofs.Telling.{tells_both}
use Rattle.xive_cli.proofs.Closing.{IsNew, MeetsLeft, refusal_written, too_long_written, so_far_written, part_written, last_failed, header_whole, appended}

-- what the command leaves where it answers so: what the source had left and has, how often it failed before and after, and the same of the sink
abbrev pub LeavesAt : Status → Option (List ℕ) → Option (List ℕ) → ℕ → ℕ → Option (List ℕ) → Option (List ℕ) → ℕ → ℕ → Type 0
LeavesAt status.Done left left' s s' held held' k k' = WritesAccount left held held'
LeavesAt status.Refused left left' s s' held held' k k' = WritesRefusal left held held'
LeavesAt status.TooLong left left' s s' held held' k k' = WritesTooLong left held held'
LeavesAt status.ReadFault left left' s s' held held' k k' = HasRisen s s' × WritesSoFar left left' held held'
LeavesAt status.WriteFault left left' s s' held held' k k' = HasRisen k k' × WritesPart left held held'
LeavesAt status.NoMemory left left' s s' held held' k k' = HasHeader left × Appends held held' []
LeavesAt _ left left' s s' held held' k k' = ⊥

abbrev pub Leaves : Status → Unread → Told → Unread → Told → Type 0
Leaves answer a t v t' = LeavesAt answer a.left v.left a.faults v.faults t.held t'.held t.faults t'.faults

risen_on : (a b c : ℕ) → a ≤ b → b ≤ c → HasRisen a b → HasRisen a c
risen_on a b c l k (inl more) = inl (omega arith)
risen_on a b c l k (inr last) = by (nat_cases a c)
  where
    nat_cases : (x y : ℕ) → (x < y) ⊎ (y ≤ x)
    nat_cases x y = grind arith

    by : (a < c) ⊎ (c ≤ a) → HasRisen a c
    by (inl less) = inl less
    by (inr more) = inr (omega (arith, last, l, k, more))

-- nothing can be written in part
no_part : (t t' : Told) → t.gathered ≡ [] → Fails t [] t' → ⊥
no_part t t' e f = omega (arith, f.part.1, ap length e, ap length (append-nil t.gathered))

still_none : (t t' : Told) → t.gathered ≡ [] → Tells t [] t' → t'.gathered ≡ []
still_none t t' e p = by p.sent t'.gathered (p.kept ∙ append-nil t.gathered ∙ e)
  where
    by : (xs ys : List ℕ) → xs ++ ys ≡ [] → ys ≡ []
    by [] ys k = k
    by (x ∷ xs) ys k = absurd cc

-- after a failed write nothing more was written
failed_on : (a v : Unread) (t t1 t' : Told) → t.faults ≤ t1.faults → t1.faults ≤ t'.faults → FailsWriting a t v t1 → Tells t1 [] t' → t'.gathered ≡ [] → FailsWriting a t v t'
failed_on a v t t1 t' l k s still all =
    let n = s.fails.part.0 in
    let none = appended t1 t' [] s.fails.lost all still in
    record {
      read = s.read;
      consumed = s.consumed;
      last = s.last;
      text = s.text;
      begins = s.begins;
      fails = record {
        failed = risen_on t.faults t1.faults t'.faults l k s.fails.failed;
        part = (n, s.fails.part.1, subst (Appends t.held t'.held) (append-nil _) (appends_both t.held t1.held t'.held _ [] s.fails.part.2 none));
        lost = all;
      };
    }

writes_part : (a v : Unread) (t t' : Told) → IsNew a t → MeetsLeft v → FailsWriting a t v t' → Leaves status.WriteFault a t v t'
writes_part a v t t' n m s = (s.fails.failed, part_written a v t t' n m s)

-- the last line was told
told_well : (stop : Stop) (a v : Unread) (t t1 t' : Told) → IsNew a t → MeetsLeft v → t.faults ≤ t1.faults → t1.faults ≤ t'.faults → Stops stop a t v t1 → Tells t1 (last_line stop) t' → t'.gathered ≡ [] → Leaves (status_of_stop stop) a t v t'
told_well ReadFault a v t t1 t' n m l k s tells all = (s.failed, so_far_written a v t t1 t' n s tells all)
told_well WriteFault a v t t1 t' n m l k s tells all = writes_part a v t t' n m (failed_on a v t t1 t' l k s tells all)
told_well (Refused fault) a v t t1 t' n m l k s tells all = refusal_written fault a v t t1 t' n m s tells all
told_well TooLong a v t t1 t' n m l k s tells all = too_long_written a v t t1 t' n m s tells all
told_well NoMemory a v t t1 t' n m l k s tells all = (header_whole a v t n m s.goes s.stage, appended t t' [] n.gathered all (tells_both t t1 t' [] [] s.tells tells))

-- it was not
told_badly : (stop : Stop) (a v : Unread) (t t1 t' : Told) → IsNew a t → MeetsLeft v → t.faults ≤ t1.faults → Stops stop a t v t1 → Fails t1 (last_line stop) t' → Leaves status.WriteFault a t v t'
told_badly ReadFault a v t t1 t' n m l s f = absurd (no_part t1 t' s.all f)
told_badly WriteFault a v t t1 t' n m l s f = absurd (no_part t1 t' s.fails.lost f)
told_badly (Refused fault) a v t t1 t' n m l s f = writes_part a v t t' n m (last_failed a v t t1 t' (Rejected fault) (refusal_of fault) (λ g h. refl) (λ g h is. is) l s f)
told_badly TooLong a v t t1 t' n m l s f = writes_part a v t t' n m (last_failed a v t t1 t' Exceeds too_long_line (λ g h. refl) (λ g h is. is) l s f)
told_badly NoMemory a v t t1 t' n m l s f = absurd (no_part t1 t' (still_none t t1 n.gathered s.tells) f)

-- a run that stopped, whose last line was told or not
pub leaves : (stop : Stop) (answer : Status) (a v : Unread) (t t1 t' : Told) → IsNew a t → MeetsLeft v → t.faults ≤ t1.faults → t1.faults ≤ t'.faults → Stops stop a t v t1 →
    ((answer ≡ status_of_stop stop) × Tells t1 (last_line stop) t') ⊎ ((answer ≡ status.WriteFault) × Fails t1 (last_line stop) t') → t'.gathered ≡ [] → Leaves answer a t v t'
leaves stop answer a v t t1 t' n m l k s (inl (is, tells)) all = subst (λ x. Leaves x a t v t') (sym is) (told_well stop a v t t1 t' n m l k s tells all)
leaves stop answer a v t t1 t' n m l k s (inr (is, f)) all = subst (λ x. Leaves x a t v t') (sym is) (told_badly stop a v t t1 t' n m l s f)

-- the same of a source and a sink that are handed on
pub moved : {S K : Type 0} (left : S → Option (List ℕ)) (sf : S → ℕ) (held : K → Option (List ℕ)) (kf : K → ℕ) (answer : Status) (s s0 v v0 : S) (k k0 j j0 : K) → s ≡ s0 → v0 ≡ v → k ≡ k0 → j0 ≡ j →
    LeavesAt answer (left s) (left v) (sf s) (sf v) (held k) (held j) (kf k) (kf j) → LeavesAt answer (left s0) (left v0) (sf s0) (sf v0) (held k0) (held j0) (kf k0) (kf j0)
moved left sf held kf answer s s0 v v0 k k0 j j0 e f g h l =
    subst (λ x. LeavesAt answer (left x) (left v0) (sf x) (sf v0) (held k0) (held j0) (kf k0) (kf j0)) e
    (subst (λ x. LeavesAt answer (left s) (left x) (sf s) (sf x) (held k0) (held j0) (kf k0) (kf j0)) (sym f)
    (subst (λ x. LeavesAt answer (left s) (left v) (sf s) (sf v) (held x) (held j0) (kf x) (kf j0)) g
    (subst (λ x. LeavesAt answer (left s) (left v) (sf s) (sf v) (held k) (held x) (kf k) (kf x)) (sym h) l)))

pub leaves_at : (answer x : Status) (left left' : Option (List ℕ)) (s s' : ℕ) (held held' : Option (List ℕ)) (k k' : ℕ) → LeavesAt answer left left' s s' held held' k k' → answer ≡ x → LeavesAt x left left' s s' held held' k k'
leaves_at answer x left left' s s' held held' k k' h e = subst (λ y. LeavesAt y left left' s s' held held' k k') e h

status_is : (left : Option (List ℕ)) (bytes : List ℕ) (s : Script) → left ≡ Some bytes → AreScript left s → status_of s ≡ status_of (script_of bytes)
status_is left bytes s e is = ap status_of (sym (subst (λ v. AreScript v s) e is))

-- where nothing failed, the answer is that of the script
pub complete : (answer : Status) (left left' : Option (List ℕ)) (s s' : ℕ) (held held' : Option (List ℕ)) (k k' : ℕ) → LeavesAt answer left left' s s' held held' k k' → (bytes : List ℕ) → left ≡ Some bytes →
    (HasRisen s s' → ⊥) → (HasRisen k k' → ⊥) → (answer ≡ status_of (script_of bytes)) ⊎ (answer ≡ status.NoMemory)
complete status.Done left left' s s' held held' k k' h bytes e r w = inl (status_is left bytes (Accepted h.board h.work) e h.is_script)
complete status.Refused left left' s s' held held' k k' h bytes e r w = inl (status_is left bytes (Rejected h.fault h.so_far) e h.is_script)
complete status.TooLong left left' s s' held held' k k' h bytes e r w = inl (status_is left bytes (Exceeds h.so_far) e h.is_script)
complete status.ReadFault left left' s s' held held' k k' h bytes e r w = absurd (r h.0)
complete status.WriteFault left left' s s' held held' k k' h bytes e r w = absurd (w h.0)
complete status.NoMemory left left' s s' held held' k k' h bytes e r w = inr refl
complete _ left left' s s' held held' k k' h bytes e r w = absurd h
