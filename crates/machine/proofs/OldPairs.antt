-- The pairs that sources had before the last sets of them, after an entry.
use Rattle.std.proofs.Common.{ℕ, ◌≡◌, ◌≢◌, ◌<◌, List, ◌∷◌, Option, Some, None, refl, sym, ◌∙◌, ap, slice_set, slice_index_or}
use Rattle.std.specs.Option.{option_map_or}
use Rattle.std.proofs.lemmas.Bool.{eq-eqb, ne_eqb}
use Rattle.xv_model.specs.declared.operations.PqOp.{PqOp}
use Rattle.xv_model.specs.declared.entries.Entry.{Entry}
use Rattle.xv_model.specs.account.Kinds.{access_of}
use Rattle.xv_model.specs.account.Start.{Start}
use Rattle.xv_model.specs.source.Pairs.{Change, change_in, old_in, old_pair, touch_at, touch_by}
use Rattle.xv_model.proofs.Elements.{read, set_gives}
use Rattle.machine.specs.Answering.{old_after}
use Rattle.machine.specs.Machine.{AreOldPairs}
use Rattle.machine.proofs.Words.{IsOn, touch_by_op}

-- what a touch of s says of its old pair, and what one of another source says of that
touched : (s : ℕ) (o : PqOp) (c : Option Change) (before : ℕ) → option_map_or (λ t. old_in t.op t.old before) (touch_by_op s s o c) before ≡ option_map_or (λ c. old_in o c.old before) c before
touched s o None before = refl
touched s o (Some c) before = rw (eq-eqb s s refl) refl

passed : (q s : ℕ) (o : PqOp) (c : Option Change) (before : ℕ) → q ≢ s → option_map_or (λ t. old_in t.op t.old before) (touch_by_op q s o c) before ≡ before
passed q s o None before other = refl
passed q s o (Some c) before other = rw (ne_eqb s q (λ same. other (sym same))) refl

-- the pair of q after an entry on the word of s
entered : (z : Start) (h : List Entry) (x : Entry) (s q : ℕ) (o : PqOp) → IsOn z.board x.op s o →
    old_pair z (x ∷ h) q ≡ option_map_or (λ t. old_in t.op t.old (old_pair z h q)) (touch_by_op q s o (change_in x.outcome)) (old_pair z h q)
entered z h x s q o on = ap (λ m. option_map_or (λ t. old_in t.op t.old (old_pair z h q)) (touch_at q (touch_by m (change_in x.outcome))) (old_pair z h q)) on

-- an entry on the word of s
pub remembered : (pairs : List ℕ) (z : Start) (h : List Entry) (x : Entry) (s : ℕ) (o : PqOp) (old new d : ℕ) → AreOldPairs pairs z h → IsOn z.board x.op s o → s < z.board.limits.sources →
    old ≡ slice_index_or pairs s d → new ≡ old_after o x.outcome old → AreOldPairs (slice_set pairs s new) z (x ∷ h)
remembered pairs z h x s o old new d st on l found now =
    set_gives pairs s z.board.limits.sources new (old_pair z h) (old_pair z (x ∷ h)) st l
    (now ∙ ap (old_after o x.outcome) (read pairs s z.board.limits.sources old d (old_pair z h) st l found) ∙ sym (touched s o (change_in x.outcome) (old_pair z h s)) ∙ sym (entered z h x s s o on))
    (λ q other. entered z h x s q o on ∙ passed q s o (change_in x.outcome) (old_pair z h q) other)

-- an entry on no word
pub left : (pairs : List ℕ) (z : Start) (h : List Entry) (x : Entry) → AreOldPairs pairs z h → access_of z.board x.op ≡ None → AreOldPairs pairs z (x ∷ h)
left pairs z h x st none = λ s l. st s l ∙ ap Some (sym (ap (λ m. option_map_or (λ t. old_in t.op t.old (old_pair z h s)) (touch_at s (touch_by m (change_in x.outcome))) (old_pair z h s)) none))
