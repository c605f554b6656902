-- An entry on the word of a source.
use Rattle.std.proofs.Common.{ℕ, ◌≡◌, ◌≢◌, ◌==◌, ◌+◌, ◌<◌, ◌≤◌, Bool, false, not, if◌then◌else◌, List, ◌∷◌, Option, Some, None, refl, sym, ◌∙◌, ap, arith, slice_set}
use Rattle.std.specs.Option.{option_map_or}
use Rattle.std.proofs.lemmas.Bool.Decides.{nat_tests}
use Rattle.xv_model.specs.declared.board.Board.{Board}
use Rattle.xv_model.specs.declared.operations.PqOp.{PqOp}
use Rattle.xv_model.specs.declared.operations.Op.{Op}
use Rattle.xv_model.specs.declared.outcomes.Outcome.{Outcome}
use Rattle.xv_model.specs.declared.entries.Entry.{Entry}
use Rattle.xv_model.specs.board.Boards.{is_level}
use Rattle.xv_model.specs.account.Start.{Start}
use Rattle.xv_model.specs.account.Kinds.{Word, access_of, is_fabric, is_quiet, part_beside}
use Rattle.xv_model.specs.account.Legal.{answer_by, answer_on, legal}
use Rattle.xv_model.specs.source.PqTable.{Cell, flag_after}
use Rattle.xv_model.specs.source.Pairs.{Touch, Change, touch_at, touch_by, change_in}
use Rattle.xv_model.specs.source.Notices.{forwards, routes}
use Rattle.xv_model.proofs.HalvesLemmas.{routes-skips}
use Rattle.esb_pq.specs.Word.{SourceParts}
use Rattle.esb_pq.specs.Applied.{cell_at, by_cell, by_table, word_in}
use Rattle.xv_model.proofs.Elements.{set_gives}
use Rattle.fabric_core.specs.Fabric.{Held as FabricHeld}
use Rattle.fabric_core.proofs.Skipping.{fabric-skips}
use Rattle.machine.specs.Machine.{AreParts, word_of}

-- an operation is o on the word of s
abbrev pub IsOn : Board → Op → ℕ → PqOp → Type 0
IsOn b p s o = access_of b p ≡ Some (record { source = s; op = o })

-- what an operation on the word of a level source, or of a message source, answers, and the word after it
abbrev pub answer_at : PqOp → Bool → SourceParts → Outcome
answer_at o level w = answer_by (cell_at w level o) w.pq w.count

abbrev pub word_past : PqOp → Bool → SourceParts → SourceParts
word_past o level w = word_in w (by_table w level o)

-- the touch of q by an operation on s
abbrev pub touch_by_op : ℕ → ℕ → PqOp → Option Change → Option Touch
touch_by_op q s o c = touch_at q (touch_by (Some (record { source = s; op = o })) c)

-- the word after a touch of its source
abbrev pub after_touch : SourceParts → Option Touch → SourceParts
after_touch w m = record {
  pq = option_map_or (λ t. t.new) m w.pq;
  asserted = option_map_or (λ t. flag_after t.op w.asserted) m w.asserted;
  count = option_map_or (λ t. if t.forward == 0 then 0 else 1) m 0 + w.count;
}

-- the word after an entry on its source
touched : (c : Cell) (o : PqOp) (s : ℕ) (w : SourceParts) →
    word_in w (by_cell c (flag_after o w.asserted) w)
    ≡ after_touch w (touch_by_op s s o (change_in (answer_by c w.pq w.count)))
touched c o s w = grind (arith, nat_tests)

-- an entry on s touches no other source
touches_none : (q s : ℕ) (o : PqOp) (c : Option Change) → q ≢ s → touch_by_op q s o c ≡ None
touches_none q s o None n = refl
touches_none q s o (Some c) n = grind (arith, nat_tests)

-- what no touch leaves
by_none : (w : SourceParts) (m : Option Touch) → m ≡ None → after_touch w m ≡ w
by_none w m e = rw e (ap (make w) (omega arith))
  where
    make : SourceParts → ℕ → SourceParts
    make w n = record { pq = w.pq; asserted = w.asserted; count = n }

-- the word of q after an entry on the word of s
pub word_after : (z : Start) (h : List Entry) (x : Entry) (s q : ℕ) (o : PqOp) → IsOn z.board x.op s o →
    word_of z (x ∷ h) q ≡ after_touch (word_of z h q) (touch_by_op q s o (change_in x.outcome))
word_after z h x s q o on = ap (λ m. after_touch (word_of z h q) (touch_at q (touch_by m (change_in x.outcome)))) on

-- the word of another source stays
pub untouched : (z : Start) (h : List Entry) (x : Entry) (s q : ℕ) (o : PqOp) → IsOn z.board x.op s o → q ≢ s →
    word_of z (x ∷ h) q ≡ word_of z h q
untouched z h x s q o on other =
    word_after z h x s q o on ∙ by_none (word_of z h q) (touch_by_op q s o (change_in x.outcome)) (touches_none q s o (change_in x.outcome) other)

-- an operation on a word isn't the fabric's
pub on_word : (b : Board) (p : Op) (s : ℕ) (o : PqOp) → IsOn b p s o → is_fabric b p ≡ false
on_word b p s o on = ap (λ m. option_map_or (λ a. false) m (not (is_quiet p))) on

-- an entry on a word routes nothing
pub same_routes : (z : Start) (h : List Entry) (x : Entry) (s q : ℕ) (o : PqOp) → IsOn z.board x.op s o → routes z (x ∷ h) q ≡ routes z h q
same_routes z h x s q o on = routes-skips z q x h (on_word z.board x.op s o on)

-- and takes no forward back
more_forwards : (z : Start) (h : List Entry) (x : Entry) (q : ℕ) → forwards z h q ≤ forwards z (x ∷ h) q
more_forwards z h x q = omega arith

-- the parts after an entry on the word of s
pub word_parts : (f : FabricHeld) (words : List SourceParts) (z : Start) (h : List Entry) (x : Entry) (s : ℕ) (o : PqOp) (level : Bool)
    (w w' : SourceParts) → AreParts f words z h → IsOn z.board x.op s o → s < z.board.limits.sources →
    w ≡ word_of z h s → x.outcome ≡ answer_at o level w → w' ≡ word_past o level w →
    AreParts f (slice_set words s w') z (x ∷ h)
word_parts f words z h x s o level w w' st on l same answer now = record {
  fabric = fabric-skips f z h x (on_word z.board x.op s o on) st.fabric;
  words = set_gives words s z.board.limits.sources w' (word_of z h) (word_of z (x ∷ h)) st.words l mine
      (λ q other. untouched z h x s q o on other);
  forwarded = λ q.
      let before = st.forwarded q in
      let more = more_forwards z h x q in
      let routed = same_routes z h x s q o on in omega (arith, before, more, routed);
}
  where
    mine : w' ≡ word_of z (x ∷ h) s
    mine = now ∙ ap (word_past o level) same ∙ touched (cell_at (word_of z h s) level o) o s (word_of z h s)
        ∙ ap (λ u. after_touch (word_of z h s) (touch_by_op s s o (change_in u))) (sym (answer ∙ ap (answer_at o level) same))
        ∙ sym (word_after z h x s s o on)

-- what an operation on a source's word answers is legal
pub word_legal : (z : Start) (h : List Entry) (p : Op) (s : ℕ) (o : PqOp) (level : Bool) → IsOn z.board p s o → level ≡ is_level z.board s →
    answer_at o level (word_of z h s) ≡ legal z h p
word_legal z h p s o level on is =
    ap (λ level. answer_at o level (word_of z h s)) is ∙ sym (ap (λ m. answer_on z h p (option_map_or Word m (part_beside p))) on)
