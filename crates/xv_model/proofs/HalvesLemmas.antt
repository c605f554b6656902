-- What a definition says of an account it says of the entries of its half alone.
use Rattle.std.proofs.Common.{ℕ, ◌≡◌, ◌==◌, ◌+◌, Bool, true, false, cond, if◌then◌else◌, List, [], ◌∷◌, filter, Option, Some, None, refl, sym, ◌∙◌, ap, arith}
use Rattle.std.specs.Option.{option_map_or}
use Rattle.xv_model.specs.declared.operations.Op.{Op}
use Rattle.xv_model.specs.declared.operations.Op.TheVariants as op
use Rattle.xv_model.specs.declared.outcomes.Outcome.{Outcome}
use Rattle.xv_model.specs.declared.entries.Entry.{Entry}
use Rattle.xv_model.specs.declared.board.Board.{Board}
use Rattle.xv_model.specs.account.Start.{Start}
use Rattle.xv_model.specs.account.Kinds.{WordAccess, access_of, is_at, is_word, is_fabric}
use Rattle.xv_model.specs.source.PqTable.{pq_row, flag_after}
use Rattle.xv_model.specs.source.Pairs.{Change, change_in, touch_by, touch_at, touch_of, pq, asserted, old_in, old_pair}
use Rattle.xv_model.specs.source.Notices.{forwards, route_in, routes}
use Rattle.xv_model.specs.board.Boards.{is_level}
use Rattle.xv_model.specs.account.Legal.{answer_by, word_answer, legal}
use Rattle.xv_model.specs.account.Halves.{words_of, fabric_of}

module _ {X R : Type 0} (p : X → Bool) (d : List X → R) (goes : (x : X) (h : List X) → d (filter p h) ≡ d h → d (x ∷ filter p h) ≡ d (x ∷ h)) (skips : (x : X) (h : List X) → p x ≡ false → d (x ∷ h) ≡ d h) where
  -- a definition that goes on at the entries that are kept, and skips the others, says the same of the entries that are kept
  pub half : (h : List X) → d (filter p h) ≡ d h
  half [] = refl
  half (x ∷ h) = by (p x) refl (half h)
    where
      by : (b : Bool) → p x ≡ b → d (filter p h) ≡ d h → d (cond b (x ∷ filter p h) (filter p h)) ≡ d (x ∷ h)
      by true e so_far = goes x h so_far
      by false e so_far = so_far ∙ sym (skips x h e)

-- an access to another source, or none, doesn't touch s
untouched_by : (s : ℕ) (m : Option WordAccess) (c : Option Change) → is_at s m ≡ false → touch_at s (touch_by m c) ≡ None
untouched_by s (Some a) (Some c) other = rw other refl
untouched_by s (Some a) None other = refl
untouched_by s None c other = refl

-- an entry on another word, or none, doesn't touch s
pub untouched : (b : Board) (s : ℕ) (x : Entry) → is_word b s x.op ≡ false → touch_at s (touch_of b x) ≡ None
untouched b s x other = untouched_by s (access_of b x.op) (change_in x.outcome) other

-- an entry on no word of s leaves its pair
pub pq-skips : (z : Start) (s : ℕ) (x : Entry) (h : List Entry) → is_word z.board s x.op ≡ false → pq z (x ∷ h) s ≡ pq z h s
pq-skips z s x h other = rw (untouched z.board s x other) refl

-- an entry on no word of s leaves its flag
pub asserted-skips : (z : Start) (s : ℕ) (x : Entry) (h : List Entry) → is_word z.board s x.op ≡ false → asserted z (x ∷ h) s ≡ asserted z h s
asserted-skips z s x h other = rw (untouched z.board s x other) refl

-- an entry on no word of s leaves its old pair
pub old_pair-skips : (z : Start) (s : ℕ) (x : Entry) (h : List Entry) → is_word z.board s x.op ≡ false → old_pair z (x ∷ h) s ≡ old_pair z h s
old_pair-skips z s x h other = rw (untouched z.board s x other) refl

-- an entry on no word of s leaves its forwards
pub forwards-skips : (z : Start) (s : ℕ) (x : Entry) (h : List Entry) → is_word z.board s x.op ≡ false → forwards z (x ∷ h) s ≡ forwards z h s
forwards-skips z s x h other = rw (untouched z.board s x other) (omega arith)

-- an operation that isn't the fabric's routes nothing
no_route_in : (b : Board) (o : Op) (r : Outcome) → is_fabric b o ≡ false → route_in o r ≡ None
no_route_in b (op.Route s) r other = cc
no_route_in b _ r other = refl

-- an entry that isn't the fabric's leaves the routes of s
pub routes-skips : (z : Start) (s : ℕ) (x : Entry) (h : List Entry) → is_fabric z.board x.op ≡ false → routes z (x ∷ h) s ≡ routes z h s
routes-skips z s x h other = rw (no_route_in z.board x.op x.outcome other) (omega arith)

-- the pair of s is that of the entries on its word
pub pq-half : (z : Start) (s : ℕ) (h : List Entry) → pq z (words_of z.board s h) s ≡ pq z h s
pq-half z s = half (λ x. is_word z.board s x.op) (λ h. pq z h s) (λ x h. ap (option_map_or (λ t. t.new) (touch_at s (touch_of z.board x)))) (pq-skips z s)

-- the flag of s is that of the entries on its word
pub asserted-half : (z : Start) (s : ℕ) (h : List Entry) → asserted z (words_of z.board s h) s ≡ asserted z h s
asserted-half z s = half (λ x. is_word z.board s x.op) (λ h. asserted z h s) (λ x h. ap (λ on. option_map_or (λ t. flag_after t.op on) (touch_at s (touch_of z.board x)) on)) (asserted-skips z s)

-- the old pair of s is that of the entries on its word
pub old_pair-half : (z : Start) (s : ℕ) (h : List Entry) → old_pair z (words_of z.board s h) s ≡ old_pair z h s
old_pair-half z s = half (λ x. is_word z.board s x.op) (λ h. old_pair z h s) (λ x h. ap (λ before. option_map_or (λ t. old_in t.op t.old before) (touch_at s (touch_of z.board x)) before)) (old_pair-skips z s)

-- the forwards of s are those of the entries on its word
pub forwards-half : (z : Start) (s : ℕ) (h : List Entry) → forwards z (words_of z.board s h) s ≡ forwards z h s
forwards-half z s = half (λ x. is_word z.board s x.op) (λ h. forwards z h s) (λ x h. ap (λ n. option_map_or (λ t. if t.forward == 0 then 0 else 1) (touch_at s (touch_of z.board x)) 0 + n)) (forwards-skips z s)

-- the routes of s are those of the fabric's entries
pub routes-half : (z : Start) (s : ℕ) (h : List Entry) → routes z (fabric_of z.board h) s ≡ routes z h s
routes-half z s = half (λ x. is_fabric z.board x.op) (λ h. routes z h s) (λ x h. ap (λ n. option_map_or (λ r. if r == s then 1 else 0) (route_in x.op x.outcome) 0 + n)) (routes-skips z s)

-- the answer of an access depends on the entries on its source's word alone
pub word_half : (z : Start) (h : List Entry) (a : WordAccess) → word_answer z (words_of z.board a.source h) a ≡ word_answer z h a
word_half z h a = λ i. answer_by (pq_row a.op (is_level z.board a.source) (asserted-half z a.source h i) (pq-half z a.source h i)) (pq-half z a.source h i) (forwards-half z a.source h i)

-- the legal outcome of an access is the same after accounts with the same entries on its source's word
pub legal_word_half : (z : Start) (g h : List Entry) (o : Op) (a : WordAccess) → access_of z.board o ≡ Some a → words_of z.board a.source g ≡ words_of z.board a.source h → legal z g o ≡ legal z h o
legal_word_half z g h o a is same = rw is (sym (word_half z g a) ∙ ap (λ ws. word_answer z ws a) same ∙ word_half z h a)
