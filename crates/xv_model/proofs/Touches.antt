-- What a touch of a source is in a legal account.
use Rattle.std.proofs.Common.{ℕ, ◌≡◌, ◌+◌, if◌then◌else◌, List, Option, Some, None, ap, subst, ◌∙◌, arith}
use Rattle.std.proofs.lemmas.Bool.Decides.{nat_tests}
use Rattle.std.specs.Option.{option_map_or}
use Rattle.xv_model.specs.declared.operations.PqOp.{PqOp}
use Rattle.xv_model.specs.declared.operations.Op.{Op}
use Rattle.xv_model.specs.declared.outcomes.Outcome.{Outcome}
use Rattle.xv_model.specs.declared.outcomes.Outcome.TheVariants as out
use Rattle.xv_model.specs.declared.entries.Entry.{Entry}
use Rattle.xv_model.specs.account.Start.{Start}
use Rattle.xv_model.specs.account.Kinds.{WordAccess, access_of, Part, Word, part_beside}
use Rattle.xv_model.specs.source.PqTable.{Cell, pq_row}
use Rattle.xv_model.specs.source.Pairs.{Touch, change_in, touch_by, touch_of, touch_at, pq, asserted}
use Rattle.xv_model.specs.source.Notices.{forwards}
use Rattle.xv_model.specs.board.Boards.{is_level}
use Rattle.xv_model.specs.account.Legal.{IsNext, answer_by, word_answer, answer_on}

-- the touch follows a cell of the table, with the pair q and n forwards before it
pub record FollowsCell (c : Cell) (q n : ℕ) (t : Touch) : Type 0 where
  pub old : t.old ≡ q
  pub new : t.new ≡ c.pair
  pub forward : t.forward ≡ (if c.forwards then n + 1 else 0)

-- the cell of the table for a touch of s after an account
abbrev pub cell_at : Start → List Entry → ℕ → Touch → Cell
cell_at z h s t = pq_row t.op (is_level z.board s) (asserted z h s) (pq z h s)

-- a touch by an answer is of the access's source and operation, and follows the answer's cell
follows_by : (a : WordAccess) (c : Cell) (q n : ℕ) (t : Touch) → touch_by (Some a) (change_in (answer_by c q n)) ≡ Some t → (t.source ≡ a.source) × (t.op ≡ a.op) × FollowsCell c q n t
follows_by a c q n t h = grind (arith, nat_tests)

-- a touch of s is a touch, and its source is s
pub touch_at-some : (s : ℕ) (m : Option Touch) (t : Touch) → touch_at s m ≡ Some t → (m ≡ Some t) × (t.source ≡ s)
touch_at-some s (Some u) t h = grind (arith, nat_tests)
touch_at-some s None t h = cc

-- a touch of s comes from an access to s
pub touch_is : (s : ℕ) (m : Option WordAccess) (o : Outcome) (t : Touch) → touch_at s (touch_by m (change_in o)) ≡ Some t → m ≡ Some (record { source = s; op = t.op })
touch_is s None o t e = cc
touch_is s (Some a) (out.Pq old new forward) t e = grind (arith, nat_tests)
touch_is s (Some a) _ t e = cc

-- a touch by the answer of an access to s follows the cell of s
followed : (z : Start) (h : List Entry) (s : ℕ) (a : WordAccess) (o : Outcome) (t : Touch) → o ≡ word_answer z h a → touch_by (Some a) (change_in o) ≡ Some t → t.source ≡ s → FollowsCell (cell_at z h s t) (pq z h s) (forwards z h s) t
followed z h s a o t e f g =
    let r = follows_by a (pq_row a.op (is_level z.board a.source) (asserted z h a.source) (pq z h a.source)) (pq z h a.source) (forwards z h a.source) t (subst (λ v. touch_by (Some a) (change_in v) ≡ Some t) e f) in
    let same : a.source ≡ s = cc in
    let same_op : a.op ≡ t.op = cc in
    subst (λ q. FollowsCell (pq_row t.op (is_level z.board q) (asserted z h q) (pq z h q)) (pq z h q) (forwards z h q) t) same
    (subst (λ o. FollowsCell (pq_row o (is_level z.board a.source) (asserted z h a.source) (pq z h a.source)) (pq z h a.source) (forwards z h a.source) t) same_op r.2)

-- the same by whether there is an access
legal_touch_by : (z : Start) (h : List Entry) (s : ℕ) (p : Op) (m : Option WordAccess) (other : Part) (o : Outcome) (t : Touch) → o ≡ answer_on z h p (option_map_or Word m other) → touch_at s (touch_by m (change_in o)) ≡ Some t → FollowsCell (cell_at z h s t) (pq z h s) (forwards z h s) t
legal_touch_by z h s p None other o t e f = cc
legal_touch_by z h s p (Some a) other o t e f = let r = touch_at-some s (touch_by (Some a) (change_in o)) t f in followed z h s a o t e r.0 r.1

-- a touch of s in a legal account follows the table's row for the pair, flag and forwards before it
pub legal_touch : (z : Start) (h : List Entry) (s : ℕ) (x : Entry) (t : Touch) → IsNext z h x → touch_at s (touch_of z.board x) ≡ Some t → FollowsCell (cell_at z h s t) (pq z h s) (forwards z h s) t
legal_touch z h s x t n f = legal_touch_by z h s x.op (access_of z.board x.op) (part_beside x.op) x.outcome t n.outcome f

-- the outcome of an access to s in a legal account is the answer by the cell of s
pub word_outcome : (z : Start) (h : List Entry) (s : ℕ) (x : Entry) (o : PqOp) → IsNext z h x → access_of z.board x.op ≡ Some (record { source = s; op = o }) → x.outcome ≡ answer_by (pq_row o (is_level z.board s) (asserted z h s) (pq z h s)) (pq z h s) (forwards z h s)
word_outcome z h s x o n e = n.outcome ∙ ap (λ m. answer_on z h x.op (option_map_or Word m (part_beside x.op))) e
