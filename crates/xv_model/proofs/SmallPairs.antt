-- The pairs of a legal account are pairs.
use Rattle.std.proofs.Common.{ℕ, ◌≡◌, ◌==◌, ◌<◌, ◌&&◌, nat_lt, ◌%◌, Bool, true, false, if◌then◌else◌, List, [], ◌∷◌, Option, Some, None, refl, sym, subst, arith, lit<}
use Rattle.std.proofs.lemmas.Bool.{and_parts}
use Rattle.std.proofs.lemmas.Bool.Decides.{nat_tests}
use Rattle.std.specs.Option.{option_map_or}
use Rattle.std.specs.Prelude.{option_and_then}
use Rattle.xv_model.specs.declared.board.Board.{Board}
use Rattle.xv_model.specs.declared.operations.Op.{Op}
use Rattle.xv_model.specs.declared.operations.Op.TheVariants as op
use Rattle.xv_model.specs.declared.operations.PqOp.{PqOp}
use Rattle.xv_model.specs.declared.operations.PqOp.TheVariants.{Trigger, Eoi, Get, Set, Raise, Lower, Init}
use Rattle.xv_model.specs.declared.entries.Entry.{Entry}
use Rattle.xv_model.specs.account.Start.{Start}
use Rattle.xv_model.specs.account.Kinds.{WordAccess, access_of}
use Rattle.xv_model.specs.source.Pages.{page_op, management_op, trigger_page_op, load_op, store_op}
use Rattle.xv_model.specs.declared.pages.TheConstants.{ESB_OFFSETS, ESB_STORE_EOI, ESB_GET, ESB_SET_PQ}
use Rattle.xv_model.specs.source.PqTable.{pq_row}
use Rattle.xv_model.specs.source.Pairs.{Touch, touch_of, touch_at, pq, asserted, old_in, old_pair}
use Rattle.xv_model.specs.board.Boards.{is_level}
use Rattle.xv_model.specs.board.Validity.{valid, has_op}
use Rattle.xv_model.specs.account.Legal.{IsLegal}
use Rattle.xv_model.proofs.Touches.{legal_touch, touch_is}

-- a set is to a pair
abbrev pub SetsPair : PqOp → Type 0
SetsPair (Set new) = new < 4
SetsPair _ = Unit {0}

-- an operation that a source has sets a pair
sets_valid : (level : Bool) (o : PqOp) → has_op level o ≡ true → SetsPair o
sets_valid level (Set new) e = grind (arith, nat_tests)
sets_valid level Trigger e = tt
sets_valid level Eoi e = tt
sets_valid level Get e = tt
sets_valid level Raise e = tt
sets_valid level Lower e = tt
sets_valid level (Init asserted) e = tt

-- an operation, where there is one, is a set to a pair at most
abbrev SomeSetsPair : Option PqOp → Type 0
SomeSetsPair (Some o) = SetsPair o
SomeSetsPair None = Unit {0}

-- of two operations that set pairs each choice does
sets_if : (b : Bool) (m n : Option PqOp) → SomeSetsPair m → SomeSetsPair n → SomeSetsPair (if b then m else n)
sets_if true m n v w = v
sets_if false m n v w = w

-- and so does each choice of two operations
sets_either : (b : Bool) (m n : PqOp) → SetsPair m → SetsPair n → SetsPair (if b then m else n)
sets_either true m n v w = v
sets_either false m n v w = w

-- a load at an offset of a management page sets a pair
pub sets_load : (o : ℕ) → o < ESB_OFFSETS → SetsPair (load_op o)
sets_load o l = sets_either (nat_lt o ESB_GET) _ _ tt (sets_either (nat_lt o ESB_SET_PQ) _ _ tt (omega arith))

-- a store to a management page sets a pair
sets_store : (eoi : Bool) (o : ℕ) → o < ESB_OFFSETS → SomeSetsPair (store_op eoi o)
sets_store eoi o l = sets_if (nat_lt o ESB_STORE_EOI) _ _ tt (sets_if (nat_lt o ESB_GET) _ _ (sets_if eoi _ _ tt tt) (sets_if (nat_lt o ESB_SET_PQ) _ _ tt (omega arith)))

-- an access to a page of a source sets a pair
sets_page : (two_pages eoi : Bool) (page offset : ℕ) (store : Bool) → SomeSetsPair (page_op two_pages eoi page offset store)
sets_page two_pages eoi page offset store =
    let below : offset % ESB_OFFSETS < ESB_OFFSETS = omega arith in
    sets_if (two_pages && (page == 0)) (trigger_page_op store) (management_op eoi offset store) (sets_if store _ _ tt tt) (sets_if store _ _ (sets_store eoi (offset % ESB_OFFSETS) below) (sets_load (offset % ESB_OFFSETS) below))

-- the access by an operation that sets a pair sets one
sets_of : (s : ℕ) (m : Option PqOp) (a : WordAccess) → SomeSetsPair m → option_and_then (λ o. Some (record { source = s; op = o })) m ≡ Some a → SetsPair a.op
sets_of s (Some o) a w e = subst (λ m. SetsPair m) (grind arith) w
sets_of s None a w e = cc

-- a valid operation on a source's word sets a pair
pub sets_access : (b : Board) (o : Op) (a : WordAccess) → valid b o ≡ true → access_of b o ≡ Some a → SetsPair a.op
sets_access b (op.Pq s o) a v e =
    let w : SetsPair o = sets_valid (is_level b s) o (and_parts (nat_lt s b.limits.sources) (has_op (is_level b s) o) v).1 in
    let same : o ≡ a.op = cc in subst (λ q. SetsPair q) same w
sets_access b (op.Esb s page offset store) a v e = sets_of s (page_op b.two_pages b.store_eoi page offset store) a (sets_page b.two_pages b.store_eoi page offset store) e
sets_access b _ a v e = cc

-- a row of the table gives a pair
pub small_cell : (o : PqOp) (level on : Bool) (q : ℕ) → q < 4 → SetsPair o → (pq_row o level on q).pair < 4
small_cell Trigger level on q l w = grind (arith, nat_tests)
small_cell Eoi level on q l w = grind (arith, nat_tests)
small_cell Get level on q l w = l
small_cell (Set new) level on q l w = w
small_cell Raise level on q l w = grind (arith, nat_tests)
small_cell Lower level on q l w = l
small_cell (Init asserted) level on q l w = lit< tt

-- the pair after a touch is below 4 where each new pair is
small_after : (m : Option Touch) (k : ℕ) → ((t : Touch) → m ≡ Some t → t.new < 4) → k < 4 → option_map_or (λ t. t.new) m k < 4
small_after None k w l = l
small_after (Some t) k w l = w t refl

-- the pair of a source is below 4 in a legal account
pub pq-below : (z : Start) (h : List Entry) (s : ℕ) → IsLegal z h → z.pair s < 4 → pq z h s < 4
pq-below z [] s l w = w
pq-below z (x ∷ h) s l w =
    let before : pq z h s < 4 = pq-below z h s l.0 w in
    small_after (touch_at s (touch_of z.board x)) (pq z h s) (λ t e.
    let f = legal_touch z h s x t l.1 e in
    let a : access_of z.board x.op ≡ Some (record { source = s; op = t.op }) = touch_is s (access_of z.board x.op) x.outcome t e in
    let sets : SetsPair t.op = sets_access z.board x.op _ l.1.valid_op a in
    subst (λ n. n < 4) (sym f.new) (small_cell t.op (is_level z.board s) (asserted z h s) (pq z h s) before sets)) before

-- the pair before the last set, after a touch
small_old : (o : PqOp) (old before : ℕ) → old < 4 → before < 4 → old_in o old before < 4
small_old (Set new) old before l w = l
small_old Trigger old before l w = w
small_old Eoi old before l w = w
small_old Get old before l w = w
small_old Raise old before l w = w
small_old Lower old before l w = w
small_old (Init asserted) old before l w = w

small_old_after : (m : Option Touch) (k : ℕ) → ((t : Touch) → m ≡ Some t → t.old < 4) → k < 4 → option_map_or (λ t. old_in t.op t.old k) m k < 4
small_old_after None k w l = l
small_old_after (Some t) k w l = small_old t.op t.old k (w t refl) l

-- and so is the pair that it had before it was set last
pub old_pair-below : (z : Start) (h : List Entry) (s : ℕ) → IsLegal z h → z.pair s < 4 → z.old_pair s < 4 → old_pair z h s < 4
old_pair-below z [] s l w v = v
old_pair-below z (x ∷ h) s l w v =
    small_old_after (touch_at s (touch_of z.board x)) (old_pair z h s) (λ t e. let f = legal_touch z h s x t l.1 e in subst (λ n. n < 4) (sym f.old) (pq-below z h s l.0 w)) (old_pair-below z h s l.0 w v)
