-- The pair of a source, and its assertion flag.
use Rattle.std.specs.Prelude.{ℕ, ◌==◌, Bool, if◌then◌else◌, List, [], ◌∷◌, Option, Some, None}
use Rattle.std.specs.Option.{option_map_or}
use Rattle.xv_model.specs.declared.operations.PqOp.{PqOp}
use Rattle.xv_model.specs.declared.operations.PqOp.TheVariants.{Set}
use Rattle.xv_model.specs.declared.outcomes.Outcome.{Outcome}
use Rattle.xv_model.specs.declared.outcomes.Outcome.TheVariants as out
use Rattle.xv_model.specs.declared.entries.Entry.{Entry}
use Rattle.xv_model.specs.declared.board.Board.{Board}
use Rattle.xv_model.specs.account.Start.{Start}
use Rattle.xv_model.specs.account.Kinds.{WordAccess, access_of}
use Rattle.xv_model.specs.source.PqTable.{flag_after}

-- a change of a source's word: the pair before and after, and the number of the forward, or 0
pub record Change : Type 0 where
  pub old : ℕ
  pub new : ℕ
  pub forward : ℕ

abbrev pub change_in : Outcome → Option Change
change_in (out.Pq old new forward) = Some (record { old = old; new = new; forward = forward })
change_in _ = None

-- a touch of a source: the operation, and the change of the source's word
pub record Touch : Type 0 where
  pub source : ℕ
  pub op : PqOp
  pub old : ℕ
  pub new : ℕ
  pub forward : ℕ

abbrev pub touch_by : Option WordAccess → Option Change → Option Touch
touch_by (Some a) (Some c) = Some (record { source = a.source; op = a.op; old = c.old; new = c.new; forward = c.forward })
touch_by _ _ = None

-- the touch of a source by an entry
abbrev pub touch_of : Board → Entry → Option Touch
touch_of b x = touch_by (access_of b x.op) (change_in x.outcome)

-- the touch, where it is of this source
abbrev pub touch_at : ℕ → Option Touch → Option Touch
touch_at s (Some t) = if t.source == s then Some t else None
touch_at s None = None

-- the new pair of the last entry that touches s
abbrev pub pq : Start → List Entry → ℕ → ℕ
pq z [] s = z.pair s
pq z (x ∷ h) s = option_map_or (λ t. t.new) (touch_at s (touch_of z.board x)) (pq z h s)

-- the flag that the last raise, lower or init gives that touches s
abbrev pub asserted : Start → List Entry → ℕ → Bool
asserted z [] s = z.asserted s
asserted z (x ∷ h) s = let before = asserted z h s in option_map_or (λ t. flag_after t.op before) (touch_at s (touch_of z.board x)) before

abbrev pub old_in : PqOp → ℕ → ℕ → ℕ
old_in (Set new) old before = old
old_in _ old before = before

-- the old pair in the outcome of the last set that touches s
abbrev pub old_pair : Start → List Entry → ℕ → ℕ
old_pair z [] s = z.old_pair s
old_pair z (x ∷ h) s = let before = old_pair z h s in option_map_or (λ t. old_in t.op t.old before) (touch_at s (touch_of z.board x)) before
