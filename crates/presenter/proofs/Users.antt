-- The processor that uses a thread is one.
use Rattle.std.proofs.Common.{◌↔◌, Result, Err, ℕ, ◌≡◌, Bool, true, false, not, Option, Some, None, List, ap, ◌∙◌, refl, sym}
use Rattle.xv_model.specs.declared.outcomes.Phase.{Phase}
use Rattle.xv_model.specs.declared.outcomes.Phase.TheVariants.{Saved}
use Rattle.xv_model.specs.declared.outcomes.MoveRefused.{MoveRefused}
use Rattle.xv_model.specs.declared.outcomes.MoveRefused.TheVariants.{RingBusy}
use Rattle.nvt_backlog.specs.declared.vp.Vp.{Vp}
use Rattle.thread_context.specs.declared.ring.RingRecord.{RingRecord}
use Rattle.presenter.specs.Contexts.{AreFit, IsUser, Uses}
use Rattle.presenter.specs.Moves.{restore_at, restore_refused}

pub user_is : (vps : List Vp) (rings : List RingRecord) → AreFit vps rings → (t v : ℕ) → Uses vps v t → (u : Option ℕ) → IsUser vps t u → u ≡ Some v
user_is vps rings f t v uses None none = absurd (none v uses)
user_is vps rings f t v uses (Some w) user = ap Some (f.one_user w v t user uses)

pub busy : (valid : Bool) (phase : Phase) (v : ℕ) (u : Option ℕ) → valid ≡ true → phase ≡ Saved → u ≡ Some v → restore_refused valid phase u ≡ Some (RingBusy v)
busy valid phase v u connected saved user = ap (λ b. restore_refused b phase u) connected ∙ (ap (λ p. restore_at p u) saved ∙ ap (restore_at Saved) user)

pub holds : (b : Bool) → not b ≡ false → b ≡ true
holds true e = refl
holds false e = sym e

pub told : (r : Result Unit MoveRefused) (a why : MoveRefused) (o : Option MoveRefused) → r ≡ Err a → o ≡ Some a → (r ≡ Err why) ↔ (o ≡ Some why)
told r a why o e f = ((λ g. search), (λ g. search))
