-- Accesses to the pages of a source, as they are decoded.
use Rattle.std.proofs.Common.{ℕ, ◌≡◌, Bool, true, false, Option, Some, None, sym, ◌∙◌, ap, subst}
use Rattle.std.specs.Prelude.{option_and_then, Ok}
use Rattle.xv_model.specs.declared.board.Board.{Board}
use Rattle.xv_model.specs.declared.operations.PqOp.{PqOp}
use Rattle.xv_model.specs.declared.operations.Op.{Op}
use Rattle.xv_model.specs.declared.operations.Op.TheVariants as op
use Rattle.esb_mmio.specs.declared.pages.SourceKind.{SourceKind}
use Rattle.esb_mmio.specs.declared.pages.EsbOp.TheVariants.{Pq}
use Rattle.esb_mmio.specs.Pages.{op_at, decoded_by, decoded}
use Rattle.machine.specs.Answering.{kind_on}
use Rattle.machine.proofs.Words.{IsOn}

-- a kind of source is one of the same board by another name
pub kind_moves : (kind : SourceKind) (b b' : Board) (level : Bool) → kind ≡ kind_on b level → b ≡ b' → kind ≡ kind_on b' level
kind_moves kind b b' level is same = is ∙ ap (λ b. kind_on b level) same

-- what is decoded to an operation on a word is one
decoded_op : (store : Bool) (m : Option PqOp) (o : PqOp) → decoded_by store m ≡ Ok (Pq o) → m ≡ Some o
decoded_op store (Some p) o e = cc
decoded_op true None o e = cc
decoded_op false None o e = cc

-- an access that is decoded to an operation is that operation on the source's word
pub decoded_on : (b : Board) (kind : SourceKind) (level : Bool) (p : Op) (s page offset : ℕ) (store : Bool) (o : PqOp) →
    kind ≡ kind_on b level → p ≡ op.Esb s page offset store → decoded kind page offset store ≡ Ok (Pq o) → IsOn b p s o
decoded_on b kind level p s page offset store o is here e =
    subst (λ p. IsOn b p s o) (sym here)
    (ap (option_and_then (λ o. Some (record { source = s; op = o }))) (sym (ap (λ (k : SourceKind). op_at k page offset store) is) ∙ decoded_op store (op_at kind page offset store) o e))
