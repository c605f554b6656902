-- What becomes of hypercalls that are refused: nothing.
use Rattle.std.specs.Prelude.{ℕ, ◌≡◌, false, List, ◌∷◌, ◌++◌, None}
use Rattle.xv_model.specs.declared.board.Board.{Board}
use Rattle.xv_model.specs.declared.operations.Op.TheVariants as op
use Rattle.xv_model.specs.declared.outcomes.HReply.{HReply}
use Rattle.xv_model.specs.declared.outcomes.Outcome.TheVariants as out
use Rattle.xv_model.specs.declared.entries.Entry.{Entry}
use Rattle.xv_model.specs.account.Start.{start}
use Rattle.xv_model.specs.account.Legal.{IsLegal}
use Rattle.xv_model.specs.call.Accepted.{is_success}
use Rattle.xv_model.specs.source.Eas.{eas}
use Rattle.xv_model.specs.end.Descriptors.{config_by}

-- The law, of an account of a board.

-- a hypercall that is refused has no outputs, leaves the EAS of each source, and configures no END
abbrev pub RefusedDoNothing : Board → List Entry → Type 0
RefusedDoNothing b h = (before later : List Entry) (x : Entry) (number : ℕ) (args : List ℕ) (reply : HReply) →
    h ≡ later ++ x ∷ before → x.op ≡ op.Hcall number args → x.outcome ≡ out.Reply reply → is_success reply.code ≡ false →
    (reply.outs ≡ 0)
    × ((s : ℕ) → eas (start b) (x ∷ before) s ≡ eas (start b) before s)
    × ((e : ℕ) → config_by e x ≡ None)

-- The law holds of every legal account of a board.

abbrev pub EachRefusedDoesNothing : Type 0
EachRefusedDoesNothing = (b : Board) (h : List Entry) → IsLegal (start b) h → RefusedDoNothing b h
