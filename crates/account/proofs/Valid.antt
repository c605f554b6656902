-- What a board has is said by its text.
use Rattle.std.proofs.Common.{Bool, true, IsTrue, rules}
use Rattle.xv_model.specs.declared.board.Board.{Board}
use Rattle.xv_model.specs.declared.operations.PqOp.{PqOp}
use Rattle.xv_model.specs.declared.operations.PqOp.TheVariants as pq
use Rattle.xv_model.specs.declared.operations.Op.{Op}
use Rattle.xv_model.specs.declared.operations.Op.TheVariants as op
use Rattle.xv_model.specs.board.Boards.{is_level}
use Rattle.xv_model.specs.board.Validity.{valid, has_op}
use Rattle.account.specs.text.Operations.{has_text}

-- what a source has, a level source has
level_has : (level : Bool) (o : PqOp) → IsTrue (has_op level o) → IsTrue (has_op true o)
level_has level (pq.Set q) h = h
level_has level _ h = search rules

pub valid-has_text : (b : Board) (o : Op) → IsTrue (valid b o) → IsTrue (has_text o)
valid-has_text b (op.Pq s o) h = level_has (is_level b s) o (search rules)
valid-has_text b (op.Esb s page offset store) h = search rules
valid-has_text b (op.EndEsb e page offset store) h = search rules
valid-has_text b (op.Route s) h = search rules
valid-has_text b (op.EndSet e c) h = search rules
valid-has_text b (op.Hcall number args) h = search rules
valid-has_text b (op.Read e) h = search rules
valid-has_text b (op.Peek addr) h = search rules
valid-has_text b (op.Zero addr len) h = search rules
valid-has_text b (op.Take i) h = search rules
valid-has_text b (op.Quiet s) h = search rules
valid-has_text b (op.Connect v) h = search rules
valid-has_text b (op.Restore v t) h = search rules
valid-has_text b (op.Save v) h = search rules
valid-has_text b (op.Tima t page offset size access) h = search rules
valid-has_text b (op.AttrSet group number value) h = h
valid-has_text b (op.AttrGet group number) h = search rules
valid-has_text b (op.VpGet v) h = search rules
valid-has_text b (op.VpSet v cppr ipb) h = search rules
