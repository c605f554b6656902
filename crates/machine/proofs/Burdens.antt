-- The burden of a machine is that of the account that it represents.
use Rattle.std.proofs.Common.{◌≡◌, ◌+◌, ◌*◌, List, [], ◌∙◌, ap, arith}
use Rattle.xv_model.specs.declared.board.Board.{Board}
use Rattle.xv_model.specs.declared.entries.Entry.{Entry}
use Rattle.xv_model.specs.account.Start.{Start, start}
use Rattle.xv_model.specs.account.Burden.{weight, burden}
use Rattle.xv_model.specs.source.Notices.{all_outstanding}
use Rattle.xv_model.proofs.Sums.{sum_below-zero}
use Rattle.machine.specs.Machine.{Held, StandsFor, burden_of}

-- it is the burden of the account that the machine represents
pub burden_of-is : (m : Held) (z : Start) (h : List Entry) → StandsFor m z h → burden_of m ≡ burden z h
burden_of-is m z h st =
    ap (λ n. 4 * n + weight m.fabric.tables.messages) st.notices ∙ ap (λ ms. 4 * all_outstanding z h + weight ms) st.parts.fabric.tables.messages

-- and 0 before anything happened
pub burden_of-none : (m : Held) (b : Board) → StandsFor m (start b) [] → burden_of m ≡ 0
burden_of-none m b st = burden_of-is m (start b) [] st ∙ omega (arith, sum_below-zero b.limits.sources)
