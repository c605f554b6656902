-- The legal outcome of an operation, and legal accounts.
use Rattle.std.specs.Prelude.{ℕ, ◌≡◌, ◌==◌, ◌+◌, ◌<◌, true, if◌then◌else◌, List, [], ◌∷◌}
use Rattle.xv_base.specs.Limits.{most_forwards}
use Rattle.xv_model.specs.declared.operations.Op.{Op}
use Rattle.xv_model.specs.declared.operations.Op.TheVariants as op
use Rattle.xv_model.specs.declared.outcomes.Outcome.{Outcome}
use Rattle.xv_model.specs.declared.outcomes.Outcome.TheVariants as out
use Rattle.xv_model.specs.declared.entries.Entry.{Entry}
use Rattle.xv_model.specs.board.Boards.{is_level}
use Rattle.xv_model.specs.account.Start.{Start}
use Rattle.xv_model.specs.account.Kinds.{WordAccess, Part, Word, Quiet, Notices, Rest, part_of}
use Rattle.xv_model.specs.source.PqTable.{Cell, pq_row}
use Rattle.xv_model.specs.source.Pairs.{pq, asserted}
use Rattle.xv_model.specs.source.Notices.{forwards}
use Rattle.xv_model.specs.source.Pages.{untouched_answer}
use Rattle.xv_model.specs.end.Memory.{peek_outcome, zero_outcome}
use Rattle.xv_model.specs.end.Pages.{end_page_answer}
use Rattle.xv_model.specs.end.Reading.{read_outcome}
use Rattle.xv_model.specs.route.Routing.{route_outcome}
use Rattle.xv_model.specs.route.Quiet.{quiet_answer}
use Rattle.xv_model.specs.route.Taking.{take_outcome}
use Rattle.xv_model.specs.processor.Moves.{connect_outcome, restore_outcome, save_outcome}
use Rattle.xv_model.specs.processor.Accesses.{tima_outcome}
use Rattle.xv_model.specs.call.Hypercalls.{hcall_reply}
use Rattle.xv_model.specs.device.Answers.{attribute_code, attribute_outcome, vp_state_code, vp_state_outcome}
use Rattle.xv_model.specs.board.Validity.{valid}

-- what an operation answers whose cell this is, and that finds the pair q and n forwards
abbrev pub answer_by : Cell → ℕ → ℕ → Outcome
answer_by c q n =
    if c.forwards then (if n == most_forwards then out.Spent else out.Pq q c.pair (n + 1))
    else out.Pq q c.pair 0

-- the cell of the table for an operation on a source's word after an account
abbrev pub cell_after : Start → List Entry → WordAccess → Cell
cell_after z h a = pq_row a.op (is_level z.board a.source) (asserted z h a.source) (pq z h a.source)

-- what an operation on a source's word answers
abbrev pub word_answer : Start → List Entry → WordAccess → Outcome
word_answer z h a = answer_by (cell_after z h a) (pq z h a.source) (forwards z h a.source)

-- what an operation on the rest of the fabric answers; the others have no row here
abbrev pub fabric_answer : Start → List Entry → Op → Outcome
fabric_answer z h (op.Esb s page offset store) = untouched_answer store
fabric_answer z h (op.EndEsb e page offset store) = end_page_answer z h e page offset store
fabric_answer z h (op.EndSet e c) = out.Fine
fabric_answer z h (op.Hcall number args) = out.Reply (hcall_reply z h number args)
fabric_answer z h (op.Take i) = take_outcome z h i
fabric_answer z h (op.Connect v) = connect_outcome z h v
fabric_answer z h (op.Restore v t) = restore_outcome z h v t
fabric_answer z h (op.Save v) = save_outcome z h v
fabric_answer z h (op.Tima t page offset size access) = tima_outcome z h t page offset size access
fabric_answer z h (op.Read e) = read_outcome z h e
fabric_answer z h (op.Peek addr) = peek_outcome z h addr
fabric_answer z h (op.Zero addr len) = zero_outcome z.board addr len
fabric_answer z h (op.AttrSet group number value) = out.Code (attribute_code z h group number value)
fabric_answer z h (op.AttrGet group number) = attribute_outcome z h group number
fabric_answer z h (op.VpGet v) = vp_state_outcome z h v
fabric_answer z h (op.VpSet v cppr ipb) = out.Code (vp_state_code z h v)
fabric_answer z h _ = out.BadAccess

-- what an operation answers, by the part that it is on
abbrev pub answer_on : Start → List Entry → Op → Part → Outcome
answer_on z h o (Word a) = word_answer z h a
answer_on z h o (Quiet s) = quiet_answer z h s
answer_on z h o (Notices s) = route_outcome z h s
answer_on z h o Rest = fabric_answer z h o

-- the one outcome of an operation after an account
abbrev pub legal : Start → List Entry → Op → Outcome
legal z h o = answer_on z h o (part_of z.board o)

-- the entry is by an actor of the board, is valid, and has the outcome that is legal after an account
pub record IsNext (z : Start) (h : List Entry) (x : Entry) : Type 0 where
  pub actor : x.actor < z.board.limits.actors
  pub valid_op : valid z.board x.op ≡ true
  pub outcome : x.outcome ≡ legal z h x.op

-- each entry is the next one after the entries before it
abbrev pub IsLegal : Start → List Entry → Type 0
IsLegal z [] = Unit {0}
IsLegal z (x ∷ h) = IsLegal z h × IsNext z h x
