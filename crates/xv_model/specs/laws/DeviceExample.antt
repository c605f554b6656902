-- What the KVM device answers in some accounts, call by call: each refusal, and what is set and got.
use Rattle.std.specs.Prelude.{ℕ, ℤ, pos, ◌≡◌, true, false, List, [], ◌∷◌, Some, None, ◌+◌, map, replicate}
use Rattle.std.specs.List.{list_all}
use Rattle.xv_model.specs.declared.board.Spans.{Spans}
use Rattle.xv_model.specs.declared.board.Board.{Board}
use Rattle.xv_model.specs.declared.board.TheConstants.Spans.{NONE}
use Rattle.xv_model.specs.declared.hypercalls.TheConstants.{H_INT_SET_SOURCE_CONFIG, H_INT_GET_SOURCE_CONFIG, H_INT_SET_QUEUE_CONFIG}
use Rattle.xv_model.specs.declared.kvm.TheConstants.{GRP_CTRL, CTRL_RESET, CTRL_EQ_SYNC, CTRL_NR_SERVERS, GRP_SOURCE, GRP_SOURCE_CONFIG, GRP_EQ_CONFIG, GRP_SOURCE_SYNC}
use Rattle.xv_model.specs.declared.kvm.errors.TheConstants.{ENOENT, ENXIO, E2BIG, EBUSY, EINVAL}
use Rattle.xv_model.specs.declared.operations.Access.TheVariants as access
use Rattle.xv_model.specs.declared.operations.PqOp.TheVariants.{Trigger, Eoi, Set, Init}
use Rattle.xv_model.specs.declared.operations.EqFields.{EqFields}
use Rattle.xv_model.specs.declared.operations.AttrValue.TheVariants.{Number, Queue}
use Rattle.xv_model.specs.declared.operations.Op.{Op}
use Rattle.xv_model.specs.declared.operations.Op.TheVariants as op
use Rattle.xv_model.specs.declared.outcomes.Phase.TheVariants.{Saved, Pulled}
use Rattle.xv_model.specs.declared.outcomes.MoveRefused.TheVariants.{NotValid, VpBusy, RingBusy, NotPulled, NotRestored, NoContext}
use Rattle.xv_model.specs.declared.outcomes.Presented.TheVariants.{Backlogged}
use Rattle.xv_model.specs.declared.outcomes.Then.TheVariants.{Present}
use Rattle.xv_model.specs.declared.outcomes.EndRun.TheVariants as run
use Rattle.xv_model.specs.declared.outcomes.Routed.TheVariants.{Masked, Run}
use Rattle.xv_model.specs.declared.outcomes.Outcome.{Outcome}
use Rattle.xv_model.specs.declared.outcomes.Outcome.TheVariants as out
use Rattle.xv_model.specs.declared.entries.Entry.{Entry}
use Rattle.xv_model.specs.account.Start.{Start, start}
use Rattle.xv_model.specs.account.Legal.{legal}
use Rattle.xv_model.specs.board.Validity.{valid}
use Rattle.xv_model.specs.call.Hypercalls.{reply_with}

-- a call, and what it answers
pub record Answered : Type 0 where
  pub op : Op
  pub outcome : Outcome

abbrev pub gives : Op → Outcome → Answered
gives o u = record { op = o; outcome = u }

-- setting an attribute to a number, and a queue to its fields: flags, shift, address, toggle and index
abbrev pub sets : ℕ → ℕ → ℕ → ℤ → Answered
sets group number value code = gives (op.AttrSet group number (Number value)) (out.Code code)

abbrev pub fields : ℕ → ℕ → ℕ → ℕ → ℕ → EqFields
fields flags shift addr toggle index = record { flags = flags; qshift = shift; qaddr = addr; qtoggle = toggle; qindex = index }

abbrev pub sets_queue : ℕ → EqFields → ℤ → Answered
sets_queue number eq code = gives (op.AttrSet GRP_EQ_CONFIG number (Queue eq)) (out.Code code)

-- getting an attribute
abbrev pub gets : ℕ → ℕ → Outcome → Answered
gets group number got = gives (op.AttrGet group number) got

-- a hypercall that is accepted and answers nothing more
abbrev pub calls : ℕ → List ℕ → Answered
calls number args = gives (op.Hcall number args) (out.Reply (reply_with (pos 0) []))

-- what H_INT_GET_SOURCE_CONFIG shows of the EAS of source 1: the target, the priority and the EISN
abbrev pub shows_source : ℕ → ℕ → ℕ → Answered
shows_source target priority eisn = gives (op.Hcall H_INT_GET_SOURCE_CONFIG (0 ∷ 1 ∷ 0 ∷ 0 ∷ 0 ∷ [])) (out.Reply (reply_with (pos 0) (target ∷ priority ∷ eisn ∷ [])))

-- what each call is to answer after those before it
abbrev pub answers : Start → List Entry → List Answered → List Outcome
answers z h [] = []
answers z h (a ∷ rest) = legal z h a.op ∷ answers z (record { actor = 0; op = a.op; outcome = a.outcome } ∷ h) rest

-- each call is valid, and answers that
pub record AreAnswered (b : Board) (calls : List Answered) : Type 0 where
  pub valid_ops : list_all (λ a. valid b a.op) calls ≡ true
  pub outcomes : map (λ a. a.outcome) calls ≡ answers (start b) [] calls

-- the numbers from one on up to 1
abbrev pub spans_to_one : ℕ → Spans
spans_to_one first = record { count = 1; spans = record { first = first; last = 1 } ∷ replicate 15 (record { first = 0; last = 0 }) }

-- a board of so many sources, processors and threads, of which some are level sources, some unclaimed and some unconnected, with 1 MiB
abbrev pub board_of : ℕ → ℕ → ℕ → Spans → Spans → Spans → Board
board_of sources processors threads level unclaimed unconnected = record {
  limits = record { sources = sources; processors = processors; threads = threads; actors = 1 };
  ram_mib = 1;
  two_pages = true;
  store_eoi = false;
  level = level;
  unclaimed = unclaimed;
  unconnected = unconnected;
}

-- a board of 2 sources, of which the second one is unclaimed, and 2 processors, of which the second one is unconnected
abbrev pub half_there : Board
half_there = board_of 2 2 1 NONE (spans_to_one 1) (spans_to_one 1)

-- sources and queues: source 1 is initialised and gets a queue, whose events go on where a guest that is moved had them
abbrev pub sources_and_queues : List Answered
sources_and_queues =
    sets GRP_SOURCE 2 0 E2BIG
    ∷ sets GRP_SOURCE 1 1 EINVAL
    ∷ sets GRP_SOURCE_CONFIG 2 0 ENOENT
    ∷ sets GRP_SOURCE_CONFIG 1 0 EINVAL
    ∷ sets GRP_SOURCE_SYNC 1 0 EINVAL
    ∷ sets GRP_SOURCE 1 0 (pos 0)
    ∷ gives (op.Pq 1 (Init false)) (out.Pq 1 1 0)
    ∷ sets GRP_SOURCE_CONFIG 1 0x7 EINVAL
    ∷ sets GRP_SOURCE_CONFIG 1 0x8 EINVAL
    ∷ sets GRP_SOURCE_CONFIG 1 0x0 ENXIO
    ∷ sets_queue 0x8 (fields 1 12 0x1000 1 0) ENOENT
    ∷ sets_queue 0x7 (fields 1 12 0x1000 1 0) EINVAL
    ∷ sets_queue 0x0 (fields 0 12 0x1000 1 0) EINVAL
    ∷ sets_queue 0x0 (fields 1 12 0x1000 1 0) (pos 0)
    ∷ sets GRP_SOURCE_CONFIG 1 0x2a00000000 (pos 0)
    ∷ shows_source 0 0 0x15
    ∷ gets GRP_EQ_CONFIG 0x0 (out.Queue (fields 1 12 0x1000 1 0))
    ∷ sets_queue 0x0 (fields 1 13 0x2000 1 0) EINVAL
    ∷ sets_queue 0x0 (fields 1 12 0x1004 1 0) EINVAL
    ∷ sets_queue 0x0 (fields 1 12 0x100000 1 0) EINVAL
    ∷ sets_queue 0x0 (fields 1 12 0x1000 2 0) EINVAL
    ∷ sets_queue 0x0 (fields 1 12 0x1000 1 1024) EINVAL
    ∷ sets GRP_EQ_CONFIG 0x0 1 EINVAL
    ∷ sets_queue 0x100000000 (fields 1 12 0x1000 1 1023) (pos 0)
    ∷ gets GRP_EQ_CONFIG 0x100000000 (out.Queue (fields 1 12 0x1000 1 1023))
    ∷ gives (op.Pq 1 (Set 0)) (out.Pq 1 0 0)
    ∷ gives (op.Pq 1 Trigger) (out.Pq 0 2 1)
    ∷ gives (op.Route 1) (out.Routed 1 (Run (run.Ran 0 (Some (record { addr = 0x1ffc; word = 0x80000015 })) Present)))
    ∷ gets GRP_EQ_CONFIG 0x0 (out.Queue (fields 1 12 0x1000 0 0))
    ∷ sets_queue 0x0 (fields 1 12 0x1000 0 0) (pos 0)
    ∷ gets GRP_EQ_CONFIG 0x0 (out.Queue (fields 1 12 0x1000 0 0))
    ∷ sets GRP_SOURCE_CONFIG 1 0x100000007 EINVAL
    ∷ sets GRP_SOURCE_CONFIG 1 0x100000008 (pos 0)
    ∷ shows_source 0 0xff 0x15
    ∷ gives (op.Pq 1 (Set 0)) (out.Pq 2 0 0)
    ∷ gives (op.Pq 1 Trigger) (out.Pq 0 2 2)
    ∷ gives (op.Route 1) (out.Routed 2 Masked)
    ∷ gets GRP_EQ_CONFIG 0x8 (out.Code ENOENT)
    ∷ gets GRP_EQ_CONFIG 0x7 (out.Code EINVAL)
    ∷ gets GRP_SOURCE_CONFIG 0x1 (out.Code ENXIO)
    ∷ sets GRP_CTRL CTRL_NR_SERVERS 3 EINVAL
    ∷ sets GRP_CTRL CTRL_NR_SERVERS 2 EBUSY
    ∷ sets GRP_CTRL 4 0 ENXIO
    ∷ sets GRP_CTRL CTRL_EQ_SYNC 5 (pos 0)
    ∷ sets GRP_SOURCE_SYNC 2 0 ENOENT
    ∷ sets GRP_SOURCE_SYNC 1 0 (pos 0)
    ∷ sets 9 0 0 ENXIO
    ∷ sets_queue 0x0 (fields 7 0 0x3 9 9) (pos 0)
    ∷ gets GRP_EQ_CONFIG 0x0 (out.Queue (fields 0 0 0 0 0))
    ∷ sets GRP_SOURCE 1 2 (pos 0)
    ∷ shows_source 0 0xff 0
    ∷ sets GRP_CTRL CTRL_RESET 5 (pos 0)
    ∷ []

-- a board of 1 source and 2 processors, none of which is connected
abbrev pub none_connected : Board
none_connected = board_of 1 2 1 NONE NONE (spans_to_one 0)

-- processors: one of two is connected, and its state is got and set while it is saved
abbrev pub processors_and_states : List Answered
processors_and_states =
    gives (op.VpGet 0) (out.Code EINVAL)
    ∷ sets GRP_CTRL CTRL_NR_SERVERS 0 EINVAL
    ∷ sets GRP_CTRL CTRL_NR_SERVERS 2 (pos 0)
    ∷ sets GRP_CTRL CTRL_NR_SERVERS 1 (pos 0)
    ∷ gives (op.Connect 1) (out.Code EINVAL)
    ∷ gives (op.Connect 0) (out.Code (pos 0))
    ∷ sets GRP_CTRL CTRL_NR_SERVERS 3 EINVAL
    ∷ sets GRP_CTRL CTRL_NR_SERVERS 2 EBUSY
    ∷ sets GRP_CTRL CTRL_RESET 0 (pos 0)
    ∷ gives (op.Connect 1) (out.Code EINVAL)
    ∷ gives (op.VpSet 1 0 0) (out.Code EINVAL)
    ∷ gives (op.Restore 0 0) out.Fine
    ∷ gives (op.VpGet 0) (out.Code EBUSY)
    ∷ gives (op.Tima 0 1 0x18 4 (access.Store 0x80000400)) out.Fine
    ∷ gives (op.Tima 0 2 0x812 1 (access.Store 3)) out.Stored
    ∷ gives (op.VpSet 0 0 0) (out.Code EBUSY)
    ∷ gives (op.Tima 0 1 0x818 4 access.Load) (out.Value 0x80000400)
    ∷ gives (op.VpGet 0) (out.Code EBUSY)
    ∷ gives (op.Save 0) out.Fine
    ∷ gives (op.VpGet 0) (out.Context 0 0x10)
    ∷ gives (op.VpSet 0 9 0x40) (out.Code (pos 0))
    ∷ gives (op.VpGet 0) (out.Context 0xff 0x40)
    ∷ gives (op.EndSet 5 (record { flags = record { 0 = 1 + 8 }; vp = 0; priority = 5; qaddr = 0; qshift = 0; start = 0; esc = 0; esc_eisn = 0 })) out.Fine
    ∷ calls H_INT_SET_SOURCE_CONFIG (0 ∷ 0 ∷ 0 ∷ 5 ∷ 0 ∷ [])
    ∷ gives (op.Pq 0 (Set 0)) (out.Pq 1 0 0)
    ∷ gives (op.Pq 0 Trigger) (out.Pq 0 2 1)
    ∷ gives (op.Route 0) (out.Routed 1 (Run (run.Ran 5 None Present)))
    ∷ gives (op.Take 0) (out.Present 0 5 Backlogged false)
    ∷ gives (op.VpGet 0) (out.Context 0xff 0x44)
    ∷ gives (op.VpSet 0 7 0x01) (out.Code (pos 0))
    ∷ gives (op.VpGet 0) (out.Context 7 0x01)
    ∷ []

-- a board of 2 sources
abbrev pub two_sources : Board
two_sources = board_of 2 1 1 NONE NONE NONE

-- a queue that was read is set again, with the toggle of its next time through: what it has is read again only once it is written again
abbrev pub a_queue_again : List Answered
a_queue_again =
    calls H_INT_SET_QUEUE_CONFIG (1 ∷ 0 ∷ 0 ∷ 0x1000 ∷ 12 ∷ [])
    ∷ calls H_INT_SET_SOURCE_CONFIG (2 ∷ 0 ∷ 0 ∷ 0 ∷ 0 ∷ [])
    ∷ calls H_INT_SET_SOURCE_CONFIG (2 ∷ 1 ∷ 0 ∷ 0 ∷ 0x7fffffff ∷ [])
    ∷ gives (op.Pq 0 (Set 0)) (out.Pq 1 0 0)
    ∷ gives (op.Pq 1 (Set 0)) (out.Pq 1 0 0)
    ∷ gives (op.Pq 0 Trigger) (out.Pq 0 2 1)
    ∷ gives (op.Route 0) (out.Routed 1 (Run (run.Ran 0 (Some (record { addr = 0x1000; word = 0x80000000 })) Present)))
    ∷ gives (op.Pq 1 Trigger) (out.Pq 0 2 1)
    ∷ gives (op.Route 1) (out.Routed 1 (Run (run.Ran 0 (Some (record { addr = 0x1004; word = 0xffffffff })) Present)))
    ∷ gives (op.Read 0) (out.Item 0)
    ∷ gives (op.Read 0) (out.Item 0x7fffffff)
    ∷ gives (op.Read 0) out.Empty
    ∷ sets_queue 0x0 (fields 1 12 0x1000 0 0) (pos 0)
    ∷ gives (op.Read 0) out.Empty
    ∷ gives (op.Pq 0 Eoi) (out.Pq 2 0 0)
    ∷ gives (op.Pq 0 Trigger) (out.Pq 0 2 2)
    ∷ gives (op.Route 0) (out.Routed 2 (Run (run.Ran 0 (Some (record { addr = 0x1000; word = 0x0 })) Present)))
    ∷ gives (op.Read 0) (out.Item 0)
    ∷ []

-- a board of 2 processors, of which the second one is unconnected, and 2 threads
abbrev pub two_threads : Board
two_threads = board_of 1 2 2 NONE NONE (spans_to_one 1)

-- a processor is connected late, and the state of another one is set once it is saved
abbrev pub a_late_processor : List Answered
a_late_processor =
    gives (op.Restore 0 0) out.Fine
    ∷ gives (op.Tima 0 1 0x18 4 (access.Store 0x80000400)) out.Fine
    ∷ gives (op.Tima 0 1 0x818 4 access.Load) (out.Value 0x80000400)
    ∷ gives (op.Restore 0 1) (out.Refused (VpBusy (Pulled 0)))
    ∷ gives (op.Tima 1 1 0x18 4 (access.Store 0x80000400)) (out.Refused (NotRestored (Pulled 0)))
    ∷ gives (op.Tima 1 1 0x18 4 (access.Store 0x80000401)) (out.Refused NotValid)
    ∷ gives (op.Tima 0 1 0x818 4 access.Load) (out.Refused NoContext)
    ∷ gives (op.Tima 0 2 0x11 1 (access.Store 0x5)) (out.Refused NoContext)
    ∷ gives (op.Connect 1) (out.Code (pos 0))
    ∷ gives (op.Restore 1 0) (out.Refused (RingBusy 0))
    ∷ gives (op.Save 1) (out.Refused (NotPulled Saved))
    ∷ gives (op.VpGet 0) (out.Code EBUSY)
    ∷ gives (op.Save 0) out.Fine
    ∷ gives (op.Tima 0 3 0x10 1 access.Load) out.BadAccess
    ∷ gives (op.VpSet 0 0x9 0x40) (out.Code (pos 0))
    ∷ gives (op.VpGet 0) (out.Context 0xff 0x40)
    ∷ []

-- a board of 2 sources, of which the second one is a level source
abbrev pub one_line : Board
one_line = board_of 2 1 1 (spans_to_one 1) NONE NONE

-- a level source is initialised with its line up, which the EOI then finds
abbrev pub a_line_that_is_up : List Answered
a_line_that_is_up =
    sets GRP_SOURCE 0 1 EINVAL
    ∷ sets GRP_SOURCE 0 3 EINVAL
    ∷ sets GRP_SOURCE 0 0xfffffffffffffffe (pos 0)
    ∷ sets GRP_SOURCE 1 0 EINVAL
    ∷ sets GRP_SOURCE 1 2 EINVAL
    ∷ sets GRP_SOURCE 1 3 (pos 0)
    ∷ gives (op.Pq 1 (Init true)) (out.Pq 1 1 0)
    ∷ gives (op.Pq 1 (Set 0)) (out.Pq 1 0 0)
    ∷ gives (op.Pq 1 Eoi) (out.Pq 0 2 1)
    ∷ []

-- The example: on these boards the calls answer that.
pub record AnswerInTurn : Type 0 where
  pub sources_and_queues : AreAnswered half_there sources_and_queues
  pub processors_and_states : AreAnswered none_connected processors_and_states
  pub a_queue_again : AreAnswered two_sources a_queue_again
  pub a_late_processor : AreAnswered two_threads a_late_processor
  pub a_line_that_is_up : AreAnswered one_line a_line_that_is_up
