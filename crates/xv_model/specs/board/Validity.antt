-- Which operations a board has.
use Rattle.std.specs.Prelude.{ℕ, ◌==◌, ◌+◌, ◌*◌, ◌^◌, ◌%◌, ◌-◌, nat_lt, nat_le, ◌&&◌, ◌||◌, not, Bool, true, if◌then◌else◌}
use Rattle.xv_base.specs.Limits.{ends_per_processor}
use Rattle.xv_model.specs.declared.pages.TheConstants.{END_PAGES}
use Rattle.xv_model.specs.declared.tima.TheConstants.{TM_PAGES}
use Rattle.xv_model.specs.declared.board.Board.{Board}
use Rattle.xv_model.specs.declared.operations.Access.{Access}
use Rattle.xv_model.specs.declared.operations.Access.TheVariants.{Load, Store}
use Rattle.xv_model.specs.declared.operations.PqOp.{PqOp}
use Rattle.xv_model.specs.declared.operations.PqOp.TheVariants.{Trigger, Eoi, Get, Set, Raise, Lower, Init}
use Rattle.xv_model.specs.declared.operations.EndConfig.{EndConfig}
use Rattle.xv_model.specs.declared.kvm.TheConstants.{GRP_EQ_CONFIG}
use Rattle.xv_model.specs.declared.operations.AttrValue.{AttrValue}
use Rattle.xv_model.specs.declared.operations.AttrValue.TheVariants.{Number, Queue}
use Rattle.xv_model.specs.declared.operations.Op.{Op}
use Rattle.xv_model.specs.declared.operations.Op.TheVariants as op
use Rattle.xv_model.specs.board.Boards.{is_level, source_pages}
use Rattle.xv_model.specs.end.Flags.{is_valid, enqueues, escalates}
use Rattle.xv_model.specs.processor.RingOps.{is_size}

-- whether a source has an operation, a level source or not: a pair that is set is one, and only a level source has a line
abbrev pub has_op : Bool → PqOp → Bool
has_op level Trigger = true
has_op level Eoi = true
has_op level Get = true
has_op level (Set new) = nat_lt new 4
has_op level Raise = level
has_op level Lower = level
has_op level (Init asserted) = level || not asserted

-- how many ENDs a board has
abbrev pub end_count : Board → ℕ
end_count b = ends_per_processor * b.limits.processors

-- the bytes of a board's memory
abbrev pub ram_size : Board → ℕ
ram_size b = b.ram_mib * 2 ^ 20

-- whether some bytes are whole words, and lie within so many bytes of memory
abbrev pub fits : ℕ → ℕ → ℕ → Bool
fits size addr len = (addr % 4 == 0) && ((len % 4 == 0) && nat_le (addr + len) size)

-- whether a queue may have 2 to the power of this many bytes: 4 KiB, 64 KiB, 2 MiB or 16 MiB
abbrev pub is_queue_shift : ℕ → Bool
is_queue_shift shift = (shift == 12) || ((shift == 16) || ((shift == 21) || (shift == 24)))

-- whether a queue is one that a board can have: it is aligned, and lies in memory
abbrev pub is_queue : Board → ℕ → ℕ → Bool
is_queue b addr shift = is_queue_shift shift && ((addr % 2 ^ shift == 0) && nat_le (addr + 2 ^ shift) (ram_size b))

-- how many entries a queue has whose size is 2 to the power of so many bytes; each entry has 4 bytes
abbrev pub entries_of : ℕ → ℕ
entries_of shift = 2 ^ (shift - 2)

-- whether a configuration has a queue where it has q, and none where it hasn't; the first entry is one of the first two times through the queue
abbrev pub has_queue : Board → EndConfig → Bool
has_queue b c =
    if enqueues c then is_queue b c.qaddr c.qshift && nat_lt c.start (2 * entries_of c.qshift)
    else (c.qaddr == 0) && ((c.qshift == 0) && (c.start == 0))

-- whether a configuration without e has no escalation END
abbrev pub has_no_escalation : EndConfig → Bool
has_no_escalation c = (c.esc == 0) && (c.esc_eisn == 0)

-- whether all fields but those of the queue are 0
abbrev pub has_nothing : EndConfig → Bool
has_nothing c = (c.flags.0 == 0) && ((c.vp == 0) && ((c.priority == 0) && has_no_escalation c))

-- whether an END is one that others escalate to: the last one of a processor
abbrev pub is_escalation_end : ℕ → Bool
is_escalation_end e = e % ends_per_processor == ends_per_processor - 1

-- whether a configuration with e has an escalation END of the board, and one without e has none
abbrev pub has_escalation : Board → EndConfig → Bool
has_escalation b c = if escalates c then nat_lt c.esc (end_count b) && (is_escalation_end c.esc && nat_lt c.esc_eisn (2 ^ 31)) else has_no_escalation c

-- whether the flags, the target, the priority and the escalation are in range
abbrev pub notifies_one : Board → EndConfig → Bool
notifies_one b c = nat_lt c.flags.0 128 && (nat_lt c.vp b.limits.processors && (nat_lt c.priority ends_per_processor && has_escalation b c))

-- whether an END may be configured so: without v there is nothing else
abbrev pub valid_config : Board → EndConfig → Bool
valid_config b c = has_queue b c && (if is_valid c then notifies_one b c else has_nothing c)

-- whether END e may be configured so: an escalation END doesn't escalate
abbrev pub may_be_configured : Board → ℕ → EndConfig → Bool
may_be_configured b e c = valid_config b c && not (escalates c && is_escalation_end e)

-- whether END e may be told so by the operation on it, which has its queue begin with entry 0
abbrev pub may_be_set : Board → ℕ → EndConfig → Bool
may_be_set b e c = (c.start == 0) && may_be_configured b e c

-- whether a number is that of a processor, and whether it is that of a thread
abbrev pub has_processor : Board → ℕ → Bool
has_processor b v = nat_lt v b.limits.processors

abbrev pub has_thread : Board → ℕ → Bool
has_thread b t = nat_lt t b.limits.threads

-- whether there is an access of so many bytes to a page of the TIMA; what is stored has no more bytes
abbrev pub has_access : ℕ → ℕ → Access → Bool
has_access page size Load = nat_lt page TM_PAGES && is_size size
has_access page size (Store value) = nat_lt page TM_PAGES && (is_size size && nat_lt value (2 ^ (8 * size)))

-- whether an attribute of a group can be set to a value: the fields of a queue are for queues alone
abbrev pub has_value : ℕ → AttrValue → Bool
has_value group (Number value) = true
has_value group (Queue eq) = group == GRP_EQ_CONFIG

-- whether each number of an operation is in range
abbrev pub valid : Board → Op → Bool
valid b (op.Pq s o) = nat_lt s b.limits.sources && has_op (is_level b s) o
valid b (op.Esb s page offset store) = nat_lt s b.limits.sources && nat_lt page (source_pages b)
valid b (op.EndEsb e page offset store) = nat_lt e (end_count b) && nat_lt page END_PAGES
valid b (op.Route s) = nat_lt s b.limits.sources
valid b (op.EndSet e c) = nat_lt e (end_count b) && may_be_set b e c
valid b (op.Hcall number args) = true
valid b (op.Take i) = true
valid b (op.Quiet s) = nat_lt s b.limits.sources
valid b (op.Connect v) = has_processor b v
valid b (op.Restore v t) = has_processor b v && has_thread b t
valid b (op.Save v) = has_processor b v
valid b (op.Tima t page offset size access) = has_thread b t && has_access page size access
valid b (op.Read e) = nat_lt e (end_count b)
valid b (op.Peek addr) = true
valid b (op.Zero addr len) = true
valid b (op.AttrSet group number value) = has_value group value
valid b (op.AttrGet group number) = true
valid b (op.VpGet v) = has_processor b v
valid b (op.VpSet v cppr ipb) = has_processor b v
