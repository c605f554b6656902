-- The texts of operations.
use Rattle.std.specs.Prelude.{ℕ, ◌==◌, Bool, true, false, if◌then◌else◌, List, [], ◌++◌, slice_index_or, codes, decimal}
use Rattle.xv_model.specs.declared.operations.PqOp.{PqOp}
use Rattle.xv_model.specs.declared.operations.PqOp.TheVariants.{Trigger, Eoi, Get, Set, Raise, Lower, Init}
use Rattle.xv_model.specs.declared.operations.Access.{Access}
use Rattle.xv_model.specs.declared.operations.Access.TheVariants.{Load, Store}
use Rattle.xv_model.specs.declared.operations.Op.{Op}
use Rattle.xv_model.specs.declared.operations.Op.TheVariants as op
use Rattle.xv_model.specs.declared.operations.EndConfig.{EndConfig}
use Rattle.xv_model.specs.declared.operations.EqFields.{EqFields}
use Rattle.xv_model.specs.declared.operations.AttrValue.{AttrValue}
use Rattle.xv_model.specs.declared.operations.AttrValue.TheVariants.{Number, Queue}
use Rattle.xv_model.specs.board.Validity.{has_op, has_value}
use Rattle.xv_model.specs.end.Flags.{has_bit}
use Rattle.account.specs.text.Numbers.{pair_text, hex}

-- an operation on the pair of source s
abbrev pub pq_op_text : PqOp → ℕ → List ℕ
pq_op_text Trigger s = codes "trigger " ++ decimal s
pq_op_text Eoi s = codes "eoi " ++ decimal s
pq_op_text Get s = codes "get " ++ decimal s
pq_op_text (Set q) s = codes "set " ++ decimal s ++ codes " " ++ pair_text q
pq_op_text Raise s = codes "raise " ++ decimal s
pq_op_text Lower s = codes "lower " ++ decimal s
pq_op_text (Init asserted) s = codes "init " ++ decimal s ++ (if asserted then codes " 1" else codes " 0")

-- whether a page is loaded from or stored to
abbrev pub access_text : Bool → List ℕ
access_text store = if store then codes "store " else codes "load "

-- which page of which source or END is accessed, and at which offset
abbrev pub page_text : ℕ → ℕ → ℕ → List ℕ
page_text n page offset = decimal n ++ codes " " ++ decimal page ++ codes " " ++ hex offset

-- a flag's letter, where it is set
abbrev pub flag_text : ℕ → ℕ → List ℕ → List ℕ
flag_text flags bit letter = if has_bit flags bit then letter else []

-- the letters of an END's flags, or a dash where there are none
abbrev pub flags_text : ℕ → List ℕ
flags_text flags =
    if flags == 0 then codes "-"
    else flag_text flags 1 (codes "v") ++ flag_text flags 2 (codes "q") ++ flag_text flags 4 (codes "n")
    ++ flag_text flags 8 (codes "b") ++ flag_text flags 16 (codes "e") ++ flag_text flags 32 (codes "u")
    ++ flag_text flags 64 (codes "s")

-- the flags of a configuration, and what it notifies: the processor and the priority
abbrev pub target_text : EndConfig → List ℕ
target_text c = flags_text c.flags.0 ++ codes " " ++ decimal c.vp ++ codes " " ++ decimal c.priority

-- its event queue: the address and the shift
abbrev pub event_queue_text : EndConfig → List ℕ
event_queue_text c = hex c.qaddr ++ codes " " ++ decimal c.qshift

-- its escalation: the END and the payload
abbrev pub escalation_text : EndConfig → List ℕ
escalation_text c = decimal c.esc ++ codes " " ++ hex c.esc_eisn

-- the configuration of an END
abbrev pub config_text : EndConfig → List ℕ
config_text c =
    target_text c ++ codes " " ++ event_queue_text c ++ codes " " ++ escalation_text c

-- the arguments of a hypercall
abbrev pub arguments_text : List ℕ → List ℕ
arguments_text args =
    hex (slice_index_or args 0 0) ++ codes " " ++ hex (slice_index_or args 1 0) ++ codes " "
    ++ hex (slice_index_or args 2 0) ++ codes " " ++ hex (slice_index_or args 3 0) ++ codes " "
    ++ hex (slice_index_or args 4 0)

-- which page of the TIMA is accessed for which thread, at which offset, and how many bytes
abbrev pub tima_text : ℕ → ℕ → ℕ → ℕ → List ℕ
tima_text t page offset size = page_text t page offset ++ codes " " ++ decimal size

-- a load from the TIMA, or a store to it
abbrev pub tima_access_text : ℕ → ℕ → ℕ → ℕ → Access → List ℕ
tima_access_text t page offset size Load = codes "tload " ++ tima_text t page offset size
tima_access_text t page offset size (Store value) = codes "tstore " ++ tima_text t page offset size ++ codes " " ++ hex value

-- the fields of a queue of the KVM device: the flags, the shift, the address, the toggle and the index
abbrev pub fields_text : EqFields → List ℕ
fields_text eq =
    hex eq.flags ++ codes " " ++ decimal eq.qshift ++ codes " " ++ hex eq.qaddr ++ codes " "
    ++ decimal eq.qtoggle ++ codes " " ++ decimal eq.qindex

-- an attribute of the KVM device is set to a number, or to the fields of a queue, which are for one group alone
abbrev pub attribute_text : ℕ → ℕ → AttrValue → List ℕ
attribute_text group number (Number value) = codes "kvmset " ++ decimal group ++ codes " " ++ hex number ++ codes " " ++ hex value
attribute_text group number (Queue eq) = codes "kvmeq " ++ hex number ++ codes " " ++ fields_text eq

-- an operation
abbrev pub op_text : Op → List ℕ
op_text (op.Pq s o) = pq_op_text o s
op_text (op.Esb s page offset store) = access_text store ++ page_text s page offset
op_text (op.EndEsb e page offset store) = codes "end" ++ access_text store ++ page_text e page offset
op_text (op.Route s) = codes "route " ++ decimal s
op_text (op.EndSet e c) = codes "endset " ++ decimal e ++ codes " " ++ config_text c
op_text (op.Hcall number args) = codes "hcall " ++ hex number ++ codes " " ++ arguments_text args
op_text (op.Read e) = codes "read " ++ decimal e
op_text (op.Peek addr) = codes "peek " ++ hex addr
op_text (op.Zero addr len) = codes "zero " ++ hex addr ++ codes " " ++ hex len
op_text (op.Take i) = codes "take " ++ decimal i
op_text (op.Quiet s) = codes "quiet " ++ decimal s
op_text (op.Connect v) = codes "connect " ++ decimal v
op_text (op.Restore v t) = codes "restore " ++ decimal v ++ codes " " ++ decimal t
op_text (op.Save v) = codes "save " ++ decimal v
op_text (op.Tima t page offset size access) = tima_access_text t page offset size access
op_text (op.AttrSet group number value) = attribute_text group number value
op_text (op.AttrGet group number) = codes "kvmget " ++ decimal group ++ codes " " ++ hex number
op_text (op.VpGet v) = codes "vpget " ++ decimal v
op_text (op.VpSet v cppr ipb) = codes "vpset " ++ decimal v ++ codes " " ++ hex cppr ++ codes " " ++ hex ipb

-- whether an operation is on processors or rings: a take, a move of a context or an access to the TIMA
abbrev pub is_processor_op : Op → Bool
is_processor_op (op.Take i) = true
is_processor_op (op.Connect v) = true
is_processor_op (op.Restore v t) = true
is_processor_op (op.Save v) = true
is_processor_op (op.Tima t page offset size access) = true
is_processor_op _ = false

-- whether an operation is a call to the KVM device
abbrev pub is_device_op : Op → Bool
is_device_op (op.AttrSet group number value) = true
is_device_op (op.AttrGet group number) = true
is_device_op (op.VpGet v) = true
is_device_op (op.VpSet v cppr ipb) = true
is_device_op _ = false

-- whether the text of an operation says all of it, whatever its board: a pair in it is one, and the fields of a queue are of the group of queues
abbrev pub has_text : Op → Bool
has_text (op.Pq s o) = has_op true o
has_text (op.Esb s page offset store) = true
has_text (op.EndEsb e page offset store) = true
has_text (op.Route s) = true
has_text (op.EndSet e c) = true
has_text (op.Hcall number args) = true
has_text (op.Read e) = true
has_text (op.Peek addr) = true
has_text (op.Zero addr len) = true
has_text (op.Take i) = true
has_text (op.Quiet s) = true
has_text (op.Connect v) = true
has_text (op.Restore v t) = true
has_text (op.Save v) = true
has_text (op.Tima t page offset size access) = true
has_text (op.AttrSet group number value) = has_value group value
has_text (op.AttrGet group number) = true
has_text (op.VpGet v) = true
has_text (op.VpSet v cppr ipb) = true
