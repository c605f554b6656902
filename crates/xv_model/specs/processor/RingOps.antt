-- What an access to a page of the TIMA does to a thread's OS ring (QEMU's hw/intc/xive.c, xive_tm_operations).
use Rattle.std.specs.Prelude.{ℕ, ◌==◌, ◌+◌, ◌-◌, ◌%◌, ◌^◌, ◌&&◌, ◌||◌, nat_le, nat_lt, Bool, if◌then◌else◌, Option, Some, None}
use Rattle.xv_model.specs.declared.tima.TheConstants.{TM_HV_PAGE, TM_OS_PAGE, TM_QW1_OS, TM_RING_SIZE, TM_OS_CPPR, TM_OS_CAM, TM_ACKNOWLEDGE, TM_SET_PENDING, TM_PULL_CONTEXT}
use Rattle.xv_model.specs.declared.tima.RingOp.{RingOp}
use Rattle.xv_model.specs.declared.tima.RingOp.TheVariants.{Load, SetCppr, Accept, Inject, Push, Pull}
use Rattle.xv_model.specs.declared.operations.Access.{Access}
use Rattle.xv_model.specs.declared.operations.Access.TheVariants as access
use Rattle.xv_model.specs.declared.operations.Op.{Op}
use Rattle.xv_model.specs.declared.operations.Op.TheVariants as op

-- whether an access may have this many bytes
abbrev pub is_size : ℕ → Bool
is_size size = (size == 1) || ((size == 2) || ((size == 4) || (size == 8)))

-- whether registers can be loaded so: whole ones of the OS ring, on a page but the user's
abbrev pub is_register : ℕ → ℕ → ℕ → Bool
is_register page offset size =
    is_size size && (nat_le page TM_OS_PAGE && (nat_le TM_QW1_OS offset && (nat_lt offset (TM_QW1_OS + TM_RING_SIZE) && (offset % size == 0))))

-- what a load does
abbrev pub load_of : ℕ → ℕ → ℕ → Option RingOp
load_of page offset size =
    if is_register page offset size then Some (Load (offset - TM_QW1_OS) size)
    else (if (page == TM_OS_PAGE) && ((offset == TM_ACKNOWLEDGE) && (size == 2)) then Some Accept
    else (if (page == TM_HV_PAGE) && ((offset == TM_PULL_CONTEXT) && ((size == 4) || (size == 8))) then Some Pull else None))

-- what a store does; a value has as many bytes as are stored
abbrev pub store_of : ℕ → ℕ → ℕ → ℕ → Option RingOp
store_of page offset size value =
    if (page == TM_OS_PAGE) && ((offset == TM_OS_CPPR) && ((size == 1) && nat_lt value (2 ^ 8))) then Some (SetCppr value)
    else (if (page == TM_OS_PAGE) && ((offset == TM_SET_PENDING) && ((size == 1) && nat_lt value (2 ^ 8))) then Some (Inject value)
    else (if (page == TM_HV_PAGE) && ((offset == TM_OS_CAM) && ((size == 4) && nat_lt value (2 ^ 32))) then Some (Push value) else None))

-- what an access does; none where there is nothing
abbrev pub ring_op : ℕ → ℕ → ℕ → Access → Option RingOp
ring_op page offset size access.Load = load_of page offset size
ring_op page offset size (access.Store value) = store_of page offset size value

-- what an operation does to the ring of a thread
pub record RingAccess : Type 0 where
  pub thread : ℕ
  pub op : RingOp

abbrev pub ring_access_by : ℕ → Option RingOp → Option RingAccess
ring_access_by t (Some o) = Some (record { thread = t; op = o })
ring_access_by t None = None

abbrev pub ring_access : Op → Option RingAccess
ring_access (op.Tima t page offset size access) = ring_access_by t (ring_op page offset size access)
ring_access _ = None
