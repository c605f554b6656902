-- The rings of a board's threads, and what each call makes of a ring.
use Rattle.std.specs.Prelude.{ℕ, ◌%◌, ◌^◌, nat_lt, if◌then◌else◌, List, slice_index_or, bit_or}
use Rattle.xv_model.specs.processor.Registers.{stored_cppr}
use Rattle.thread_context.specs.declared.ring.RingRecord.{RingRecord}
use Rattle.thread_context.specs.Priorities.{least_pending, with_pending, without_pending}
use Rattle.thread_context.specs.Ring.{notified}

-- the ring of a thread that no processor uses
abbrev pub free_ring : RingRecord
free_ring = record { cppr = 0; ipb = 0; cam = 0 }

-- what is kept of the ring of thread t
abbrev pub ring_in : List RingRecord → ℕ → RingRecord
ring_in rings t = slice_index_or rings t free_ring

-- a ring with other pending priorities
abbrev pub with_ipb : ℕ → RingRecord → RingRecord
with_ipb ipb r = record { cppr = r.cppr; ipb = ipb; cam = r.cam }

-- a ring whose processor took the least pending priority
abbrev pub taken : RingRecord → RingRecord
taken r = record {
  cppr = least_pending r.ipb;
  ipb = without_pending r.ipb (least_pending r.ipb);
  cam = r.cam;
}

-- a ring after an acknowledgement
abbrev pub accepted : RingRecord → RingRecord
accepted r = if notified r then taken r else r

-- a ring in whose CPPR this value was stored
abbrev pub with_cppr : ℕ → RingRecord → RingRecord
with_cppr value r = record { cppr = stored_cppr value; ipb = r.ipb; cam = r.cam }

-- a ring in which a priority became pending, if it is one
abbrev pub pending_added : ℕ → RingRecord → RingRecord
pending_added p r = if nat_lt 7 p then r else with_ipb (with_pending r.ipb p) r

-- a ring that was given the CPPR and the IPB of a processor
abbrev pub loaded : ℕ → ℕ → RingRecord
loaded cppr ipb = record { cppr = cppr; ipb = ipb; cam = 0 }

-- a ring that was given a CAM word and what was backlogged
abbrev pub pushed : ℕ → ℕ → RingRecord → RingRecord
pushed cam backlog r = record { cppr = r.cppr; ipb = bit_or r.ipb backlog; cam = cam }

-- a ring whose CAM word isn't valid any more
abbrev pub pulled : RingRecord → RingRecord
pulled r = record { cppr = r.cppr; ipb = r.ipb; cam = r.cam % 2 ^ 31 }
