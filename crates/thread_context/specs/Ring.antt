-- The OS ring of a thread: what is kept of it, what follows from that, and its sixteen bytes (QEMU's hw/intc/xive.c).
use Rattle.std.specs.Prelude.{ℕ, zero, suc, ◌≡◌, ◌<◌, ◌+◌, ◌*◌, ◌/◌, ◌%◌, ◌^◌, ◌&&◌, nat_le, nat_lt, if◌then◌else◌, Bool, List, [], ◌∷◌, slice_index_or}
use Rattle.thread_context.specs.declared.ring.Ring.{Ring}
use Rattle.thread_context.specs.declared.ring.RingRecord.{RingRecord}
use Rattle.thread_context.specs.Priorities.{least_pending}

-- whether a CAM word has its valid bit, the top one of 32
abbrev pub is_valid : ℕ → Bool
is_valid cam = nat_le (2 ^ 31) cam

-- whether the thread is notified: the context is valid, and a priority is pending that is less than CPPR (xive_tctx_notify)
abbrev pub notifies : ℕ → ℕ → ℕ → Bool
notifies cppr ipb cam = is_valid cam && nat_lt (least_pending ipb) cppr

-- NSR
abbrev pub nsr_of : ℕ → ℕ → ℕ → ℕ
nsr_of cppr ipb cam = if notifies cppr ipb cam then 0x80 else 0

-- whether the thread of a ring is notified
abbrev pub notified : RingRecord → Bool
notified r = notifies r.cppr r.ipb r.cam

-- what is shown of a ring
abbrev pub ring_of : RingRecord → Ring
ring_of r = record {
  nsr = nsr_of r.cppr r.ipb r.cam;
  cppr = r.cppr;
  ipb = r.ipb;
  pipr = least_pending r.ipb;
  cam = r.cam;
}

-- NSR and PIPR follow from the rest
pub record IsRing (r : Ring) : Type 0 where
  pub nsr : r.nsr ≡ nsr_of r.cppr r.ipb r.cam
  pub pipr : r.pipr ≡ least_pending r.ipb

-- CPPR and IPB are bytes, and the CAM word is one of 32 bits
pub record IsInRange (r : RingRecord) : Type 0 where
  pub cppr : r.cppr < 2 ^ 8
  pub ipb : r.ipb < 2 ^ 8
  pub cam : r.cam < 2 ^ 32

-- the bytes of a ring
abbrev pub ring_bytes : Ring → List ℕ
ring_bytes r =
    r.nsr ∷ r.cppr ∷ r.ipb ∷ 0xff ∷
    0xff ∷ 0 ∷ 0xff ∷ r.pipr ∷
    r.cam / 2 ^ 24 ∷ r.cam / 2 ^ 16 % 256 ∷ r.cam / 2 ^ 8 % 256 ∷ r.cam % 256 ∷
    0 ∷ 0 ∷ 0 ∷ 0 ∷ []

-- the number that so many bytes are, from a place on, the highest byte first
abbrev pub big_endian : List ℕ → ℕ → ℕ → ℕ
big_endian bytes at zero = 0
big_endian bytes at (suc n) = big_endian bytes at n * 256 + slice_index_or bytes (at + n) 0
