-- What stays in range.
use Rattle.std.proofs.Common.{ℕ, ◌≡◌, ◌<◌, ◌≤◌, ◌+◌, ◌^◌, Bool, true, false, if◌then◌else◌, List, length, refl, arith, slice_set, length-set}
use Rattle.std.specs.Prelude.{All}
use Rattle.std.proofs.lemmas.Bool.Decides.{nat_tests}
use Rattle.std.proofs.lemmas.List.Elements.{All-set, All-get_or}
use Rattle.xv_model.specs.declared.eas.Eas.{Eas}
use Rattle.xv_model.specs.declared.board.Board.{Board}
use Rattle.xv_model.specs.declared.outcomes.Outcome.{Outcome}
use Rattle.xv_model.specs.end.Flags.{is_valid, enqueues}
use Rattle.xv_model.specs.source.PqTable.{trigger_row}
use Rattle.xv_model.specs.end.EventStates.{asks_state}
use Rattle.end_queue.specs.declared.ends.EndRecord.{EndRecord}
use Rattle.end_queue.specs.Ends.{first_end, end_in, with_ese, HasCountsAtMost, HasRoom}
use Rattle.end_queue.specs.Queues.{one_taken, is_item, after_read}
use Rattle.end_queue.specs.Accounts.{IsEnd}
use Rattle.router.specs.Passes.{enqueued, notified, after_pass}
use Rattle.router.specs.Routing.{reaches_end, ends_after}

small_row : (q : ℕ) → (trigger_row q).pair < 4
small_row q = grind (arith, nat_tests)

small_state : (asks : Bool) (q : ℕ) → q < 4 → (if asks then (trigger_row q).pair else q) < 4
small_state true q l = small_row q
small_state false q l = l

after_pass_in_range : (b : Board) (r : EndRecord) → IsEnd b r → IsEnd b (after_pass r)
after_pass_in_range b r i = by (is_valid r.config)
  where
    by : (valid : Bool) → IsEnd b (if valid then notified (enqueued r) else r)
    by true = record { config = i.config; esn = small_state (asks_state r.config) r.esn i.esn; ese = i.ese }
    by false = i

one_more : (writes : Bool) (w n : ℕ) → w ≤ n → (if writes then w + 1 else w) ≤ n + 1
one_more true w n l = omega arith
one_more false w n l = omega arith

counted : (n : ℕ) (r : EndRecord) → HasCountsAtMost n r → HasCountsAtMost (n + 1) (after_pass r)
counted n r l = by (is_valid r.config)
  where
    by : (valid : Bool) → HasCountsAtMost (n + 1) (if valid then notified (enqueued r) else r)
    by true = record { written = one_more (enqueues r.config) r.written n l.written; taken = omega arith }
    by false = record { written = omega arith; taken = omega arith }

-- the ENDs after a pass
pub passed_in_range : (b : Board) (ends : List EndRecord) (e : ℕ) → e < length ends → All (IsEnd b) ends → All (IsEnd b) (slice_set ends e (after_pass (end_in ends e)))
passed_in_range b ends e l all = All-set (IsEnd b) ends e (after_pass (end_in ends e)) (after_pass_in_range b (end_in ends e) (All-get_or (IsEnd b) ends e first_end l all)) all

-- the ENDs after a notice
pub ends_in_range : (b : Board) (ends : List EndRecord) (a : Eas) → a.end < length ends → All (IsEnd b) ends → All (IsEnd b) (ends_after ends a)
ends_in_range b ends a l all = by (reaches_end a)
  where
    by : (going : Bool) → All (IsEnd b) (if going then slice_set ends a.end (after_pass (end_in ends a.end)) else ends)
    by true = passed_in_range b ends a.end l all
    by false = all

-- the ENDs after the state of escalations of one was set
pub asked_in_range : (b : Board) (ends : List EndRecord) (e state : ℕ) → state < 4 → e < length ends → All (IsEnd b) ends → All (IsEnd b) (slice_set ends e (with_ese state (end_in ends e)))
asked_in_range b ends e state small l all =
    let old = All-get_or (IsEnd b) ends e first_end l all in All-set (IsEnd b) ends e (with_ese state (end_in ends e)) (record { config = old.config; esn = old.esn; ese = small }) all

pub asked_counted : (n : ℕ) (ends : List EndRecord) (e state : ℕ) → e < length ends → All (HasCountsAtMost n) ends → All (HasCountsAtMost n) (slice_set ends e (with_ese state (end_in ends e)))
asked_counted n ends e state l all =
    let old = All-get_or (HasCountsAtMost n) ends e first_end l all in All-set (HasCountsAtMost n) ends e (with_ese state (end_in ends e)) (record { written = old.written; taken = old.taken }) all

pub asked_roomy : (ends : List EndRecord) (e state : ℕ) → e < length ends → All HasRoom ends → All HasRoom (slice_set ends e (with_ese state (end_in ends e)))
asked_roomy ends e state l all =
    let old = All-get_or HasRoom ends e first_end l all in All-set HasRoom ends e (with_ese state (end_in ends e)) (record { written = old.written; taken = old.taken }) all

pub one_roomy : (ends : List EndRecord) (e : ℕ) → e < length ends → All HasRoom ends → HasRoom (end_in ends e)
one_roomy ends e l all = All-get_or HasRoom ends e first_end l all

pub one_in_range : (b : Board) (ends : List EndRecord) (e : ℕ) → e < length ends → All (IsEnd b) ends → IsEnd b (end_in ends e)
one_in_range b ends e l all = All-get_or (IsEnd b) ends e first_end l all

-- counts that are at most n are at most one more
pub one_more_in_all : (n : ℕ) (ends : List EndRecord) → All (HasCountsAtMost n) ends → All (HasCountsAtMost (n + 1)) ends
one_more_in_all n ends all k d inside = let before = all k d inside in record { written = omega arith; taken = omega arith }

pub passed_counted : (n : ℕ) (ends : List EndRecord) (e : ℕ) → e < length ends → All (HasCountsAtMost n) ends → All (HasCountsAtMost (n + 1)) (slice_set ends e (after_pass (end_in ends e)))
passed_counted n ends e l all = All-set (HasCountsAtMost (n + 1)) ends e (after_pass (end_in ends e)) (counted n (end_in ends e) (All-get_or (HasCountsAtMost n) ends e first_end l all)) (one_more_in_all n ends all)

pub ends_counted : (n : ℕ) (ends : List EndRecord) (a : Eas) → a.end < length ends → All (HasCountsAtMost n) ends → All (HasCountsAtMost (n + 1)) (ends_after ends a)
ends_counted n ends a l all = by (reaches_end a)
  where
    by : (going : Bool) → All (HasCountsAtMost (n + 1)) (if going then slice_set ends a.end (after_pass (end_in ends a.end)) else ends)
    by true = passed_counted n ends a.end l all
    by false = one_more_in_all n ends all

-- ENDs whose counts are at most n, below 2^63, have room
pub have_room : (n : ℕ) (ends : List EndRecord) → n < 2 ^ 63 → All (HasCountsAtMost n) ends → All HasRoom ends
have_room n ends l all k d inside = let before = all k d inside in record { written = omega arith; taken = omega arith }

-- an END after a read of it
taken_counted : (n : ℕ) (r : EndRecord) → HasCountsAtMost n r → HasCountsAtMost (n + 1) (one_taken r)
taken_counted n r l = record { written = omega arith; taken = omega arith }

-- the ENDs after a read
pub read_in_range : (b : Board) (ends : List EndRecord) (e : ℕ) (u : Outcome) → e < length ends → All (IsEnd b) ends → All (IsEnd b) (after_read ends e u)
read_in_range b ends e u l all = by (is_item u)
  where
    by : (item : Bool) → All (IsEnd b) (if item then slice_set ends e (one_taken (end_in ends e)) else ends)
    by true = let old = All-get_or (IsEnd b) ends e first_end l all in All-set (IsEnd b) ends e (one_taken (end_in ends e)) (record { config = old.config; esn = old.esn; ese = old.ese }) all
    by false = all

pub read_counted : (n : ℕ) (ends : List EndRecord) (e : ℕ) (u : Outcome) → e < length ends → All (HasCountsAtMost n) ends → All (HasCountsAtMost (n + 1)) (after_read ends e u)
read_counted n ends e u l all = by (is_item u)
  where
    by : (item : Bool) → All (HasCountsAtMost (n + 1)) (if item then slice_set ends e (one_taken (end_in ends e)) else ends)
    by true = All-set (HasCountsAtMost (n + 1)) ends e (one_taken (end_in ends e)) (taken_counted n (end_in ends e) (All-get_or (HasCountsAtMost n) ends e first_end l all)) (one_more_in_all n ends all)
    by false = one_more_in_all n ends all

pub read_len : (ends : List EndRecord) (e : ℕ) (u : Outcome) → length (after_read ends e u) ≡ length ends
read_len ends e u = by (is_item u)
  where
    by : (item : Bool) → length (if item then slice_set ends e (one_taken (end_in ends e)) else ends) ≡ length ends
    by true = length-set ends e (one_taken (end_in ends e))
    by false = refl
