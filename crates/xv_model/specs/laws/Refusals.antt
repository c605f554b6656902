-- What becomes of operations that are refused, find nothing, or only look: nothing.
use Rattle.std.specs.Prelude.{ℕ, ◌≡◌, not, Bool, true, false, List, ◌∷◌}
use Rattle.xv_model.specs.declared.outcomes.Outcome.{Outcome}
use Rattle.xv_model.specs.declared.outcomes.Outcome.TheVariants as out
use Rattle.xv_model.specs.declared.entries.Entry.{Entry}
use Rattle.xv_model.specs.account.Start.{Start}
use Rattle.xv_model.specs.call.Accepted.{is_success}
use Rattle.xv_model.specs.source.Pairs.{pq, asserted, old_pair}
use Rattle.xv_model.specs.source.Notices.{forwards, routes, outstanding}
use Rattle.xv_model.specs.source.Eas.{eas}
use Rattle.xv_model.specs.end.Descriptors.{end_config}
use Rattle.xv_model.specs.end.EventStates.{esn, ese}
use Rattle.xv_model.specs.end.Written.{written, written_count}
use Rattle.xv_model.specs.end.Reading.{taken, taken_count}
use Rattle.xv_model.specs.end.Memory.{word_at}
use Rattle.xv_model.specs.route.Flight.{flight}
use Rattle.xv_model.specs.processor.Phases.{is_connected, servers, phase}
use Rattle.xv_model.specs.processor.Pending.{pending, kept, late}
use Rattle.xv_model.specs.processor.Registers.{cppr, ring}

-- whether an outcome says that an operation is refused, or that it finds nothing to do
abbrev pub is_refusal : Outcome → Bool
is_refusal out.Spent = true
is_refusal out.Ones = true
is_refusal out.BadOffset = true
is_refusal out.NoEnd = true
is_refusal out.NoNotice = true
is_refusal out.BusFull = true
is_refusal out.NoMessage = true
is_refusal out.Quiet = true
is_refusal (out.Busy notices messages) = true
is_refusal (out.Refused why) = true
is_refusal out.BadAccess = true
is_refusal out.Empty = true
is_refusal out.NoQueue = true
is_refusal out.BadRange = true
is_refusal (out.Reply reply) = not (is_success reply.code)
is_refusal (out.Code code) = not (is_success code)
is_refusal _ = false

-- whether it says what the operation looked at
abbrev pub is_look : Outcome → Bool
is_look (out.Queue eq) = true
is_look (out.Context cppr ipb) = true
is_look (out.Cell word) = true
is_look _ = false

-- after an entry all is as before it
pub record IsAsBefore (z : Start) (h : List Entry) (x : Entry) : Type 0 where
  -- of each source
  pub pairs : (s : ℕ) → pq z (x ∷ h) s ≡ pq z h s
  pub lines : (s : ℕ) → asserted z (x ∷ h) s ≡ asserted z h s
  pub old_pairs : (s : ℕ) → old_pair z (x ∷ h) s ≡ old_pair z h s
  pub forwards : (s : ℕ) → forwards z (x ∷ h) s ≡ forwards z h s
  pub routes : (s : ℕ) → routes z (x ∷ h) s ≡ routes z h s
  pub notices : (s : ℕ) → outstanding z (x ∷ h) s ≡ outstanding z h s
  pub eases : (s : ℕ) → eas z (x ∷ h) s ≡ eas z h s
  -- of each END
  pub configs : (e : ℕ) → end_config z (x ∷ h) e ≡ end_config z h e
  pub notifications : (e : ℕ) → esn z (x ∷ h) e ≡ esn z h e
  pub escalations : (e : ℕ) → ese z (x ∷ h) e ≡ ese z h e
  pub written : (e : ℕ) → written z (x ∷ h) e ≡ written z h e
  pub written_counts : (e : ℕ) → written_count z (x ∷ h) e ≡ written_count z h e
  pub taken : (e : ℕ) → taken (x ∷ h) e ≡ taken h e
  pub taken_counts : (e : ℕ) → taken_count z (x ∷ h) e ≡ taken_count z h e
  -- of memory, and of what is on its way
  pub words : (a : ℕ) → word_at z (x ∷ h) a ≡ word_at z h a
  pub flight : flight z (x ∷ h) ≡ flight z h
  -- of each processor
  pub servers : servers z (x ∷ h) ≡ servers z h
  pub connected : (v : ℕ) → is_connected z (x ∷ h) v ≡ is_connected z h v
  pub phases : (v : ℕ) → phase z (x ∷ h) v ≡ phase z h v
  pub pending : (v p : ℕ) → pending z (x ∷ h) v p ≡ pending z h v p
  pub kept : (v p : ℕ) → kept z (x ∷ h) v p ≡ kept z h v p
  pub late : (v p : ℕ) → late z (x ∷ h) v p ≡ late z h v p
  pub cpprs : (v : ℕ) → cppr z (x ∷ h) v ≡ cppr z h v
  -- of each thread
  pub rings : (t : ℕ) → ring z (x ∷ h) t ≡ ring z h t

-- The laws, of any entries, legal or not: after an entry with such an outcome all is as before.

abbrev pub EachRefusalLeavesAll : Type 0
EachRefusalLeavesAll = (z : Start) (h : List Entry) (x : Entry) → is_refusal x.outcome ≡ true → IsAsBefore z h x

abbrev pub EachLookLeavesAll : Type 0
EachLookLeavesAll = (z : Start) (h : List Entry) (x : Entry) → is_look x.outcome ≡ true → IsAsBefore z h x
