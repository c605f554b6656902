-- What a migration rests on: the pair that a source had before it was set is told, and a queue and a processor's state that are got on one
-- board and set on another go on there.
use Rattle.std.specs.Prelude.{ℕ, ◌≡◌, ◌<◌, ◌+◌, pos, Bool, true, false, not, List, ◌∷◌, ◌++◌}
use Rattle.std.specs.List.{list_all}
use Rattle.xv_model.specs.declared.board.Board.{Board}
use Rattle.xv_model.specs.declared.kvm.arguments.EqId.{EqId}
use Rattle.xv_model.specs.declared.operations.PqOp.{PqOp}
use Rattle.xv_model.specs.declared.operations.PqOp.TheVariants.{Set}
use Rattle.xv_model.specs.declared.operations.EndConfig.{EndConfig}
use Rattle.xv_model.specs.declared.operations.Op.TheVariants as op
use Rattle.xv_model.specs.declared.outcomes.Outcome.TheVariants as out
use Rattle.xv_model.specs.declared.entries.Entry.{Entry}
use Rattle.xv_model.specs.account.Start.{Start, start}
use Rattle.xv_model.specs.account.Kinds.{access_of}
use Rattle.xv_model.specs.account.Legal.{IsLegal}
use Rattle.xv_model.specs.source.Pairs.{pq, old_pair}
use Rattle.xv_model.specs.end.Flags.{has_event_queue}
use Rattle.xv_model.specs.end.Descriptors.{end_config, queue_set}
use Rattle.xv_model.specs.end.Memory.{place, generation}
use Rattle.xv_model.specs.end.Written.{written_count}
use Rattle.xv_model.specs.processor.Priorities.{priorities}
use Rattle.xv_model.specs.processor.Pending.{pending}
use Rattle.xv_model.specs.processor.Registers.{cppr}
use Rattle.xv_model.specs.device.Answers.{fields_of, vp_state_outcome}
use Rattle.xv_model.specs.laws.Triggers.{is_access}

-- whether an operation sets the pair of its source
abbrev pub is_set : PqOp → Bool
is_set (Set new) = true
is_set _ = false

-- whether an entry sets the pair of s
abbrev pub sets : Board → ℕ → Entry → Bool
sets b s x = is_access s is_set (access_of b x.op)

-- The law of old pairs, of an account of a board: the pair that a source had before it was set is told for as long as it isn't set again.
abbrev pub TellOldPairs : Board → List Entry → Type 0
TellOldPairs b h = (before since : List Entry) (x : Entry) (s : ℕ) → h ≡ since ++ x ∷ before →
    sets b s x ≡ true → list_all (λ y. not (sets b s y)) since ≡ true → old_pair (start b) h s ≡ pq (start b) before s

abbrev pub EachTellsOldPairs : Type 0
EachTellsOldPairs = (b : Board) (h : List Entry) → IsLegal (start b) h → TellOldPairs b h

-- The entries from number n on of one queue are where those from number m on of another one are, with the same generations.
pub record GoOnAs (c : EndConfig) (m : ℕ) (d : EndConfig) (n : ℕ) : Type 0 where
  pub places : (k : ℕ) → place d (n + k) ≡ place c (m + k)
  pub generations : (k : ℕ) → generation d (n + k) ≡ generation c (m + k)

-- The law of queues: one that is set to the fields that were got of e, for whichever END, goes on where the queue of e is written next.
abbrev pub EachQueueGoesOn : Type 0
EachQueueGoesOn = (z : Start) (h : List Entry) (e : ℕ) (id : EqId) → has_event_queue (end_config z h e) ≡ true →
    let c = end_config z h e in
    let d = queue_set (record { id = id; eq = fields_of z h e }) in
    GoOnAs c (c.start + written_count z h e) d d.start

-- The law of states, of an account of a board: a processor that is set to the state that was got of v, after whichever account, has the CPPR of v, and
-- the priorities that are pending for v are pending for it.
abbrev pub StatesGoOn : Board → List Entry → Type 0
StatesGoOn b h = (v n ipb : ℕ) → vp_state_outcome (start b) h v ≡ out.Context n ipb →
    (z : Start) (g : List Entry) (x : Entry) (w : ℕ) → x.op ≡ op.VpSet w n ipb → x.outcome ≡ out.Code (pos 0) →
    (cppr z (x ∷ g) w ≡ cppr (start b) h v) × ((p : ℕ) → p < priorities → pending z (x ∷ g) w p ≡ pending (start b) h v p)

abbrev pub EachStateGoesOn : Type 0
EachStateGoesOn = (b : Board) (h : List Entry) → IsLegal (start b) h → StatesGoOn b h
