-- Entries that say nothing of a processor: what is refused, what is done to another one, and accesses to the rings of other threads.
use Rattle.std.proofs.Common.{ℕ, ℤ, ◌≡◌, ◌≢◌, ◌<◌, ◌&&◌, ◌==◌, Bool, true, false, if◌then◌else◌, Some, None, List, refl, ◌∙◌, ap}
use Rattle.std.specs.Option.{option_map_or}
use Rattle.std.proofs.lemmas.Bool.{ne_eqb}
use Rattle.xv_model.specs.declared.entries.Entry.{Entry}
use Rattle.xv_model.specs.declared.operations.Access.{Access}
use Rattle.xv_model.specs.declared.operations.AttrValue.{AttrValue}
use Rattle.xv_model.specs.declared.operations.Op.{Op}
use Rattle.xv_model.specs.declared.operations.Op.TheVariants as op
use Rattle.xv_model.specs.declared.outcomes.MoveRefused.{MoveRefused}
use Rattle.xv_model.specs.declared.outcomes.Outcome.{Outcome}
use Rattle.xv_model.specs.declared.outcomes.Outcome.TheVariants as out
use Rattle.xv_model.specs.declared.outcomes.Phase.TheVariants.{Restored, Saved}
use Rattle.xv_model.specs.declared.outcomes.Presented.{Presented}
use Rattle.xv_model.specs.declared.tima.RingOp.{RingOp}
use Rattle.xv_model.specs.declared.tima.RingOp.TheVariants.{Accept, Inject, Push, SetCppr}
use Rattle.xv_model.specs.account.Start.{Start}
use Rattle.xv_model.specs.call.Accepted.{is_success}
use Rattle.xv_model.specs.processor.RingOps.{ring_access, ring_op}
use Rattle.xv_model.specs.processor.Phases.{connected_in, is_on, move_in, moved_at, moved_by, phase}
use Rattle.xv_model.specs.processor.Pending.{access_says, ipb_set, is_kept, is_of, presentation_in, ring_says}
use Rattle.xv_model.specs.processor.Registers.{cppr_at, cppr_in as cppr_by, cppr_set, stored_cppr}
use Rattle.std.proofs.Math.Bool.{and-false}
use Rattle.xv_model.specs.declared.outcomes.Phase.{Phase}
use Rattle.fabric_core.proofs.Choices.{none_chosen}
use Rattle.fabric_core.proofs.Untouched.{IsStill, IsUntouched}

-- an entry that connects, moves, presents and sets nothing, and accesses no ring
pub record IsSilent (o : Op) (u : Outcome) : Type 0 where
  pub connects : connected_in o u ≡ None
  pub moves : move_in o u ≡ None
  pub presents : presentation_in o u ≡ None
  pub sets_ipb : (v : ℕ) → ipb_set v o u ≡ None
  pub sets_cppr : (v : ℕ) → cppr_set v o u ≡ None
  pub accesses : ring_access o ≡ None

pub untouched : (z : Start) (h : List Entry) (v : ℕ) (x : Entry) → IsSilent x.op x.outcome → IsUntouched z h v x
untouched z h v x s = record {
  still = record {
    moves = ap (moved_at v) s.moves;
    presents = λ p l. ap (is_of v p is_kept) s.presents;
    sets_ipb = s.sets_ipb v;
    sets_cppr = s.sets_cppr v;
    says = λ p l. ap (λ a. access_says (phase z h v) p a x.outcome) s.accesses;
    stores = ap (λ a. cppr_at (phase z h v) a x.outcome) s.accesses;
  };
  connects = ap (λ o. option_map_or (λ u. u == v) o false) s.connects;
}

-- moves and connections that are refused
pub refused_restore : (v t : ℕ) (why : MoveRefused) → IsSilent (op.Restore v t) (out.Refused why)
refused_restore v t why = record { connects = refl; moves = refl; presents = refl; sets_ipb = λ v. refl; sets_cppr = λ v. refl; accesses = refl }

pub refused_save : (v : ℕ) (why : MoveRefused) → IsSilent (op.Save v) (out.Refused why)
refused_save v why = record { connects = refl; moves = refl; presents = refl; sets_ipb = λ v. refl; sets_cppr = λ v. refl; accesses = refl }

pub refused_connect : (v : ℕ) (code : ℤ) → is_success code ≡ false → IsSilent (op.Connect v) (out.Code code)
refused_connect v code e = record { connects = ap (λ b. if b then Some v else None) e; moves = refl; presents = refl; sets_ipb = λ v. refl; sets_cppr = λ v. refl; accesses = refl }

-- a setting of an attribute, and what only asks
pub set_attribute : (group number : ℕ) (value : AttrValue) (u : Outcome) → IsSilent (op.AttrSet group number value) u
set_attribute group number value u = record { connects = refl; moves = refl; presents = refl; sets_ipb = λ v. refl; sets_cppr = λ v. refl; accesses = refl }

pub asked_attribute : (group number : ℕ) (u : Outcome) → IsSilent (op.AttrGet group number) u
asked_attribute group number u = record { connects = refl; moves = refl; presents = refl; sets_ipb = λ v. refl; sets_cppr = λ v. refl; accesses = refl }

pub asked_state : (v : ℕ) (u : Outcome) → IsSilent (op.VpGet v) u
asked_state v u = record { connects = refl; moves = refl; presents = refl; sets_ipb = λ v. refl; sets_cppr = λ v. refl; accesses = refl }

-- a state that isn't set
none_set : (same : Bool) (code : ℤ) (n : ℕ) → is_success code ≡ false → (if same && is_success code then Some n else None) ≡ None
none_set same code n e = ap (λ b. if same && b then Some n else None) e ∙ ap (λ b. if b then Some n else None) (and-false same)

pub refused_state : (v cppr ipb : ℕ) (code : ℤ) → is_success code ≡ false → IsSilent (op.VpSet v cppr ipb) (out.Code code)
refused_state v cppr ipb code e = record {
  connects = refl;
  moves = refl;
  presents = refl;
  sets_ipb = λ w. none_set (v == w) code ipb e;
  sets_cppr = λ w. none_set (v == w) code (stored_cppr cppr) e;
  accesses = refl;
}

-- what a connection leaves of any processor, but perhaps that it is connected
pub connect_still : (z : Start) (h : List Entry) (v w actor : ℕ) (code : ℤ) → IsStill z h v (record { actor = actor; op = op.Connect w; outcome = out.Code code })
connect_still z h v w actor code = record { moves = refl; presents = λ p l. refl; sets_ipb = refl; sets_cppr = refl; says = λ p l. refl; stores = refl }

-- what is done to another processor
pub not_moved : (v w : ℕ) (now : Phase) → w ≢ v → (if w == v then Some now else None) ≡ None
not_moved v w now other = ap (λ b. if b then Some now else None) (ne_eqb w v other)

pub other_connect : (z : Start) (h : List Entry) (v w actor : ℕ) (code : ℤ) → w ≢ v → IsUntouched z h v (record { actor = actor; op = op.Connect w; outcome = out.Code code })
other_connect z h v w actor code other = record {
  still = connect_still z h v w actor code;
  connects = by (is_success code);
}
  where
    by : (b : Bool) → option_map_or (λ u. u == v) (if b then Some w else None) false ≡ false
    by true = ne_eqb w v other
    by false = refl

pub other_restore : (z : Start) (h : List Entry) (v w t actor : ℕ) → w ≢ v → IsUntouched z h v (record { actor = actor; op = op.Restore w t; outcome = out.Fine })
other_restore z h v w t actor other = record {
  still = record { moves = not_moved v w (Restored t) other; presents = λ p l. refl; sets_ipb = refl; sets_cppr = refl; says = λ p l. refl; stores = refl };
  connects = refl;
}

pub other_save : (z : Start) (h : List Entry) (v w actor : ℕ) → w ≢ v → IsUntouched z h v (record { actor = actor; op = op.Save w; outcome = out.Fine })
other_save z h v w actor other = record {
  still = record { moves = not_moved v w Saved other; presents = λ p l. refl; sets_ipb = refl; sets_cppr = refl; says = λ p l. refl; stores = refl };
  connects = refl;
}

pub other_state : (z : Start) (h : List Entry) (v w cppr ipb actor : ℕ) (code : ℤ) → w ≢ v → IsUntouched z h v (record { actor = actor; op = op.VpSet w cppr ipb; outcome = out.Code code })
other_state z h v w cppr ipb actor code other = record {
  still = record { moves = refl; presents = λ p l. refl; sets_ipb = by ipb; sets_cppr = by (stored_cppr cppr); says = λ p l. refl; stores = refl };
  connects = refl;
}
  where
    by : (n : ℕ) → (if (w == v) && is_success code then Some n else None) ≡ None
    by n = ap (λ b. if b && is_success code then Some n else None) (ne_eqb w v other)

pub other_take : (z : Start) (h : List Entry) (v w p actor i : ℕ) (presented : Presented) (escalates : Bool) → w ≢ v →
    IsUntouched z h v (record { actor = actor; op = op.Take i; outcome = out.Present w p presented escalates })
other_take z h v w p actor i presented escalates other = record {
  still = record { moves = refl; presents = λ q l. ap (λ b. b && ((p == q) && is_kept presented)) (ne_eqb w v other); sets_ipb = refl; sets_cppr = refl; says = λ p l. refl; stores = refl };
  connects = refl;
}

-- a presentation that is lost
pub lost_take : (z : Start) (h : List Entry) (v w p actor i : ℕ) (presented : Presented) (escalates : Bool) → is_kept presented ≡ false →
    IsUntouched z h v (record { actor = actor; op = op.Take i; outcome = out.Present w p presented escalates })
lost_take z h v w p actor i presented escalates lost = record {
  still = record { moves = refl; presents = λ q l. ap (λ b. (w == v) && ((p == q) && b)) lost ∙ ap (λ b. (w == v) && b) (and-false (p == q)) ∙ and-false (w == v); sets_ipb = refl; sets_cppr = refl; says = λ p l. refl; stores = refl };
  connects = refl;
}

-- an access to the ring of a thread, by what it does there
access_at : (z : Start) (h : List Entry) (v t actor page offset size : ℕ) (access : Access) (u : Outcome) (o : RingOp) → ring_op page offset size access ≡ Some o →
    moved_at v (moved_by t o u) ≡ None → ((p : ℕ) → p < 8 → access_says (phase z h v) p (Some (record { thread = t; op = o })) u ≡ None) → cppr_at (phase z h v) (Some (record { thread = t; op = o })) u ≡ None →
    IsUntouched z h v (record { actor = actor; op = op.Tima t page offset size access; outcome = u })
access_at z h v t actor page offset size access u o e away says stores = record {
  still = record {
    moves = rw e away;
    presents = λ p l. refl;
    sets_ipb = refl;
    sets_cppr = refl;
    says = λ p l. rw e (says p l);
    stores = rw e stores;
  };
  connects = refl;
}

-- a thread on which the processor isn't, and no move of it
pub access_off : (z : Start) (h : List Entry) (v t actor page offset size : ℕ) (access : Access) (u : Outcome) (o : RingOp) → ring_op page offset size access ≡ Some o →
    is_on t (phase z h v) ≡ false → moved_at v (moved_by t o u) ≡ None → IsUntouched z h v (record { actor = actor; op = op.Tima t page offset size access; outcome = u })
access_off z h v t actor page offset size access u o e off away = access_at z h v t actor page offset size access u o e away
    (λ p l. ap (λ b. if b then ring_says p o u else None) off) (ap (λ b. if b then cppr_by o u else None) off)

-- what says nothing of any ring
pub access_silent : (z : Start) (h : List Entry) (v t actor page offset size : ℕ) (access : Access) (u : Outcome) (o : RingOp) → ring_op page offset size access ≡ Some o →
    moved_by t o u ≡ None → ((p : ℕ) → p < 8 → ring_says p o u ≡ None) → cppr_by o u ≡ None → IsUntouched z h v (record { actor = actor; op = op.Tima t page offset size access; outcome = u })
access_silent z h v t actor page offset size access u o e away says stores = access_at z h v t actor page offset size access u o e (ap (moved_at v) away)
    (λ p l. none_chosen (is_on t (phase z h v)) (ring_says p o u) (says p l)) (none_chosen (is_on t (phase z h v)) (cppr_by o u) stores)

-- one that is refused
pub access_refused : (z : Start) (h : List Entry) (v t actor page offset size : ℕ) (access : Access) (why : MoveRefused) (o : RingOp) → ring_op page offset size access ≡ Some o →
    IsUntouched z h v (record { actor = actor; op = op.Tima t page offset size access; outcome = out.Refused why })
access_refused z h v t actor page offset size access why o e = access_silent z h v t actor page offset size access (out.Refused why) o e (away o) (λ p l. says p o) (stores o)
  where
    away : (o : RingOp) → moved_by t o (out.Refused why) ≡ None
    away (Push cam) = refl
    away _ = refl

    says : (p : ℕ) (o : RingOp) → ring_says p o (out.Refused why) ≡ None
    says p (Inject q) = refl
    says p Accept = refl
    says p _ = refl

    stores : (o : RingOp) → cppr_by o (out.Refused why) ≡ None
    stores (SetCppr value) = refl
    stores Accept = refl
    stores _ = refl
