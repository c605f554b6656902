-- The states of ENDs in a legal account are pairs.
use Rattle.std.proofs.Common.{ℕ, ◌≡◌, ◌==◌, ◌<◌, ◌%◌, ◌&&◌, Bool, true, false, if◌then◌else◌, List, [], ◌∷◌, Option, Some, None, refl, sym, ◌∙◌, ap, subst, arith, lit<}
use Rattle.std.proofs.lemmas.Bool.Decides.{nat_tests}
use Rattle.std.specs.Option.{option_map_or}
use Rattle.xv_model.specs.declared.pages.TheConstants.{ESB_OFFSETS}
use Rattle.xv_model.specs.declared.operations.EndConfig.{EndConfig}
use Rattle.xv_model.specs.declared.operations.Op.{Op}
use Rattle.xv_model.specs.declared.operations.Op.TheVariants as op
use Rattle.xv_model.specs.declared.outcomes.Outcome.{Outcome}
use Rattle.xv_model.specs.declared.outcomes.Outcome.TheVariants as out
use Rattle.xv_model.specs.declared.entries.Entry.{Entry}
use Rattle.xv_model.specs.account.Start.{Start}
use Rattle.xv_model.specs.account.Kinds.{run_of}
use Rattle.xv_model.specs.account.Legal.{IsLegal, legal}
use Rattle.xv_model.specs.source.PqTable.{trigger_row}
use Rattle.xv_model.specs.source.Pages.{load_op}
use Rattle.xv_model.specs.end.Flags.{is_valid}
use Rattle.xv_model.specs.end.Descriptors.{config_by, end_config}
use Rattle.xv_model.specs.end.EventStates.{Load, first_state, ran_at, asks_state, load_in, load_at, load_by, esn, ese, escalated_at}
use Rattle.xv_model.specs.end.Pages.{state_of, load_row, loaded}
use Rattle.xv_model.proofs.SmallPairs.{sets_load, small_cell}

-- both states of an END are pairs after an account
abbrev pub HasPairs : Start → List Entry → ℕ → Type 0
HasPairs z h e = (esn z h e < 4) × (ese z h e < 4)

-- the state that a page is of is a pair
pub small_state : (z : Start) (h : List Entry) (e page : ℕ) → HasPairs z h e → state_of z h e page < 4
small_state z h e page w = by (page == 0)
  where
    by : (b : Bool) → (if b then esn z h e else ese z h e) < 4
    by true = w.0
    by false = w.1

-- what a load makes of a pair is a pair
pub small_load : (offset q : ℕ) → q < 4 → (load_row offset q).pair < 4
small_load offset q l = small_cell (load_op (offset % ESB_OFFSETS)) false false q l (sets_load (offset % ESB_OFFSETS) (omega arith))

-- what an access that finds the pair q made of it is a pair
small_new : (store v : Bool) (e page offset q : ℕ) (l : Load) → q < 4 →
    load_in (op.EndEsb e page offset store) (if store then out.BadOffset else (if v then loaded offset q else out.NoEnd)) ≡ Some l → l.new < 4
small_new true v e page offset q l w is = cc
small_new false false e page offset q l w is = cc
small_new false true e page offset q l w is = let same : (load_row offset q).pair ≡ l.new = cc in subst (λ n. n < 4) same (small_load offset q w)

-- what a load in a legal account made of a state is a pair
small_loaded : (z : Start) (h : List Entry) (o : Op) (u : Outcome) (l : Load) → ((e : ℕ) → HasPairs z h e) → u ≡ legal z h o → load_in o u ≡ Some l → l.new < 4
small_loaded z h (op.EndEsb e page offset store) u l w is found =
    small_new store (is_valid (end_config z h e)) e page offset (state_of z h e page) l (small_state z h e page (w e)) (ap (load_in (op.EndEsb e page offset store)) (sym is) ∙ found)
small_loaded z h _ u l w is found = cc

-- the load of a page of e is a load
load_at-some : (page e n : ℕ) (m : Option Load) → load_at page e m ≡ Some n → (l : Load) × (m ≡ Some l) × (l.new ≡ n)
load_at-some page e n (Some l) is = (l, refl, grind (arith, nat_tests))
load_at-some page e n None is = cc

-- a state after an entry is a pair, by what the entry is
small_after : (c : Option EndConfig) (m : Option ℕ) (k : ℕ) → ((n : ℕ) → m ≡ Some n → n < 4) → k < 4 → option_map_or first_state c (option_map_or (λ new. new) m k) < 4
small_after (Some c) m k w l = by (is_valid c)
  where
    by : (b : Bool) → (if b then 0 else 1) < 4
    by true = lit< tt
    by false = lit< tt
small_after None (Some n) k w l = w n refl
small_after None None k w l = l

-- a trigger makes a pair of a pair
small_trigger : (b : Bool) (q : ℕ) → q < 4 → (if b then (trigger_row q).pair else q) < 4
small_trigger true q l = grind (arith, nat_tests)
small_trigger false q l = l

-- the states of each END are pairs in a legal account, where they are so in the start record
pub states-below : (z : Start) (h : List Entry) → IsLegal z h → ((e : ℕ) → (z.esn e < 4) × (z.ese e < 4)) → (e : ℕ) → HasPairs z h e
states-below z [] l w e = w e
states-below z (x ∷ h) l w e =
    let before = states-below z h l.0 w in
    let small = λ (page n : ℕ) (is : load_by page e x ≡ Some n). let at = load_at-some page e n (load_in x.op x.outcome) is in
    subst (λ n. n < 4) at.2 (small_loaded z h x.op x.outcome at.0 before l.1.outcome at.1) in (
      small_after (config_by e x) (load_by 0 e x) _ (small 0) (small_trigger (ran_at e (run_of x.op x.outcome) && asks_state (end_config z h e)) (esn z h e) (before e).0),
      small_after (config_by e x) (load_by 1 e x) _ (small 1) (small_trigger (escalated_at z h x.op x.outcome e) (ese z h e) (before e).1),
    )
