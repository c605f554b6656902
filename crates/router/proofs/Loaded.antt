-- Accesses to pages of ENDs, and what the tables represent then.
use Rattle.std.proofs.Common.{ℕ, ◌≡◌, ◌<◌, ◌+◌, ◌*◌, ◌==◌, ◌&&◌, not, Bool, true, false, if◌then◌else◌, List, [], ◌∷◌, ◌++◌, length, Option, Some, None, refl, sym, ◌∙◌, ap, subst, arith, slice_set, slice_get}
use Rattle.std.proofs.lemmas.Bool.Decides.{nat_tests}
use Rattle.std.proofs.lemmas.List.{append-nil}
use Rattle.std.specs.Option.{option_map_or}
use Rattle.xv_base.specs.Limits.{ends_per_processor}
use Rattle.xv_model.specs.declared.pages.TheConstants.{END_PAGES}
use Rattle.xv_model.specs.declared.board.Board.{Board}
use Rattle.xv_model.specs.declared.operations.Op.TheVariants as op
use Rattle.xv_model.specs.declared.outcomes.Outcome.{Outcome}
use Rattle.xv_model.specs.declared.outcomes.Outcome.TheVariants as out
use Rattle.xv_model.specs.declared.entries.Entry.{Entry}
use Rattle.xv_model.specs.account.Start.{Start}
use Rattle.xv_model.specs.end.Flags.{is_valid}
use Rattle.xv_model.specs.end.Descriptors.{end_config, until_config}
use Rattle.xv_model.specs.end.EventStates.{esn, ese}
use Rattle.xv_model.specs.end.Pages.{load_row, loaded, end_page_answer}
use Rattle.xv_model.specs.end.Written.{written}
use Rattle.xv_model.specs.end.Reading.{taken}
use Rattle.xv_model.specs.route.Flight.{flight}
use Rattle.end_queue.specs.declared.ends.EndRecord.{EndRecord}
use Rattle.end_queue.specs.Ends.{first_end, end_in, HasCountsAtMost}
use Rattle.end_queue.specs.Accounts.{IsEnd, record_of}
use Rattle.router.specs.Pages.{state_in, with_state, after_load}
use Rattle.router.specs.Tables.{Kept, StandsFor}
use Rattle.xv_model.proofs.SmallStates.{small_load}
use Rattle.xv_model.proofs.Elements.{at_same, at_other, set_gives, read}
use Rattle.end_queue.proofs.Entering.{nothing_entered}

-- an access to a page of e
abbrev pub end_access : ℕ → ℕ → ℕ → ℕ → Bool → Outcome → Entry
end_access actor e page offset store u = record { actor = actor; op = op.EndEsb e page offset store; outcome = u }

-- what is kept of e is what the account gives
pub kept_end : (t : Kept) (z : Start) (h : List Entry) (e : ℕ) → StandsFor t z h → e < ends_per_processor * t.board.limits.processors → end_in t.ends e ≡ record_of z h e
kept_end t z h e st l =
    read t.ends e (ends_per_processor * z.board.limits.processors) (end_in t.ends e) first_end (record_of z h) st.ends
    (subst (λ (b : Board). e < ends_per_processor * b.limits.processors) st.board l) refl

-- a load where it is
pub load_answer : (t : Kept) (z : Start) (h : List Entry) (e page offset : ℕ) (store : Bool) (u : Outcome) → StandsFor t z h → e < ends_per_processor * t.board.limits.processors →
    store ≡ false → is_valid (end_in t.ends e).config ≡ true → u ≡ loaded offset (state_in (end_in t.ends e) page) → u ≡ end_page_answer z h e page offset store
load_answer t z h e page offset store u st l is on answer =
    let same = kept_end t z h e st l in
    let w : is_valid (end_config z h e) ≡ true = subst (λ (r : EndRecord). is_valid r.config ≡ true) same on in
    answer ∙ ap (λ (r : EndRecord). loaded offset (state_in r page)) same ∙ sym (rw (is, w) refl)

-- an END, where this is what a load made of its state of page 0, and this what one made of that of page 1
abbrev loaded_by : Start → List Entry → ℕ → Option ℕ → Option ℕ → EndRecord
loaded_by z h j n m = record {
  config = end_config z h j;
  written = length (written z h j ++ []) + until_config (z.written_count j) h j;
  taken = length (taken h j ++ []) + until_config (z.taken_count j) h j;
  esn = option_map_or (λ new. new) n (esn z h j);
  ese = option_map_or (λ new. new) m (ese z h j);
}

-- the same without the queue into which nothing is written
without_queue : (z : Start) (h : List Entry) (j : ℕ) (n m : Option ℕ) →
    let r = record_of z h j in
    let s : EndRecord = record { config = r.config; written = r.written; taken = r.taken; esn = option_map_or (λ new. new) n r.esn; ese = option_map_or (λ new. new) m r.ese } in
    loaded_by z h j n m ≡ s
without_queue z h j n m = ap (λ (r : EndRecord). let s : EndRecord = record { config = r.config; written = r.written; taken = r.taken; esn = option_map_or (λ new. new) n (esn z h j); ese = option_map_or (λ new. new) m (ese z h j) } in s) (nothing_entered z h j)

-- an END with another state, by whether that is the one of page 0
abbrev put : Bool → EndRecord → ℕ → EndRecord
put first r state = record { config = r.config; written = r.written; taken = r.taken; esn = if first then state else r.esn; ese = if first then r.ese else state }

-- a load, by whether it is of page 0, and of this END
picked : (z : Start) (h : List Entry) (j new : ℕ) (first here : Bool) →
    loaded_by z h j (if first && here then Some new else None) (if not first && here then Some new else None) ≡ (if here then put first (record_of z h j) new else record_of z h j)
picked z h j new true true = without_queue z h j (Some new) None
picked z h j new false true = without_queue z h j None (Some new)
picked z h j new true false = without_queue z h j None None
picked z h j new false false = without_queue z h j None None

-- an END has two pages
one_or_zero : (page : ℕ) → page < END_PAGES → (page == 1) ≡ not (page == 0)
one_or_zero page l = grind (arith, nat_tests)

-- what a load of a page of e makes of END j
after : (z : Start) (h : List Entry) (e j actor page offset old new : ℕ) (store : Bool) → page < END_PAGES →
    record_of z (end_access actor e page offset store (out.EndPq old new) ∷ h) j ≡ (if e == j then with_state (record_of z h j) page new else record_of z h j)
after z h e j actor page offset old new store l =
    ap (λ second. loaded_by z h j (if (page == 0) && (e == j) then Some new else None) (if second && (e == j) then Some new else None)) (one_or_zero page l)
    ∙ picked z h j new (page == 0) (e == j)

-- the ENDs become those of which e is what a load makes of it
pub loaded_stands : (t : Kept) (z : Start) (h : List Entry) (actor e page offset : ℕ) (store : Bool) (ends : List EndRecord) (u : Outcome) →
    StandsFor t z h → e < ends_per_processor * t.board.limits.processors → page < END_PAGES →
    u ≡ loaded offset (state_in (end_in t.ends e) page) → ends ≡ slice_set t.ends e (after_load (end_in t.ends e) page offset) →
    StandsFor (record {
      board = t.board;
      eases = t.eases;
      routes = t.routes;
      ends = ends;
      messages = t.messages;
    }) z (end_access actor e page offset store u ∷ h)
loaded_stands t z h actor e page offset store ends u st l two answer is =
    let q = state_in (end_in t.ends e) page in
    let new = (load_row offset q).pair in
    let x = end_access actor e page offset store (out.EndPq q new) in
    subst (λ u. StandsFor (record { board = t.board; eases = t.eases; routes = t.routes; ends = ends; messages = t.messages }) z (end_access actor e page offset store u ∷ h)) (sym answer) (record {
      board = st.board;
      eases = st.eases;
      routes = λ s below. st.routes s below ∙ ap Some (omega arith);
      ends = λ j below. ap (λ (es : List EndRecord). slice_get es j) is
          ∙ set_gives t.ends e (ends_per_processor * z.board.limits.processors) (after_load (end_in t.ends e) page offset)
          (record_of z h) (record_of z (x ∷ h)) st.ends
          (subst (λ (b : Board). e < ends_per_processor * b.limits.processors) st.board l)
          (ap (λ (k : EndRecord). with_state k page new) (kept_end t z h e st l) ∙ sym (after z h e e actor page offset q new store two ∙ at_same e (with_state (record_of z h e) page new) (record_of z h e)))
          (λ j other. after z h e j actor page offset q new store two ∙ at_other e j (with_state (record_of z h j) page new) (record_of z h j) other) j below;
      messages = st.messages ∙ sym (append-nil (flight z h));
    })

-- an END after a load is in range
pub loaded_in_range : (b : Board) (r : EndRecord) (page offset : ℕ) → IsEnd b r → IsEnd b (after_load r page offset)
loaded_in_range b r page offset i = by (page == 0)
  where
    by : (first : Bool) → IsEnd b (put first r (load_row offset (if first then r.esn else r.ese)).pair)
    by true = record { config = i.config; esn = small_load offset r.esn i.esn; ese = i.ese }
    by false = record { config = i.config; esn = i.esn; ese = small_load offset r.ese i.ese }

-- an END after a load has the counts that it had
pub loaded_counted : (n : ℕ) (r : EndRecord) (page offset : ℕ) → HasCountsAtMost n r → HasCountsAtMost n (after_load r page offset)
loaded_counted n r page offset few = record { written = few.written; taken = few.taken }
