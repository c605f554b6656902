-- Entries that read a queue: what the tables represent then, and what is answered.
use Rattle.std.proofs.Common.{ℕ, ◌≡◌, ◌<◌, ◌-◌, ◌+◌, ◌*◌, ◌/◌, ◌%◌, ◌==◌, Bool, true, false, if◌then◌else◌, List, [], ◌∷◌, ◌++◌, length, Some, refl, sym, ◌∙◌, ap, subst, arith, slice_set, slice_index_or, length-append}
use Rattle.std.proofs.Math.Nat.{mod-lt}
use Rattle.std.proofs.lemmas.List.{append-nil}
use Rattle.std.proofs.lemmas.Nat.{pow_pos}
use Rattle.std.proofs.lemmas.Option.{get_or_from_slice_get}
use Rattle.xv_base.specs.Limits.{ends_per_processor}
use Rattle.xv_model.specs.declared.board.Board.{Board}
use Rattle.xv_model.specs.declared.operations.EndConfig.{EndConfig}
use Rattle.xv_model.specs.declared.operations.Op.TheVariants as op
use Rattle.xv_model.specs.declared.outcomes.Outcome.{Outcome}
use Rattle.xv_model.specs.declared.outcomes.Outcome.TheVariants as out
use Rattle.xv_model.specs.declared.entries.Entry.{Entry}
use Rattle.xv_model.specs.account.Start.{Start}
use Rattle.xv_model.specs.end.Descriptors.{end_config, until_config}
use Rattle.xv_model.specs.end.Memory.{entries, place, word_at}
use Rattle.xv_model.specs.end.Written.{written}
use Rattle.xv_model.specs.end.Reading.{item_in, taken, taken_count, read_by, read_outcome}
use Rattle.xv_model.specs.route.Flight.{flight}
use Rattle.guest_ram.specs.Ram.{StandsFor as MemoryStandsFor}
use Rattle.end_queue.specs.declared.ends.EndRecord.{EndRecord}
use Rattle.end_queue.specs.Ends.{end_in, has_queue, HasPage}
use Rattle.end_queue.specs.Queues.{one_taken, after_read, read_in}
use Rattle.router.specs.Tables.{Kept, StandsFor}
use Rattle.end_queue.specs.Accounts.{record_of}
use Rattle.xv_model.proofs.Elements.{at_same, at_other, set_gives}
use Rattle.router.proofs.Keeping.{nothing_keeps}
use Rattle.end_queue.proofs.Entering.{record_by, nothing_entered}
use Rattle.router.proofs.Loaded.{kept_end}

-- a read of e
abbrev pub reading : ℕ → ℕ → Outcome → Entry
reading actor e u = record { actor = actor; op = op.Read e; outcome = u }

-- What the tables represent.

-- an END from which this was taken, by whether the read was of it
took : (z : Start) (h : List Entry) (j payload : ℕ) (here : Bool) →
    record_by z h j (written z h j ++ []) (taken h j ++ (if here then payload ∷ [] else [])) ≡ (if here then one_taken (record_of z h j) else record_of z h j)
took z h j payload true = λ i. by (append-nil (written z h j) i) (more i)
  where
    by : List ℕ → ℕ → EndRecord
    by ws n = let r = record_by z h j ws [] in record { config = r.config; written = r.written; taken = n; esn = r.esn; ese = r.ese }

    more : length (taken h j ++ payload ∷ []) + until_config (z.taken_count j) h j ≡ taken_count z h j + 1
    more = omega (arith, length-append (taken h j) (payload ∷ []))
took z h j payload false = nothing_entered z h j

-- a read that answered an entry
item_stands : (t : Kept) (z : Start) (h : List Entry) (actor e payload : ℕ) → StandsFor t z h → e < ends_per_processor * t.board.limits.processors →
    StandsFor (record { board = t.board; eases = t.eases; routes = t.routes; ends = slice_set t.ends e (one_taken (end_in t.ends e)); messages = t.messages })
    z (reading actor e (out.Item payload) ∷ h)
item_stands t z h actor e payload st l = record {
  board = st.board;
  eases = st.eases;
  routes = λ s below. st.routes s below ∙ ap Some (omega arith);
  ends = set_gives t.ends e (ends_per_processor * z.board.limits.processors) (one_taken (end_in t.ends e))
      (record_of z h) (record_of z (reading actor e (out.Item payload) ∷ h)) st.ends
      (subst (λ (b : Board). e < ends_per_processor * b.limits.processors) st.board l)
      (ap one_taken (kept_end t z h e st l) ∙ sym (took z h e payload (e == e) ∙ at_same e (one_taken (record_of z h e)) (record_of z h e)))
      (λ j other. took z h j payload (e == j) ∙ at_other e j (one_taken (record_of z h j)) (record_of z h j) other);
  messages = st.messages ∙ sym (append-nil (flight z h));
}

-- a read that answered none
none_stands : (t : Kept) (z : Start) (h : List Entry) (actor e : ℕ) (u : Outcome) → ((j : ℕ) → item_in (op.Read e) u j ≡ []) → StandsFor t z h → StandsFor t z (reading actor e u ∷ h)
none_stands t z h actor e u none st = nothing_keeps t z h (reading actor e u) (λ s. refl) (λ s. omega arith)
    (λ j. ap (λ ts. record_by z h j (written z h j ++ []) (taken h j ++ ts)) (none j) ∙ nothing_entered z h j) (append-nil (flight z h)) st

pub read_stands : (t : Kept) (z : Start) (h : List Entry) (actor e : ℕ) (u : Outcome) (ends : List EndRecord) → StandsFor t z h → e < ends_per_processor * t.board.limits.processors →
    ends ≡ after_read t.ends e u → StandsFor (record { board = t.board; eases = t.eases; routes = t.routes; ends = ends; messages = t.messages }) z (reading actor e u ∷ h)
read_stands t z h actor e u ends st l is =
    subst (λ (ends : List EndRecord). StandsFor (record { board = t.board; eases = t.eases; routes = t.routes; ends = ends; messages = t.messages }) z (reading actor e u ∷ h)) (sym is) (by u)
  where
    by : (u : Outcome) → StandsFor (record { board = t.board; eases = t.eases; routes = t.routes; ends = after_read t.ends e u; messages = t.messages }) z (reading actor e u ∷ h)
    by (out.Item payload) = item_stands t z h actor e payload st l
    by _ = none_stands t z h actor e _ (λ j. refl) st

-- What is answered.

-- the word of an entry whose page lies in memory
word_there : (memory : List ℕ) (z : Start) (h : List Entry) (c : EndConfig) (j : ℕ) → MemoryStandsFor memory z h → HasPage (length memory) c →
    slice_index_or memory (place c j / 4) 0 ≡ word_at z h (place c j)
word_there memory z h c j st page =
    let i = place c j / 4 in
    let within : j % entries c < entries c = mod-lt j (pow_pos (c.qshift - 2)) in
    let aligned = page.aligned in
    let inside : i < length memory = omega (arith, page.inside, within, aligned) in
    let back : 4 * i ≡ place c j = omega (arith, aligned) in
    get_or_from_slice_get memory i (word_at z h (4 * i)) 0 (st.words i inside) ∙ ap (word_at z h) back

pub read_answer : (t : Kept) (memory : List ℕ) (z : Start) (h : List Entry) (e : ℕ) (u : Outcome) → StandsFor t z h → MemoryStandsFor memory z h → e < ends_per_processor * t.board.limits.processors →
    (has_queue (end_in t.ends e).config ≡ true → HasPage (length memory) (end_in t.ends e).config) → u ≡ read_in (end_in t.ends e) memory → u ≡ read_outcome z h e
read_answer t memory z h e u st words l page is =
    let same = kept_end t z h e st l in
    is ∙ ap (λ (r : EndRecord). read_in r memory) same ∙ by (has_queue (end_config z h e)) (λ q. subst (λ (r : EndRecord). has_queue r.config ≡ true → HasPage (length memory) r.config) same page q)
  where
    c : EndConfig
    c = end_config z h e

    j : ℕ
    j = c.start + taken_count z h e

    by : (q : Bool) → (q ≡ true → HasPage (length memory) c) → (if q then read_by c j (slice_index_or memory (place c j / 4) 0) else out.NoQueue) ≡ (if q then read_by c j (word_at z h (place c j)) else out.NoQueue)
    by true page = ap (read_by c j) (word_there memory z h c j words (page refl))
    by false page = refl
