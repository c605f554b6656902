-- The words of a queue's page: the newest entries stand there, and no other word has the generation of an entry to come.
use Rattle.std.proofs.Common.{ℕ, zero, suc, ◌≡◌, ◌≢◌, ◌==◌, ◌+◌, ◌*◌, ◌^◌, ◌%◌, ◌<◌, ◌≤◌, if◌then◌else◌, List, [], ◌∷◌, ◌++◌, length, get_or, refl, sym, ◌∙◌, ap, subst, arith, inl, inr, length-append, eq-eqb, ne_eqb}
use Rattle.std.proofs.lemmas.Bool.{cases_lt}
use Rattle.std.proofs.lemmas.List.{get_or_append_left, get_or_push}
use Rattle.std.proofs.lemmas.Option.{slice_get-get_or, slice_get_past}
use Rattle.std.specs.Option.{option_map_or}
use Rattle.xv_model.specs.declared.operations.EndConfig.{EndConfig}
use Rattle.xv_model.specs.declared.outcomes.Outcome.TheVariants as out
use Rattle.xv_model.specs.end.Memory.{entries, place, generation}
use Rattle.xv_model.specs.end.Reading.{top_bit, read_by}
use Rattle.xv_model.specs.laws.Queues.{next_item}
use Rattle.xv_model.proofs.QueuePlaces.{some_entries, places_differ, place-wraps, generation_flips, top_bit-word, rest-word}

-- the word of an entry of a queue
abbrev pub word_of : EndConfig → ℕ → ℕ → ℕ
word_of c j payload = generation c j * 2 ^ 31 + payload

-- the words of a queue's page, after some payloads were written: the last ones stand there, and the next ones don't yet
pub record Holds (c : EndConfig) (words : ℕ → ℕ) (payloads : List ℕ) : Type 0 where
  pub held : (k : ℕ) → k < length payloads → length payloads ≤ k + entries c → words (place c (c.start + k)) ≡ word_of c (c.start + k) (get_or payloads k 0)
  pub free : (k : ℕ) → length payloads ≤ k → k < length payloads + entries c → top_bit (words (place c (c.start + k))) ≢ generation c (c.start + k)
  pub small : (k : ℕ) → get_or payloads k 0 < 2 ^ 31

-- one address gets a word, and the others keep theirs
abbrev pub Sets : ℕ → ℕ → (ℕ → ℕ) → (ℕ → ℕ) → Type 0
Sets addr word before after = (a : ℕ) → after a ≡ (if addr == a then word else before a)

-- the address has its word
set_there : (addr word : ℕ) (before after : ℕ → ℕ) → Sets addr word before after → after addr ≡ word
set_there addr word before after w = w addr ∙ ap (λ b. if b then word else before addr) (eq-eqb addr addr refl)

-- another address has its word still
kept_there : (addr word a : ℕ) (before after : ℕ → ℕ) → Sets addr word before after → addr ≢ a → after a ≡ before a
kept_there addr word a before after w differs = w a ∙ ap (λ b. if b then word else before a) (ne_eqb addr a differs)

-- words that stay on the page
pub holds_kept : (c : EndConfig) (before after : ℕ → ℕ) (payloads : List ℕ) → ((j : ℕ) → after (place c j) ≡ before (place c j)) → Holds c before payloads → Holds c after payloads
holds_kept c before after payloads same q = record {
  held = λ k l m. same (c.start + k) ∙ q.held k l m;
  free = λ k l m e. q.free k l m (ap top_bit (sym (same (c.start + k))) ∙ e);
  small = q.small;
}

-- the entry of a number and those near it, one of which was written
held_more : (c : EndConfig) (before after : ℕ → ℕ) (payloads : List ℕ) (payload : ℕ) →
    let j = c.start + length payloads in
    Sets (place c j) (word_of c j payload) before after → Holds c before payloads → (k : ℕ) → k < length payloads + 1 → length payloads + 1 ≤ k + entries c →
    after (place c (c.start + k)) ≡ word_of c (c.start + k) (get_or (payloads ++ payload ∷ []) k 0)
held_more c before after payloads payload sets q k l m =
    let j = c.start + length payloads in
    elim (cases_lt k (length payloads)) [
      | inl old ↦
          kept_there (place c j) (word_of c j payload) (place c (c.start + k)) before after sets (λ e. places_differ c (c.start + k) j (omega arith) (omega arith) (sym e))
          ∙ q.held k old (omega arith)
          ∙ ap (word_of c (c.start + k)) (sym (get_or_append_left payloads (payload ∷ []) 0 k old))
      | inr new ↦
          let same : length payloads ≡ k = omega arith in
          subst (λ n. after (place c (c.start + n)) ≡ word_of c (c.start + n) (get_or (payloads ++ payload ∷ []) n 0)) same
          (set_there (place c j) (word_of c j payload) before after sets ∙ ap (word_of c j) (sym (get_or_push payloads payload 0 (length payloads) refl)))
    ]

-- the entries to come, after one was written
free_more : (c : EndConfig) (before after : ℕ → ℕ) (payloads : List ℕ) (payload : ℕ) →
    let j = c.start + length payloads in
    payload < 2 ^ 31 → Sets (place c j) (word_of c j payload) before after → Holds c before payloads → (k : ℕ) → length payloads + 1 ≤ k → k < length payloads + 1 + entries c →
    top_bit (after (place c (c.start + k))) ≢ generation c (c.start + k)
free_more c before after payloads payload small sets q k l m e =
    let j = c.start + length payloads in
    elim (cases_lt k (length payloads + entries c)) [
      | inl near ↦
          q.free k (omega arith) near
          (ap top_bit (sym (kept_there (place c j) (word_of c j payload) (place c (c.start + k)) before after sets (places_differ c j (c.start + k) (omega arith) (omega arith)))) ∙ e)
      | inr far ↦
          let next : c.start + k ≡ j + entries c = omega arith in
          let there : after (place c (c.start + k)) ≡ word_of c j payload = ap (λ n. after (place c n)) next ∙ ap after (place-wraps c j) ∙ set_there (place c j) (word_of c j payload) before after sets in
          generation_flips c j (ap (generation c) (sym next) ∙ sym e ∙ ap top_bit there ∙ top_bit-word (generation c j) payload small)
    ]

-- one more payload is small
small_more : (payloads : List ℕ) (payload : ℕ) → payload < 2 ^ 31 → ((k : ℕ) → get_or payloads k 0 < 2 ^ 31) → (k : ℕ) → get_or (payloads ++ payload ∷ []) k 0 < 2 ^ 31
small_more [] payload l w zero = l
small_more [] payload l w (suc k) = w k
small_more (p ∷ payloads) payload l w zero = w 0
small_more (p ∷ payloads) payload l w (suc k) = small_more payloads payload l (λ n. w (suc n)) k

-- one more payload, whose word was written at its place
pub holds_more : (c : EndConfig) (before after : ℕ → ℕ) (payloads : List ℕ) (payload : ℕ) →
    let j = c.start + length payloads in
    payload < 2 ^ 31 → Sets (place c j) (word_of c j payload) before after → Holds c before payloads → Holds c after (payloads ++ payload ∷ [])
holds_more c before after payloads payload small sets q =
    let count : length (payloads ++ payload ∷ []) ≡ length payloads + 1 = length-append payloads (payload ∷ []) in
    record {
      held = λ k l m. held_more c before after payloads payload sets q k (omega arith) (omega arith);
      free = λ k l m. free_more c before after payloads payload small sets q k (omega arith) (omega arith);
      small = small_more payloads payload small q.small;
    }

-- a word that has the generation of a number is read as its entry
read_entry : (c : EndConfig) (j payload : ℕ) → payload < 2 ^ 31 → read_by c j (word_of c j payload) ≡ out.Item payload
read_entry c j payload l =
    ap (λ b. if b then out.Item (word_of c j payload % 2 ^ 31) else out.Empty) (eq-eqb _ _ (top_bit-word (generation c j) payload l))
    ∙ ap out.Item (rest-word (generation c j) payload l)

-- a word that hasn't is read as none
read_none : (c : EndConfig) (j word : ℕ) → top_bit word ≢ generation c j → read_by c j word ≡ out.Empty
read_none c j word differs = ap (λ b. if b then out.Item (word % 2 ^ 31) else out.Empty) (ne_eqb (top_bit word) (generation c j) differs)

-- a reader that took so many finds the next payload, or none where it took all
pub reads_next : (c : EndConfig) (words : ℕ → ℕ) (payloads : List ℕ) (t : ℕ) → Holds c words payloads → t ≤ length payloads → length payloads ≤ t + entries c →
    read_by c (c.start + t) (words (place c (c.start + t))) ≡ next_item payloads t
reads_next c words payloads t q l m =
    elim (cases_lt t (length payloads)) [
      | inl some ↦
          ap (read_by c (c.start + t)) (q.held t some m) ∙ read_entry c (c.start + t) (get_or payloads t 0) (q.small t)
          ∙ ap (λ p. option_map_or out.Item p out.Empty) (sym (slice_get-get_or payloads t 0 some))
      | inr none ↦
          let more : 0 < entries c = some_entries c in
          read_none c (c.start + t) (words (place c (c.start + t))) (q.free t none (omega arith))
          ∙ ap (λ p. option_map_or out.Item p out.Empty) (sym (slice_get_past payloads t none))
    ]
