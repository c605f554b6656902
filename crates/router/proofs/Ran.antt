-- What a pass makes of the ENDs.
use Rattle.std.proofs.Common.{ℕ, ◌≡◌, ◌+◌, ◌==◌, Bool, true, false, if◌then◌else◌, List, [], ◌∷◌, ◌++◌, length, Some, None, refl, ◌∙◌, ap, arith, length-append}
use Rattle.std.proofs.lemmas.List.{append-nil}
use Rattle.std.specs.Prelude.{◌&&◌}
use Rattle.std.specs.Option.{option_map_or}
use Rattle.xv_model.specs.declared.outcomes.Wrote.{Wrote}
use Rattle.xv_model.specs.declared.outcomes.Then.{Then}
use Rattle.xv_model.specs.declared.outcomes.EndRun.TheVariants.{Ran}
use Rattle.xv_model.specs.declared.entries.Entry.{Entry}
use Rattle.xv_model.specs.account.Start.{Start}
use Rattle.xv_model.specs.source.PqTable.{trigger_row}
use Rattle.xv_model.specs.end.Descriptors.{end_config, until_config}
use Rattle.xv_model.specs.end.EventStates.{esn, ese, asks_state}
use Rattle.xv_model.specs.end.Written.{written, written_count, wrote_in}
use Rattle.xv_model.specs.end.Reading.{taken}
use Rattle.end_queue.specs.declared.ends.EndRecord.{EndRecord}
use Rattle.end_queue.specs.Ends.{with_ese}
use Rattle.end_queue.specs.Accounts.{record_of}

-- how many entries a pass of e writes for j
entered_by : (e j payload : ℕ) (w : Wrote) (next : Then) (q : Bool) →
    length (option_map_or (λ end. if end == j then payload ∷ [] else [])
    (wrote_in (Some (Ran e (if q then Some w else None) next))) [])
    ≡ (if e == j then (if q then 1 else 0) else 0)
entered_by e j payload w next true = by (e == j)
  where
    by : (same : Bool) → length (if same then payload ∷ [] else []) ≡ (if same then 1 else 0)
    by true = refl
    by false = refl
entered_by e j payload w next false = by (e == j)
  where
    by : (same : Bool) → ◌≡◌ {A = ℕ} 0 (if same then 0 else 0)
    by true = refl
    by false = refl

count_after : (before more : List ℕ) (n : ℕ) (same q : Bool) →
    length more ≡ (if same then (if q then 1 else 0) else 0) →
    length (before ++ more) + n
    ≡ (if same then (if q then (length before + n) + 1 else length before + n) else length before + n)
count_after before more n true true l = omega (arith, length-append {A = ℕ})
count_after before more n true false l = omega (arith, length-append {A = ℕ})
count_after before more n false q l = omega (arith, length-append {A = ℕ})

-- an END that has so many entries after a pass, of it or another one
abbrev pub counted_in : Start → List Entry → ℕ → Bool → ℕ → List ℕ → EndRecord
counted_in z h j same n ts = record {
  config = end_config z h j;
  written = n;
  taken = length ts + until_config (z.taken_count j) h j;
  esn = if same && asks_state (end_config z h j) then (trigger_row (esn z h j)).pair else esn z h j;
  ese = ese z h j;
}

-- how many entries it has, where the pass writes or not
abbrev pub count_by : Start → List Entry → ℕ → Bool → ℕ
count_by z h j q = if q then written_count z h j + 1 else written_count z h j

-- an END after a pass, of it or another one, that wrote these for it, where its state of escalations is this
abbrev pub end_ran : Start → List Entry → ℕ → Bool → List ℕ → ℕ → EndRecord
end_ran z h j same more state = record {
  config = end_config z h j;
  written = length (written z h j ++ more) + until_config (z.written_count j) h j;
  taken = length (taken h j ++ []) + until_config (z.taken_count j) h j;
  esn = if same && asks_state (end_config z h j) then (trigger_row (esn z h j)).pair else esn z h j;
  ese = state;
}

-- an END after a pass of e that went through, with this payload
pub ran : (z : Start) (h : List Entry) (e j payload state : ℕ) (w : Wrote) (next : Then) (q : Bool) →
    end_ran z h j (e == j) (option_map_or (λ end. if end == j then payload ∷ [] else [])
    (wrote_in (Some (Ran e (if q then Some w else None) next))) []) state
    ≡ with_ese state (if e == j then counted_in z h j true (count_by z h j q) (taken h j) else record_of z h j)
ran z h e j payload state w next q =
    ap (λ n. with_ese state (counted_in z h j (e == j) n (taken h j ++ [])))
    (count_after (written z h j) _ (until_config (z.written_count j) h j) (e == j) q
    (entered_by e j payload w next q))
    ∙ ap (λ ts. with_ese state (counted_in z h j (e == j) (if e == j then count_by z h j q else written_count z h j) ts)) (append-nil (taken h j))
    ∙ by (e == j)
  where
    by : (same : Bool) →
        with_ese state (counted_in z h j same (if same then count_by z h j q else written_count z h j) (taken h j))
        ≡ with_ese state (if same then counted_in z h j true (count_by z h j q) (taken h j) else record_of z h j)
    by true = refl
    by false = refl
