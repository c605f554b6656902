-- The ENDs after a pass of one of them.
use Rattle.std.proofs.Common.{ℕ, ◌≡◌, ◌<◌, ◌&&◌, Bool, true, false, if◌then◌else◌, List, length, refl, ◌∙◌, ap, slice_set, get_or-set_same}
use Rattle.std.proofs.lemmas.List.{set-set}
use Rattle.xv_model.specs.source.PqTable.{trigger_row}
use Rattle.xv_model.specs.end.EventStates.{asks_state}
use Rattle.xv_model.specs.end.Flags.{is_valid}
use Rattle.end_queue.specs.declared.ends.EndRecord.{EndRecord}
use Rattle.end_queue.specs.Ends.{first_end, end_in, with_esn}
use Rattle.router.specs.Passes.{enqueued, notified, after_pass}

-- the state that a step makes
abbrev stepped_to : EndRecord → ℕ
stepped_to r = if is_valid r.config && asks_state r.config then (trigger_row r.esn).pair else r.esn

-- a step of a valid END, and a write into its queue then
enqueued_then : (r : EndRecord) (valid : Bool) → valid ≡ true →
    enqueued (with_esn (if valid && asks_state r.config then (trigger_row r.esn).pair else r.esn) r) ≡ (if valid then notified (enqueued r) else r)
enqueued_then r true is = refl
enqueued_then r false is = absurd cc

-- after a step of a valid END, and then a write into its queue
pub passed : (ends stepped written : List EndRecord) (e n : ℕ) → e < length ends → is_valid (end_in ends e).config ≡ true →
    n ≡ stepped_to (end_in ends e) → stepped ≡ slice_set ends e (with_esn n (end_in ends e)) → written ≡ slice_set stepped e (enqueued (end_in stepped e)) →
    written ≡ slice_set ends e (after_pass (end_in ends e))
passed ends stepped written e n l valid is step wrote =
    let r = end_in ends e in
    let here : end_in stepped e ≡ with_esn n r = ap (λ (es : List EndRecord). end_in es e) step ∙ get_or-set_same ends e (with_esn n r) first_end l in
    wrote ∙ ap (λ (x : EndRecord). slice_set stepped e (enqueued x)) here
    ∙ ap (λ (es : List EndRecord). slice_set es e (enqueued (with_esn n r))) step
    ∙ set-set ends e (with_esn n r) (enqueued (with_esn n r))
    ∙ ap (λ m. slice_set ends e (enqueued (with_esn m r))) is
    ∙ ap (slice_set ends e) (enqueued_then r (is_valid r.config) valid)

-- a pass leaves the configuration of its END
pub same_config : (r : EndRecord) → (after_pass r).config ≡ r.config
same_config r = by (is_valid r.config)
  where
    by : (v : Bool) → (if v then notified (enqueued r) else r).config ≡ r.config
    by true = refl
    by false = refl
