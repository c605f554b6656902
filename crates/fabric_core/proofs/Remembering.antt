-- Entries that leave the memory.
use Rattle.std.proofs.Common.{ℕ, ◌≡◌, List, ◌∷◌, Option, Some, None, sym, ◌∙◌, ap}
use Rattle.std.specs.Option.{option_map_or}
use Rattle.xv_model.specs.declared.entries.Entry.{Entry}
use Rattle.xv_model.specs.account.Start.{Start}
use Rattle.xv_model.specs.end.Memory.{word_by, word_at}
use Rattle.guest_ram.specs.Ram.{StandsFor}

kept_by : (m : Option ℕ) (before : ℕ) → m ≡ None → option_map_or (λ w. w) m before ≡ before
kept_by m before none = ap (λ m. option_map_or (λ w. w) m before) none

-- an entry that changes no word leaves what the memory represents
pub memory_kept : (memory : List ℕ) (z : Start) (h : List Entry) (x : Entry) → ((a : ℕ) → word_by a x ≡ None) → StandsFor memory z h → StandsFor memory z (x ∷ h)
memory_kept memory z h x none st = record {
  size = st.size;
  words = λ i l. st.words i l ∙ ap Some (sym (kept_by (word_by _ x) (word_at z h _) (none _)));
}
