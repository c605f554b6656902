-- The line of an entry.
use Rattle.std.specs.Prelude.{ℕ, List, ◌++◌, codes, decimal}
use Rattle.xv_model.specs.declared.entries.Entry.{Entry}
use Rattle.account.specs.text.Operations.{op_text}
use Rattle.account.specs.text.Outcomes.{outcome_text}

-- the line of entry x, with its newline
abbrev pub entry_line : ℕ → Entry → List ℕ
entry_line index x =
    decimal index ++ codes " " ++ decimal x.actor ++ codes " " ++ op_text x.op ++ codes " -> "
    ++ outcome_text x.outcome ++ codes "\n"
