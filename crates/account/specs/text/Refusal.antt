-- The lines that a run ends with where it stops early.
use Rattle.std.specs.Prelude.{ℕ, List, ◌++◌, codes, decimal}

-- a place in a script
abbrev pub place_text : ℕ → ℕ → List ℕ
place_text line byte = codes "line " ++ decimal line ++ codes " byte " ++ decimal byte

-- a line of a script is refused: where, and why
abbrev pub refusal_line : ℕ → ℕ → List ℕ → List ℕ
refusal_line line byte cause = codes "refused " ++ place_text line byte ++ codes " " ++ cause ++ codes "\n"

-- too many bytes of lines were given
abbrev pub too_long_line : List ℕ
too_long_line = codes "too-long\n"
