-- The lines of bytes.
use Rattle.std.specs.Prelude.{ℕ, ◌==◌, nat_lt, nat_le, Bool, if◌then◌else◌, List, [], ◌∷◌, ◌++◌, length, take}
use Rattle.xv_base.specs.Limits.{longest_line}

-- a last line that no newline ends, unless it is empty
abbrev pub last_line : List ℕ → List (List ℕ)
last_line [] = []
last_line (b ∷ bs) = (b ∷ bs) ∷ []

-- the lines of bytes that go on a line of which these are the first
abbrev pub lines_after : List ℕ → List ℕ → List (List ℕ)
lines_after line [] = last_line line
lines_after line (b ∷ bs) = if b == 10 then line ∷ lines_after [] bs else lines_after (line ++ b ∷ []) bs

-- the lines of bytes: they are cut at newlines, and a newline at the end begins no further line
abbrev pub lines_of : List ℕ → List (List ℕ)
lines_of bytes = lines_after [] bytes

-- the lines in bytes that go on a line, where more may follow: a line is in them where its newline is, or one byte more than a line may have
abbrev pub whole_lines_after : List ℕ → List ℕ → List (List ℕ)
whole_lines_after line [] = if nat_lt longest_line (length line) then line ∷ [] else []
whole_lines_after line (b ∷ bs) = if b == 10 then line ∷ whole_lines_after [] bs else whole_lines_after (line ++ b ∷ []) bs

-- the lines in bytes behind which more may follow
abbrev pub whole_lines : List ℕ → List (List ℕ)
whole_lines bytes = whole_lines_after [] bytes

-- whether the bytes are as many as may be given, or more
abbrev pub are_too_many : ℕ → List ℕ → Bool
are_too_many limit bytes = nat_le limit (length bytes)

-- the lines that are read of bytes of which fewer than this many may be given
abbrev pub lines_within : ℕ → List ℕ → List (List ℕ)
lines_within limit bytes = if are_too_many limit bytes then whole_lines (take limit bytes) else lines_of bytes
