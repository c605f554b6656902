-- What a reader of lines has read and given.
use Rattle.std.specs.Prelude.{ℕ, ◌≡◌, ◌<◌, ◌≤◌, ◌+◌, ◌-◌, ◌==◌, suc, Bool, true, not, if◌then◌else◌, List, [], ◌∷◌, ◌++◌, length, Option, slice_range}
use Rattle.std.specs.Io.KnownBytes.{Consumes, prepend_known}
use Rattle.xv_base.specs.Limits.{byte_limit, longest_line}
use Rattle.xv_base.specs.Lines.{lines_within, whole_lines, are_too_many}
use Rattle.xv_io.specs.declared.reader.TheConstants.{ROOM}

-- a reader: the line that it gave last, the bytes that are read ahead, the bytes of the lines so far with their newlines, and whether the source has ended
pub record Reading : Type 0 where
  pub line : List ℕ
  pub ahead : List ℕ
  pub given : ℕ
  pub ended : Bool

-- what is left of a source behind a reader
abbrev pub rest : Reading → Option (List ℕ) → Option (List ℕ)
rest r left = prepend_known r.ahead left

-- the lines that the reader has yet to give, where these bytes are left in its source
abbrev pub lines_left : Reading → List ℕ → List (List ℕ)
lines_left r left = lines_within (byte_limit - r.given) (r.ahead ++ left)

-- whether the bytes that the reader has yet to give are too many
abbrev pub too_many_left : Reading → List ℕ → Bool
too_many_left r left = are_too_many (byte_limit - r.given) (r.ahead ++ left)

-- these bytes may be left in the reader's source
abbrev pub Meets : Reading → List ℕ → Type 0
Meets r left = r.ended ≡ true → left ≡ []

-- the reader gave the next line
abbrev pub GivesLine : Reading → Reading → Type 0
GivesLine old new = (left : List ℕ) → Meets old left → (lines_left old left ≡ new.line ∷ lines_left new left) × (too_many_left old left ≡ too_many_left new left)

-- the next line is longer than a line may be
abbrev pub HasLongLine : Reading → Type 0
HasLongLine old = (left : List ℕ) → Meets old left → (line : List ℕ) × (more : List (List ℕ)) × (lines_left old left ≡ line ∷ more) × (longest_line < length line)

-- no line is left, and the bytes are too many or not
abbrev pub HasNoLine : Reading → Bool → Type 0
HasNoLine old too_many = (left : List ℕ) → Meets old left → (lines_left old left ≡ []) × (too_many_left old left ≡ too_many)

-- the whole lines that the reader has yet to give, where the source gives these bytes and maybe more
abbrev pub whole_left : Reading → List ℕ → List (List ℕ)
whole_left r bytes = whole_lines (r.ahead ++ bytes)

-- the reader gave the next whole line
abbrev pub GivesWholeLine : Reading → Reading → Type 0
GivesWholeLine old new = (more : List ℕ) → whole_left old more ≡ new.line ∷ whole_left new more

-- some bytes were read, the first that the source had left, and are ahead now behind the others
pub record Reads (old : Reading) (left : Option (List ℕ)) (new : Reading) (left' : Option (List ℕ)) : Type 0 where
  pub read : List ℕ
  pub consumed : Consumes left left' read
  pub ahead : new.ahead ≡ old.ahead ++ read

-- how many bytes are before the first newline
abbrev pub line_length : List ℕ → ℕ
line_length [] = 0
line_length (b ∷ bs) = if b == 10 then 0 else suc (line_length bs)

-- whether a byte stands inside of a line
abbrev pub is_inside : ℕ → Bool
is_inside b = not (b == 10)

-- the places of a reader's piece are in order, what is before those read ahead is at most a line, and not too much was given
pub record IsInOrder (start end at len given : ℕ) : Type 0 where
  pub line : start ≤ end
  pub behind : end ≤ at
  pub ahead : at ≤ len
  pub fits : len ≤ ROOM
  pub short : at ≤ start + (longest_line + 1)
  pub bounded : given ≤ byte_limit

-- the first bytes of a piece, up to a length, stand this much further in front
abbrev pub IsMoved : ℕ → ℕ → List ℕ → List ℕ → Type 0
IsMoved by len old new = (i j : ℕ) → by + j ≤ len → slice_range new i j ≡ slice_range old (by + i) (by + j)
