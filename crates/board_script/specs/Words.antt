-- The words of a line. A line is read from the left: its rest is what is not read yet, from the next word on.
use Rattle.std.specs.Prelude.{ℕ, ◌==◌, ◌&&◌, suc, nat_le, nat_eq, Bool, true, false, if◌then◌else◌, List, [], ◌∷◌, take, drop, Ok, Err}
use Rattle.std.specs.declared.result.Result.{Result}
use Rattle.std.specs.Cmp.Lexicographic.{pointwise}

-- whether a byte may stand in a line: it is from 0x20 to 0x7e
abbrev pub may_stand : ℕ → Bool
may_stand b = nat_le 32 b && nat_le b 126

-- what stands from the first byte on that may not stand in a line
abbrev pub from_unprintable : List ℕ → List ℕ
from_unprintable [] = []
from_unprintable (b ∷ bs) = if may_stand b then from_unprintable bs else b ∷ bs

-- a line without the spaces at its front
abbrev pub skip : List ℕ → List ℕ
skip [] = []
skip (b ∷ bs) = if b == 32 then skip bs else b ∷ bs

-- how many bytes stand before the first space
abbrev pub word_len : List ℕ → ℕ
word_len [] = 0
word_len (b ∷ bs) = if b == 32 then 0 else suc (word_len bs)

-- the next word, empty where there is none
abbrev pub word_of : List ℕ → List ℕ
word_of rest = take (word_len rest) rest

-- the rest after the next word
abbrev pub rest_of : List ℕ → List ℕ
rest_of rest = skip (drop (word_len rest) rest)

-- whether there are no bytes
abbrev pub is_empty : List ℕ → Bool
is_empty [] = true
is_empty (b ∷ bs) = false

-- whether no word is left, or a comment: it begins with #
abbrev pub says_nothing : List ℕ → Bool
says_nothing [] = true
says_nothing (b ∷ bs) = b == 35

-- whether a word is this one
abbrev pub is_word : List ℕ → List ℕ → Bool
is_word name word = pointwise nat_eq word name

-- an answer, with what was put into its place where nothing is refused
abbrev pub answer_with : {A B : Type 0} → Result (Unit {0}) B → A → Result A B
answer_with (Ok u) x = Ok x
answer_with (Err e) x = Err e
