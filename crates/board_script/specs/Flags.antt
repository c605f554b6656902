-- The flags of an END, as a line has them.
use Rattle.std.specs.Prelude.{ℕ, ◌+◌, ◌==◌, nat_lt, if◌then◌else◌, List, [], ◌∷◌, Option, Some, None, codes}
use Rattle.xv_model.specs.declared.operations.EndFlags.{EndFlags}
use Rattle.board_script.specs.Words.{is_empty, is_word}

-- the bit of a letter: v, q, n, b, e, u or s
abbrev pub bit_of : ℕ → Option ℕ
bit_of b =
    if b == 118 then Some 1
    else (if b == 113 then Some 2
    else (if b == 110 then Some 4
    else (if b == 98 then Some 8
    else (if b == 101 then Some 16
    else (if b == 117 then Some 32
    else (if b == 115 then Some 64 else None))))))

-- flags with the bit of one more letter, which is above each bit before it
abbrev pub flags_with : ℕ → Option ℕ → Option ℕ
flags_with n (Some bit) = if nat_lt n bit then Some (n + bit) else None
flags_with n None = None

-- flags with those of more letters, each at most once and in the order v, q, n, b, e, u, s
abbrev pub flags_from : Option ℕ → List ℕ → Option ℕ
flags_from None word = None
flags_from (Some n) [] = Some n
flags_from (Some n) (b ∷ bs) = flags_from (flags_with n (bit_of b)) bs

-- the flags that a word is: - is none
abbrev pub flags_of : List ℕ → Option ℕ
flags_of word =
    if is_word (codes "-") word then Some 0
    else (if is_empty word then None else flags_from (Some 0) word)

-- the flags of an END with these bits
abbrev pub of_bits : ℕ → EndFlags
of_bits bits = record { 0 = bits }
