-- The numbers and pairs of a line.
use Rattle.std.specs.Prelude.{ℕ, ◌==◌, ◌+◌, ◌-◌, ◌*◌, ◌^◌, ◌&&◌, ◌||◌, nat_lt, nat_le, if◌then◌else◌, List, [], ◌∷◌, Option, Some, None, length, codes}
use Rattle.board_script.specs.Words.{is_empty, is_word}

-- the number that more decimal digits make of a number, where each is one and it stays below 2 ^ 64
abbrev pub decimal_from : ℕ → List ℕ → Option ℕ
decimal_from n [] = Some n
decimal_from n (b ∷ bs) =
    if nat_le 48 b && (nat_le b 57 && nat_lt (10 * n + (b - 48)) (2 ^ 64)) then decimal_from (10 * n + (b - 48)) bs
    else None

-- the number of 1 to 20 decimal digits
abbrev pub decimal_of : List ℕ → Option ℕ
decimal_of word = if is_empty word || nat_lt 20 (length word) then None else decimal_from 0 word

-- the value of a hexadecimal digit, of either case
abbrev pub digit_of : ℕ → Option ℕ
digit_of b =
    if nat_le 48 b && nat_le b 57 then Some (b - 48)
    else (if nat_le 97 b && nat_le b 102 then Some (b - 97 + 10)
    else (if nat_le 65 b && nat_le b 70 then Some (b - 65 + 10) else None))

-- a number with one more hexadecimal digit, where it stays below 2 ^ 64
abbrev pub hexadecimal_with : ℕ → Option ℕ → Option ℕ
hexadecimal_with n None = None
hexadecimal_with n (Some digit) = if nat_lt (16 * n + digit) (2 ^ 64) then Some (16 * n + digit) else None

-- the number that more hexadecimal digits make of a number
abbrev pub hexadecimal_from : Option ℕ → List ℕ → Option ℕ
hexadecimal_from None word = None
hexadecimal_from (Some n) [] = Some n
hexadecimal_from (Some n) (b ∷ bs) = hexadecimal_from (hexadecimal_with n (digit_of b)) bs

-- the number of 1 to 16 hexadecimal digits
abbrev pub hexadecimal_of : List ℕ → Option ℕ
hexadecimal_of word = if is_empty word || nat_lt 16 (length word) then None else hexadecimal_from (Some 0) word

-- the number that a word is: hexadecimal behind 0x or 0X
abbrev pub number_of : List ℕ → Option ℕ
number_of (a ∷ b ∷ bs) = if (a == 48) && ((b == 120) || (b == 88)) then hexadecimal_of bs else decimal_of (a ∷ b ∷ bs)
number_of word = decimal_of word

-- the pair that a word is: its P, and then its Q
abbrev pub pair_of : List ℕ → Option ℕ
pair_of word =
    if is_word (codes "00") word then Some 0
    else (if is_word (codes "01") word then Some 1
    else (if is_word (codes "10") word then Some 2
    else (if is_word (codes "11") word then Some 3 else None)))
