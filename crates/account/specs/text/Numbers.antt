-- The texts of pairs and of hexadecimal numbers. A decimal number has the standard library's: `decimal`,
-- and `signed_decimal` where it has a sign.
use Rattle.std.specs.Prelude.{ℕ, ◌==◌, false, if◌then◌else◌, List, ◌++◌, codes, decimal}
use Rattle.std.specs.Fmt.{digits}

-- a pair PQ, as two digits
abbrev pub pair_text : ℕ → List ℕ
pair_text q =
    if q == 0 then codes "00"
    else (if q == 1 then codes "01" else (if q == 2 then codes "10" else codes "11"))

-- a hexadecimal number
abbrev pub hex : ℕ → List ℕ
hex n = codes "0x" ++ digits 16 false n

-- the line of a word and a number; the word has its space
abbrev pub number_line : List ℕ → ℕ → List ℕ
number_line word n = word ++ decimal n ++ codes "\n"
