-- What a line may be: words of given forms, one after another, and one walk over them, which says what is read or where and why the line is refused.
use Rattle.std.specs.Prelude.{ℕ, ◌&&◌, nat_le, nat_lt, if◌then◌else◌, List, length, Option, Some, None, Ok, Err}
use Rattle.std.specs.declared.result.Result.{Result}
use Rattle.xv_model.specs.processor.RingOps.{is_size}
use Rattle.board_script.specs.declared.faults.Cause.{Cause}
use Rattle.board_script.specs.declared.faults.Cause.TheVariants.{MissingWord, ExtraWord, BadNumber, OutOfRange}
use Rattle.board_script.specs.declared.faults.Misread.{Misread}
use Rattle.board_script.specs.Words.{word_of, rest_of, is_empty}
use Rattle.board_script.specs.Numbers.{number_of, pair_of}
use Rattle.board_script.specs.Flags.{flags_of}

-- the form of a word: a number from low on and below high, any number, how many bytes an access has, a pair, or the flags of an END
pub data Form : Type 0 where
  Number : (low high : ℕ) → Form
  AnyNumber : Form
  Size : Form
  Pair : Form
  Flags : Form

-- the words of a line from some place on, each of which has a value: there is no further one, and then this is said, or a joint rule is broken; or there is one of a form, and by its value those after it
pub data Grammar (A : Type 0) : Type 0 where
  Stop : (it : Result A Cause) → Grammar A
  Word : (form : Form) (next : ℕ → Grammar A) → Grammar A

-- a line is refused for a cause at the next word, or one past its last byte where it has no further word
abbrev pub refused_at : {A : Type 0} → Cause → List ℕ → Result A Misread
refused_at cause rest = Err (record { cause = cause; left = length rest })

-- a value, where a word has its form
abbrev pub formed : Option ℕ → Result ℕ Cause
formed (Some n) = Ok n
formed None = Err BadNumber

-- a number from low on and below high
abbrev pub in_range : ℕ → ℕ → Option ℕ → Result ℕ Cause
in_range low high (Some n) = if nat_le low n && nat_lt n high then Ok n else Err OutOfRange
in_range low high None = Err BadNumber

-- how many bytes an access may have
abbrev pub in_sizes : Option ℕ → Result ℕ Cause
in_sizes (Some n) = if is_size n then Ok n else Err OutOfRange
in_sizes None = Err BadNumber

-- the value of a word of a form, or what is wrong with it
abbrev pub value_of : Form → List ℕ → Result ℕ Cause
value_of (Number low high) word = in_range low high (number_of word)
value_of AnyNumber word = formed (number_of word)
value_of Size word = in_sizes (number_of word)
value_of Pair word = formed (pair_of word)
value_of Flags word = formed (flags_of word)

-- what was read of a word, or the line is refused there
abbrev pub read_at : {A : Type 0} → List ℕ → Result A Cause → Result A Misread
read_at rest (Ok x) = Ok x
read_at rest (Err cause) = refused_at cause rest

-- goes on with what was read
abbrev pub then_read : {A B : Type 0} → Result A Misread → (A → Result B Misread) → Result B Misread
then_read (Ok x) next = next x
then_read (Err m) next = Err m

-- there is a further word
abbrev pub some_at : List ℕ → Result (Unit {0}) Misread
some_at rest = if is_empty rest then refused_at MissingWord rest else Ok tt

-- reads the next word by its form
abbrev pub read_as : Form → List ℕ → Result ℕ Misread
read_as form rest = then_read (some_at rest) (λ u. read_at rest (value_of form (word_of rest)))

-- there is no further word
abbrev pub done_at : List ℕ → Result (Unit {0}) Misread
done_at rest = if is_empty rest then Ok tt else refused_at ExtraWord rest

-- what the words of a line say; where a joint rule is broken the line is refused at the word behind which so many bytes are left
abbrev pub walk : {A : Type 0} → List ℕ → Grammar A → List ℕ → Result A Misread
walk at (Stop it) rest = then_read (done_at rest) (λ u. read_at at it)
walk at (Word form next) rest = then_read (read_as form rest) (λ n. walk at (next n) (rest_of rest))
