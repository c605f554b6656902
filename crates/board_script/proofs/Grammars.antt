-- What the words of a line say, whatever their values are.
use Rattle.std.proofs.Common.{ℕ, ◌≡◌, ◌≤◌, ◌&&◌, nat_lt, nat_le, Bool, true, false, if◌then◌else◌, List, codes, Option, Some, None, Ok, Err, IfSome, IfOk, refl, arith}
use Rattle.std.proofs.lemmas.Bool.Decides.{nat_tests}
use Rattle.std.specs.declared.result.Result.{Result}
use Rattle.board_script.specs.declared.faults.Cause.{Cause}
use Rattle.board_script.specs.declared.faults.Cause.TheVariants.{OutOfRange}
use Rattle.board_script.specs.declared.faults.Misread.{Misread}
use Rattle.board_script.specs.Words.{word_of, rest_of, is_word}
use Rattle.board_script.specs.Numbers.{number_of}
use Rattle.board_script.specs.Flags.{flags_of}
use Rattle.xv_model.specs.processor.RingOps.{is_size}
use Rattle.board_script.specs.Grammar.{Form, Number, AnyNumber, Size, Pair, Flags, Grammar, Stop, Word, formed, in_range, in_sizes, value_of, read_at, then_read, some_at, read_as, done_at, walk}

-- a choice by a test
pub choose : {A E : Type 0} (P : A → Type 0) (b : Bool) (x y : Result A E) → (b ≡ true → IfOk x P) → IfOk y P → IfOk (if b then x else y) P
choose P true x y h k = h refl
choose P false x y h k = k

pub choose_some : {A : Type 0} (P : A → Type 0) (b : Bool) (x y : Option A) → IfSome x P → IfSome y P → IfSome (if b then x else y) P
choose_some P true x y h k = h
choose_some P false x y h k = k

-- what is read, and what is read after it
pub read_fits : {A B : Type 0} (P : B → Type 0) (Q : A → Type 0) (m : Result A Misread) (next : A → Result B Misread) → IfOk m Q → ((x : A) → Q x → IfOk (next x) P) → IfOk (then_read m next) P
read_fits P Q (Ok x) next q h = h x q
read_fits P Q (Err m) next q h = tt

-- the same where anything will do
pub any_fits : {A B : Type 0} (P : B → Type 0) (m : Result A Misread) (next : A → Result B Misread) → ((x : A) → IfOk (next x) P) → IfOk (then_read m next) P
any_fits P (Ok x) next h = h x
any_fits P (Err m) next h = tt

pub at_fits : {A : Type 0} (P : A → Type 0) (rest : List ℕ) (r : Result A Cause) → IfOk r P → IfOk (read_at rest r) P
at_fits P rest (Ok x) p = p
at_fits P rest (Err cause) p = tt

-- a number is in a range
pub record InRange (low high n : ℕ) : Type 0 where
  pub from : low ≤ n
  pub below : nat_lt n high ≡ true

-- a number is how many bytes an access may have
abbrev pub IsSize : ℕ → Type 0
IsSize n = is_size n ≡ true

-- a number is a value of a form
abbrev pub HasForm : Form → ℕ → Type 0
HasForm (Number low high) n = InRange low high n
HasForm AnyNumber n = Unit {0}
HasForm Size n = IsSize n
HasForm Pair n = nat_lt n 4 ≡ true
HasForm Flags n = Unit {0}

formed_fits : (m : Option ℕ) → IfOk (formed m) (λ n. Unit {0})
formed_fits (Some n) = tt
formed_fits None = tt

passes : (low high n : ℕ) → (nat_le low n && nat_lt n high) ≡ true → InRange low high n
passes low high n e = record { from = grind (arith, nat_tests); below = grind (arith, nat_tests) }

range_fits : (low high : ℕ) (m : Option ℕ) → IfOk (in_range low high m) (InRange low high)
range_fits low high (Some n) = choose (InRange low high) (nat_le low n && nat_lt n high) (Ok n) (Err OutOfRange) (passes low high n) tt
range_fits low high None = tt

size_fits : (m : Option ℕ) → IfOk (in_sizes m) IsSize
size_fits (Some n) = choose IsSize (is_size n) (Ok n) (Err OutOfRange) (λ e. e) tt
size_fits None = tt

pair_by : (a b c d : Bool) → IfOk (formed (if a then Some 0 else (if b then Some 1 else (if c then Some 2 else (if d then Some 3 else None))))) (HasForm Pair)
pair_by true b c d = refl
pair_by false true c d = refl
pair_by false false true d = refl
pair_by false false false true = refl
pair_by false false false false = tt

-- the value of a word of a form has it
value_fits : (form : Form) (word : List ℕ) → IfOk (value_of form word) (HasForm form)
value_fits (Number low high) word = range_fits low high (number_of word)
value_fits AnyNumber word = formed_fits (number_of word)
value_fits Size word = size_fits (number_of word)
value_fits Pair word = pair_by (is_word (codes "00") word) (is_word (codes "01") word) (is_word (codes "10") word) (is_word (codes "11") word)
value_fits Flags word = formed_fits (flags_of word)

-- whatever the values of its words are, what a grammar says has a property
abbrev pub Says : {A : Type 0} → (A → Type 0) → Grammar A → Type 0
Says P (Stop it) = IfOk it P
Says P (Word form next) = (n : ℕ) → HasForm form n → Says P (next n)

-- so what is read of a line has it
pub walk_says : {A : Type 0} (P : A → Type 0) (at : List ℕ) (g : Grammar A) (rest : List ℕ) → Says P g → IfOk (walk at g rest) P
walk_says P at (Stop it) rest says = any_fits P (done_at rest) (λ u. read_at at it) (λ u. at_fits P at it says)
walk_says P at (Word form next) rest says =
    read_fits P (HasForm form) (read_as form rest) (λ n. walk at (next n) (rest_of rest))
    (any_fits (HasForm form) (some_at rest) (λ u. read_at rest (value_of form (word_of rest))) (λ u. at_fits (HasForm form) rest (value_of form (word_of rest)) (value_fits form (word_of rest))))
    (λ n q. walk_says P at (next n) (rest_of rest) (says n q))
