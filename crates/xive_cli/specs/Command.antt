-- The words of the command line, and the command that they are.
use Rattle.std.specs.Prelude.{ℕ, if◌then◌else◌, List, [], ◌∷◌, map, drop, String, string_bytes, codes, bytes_eq, Option, Some, None}
use Rattle.xive_cli.specs.declared.command.Command.{Command}
use Rattle.xive_cli.specs.declared.command.Command.TheVariants.{Run}

-- the words behind the program's name, which is the first argument: these bytes, in this order
abbrev pub words_behind : {A : Type 0} → List (String A) → List (List ℕ)
words_behind args = map (λ arg. string_bytes arg) (drop 1 args)

-- the command that a word alone is
abbrev pub command_alone : List ℕ → Option Command
command_alone word = if bytes_eq word (codes "run") then Some Run else None

-- the command that words are: only `run` alone is one
abbrev pub command_of : List (List ℕ) → Option Command
command_of [] = None
command_of (word ∷ []) = command_alone word
command_of (word ∷ next ∷ words) = None
