-- Lines after the header.
use Rattle.std.specs.Prelude.{ℕ, nat_lt, ◌&&◌, not, Bool, if◌then◌else◌, List, [], ◌∷◌, codes, Option, Some, None, Ok, Err}
use Rattle.std.specs.declared.result.Result.{Result}
use Rattle.xv_model.specs.declared.board.Board.{Board}
use Rattle.board_script.specs.declared.faults.Cause.{Cause}
use Rattle.board_script.specs.declared.faults.Cause.TheVariants.{OutOfRange, UnknownWord}
use Rattle.board_script.specs.declared.faults.Misread.{Misread}
use Rattle.board_script.specs.declared.lines.Said.{Said}
use Rattle.board_script.specs.declared.lines.Said.TheVariants as said
use Rattle.board_script.specs.declared.work.Work.{Work}
use Rattle.board_script.specs.Words.{word_of, rest_of, is_word}
use Rattle.board_script.specs.Numbers.{number_of}
use Rattle.board_script.specs.FirstWords.{out_of_turn}
use Rattle.board_script.specs.Grammar.{Grammar, Stop, read_at, refused_at, then_read, some_at, walk}
use Rattle.board_script.specs.Operations.{Row, rows}

-- the words after a name, where the table has it
abbrev pub words_after : List Row → List ℕ → Option (Grammar Work)
words_after [] name = None
words_after (r ∷ rs) name = if is_word r.name name then Some r.words else words_after rs name

-- the work of a line from the name of its operation on, by what the table has for that
abbrev pub work_by : List ℕ → Option (Grammar Work) → List ℕ → Result Work Misread
work_by at (Some words) rest = walk at words rest
work_by at None rest = refused_at UnknownWord at

-- the work of a line from the name of its operation on
abbrev pub work_from : Board → List ℕ → Result Work Misread
work_from b rest = then_read (some_at rest) (λ u. work_by rest (words_after (rows b) (word_of rest)) (rest_of rest))

-- an actor of the board, which is the number that a first word is
abbrev pub actor_in : Board → List ℕ → Option ℕ → Result ℕ Cause
actor_in b word (Some n) = if nat_lt n b.limits.actors then Ok n else Err OutOfRange
actor_in b word None = Err (out_of_turn word)

abbrev pub actor_by : Board → List ℕ → Result ℕ Cause
actor_by b word = actor_in b word (number_of word)

-- an actor and its work
abbrev pub actor_line : Board → List ℕ → Result Said Misread
actor_line b rest =
    then_read (read_at rest (actor_by b (word_of rest))) (λ actor.
    then_read (work_from b (rest_of rest)) (λ work. Ok (said.Work actor work)))

-- a line after the header: the end of the script, the start of its second half, which may come once, or an actor and its work
abbrev pub work_of : Board → Bool → List ℕ → Result Said Misread
work_of b started rest =
    if is_word (codes "end") (word_of rest) then walk rest (Stop (Ok said.End)) (rest_of rest)
    else (if is_word (codes "start") (word_of rest) && not started then walk rest (Stop (Ok said.Start)) (rest_of rest)
    else actor_line b rest)
