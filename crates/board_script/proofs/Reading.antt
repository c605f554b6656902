-- Reading a script line after line.
use Rattle.std.proofs.Common.{Option, None, ℕ, ◌≡◌, Bool, true, false, List, [], ◌∷◌, ◌++◌, Ok, Err, refl, sym, ◌∙◌, ap, append_assoc}
use Rattle.std.specs.declared.result.Result.{Result}
use Rattle.board_script.specs.declared.faults.ScriptFault.{ScriptFault}
use Rattle.board_script.specs.declared.lines.Said.{Said}
use Rattle.board_script.specs.declared.lines.Said.TheVariants as say
use Rattle.board_script.specs.Parser.{Parsing, read_of, parsing_after, finished}
use Rattle.board_script.specs.Script.{Script, Accepted, Refused, TooLong, SoFar, WorkLine, so_far, work_with, ended_by, after_line, script_from, so_far_after, so_far_from, work_in}

-- a line isn't the end of a script
abbrev pub IsNotEnd : Said → Type 0
IsNotEnd say.End = ⊥
IsNotEnd _ = Unit {0}

goes_on : (it : Said) (p : Parsing) (work : List WorkLine) (next : Said → Script) → IsNotEnd it → after_line (Ok it) p work next ≡ next it
goes_on say.Nothing p work next n = refl
goes_on (say.Number k) p work next n = refl
goes_on (say.Pages two store) p work next n = refl
goes_on (say.Level span) p work next n = refl
goes_on (say.Unclaimed span) p work next n = refl
goes_on (say.Unconnected span) p work next n = refl
goes_on say.Go p work next n = refl
goes_on say.Start p work next n = refl
goes_on say.End p work next n = absurd n
goes_on (say.Work actor w) p work next n = refl

-- what the lines after one make of it
rest_from : Parsing → List WorkLine → List (List ℕ) → Bool → Said → Script
rest_from p work ls t it = script_from p (work_with it work) ls t

-- a line that isn't the end: the script is that of the lines after it
pub one_line : (p : Parsing) (work : List WorkLine) (l : List ℕ) (ls : List (List ℕ)) (t : Bool) (it : Said) →
    read_of p l ≡ Ok it → IsNotEnd it → script_from p work (l ∷ ls) t ≡ script_from (parsing_after p l) (work_with it work) ls t
unfolding rest_from
one_line p work l ls t it e n =
    let next = rest_from (parsing_after p l) work ls t in
    ap (λ (r : Result Said ScriptFault). after_line r p work next) e ∙ goes_on it p work next n

-- the end: the script is accepted, whatever follows
pub end_line : (p : Parsing) (work : List WorkLine) (l : List ℕ) (ls : List (List ℕ)) (t : Bool) →
    read_of p l ≡ Ok say.End → script_from p work (l ∷ ls) t ≡ Accepted p.board work
unfolding rest_from
end_line p work l ls t e = ap (λ (r : Result Said ScriptFault). after_line r p work (rest_from (parsing_after p l) work ls t)) e

-- a line that is refused: so is the script, whatever follows
pub refused_line : (p : Parsing) (work : List WorkLine) (l : List ℕ) (ls : List (List ℕ)) (t : Bool) (fault : ScriptFault) →
    read_of p l ≡ Err fault → script_from p work (l ∷ ls) t ≡ Refused fault (so_far p work)
unfolding rest_from
refused_line p work l ls t fault e = ap (λ (r : Result Said ScriptFault). after_line r p work (rest_from (parsing_after p l) work ls t)) e

-- the input is over, and the header is whole
pub end_of_input : (p : Parsing) (work : List WorkLine) → finished p ≡ Ok tt → script_from p work [] false ≡ Accepted p.board work
end_of_input p work e = ap (λ (r : Result (Unit {0}) ScriptFault). ended_by r p work) e

-- the input is over, and the header isn't whole
pub refused_end : (p : Parsing) (work : List WorkLine) (fault : ScriptFault) → finished p ≡ Err fault → script_from p work [] false ≡ Refused fault (so_far p work)
refused_end p work fault e = ap (λ (r : Result (Unit {0}) ScriptFault). ended_by r p work) e

-- too many bytes were given
pub too_long : (p : Parsing) (work : List WorkLine) → script_from p work [] true ≡ TooLong (so_far p work)
too_long p work = refl

goes_on_so_far : (it : Said) (next : Said → Option SoFar) → IsNotEnd it → so_far_after (Ok it) next ≡ next it
goes_on_so_far say.Nothing next n = refl
goes_on_so_far (say.Number k) next n = refl
goes_on_so_far (say.Pages two store) next n = refl
goes_on_so_far (say.Level span) next n = refl
goes_on_so_far (say.Unclaimed span) next n = refl
goes_on_so_far (say.Unconnected span) next n = refl
goes_on_so_far say.Go next n = refl
goes_on_so_far say.Start next n = refl
goes_on_so_far say.End next n = absurd n
goes_on_so_far (say.Work actor w) next n = refl

-- what the lines after one make of it, where more may follow
rest_so_far : Parsing → List WorkLine → List (List ℕ) → Said → Option SoFar
rest_so_far p work ls it = so_far_from p (work_with it work) ls

-- a line that isn't the end: what is read so far is what is read of the lines after it
pub one_so_far : (p : Parsing) (work : List WorkLine) (l : List ℕ) (ls : List (List ℕ)) (it : Said) →
    read_of p l ≡ Ok it → IsNotEnd it → so_far_from p work (l ∷ ls) ≡ so_far_from (parsing_after p l) (work_with it work) ls
unfolding rest_so_far
one_so_far p work l ls it e n =
    let next = rest_so_far (parsing_after p l) work ls in
    ap (λ (r : Result Said ScriptFault). so_far_after r next) e ∙ goes_on_so_far it next n

-- a line that is refused, or is the end: nothing is read so far
pub refused_so_far : (p : Parsing) (work : List WorkLine) (l : List ℕ) (ls : List (List ℕ)) (fault : ScriptFault) → read_of p l ≡ Err fault → so_far_from p work (l ∷ ls) ≡ None
unfolding rest_so_far
refused_so_far p work l ls fault e = ap (λ (r : Result Said ScriptFault). so_far_after r (rest_so_far (parsing_after p l) work ls)) e

pub end_so_far : (p : Parsing) (work : List WorkLine) (l : List ℕ) (ls : List (List ℕ)) → read_of p l ≡ Ok say.End → so_far_from p work (l ∷ ls) ≡ None
unfolding rest_so_far
end_so_far p work l ls e = ap (λ (r : Result Said ScriptFault). so_far_after r (rest_so_far (parsing_after p l) work ls)) e

-- the work lines are these, and more after them
pub record IsMore (work done : List WorkLine) : Type 0 where
  pub later : List WorkLine
  pub whole : done ≡ later ++ work

same_work : (work : List WorkLine) → IsMore work work
same_work work = record { later = []; whole = refl }

more_ended : (r : Result (Unit {0}) ScriptFault) (p : Parsing) (work : List WorkLine) → IsMore work (work_in (ended_by r p work))
more_ended (Ok it) p work = same_work work
more_ended (Err fault) p work = same_work work

more_with : (it : Said) (work done : List WorkLine) → IsMore (work_with it work) done → IsMore work done
more_with (say.Work actor w) work done m = record {
  later = m.later ++ record { actor = actor; work = w } ∷ [];
  whole = m.whole ∙ sym (append_assoc m.later (record { actor = actor; work = w } ∷ []) work);
}
more_with _ work done m = m

more_after : (r : Result Said ScriptFault) (p : Parsing) (work : List WorkLine) (next : Said → Script) →
    ((it : Said) → IsMore (work_with it work) (work_in (next it))) → IsMore work (work_in (after_line r p work next))
more_after (Err fault) p work next h = same_work work
more_after (Ok say.End) p work next h = same_work work
more_after (Ok it) p work next h = more_with it work (work_in (next it)) (h it)

-- whatever follows, the work lines of a script are those so far, and more after them
pub more_from : (p : Parsing) (work : List WorkLine) (ls : List (List ℕ)) (t : Bool) → IsMore work (work_in (script_from p work ls t))
more_from p work [] true = same_work work
more_from p work [] false = more_ended (finished p) p work
more_from p work (l ∷ ls) t = more_after (read_of p l) p work _ (λ it. more_from (parsing_after p l) (work_with it work) ls t)
