-- Each script has one account.
use Rattle.std.proofs.Common.{ℕ, ◌≡◌, Bool, true, false, List, [], ◌∷◌, map, All, Option, Some, None, Ok, Err, IfOk, refl, sym, ◌∙◌, subst, rules}
use Rattle.std.proofs.lemmas.List.Elements.{All-nil, All-cons, All-map}
use Rattle.xv_base.specs.Limits.{byte_limit}
use Rattle.xv_base.specs.Lines.{lines_within, are_too_many}
use Rattle.xv_model.specs.declared.board.Board.{Board}
use Rattle.xv_model.specs.declared.entries.Entry.{Entry}
use Rattle.xv_model.specs.account.Start.{start}
use Rattle.xv_model.specs.account.Scripts.{Ends}
use Rattle.xv_model.proofs.OneAccount.{one_account}
use Rattle.xv_model.proofs.Accounts.{has_account}
use Rattle.xv_model.proofs.FlightRanges.{fit_start}
use Rattle.board_script.specs.declared.faults.ScriptFault.{ScriptFault}
use Rattle.board_script.specs.declared.lines.Said.{Said}
use Rattle.board_script.specs.declared.lines.Said.TheVariants as say
use Rattle.board_script.specs.declared.work.Work.{Work as AWork}
use Rattle.board_script.specs.declared.stage.Turn.{Turn}
use Rattle.board_script.specs.declared.stage.Turn.TheVariants as turns
use Rattle.board_script.specs.declared.stage.Stage.{Stage}
use Rattle.board_script.specs.declared.stage.Stage.TheVariants.{Header, Work, Started, Ended}
use Rattle.board_script.specs.Lines.{Reading, said_of, IsWork, IsHeaderSaid, IsSaidAt}
use Rattle.board_script.specs.Stage.{stage_after, board_after, first_board, IsBoardAt}
use Rattle.board_script.specs.Parser.{Parsing, new_parsing, answer_by, read_by, parsing_by, parsing_from, finished_by, board_by}
use Rattle.board_script.specs.Script.{Script, WorkLine, line_for, work_with, ended_by, after_line, script_from, script_of, work_in, board_in, IsAccountOn, EachHasAccount, OneOfEach}
use Rattle.board_script.proofs.Fitting.{fits}
use Rattle.board_script.proofs.Staying.{stays}
use Rattle.board_script.proofs.WorkLines.{ends}

-- these are work lines on a board
abbrev AreWork : Board → List WorkLine → Type 0
AreWork b work = All (λ w. IsWork b w.actor w.work) work

-- the work lines that are met at a stage: none in the header
abbrev AreWorkAt : Stage → Board → List WorkLine → Type 0
AreWorkAt (Header turn) b work = work ≡ []
AreWorkAt _ b work = AreWork b work

-- the work lines are on the board, where there is one
abbrev AreWorkOn : Option Board → List WorkLine → Type 0
AreWorkOn (Some b) work = AreWork b work
AreWorkOn None work = Unit {0}

abbrev AreWorkIn : Script → Type 0
AreWorkIn script = AreWorkOn (board_in script) (work_in script)

no_work : (turn : Turn) (b : Board) (actor : ℕ) (w : AWork) → IsHeaderSaid turn b (say.Work actor w) → ⊥
no_work turns.Level b actor w f = f
no_work turns.Unclaimed b actor w f = f
no_work turns.Unconnected b actor w f = f
no_work _ b actor w f = f

no_end : (turn : Turn) (b : Board) → IsHeaderSaid turn b say.End → ⊥
no_end turns.Level b f = f
no_end turns.Unclaimed b f = f
no_end turns.Unconnected b f = f
no_end _ b f = f

none_is : (b : Board) (work : List WorkLine) → work ≡ [] → AreWork b work
none_is b work e = subst (AreWork b) (sym e) (All-nil (λ w. IsWork b w.actor w.work))

-- one more line
step : (stage : Stage) (b : Board) (it : Said) (work : List WorkLine) → IsSaidAt stage b it → AreWorkAt stage b work → AreWorkAt (stage_after stage it) (board_after stage it b) (work_with it work)
step (Header turn) b say.Go work f a = none_is (board_after (Header turn) say.Go b) work a
step (Header turn) b (say.Work actor w) work f a = absurd (no_work turn b actor w f)
step (Header turn) b it work f a = a
step Work b say.End work f a = a
step Work b say.Start work f a = a
step Work b (say.Work actor w) work f a = All-cons (λ w. IsWork b w.actor w.work) (record { actor = actor; work = w }) work f a
step Work b it work f a = a
step Started b say.End work f a = a
step Started b say.Start work f a = a
step Started b (say.Work actor w) work f a = All-cons (λ w. IsWork b w.actor w.work) (record { actor = actor; work = w }) work f a
step Started b it work f a = a
step Ended b say.Nothing work f a = a
step Ended b _ work f a = absurd f

-- what was met by a parser
met : (stage : Stage) (b : Board) (work : List WorkLine) → AreWorkAt stage b work → AreWorkOn (board_by stage b) work
met (Header turn) b work a = tt
met Work b work a = a
met Started b work a = a
met Ended b work a = a

at_end : (f : Option ScriptFault) (stage : Stage) (b : Board) (n : ℕ) (work : List WorkLine) → AreWorkAt stage b work →
    AreWorkIn (ended_by (finished_by f stage n) (record { stage = stage; board = b; lines = n; fault = f }) work)
at_end (Some fault) stage b n work a = met stage b work a
at_end None (Header turn) b n work a = tt
at_end None Work b n work a = a
at_end None Started b n work a = a
at_end None Ended b n work a = a

accepted : (stage : Stage) (b : Board) (work : List WorkLine) → IsSaidAt stage b say.End → AreWorkAt stage b work → AreWork b work
accepted (Header turn) b work f a = absurd (no_end turn b f)
accepted Work b work f a = a
accepted Started b work f a = a
accepted Ended b work f a = absurd f

-- what goes on behind a line that a parser has read, whose board is one
abbrev GoesOn : List WorkLine → (Parsing → Said → Script) → Type 0
GoesOn work next = (q : Parsing) (it : Said) → IsBoardAt q.stage q.board → AreWorkAt q.stage q.board (work_with it work) → AreWorkIn (next q it)

read_is : (p : Parsing) (l : List ℕ) (r : Reading) (work : List WorkLine) (next : Parsing → Said → Script) → IsBoardAt p.stage p.board → IfOk r (IsSaidAt p.stage p.board) → AreWorkAt p.stage p.board work →
    GoesOn work next → AreWorkIn (after_line (answer_by p l r) p work (next (parsing_by p l r)))
read_is p l (Err m) work next is f a h = met p.stage p.board work a
read_is p l (Ok say.End) work next is f a h = accepted p.stage p.board work f a
read_is p l (Ok it) work next is f a h = h (parsing_by p l (Ok it)) it (stays p.stage p.board it is f) (step p.stage p.board it work f a)

line_is : (f : Option ScriptFault) (p : Parsing) (l : List ℕ) (work : List WorkLine) (next : Parsing → Said → Script) → IsBoardAt p.stage p.board → AreWorkAt p.stage p.board work →
    GoesOn work next → AreWorkIn (after_line (read_by f p l) p work (next (parsing_from f p l)))
line_is (Some fault) p l work next is a h = met p.stage p.board work a
line_is None p l work next is a h = read_is p l (said_of p.stage p.board l) work next is (fits p.stage p.board l is.is_board) a h

-- the work lines of a script are work on its board
pub are_work : (p : Parsing) (work : List WorkLine) (ls : List (List ℕ)) (t : Bool) → IsBoardAt p.stage p.board → AreWorkAt p.stage p.board work → AreWorkIn (script_from p work ls t)
are_work p work [] true is a = met p.stage p.board work a
are_work p work [] false is a = at_end p.fault p.stage p.board p.lines work a
are_work p work (l ∷ ls) t is a = line_is p.fault p l work (λ q it. script_from q (work_with it work) ls t) is a (λ q it is k. are_work q (work_with it work) ls t is k)

-- work lines on a board have an account
has_on : (b : Option Board) (work : List WorkLine) → AreWorkOn b work → (h : List Entry) × IsAccountOn b work h
has_on None work a = ([], refl)
has_on (Some b) work a =
    let each : All (λ w. Ends (start b) (line_for w)) work = λ k d l. ends (start b) _ (fit_start b) (a k d l) in
    let (h, follows, legal) = has_account (start b) (map line_for work) (All-map (Ends (start b)) line_for work each) in
    (h, (follows, legal))

-- the board before the first line is one
first_is : IsBoardAt (Header turns.Board) first_board
first_is = search rules

pub each_has_account : EachHasAccount
each_has_account bytes =
    has_on (board_in (script_of bytes)) (work_in (script_of bytes)) (are_work new_parsing [] (lines_within byte_limit bytes) (are_too_many byte_limit bytes) first_is refl)

one_on : (b : Option Board) (work : List WorkLine) (h g : List Entry) → IsAccountOn b work h → IsAccountOn b work g → h ≡ g
one_on None work h g a k = a ∙ sym k
one_on (Some b) work h g a k = one_account (start b) (map line_for work) h g a.1 k.1 a.0 k.0

pub one_of_each : OneOfEach
one_of_each bytes h g a k = one_on (board_in (script_of bytes)) (work_in (script_of bytes)) h g a k
