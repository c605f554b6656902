-- What is told first of a script.
use Rattle.std.proofs.Common.{ℕ, ◌≡◌, Bool, true, false, List, [], ◌∷◌, ◌++◌, Option, Some, None, Result, Ok, Err, sym, ◌∙◌, ap, subst, append_assoc, append-nil}
use Rattle.std.specs.Prelude.{map}
use Rattle.std.proofs.lemmas.List.{map-append}
use Rattle.xv_io.specs.Reader.{lines_left, too_many_left}
use Rattle.xv_model.specs.declared.board.Board.{Board}
use Rattle.xv_model.specs.declared.entries.Entry.{Entry}
use Rattle.xv_model.specs.account.Start.{Start, start}
use Rattle.xv_model.specs.account.Index.{next_index}
use Rattle.xv_model.specs.account.Legal.{IsLegal}
use Rattle.xv_model.specs.account.Scripts.{Begins, Follows, IsBeginning}
use Rattle.xv_model.proofs.MoreLines.{more_lines, more_entries}
use Rattle.account.specs.Account.{header_text, entries_text, report_text}
use Rattle.account.specs.text.Entry.{entry_line}
use Rattle.account.specs.text.Refusal.{too_long_line}
use Rattle.board_script.specs.declared.faults.ScriptFault.{ScriptFault}
use Rattle.board_script.specs.declared.lines.Said.{Said}
use Rattle.board_script.specs.declared.lines.Said.TheVariants as said
use Rattle.board_script.specs.declared.stage.Stage.{Stage}
use Rattle.board_script.specs.declared.stage.Stage.TheVariants.{Header, Work, Started, Ended}
use Rattle.board_script.specs.Lines.{Reading, said_of}
use Rattle.board_script.specs.Stage.{stage_after, board_after}
use Rattle.board_script.specs.Parser.{Parsing, read_of, parsing_after, parsing_from, parsing_by, finished, board_by, whole_board}
use Rattle.board_script.specs.Script.{Script, Accepted, Refused, TooLong, WorkLine, line_for, script_from, ended_by, after_line, work_with, board_in, work_in, IsAccountOn, IsAccountOf}
use Rattle.board_script.proofs.Reading.{more_from}
use Rattle.xive_cli.specs.Input.{Unread, script_left}
use Rattle.xive_cli.specs.Line.{part_text}
use Rattle.xive_cli.specs.Stop.{BeginsOutput}
use Rattle.xive_cli.specs.commands.Run.{told_by, output_of, refusal_of}

-- ---- the board of a script whose header is whole

some_board : (stage : Stage) (c b : Board) → board_by stage c ≡ Some b → Some c ≡ Some b
some_board (Header turn) c b e = absurd cc
some_board Work c b e = e
some_board Started c b e = e
some_board Ended c b e = e

stays_whole : (stage : Stage) (c b : Board) (it : Said) → board_by stage c ≡ Some b → board_by (stage_after stage it) (board_after stage it c) ≡ Some b
stays_whole (Header turn) c b it e = absurd cc
stays_whole Work c b said.End e = e
stays_whole Work c b said.Start e = e
stays_whole Work c b it e = e
stays_whole Started c b said.End e = e
stays_whole Started c b said.Start e = e
stays_whole Started c b it e = e
stays_whole Ended c b it e = e

by_whole : (p : Parsing) (b : Board) (l : List ℕ) (r : Reading) → whole_board p ≡ Some b → whole_board (parsing_by p l r) ≡ Some b
by_whole p b l (Ok it) e = stays_whole p.stage p.board b it e
by_whole p b l (Err m) e = e

from_whole : (f : Option ScriptFault) (p : Parsing) (b : Board) (l : List ℕ) → whole_board p ≡ Some b → whole_board (parsing_from f p l) ≡ Some b
from_whole (Some fault) p b l e = e
from_whole None p b l e = by_whole p b l (said_of p.stage p.board l) e

board_ended : (r : Result (Unit {0}) ScriptFault) (p : Parsing) (work : List WorkLine) (b : Board) → whole_board p ≡ Some b → board_in (ended_by r p work) ≡ Some b
board_ended (Ok it) p work b e = some_board p.stage p.board b e
board_ended (Err fault) p work b e = e

board_after_line : (r : Result Said ScriptFault) (p : Parsing) (work : List WorkLine) (next : Said → Script) (b : Board) → whole_board p ≡ Some b → ((it : Said) → board_in (next it) ≡ Some b) → board_in (after_line r p work next) ≡ Some b
board_after_line (Err fault) p work next b e h = e
board_after_line (Ok said.End) p work next b e h = some_board p.stage p.board b e
board_after_line (Ok it) p work next b e h = h it

-- the board of a script, read on by a parser that has it
pub board_from : (b : Board) (p : Parsing) (work : List WorkLine) (ls : List (List ℕ)) (t : Bool) → whole_board p ≡ Some b → board_in (script_from p work ls t) ≡ Some b
board_from b p work [] true e = e
board_from b p work [] false e = board_ended (finished p) p work b e
board_from b p work (l ∷ ls) t e = board_after_line (read_of p l) p work _ b e (λ it. board_from b (parsing_after p l) (work_with it work) ls t (from_whole p.fault p b l e))

-- ---- the entries of an account are told one after another

pub entries_part : (z : Start) (h part : List Entry) → entries_text z (part ++ h) ≡ entries_text z h ++ part_text z h part
entries_part z h [] = sym (append-nil (entries_text z h))
entries_part z h (x ∷ part) = ap (λ v. v ++ entry_line (next_index z (part ++ h)) x) (entries_part z h part) ∙ append_assoc (entries_text z h) (part_text z h part) (entry_line (next_index z (part ++ h)) x)

-- what is told of a beginning, and then of the entries after it
pub told_part : (b : Board) (h part : List Entry) → told_by (Some b) (part ++ h) ≡ told_by (Some b) h ++ part_text (start b) h part
told_part b h part = ap (λ v. header_text b ++ v) (entries_part (start b) h part) ∙ sym (append_assoc (header_text b) (entries_text (start b) h) (part_text (start b) h part))

-- what is told of an account begins with what is told of a beginning of it
told_begins : (b : Board) (g h : List Entry) → IsBeginning g h → (rest : List ℕ) × (told_by (Some b) h ≡ told_by (Some b) g ++ rest)
told_begins b g h beginning = (part_text (start b) g beginning.later, ap (told_by (Some b)) beginning.whole ∙ told_part b g beginning.later)

more_told : (b : Board) (c : Option Board) (g h : List Entry) (more : List ℕ) → c ≡ Some b → IsBeginning g h → (rest : List ℕ) × (told_by c h ++ more ≡ told_by (Some b) g ++ rest)
more_told b c g h more e beginning =
    let t = told_begins b g h beginning in
    (t.0 ++ more, ap (λ v. told_by v h ++ more) e ∙ ap (λ v. v ++ more) t.1 ∙ append_assoc (told_by (Some b) g) t.0 more)

output_begins : (script : Script) (b : Board) (g h : List Entry) → board_in script ≡ Some b → IsBeginning g h → (rest : List ℕ) × (output_of script h ≡ told_by (Some b) g ++ rest)
output_begins (Accepted c work) b g h e beginning = more_told b (Some c) g h (report_text (start c) h) e beginning
output_begins (Refused fault so_far) b g h e beginning = more_told b so_far.board g h (refusal_of fault) e beginning
output_begins (TooLong so_far) b g h e beginning = more_told b so_far.board g h too_long_line e beginning

-- ---- each account of a script begins with that of the work lines so far

account_in : (b : Board) (u : Unread) (work : List WorkLine) (h : List Entry) (xs : List ℕ) → whole_board u.parser ≡ Some b → IsAccountOf (script_left u work xs) h →
    (later : List WorkLine) × Follows (start b) (map line_for later ++ map line_for work) h × IsLegal (start b) h
account_in b u work h xs e is =
    let script = script_left u work xs in
    let m = more_from u.parser work (lines_left u.reader xs) (too_many_left u.reader xs) in
    let r = subst (λ v. IsAccountOn v (work_in script) h) (board_from b u.parser work (lines_left u.reader xs) (too_many_left u.reader xs) e) is in
    (m.later, subst (λ ls. Follows (start b) ls h) (ap (map line_for) m.whole ∙ map-append line_for m.later work) r.0, r.1)

-- what is told of the account of the work lines so far is told first
pub first_of_work : (b : Board) (u : Unread) (work : List WorkLine) (g : List Entry) (xs : List ℕ) → whole_board u.parser ≡ Some b → IsAccountOn (Some b) work g → BeginsOutput (told_by (Some b) g) (script_left u work xs)
first_of_work b u work g xs e ran = λ h is.
    let r = account_in b u work h xs e is in
    output_begins (script_left u work xs) b g h (board_from b u.parser work (lines_left u.reader xs) (too_many_left u.reader xs) e)
    (more_lines (start b) (map line_for r.0) (map line_for work) g h ran.0 ran.1 r.1 r.2)

-- and then that of some entries of the next line
pub first_of_line : (b : Board) (u : Unread) (w : WorkLine) (work : List WorkLine) (g part : List Entry) (xs : List ℕ) → whole_board u.parser ≡ Some b → IsAccountOn (Some b) work g →
    Begins (start b) (line_for w) g part → IsLegal (start b) (part ++ g) → BeginsOutput (told_by (Some b) (part ++ g)) (script_left u (w ∷ work) xs)
first_of_line b u w work g part xs e ran begins legal = λ h is.
    let r = account_in b u (w ∷ work) h xs e is in
    output_begins (script_left u (w ∷ work) xs) b (part ++ g) h (board_from b u.parser (w ∷ work) (lines_left u.reader xs) (too_many_left u.reader xs) e)
    (more_entries (start b) (map line_for r.0) (map line_for work) (line_for w) g part h ran.0 begins legal r.1 r.2)
