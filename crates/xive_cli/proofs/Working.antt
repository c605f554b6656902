-- The work of a script, line after line.
use Rattle.std.proofs.Common.{ℕ, ◌≡◌, ◌≤◌, ◌<◌, ◌⊎◌, inl, inr, List, [], ◌∷◌, ◌++◌, Option, Some, refl, sym, ◌∙◌, ap, subst, append-nil}
use Rattle.xv_model.specs.declared.board.Board.{Board}
use Rattle.xv_model.specs.account.Start.{start}
use Rattle.xv_model.specs.board.Boards.{IsBoard}
use Rattle.account.specs.Account.{header_text}
use Rattle.machine.specs.Machine.{Held, StandsFor}
use Rattle.board_script.specs.declared.lines.Said.TheVariants as said
use Rattle.board_script.specs.declared.lines.Said.{Said}
use Rattle.board_script.specs.declared.stage.Stage.{Stage}
use Rattle.board_script.specs.declared.stage.Stage.TheVariants.{Header, Work, Started, Ended}
use Rattle.board_script.specs.declared.work.Work.{Work as AWork}
use Rattle.board_script.specs.Lines.{IsWork, IsSaidAt}
use Rattle.board_script.specs.Stage.{IsWorking, stage_after, board_after}
use Rattle.board_script.proofs.Reading.{IsNotEnd}
use Rattle.board_script.specs.Parser.{Parsing, board_by, whole_board}
use Rattle.board_script.specs.Script.{Script, Accepted, Refused as Rejected, TooLong as Exceeds, SoFar, WorkLine, so_far}
use Rattle.xive_cli.specs.declared.stop.Stop.{Stop}
use Rattle.xive_cli.specs.declared.stop.Stop.TheVariants.{ReadFault, WriteFault, Refused, TooLong, NoMemory}
use Rattle.xive_cli.specs.Input.{Unread, script_left}
use Rattle.xive_cli.specs.Output.{Told, Tells, Fails}
use Rattle.xive_cli.specs.Line.{RunsLine, FailsLine, part_text}
use Rattle.xive_cli.specs.Reading.{GoesOn, GoesBy, IsScript, Says, StopsReading}
use Rattle.xive_cli.specs.Stop.{Stops, EndsEarly, FailsWriting, BeginsOutput}
use Rattle.xive_cli.specs.Work.{RunsSoFar, RunsAllWork}
use Rattle.xive_cli.specs.commands.Run.{told_by}
use Rattle.xive_cli.proofs.Telling.{risen_from, tells_both, tells_still, fails_after, fails_still, fails_more}
use Rattle.xive_cli.proofs.Going.{goes_nowhere, goes_further, script_behind}
use Rattle.xive_cli.proofs.Beginning.{told_part, first_of_work, first_of_line}

-- the parser is at work on a board
whole_by : (stage : Stage) (b c : Board) → IsWorking stage → c ≡ b → board_by stage c ≡ Some b
whole_by Work b c w e = ap Some e
whole_by Started b c w e = ap Some e
whole_by (Header turn) b c w e = absurd w
whole_by Ended b c w e = absurd w

pub whole_at : (p : Parsing) (b : Board) → IsWorking p.stage → p.board ≡ b → whole_board p ≡ Some b
whole_at p b w e = whole_by p.stage b p.board w e

-- a work line there is work on the board
work_by : (stage : Stage) (b : Board) (actor : ℕ) (w : AWork) → IsWorking stage → IsSaidAt stage b (said.Work actor w) → IsWork b actor w
work_by Work b actor w at fits = fits
work_by Started b actor w at fits = fits
work_by (Header turn) b actor w at fits = absurd at
work_by Ended b actor w at fits = absurd at

pub is_work : (a : Unread) (actor : ℕ) (w : AWork) → IsSaidAt a.parser.stage a.parser.board (said.Work actor w) → IsWorking a.parser.stage → IsWork a.parser.board actor w
is_work a actor w fits at = work_by a.parser.stage a.parser.board actor w at fits

-- a line that isn't the end leaves it there
works_on : (stage : Stage) (it : Said) → IsWorking stage → IsNotEnd it → IsWorking (stage_after stage it)
works_on Work said.End w n = absurd n
works_on Work said.Start w n = tt
works_on Work it w n = tt
works_on Started said.End w n = absurd n
works_on Started said.Start w n = tt
works_on Started it w n = tt
works_on (Header turn) it w n = absurd w
works_on Ended it w n = absurd w

board_stays : (stage : Stage) (it : Said) (b : Board) → IsWorking stage → board_after stage it b ≡ b
board_stays Work it b w = refl
board_stays Started it b w = refl
board_stays (Header turn) it b w = absurd w
board_stays Ended it b w = absurd w

-- the parser after such a line
pub works_after : (a b : Unread) (it : Said) → GoesBy a it b → IsWorking a.parser.stage → IsNotEnd it → IsWorking b.parser.stage × (b.parser.board ≡ a.parser.board)
works_after a b it by w n = (subst IsWorking (sym by.stage) (works_on a.parser.stage it w n), by.board ∙ board_stays a.parser.stage it a.parser.board w)

-- what a line that makes no work leaves
pub record MakesNoWork (a b : Unread) : Type 0 where
  pub goes : (work : List WorkLine) → GoesOn a work b work
  pub stage : IsWorking b.parser.stage
  pub board : b.parser.board ≡ a.parser.board
  pub rises : a.reader.given < b.reader.given

by_nothing : (a b : Unread) → Says a said.Nothing b → IsWorking a.parser.stage → MakesNoWork a b
by_nothing a b s w =
    let works = works_after a b said.Nothing s.next w tt in
    record { goes = s.next.goes; stage = works.0; board = works.1; rises = s.next.rises }

by_start : (a b : Unread) → Says a said.Start b → IsWorking a.parser.stage → MakesNoWork a b
by_start a b s w =
    let works = works_after a b said.Start s.next w tt in
    record { goes = s.next.goes; stage = works.0; board = works.1; rises = s.next.rises }

pub no_work : (a b : Unread) (it : Said) → Says a it b → (it ≡ said.Nothing) ⊎ (it ≡ said.Start) → IsWorking a.parser.stage → MakesNoWork a b
no_work a b it s (inl e) w = by_nothing a b (subst (λ it. Says a it b) e s) w
no_work a b it s (inr e) w = by_start a b (subst (λ it. Says a it b) e s) w

-- before the first work line
pub nothing_ran : (b : Board) (a : Unread) (m : Held) (t t' : Told) → StandsFor m (start b) [] → Tells t (header_text b) t' → RunsSoFar b a t m a t'
nothing_ran b a m t t' stands tells = record {
  work = [];
  account = [];
  goes = goes_nowhere a [];
  has_run = record { ran = (refl, tt); stands = stands; tells = subst (λ v. Tells t v t') (sym (append-nil (header_text b))) tells };
}

-- a line that makes no work
pub nothing_more : (b : Board) (a u v : Unread) (m : Held) (t t1 t' : Told) → RunsSoFar b a t m u t1 → ((work : List WorkLine) → GoesOn u work v work) → Tells t1 [] t' → RunsSoFar b a t m v t'
nothing_more b a u v m t t1 t' r goes tells = record {
  work = r.work;
  account = r.account;
  goes = goes_further a u v [] r.work r.work r.goes (goes r.work);
  has_run = record { ran = r.has_run.ran; stands = r.has_run.stands; tells = tells_still t t1 t' (told_by (Some b) r.account) r.has_run.tells tells };
}

-- a work line
pub line_ran : (b : Board) (a u v : Unread) (m m' : Held) (t t1 t2 t' : Told) (w : WorkLine) → RunsSoFar b a t m u t1 → GoesBy u (said.Work w.actor w.work) v → Tells t1 [] t2 → RunsLine w m t2 m' t' → RunsSoFar b a t m' v t'
line_ran b a u v m m' t t1 t2 t' w r by still runs =
    let g = r.account in
    let p = runs (start b) g r.has_run.stands r.has_run.ran.1 in
    let told = tells_both t t2 t' (told_by (Some b) g) (part_text (start b) g p.0) (tells_still t t1 t2 (told_by (Some b) g) r.has_run.tells still) p.1.tells in
    record {
      work = w ∷ r.work;
      account = p.0 ++ g;
      goes = goes_further a u v [] r.work (w ∷ r.work) r.goes (by.goes r.work);
      has_run = record {
        ran = ((g, p.0, refl, r.has_run.ran.0, record { begins = p.1.is_part.begins; ends = p.2 }), p.1.is_part.legal);
        stands = p.1.stands;
        tells = subst (λ text. Tells t text t') (sym (told_part b g p.0)) told;
      };
    }

-- the end of the script
pub all_ran : (b : Board) (a u v : Unread) (m : Held) (t t1 t' : Told) → IsBoard b → u.parser.board ≡ b → RunsSoFar b a t m u t1 → ((work : List WorkLine) → IsScript u work v (Accepted u.parser.board work)) → Tells t1 [] t' → RunsAllWork b a t m v t'
all_ran b a u v m t t1 t' is_board e r s still = record {
  work = r.work;
  account = r.account;
  is_script = subst (λ c. IsScript a [] v (Accepted c r.work)) e (script_behind a u v [] r.work (Accepted u.parser.board r.work) r.goes (s r.work));
  is_board = is_board;
  has_run = record { ran = r.has_run.ran; stands = r.has_run.stands; tells = tells_still t t1 t' (told_by (Some b) r.account) r.has_run.tells still };
}

-- the sink failed at a text that is told first, behind what was read
pub failed_behind : (a u : Unread) (t t' : Told) (work : List WorkLine) (text : List ℕ) → GoesOn a [] u work → ((xs : List ℕ) → BeginsOutput text (script_left u work xs)) → Fails t text t' → FailsWriting a t u t'
failed_behind a u t t' work text g begins f = record {
  read = g.read;
  consumed = g.consumed;
  last = g.last;
  text = text;
  begins = λ bytes m. subst (BeginsOutput text) (sym (g.script bytes m)) (begins bytes);
  fails = f;
}

-- the same, where more was read before that
failed_further : (a u v : Unread) (t t' : Told) (work : List WorkLine) (text : List ℕ) → GoesOn a [] u work → GoesOn u work v work → ((xs : List ℕ) → BeginsOutput text (script_left u work xs)) → Fails t text t' → FailsWriting a t v t'
failed_further a u v t t' work text g s begins f =
    let w = goes_further a u v [] work work g s in
    record {
      read = w.read;
      consumed = w.consumed;
      last = w.last;
      text = text;
      begins = λ bytes m. subst (BeginsOutput text) (s.script bytes m ∙ sym (w.script bytes m)) (begins (s.read ++ bytes));
      fails = f;
    }

-- the header was not written whole
pub header_failed : (b : Board) (a : Unread) (t t' : Told) → whole_board a.parser ≡ Some b → Fails t (header_text b) t' → FailsWriting a t a t'
header_failed b a t t' e f = failed_behind a a t t' [] (told_by (Some b) []) (goes_nowhere a []) (λ xs. first_of_work b a [] [] xs e (refl, tt)) (fails_more t t' (header_text b) [] f)

-- a work line was not written whole
pub line_failed : (b : Board) (a u v : Unread) (m : Held) (t t1 t2 t' : Told) (w : WorkLine) → whole_board v.parser ≡ Some b → t.faults ≤ t2.faults →
    RunsSoFar b a t m u t1 → GoesBy u (said.Work w.actor w.work) v → Tells t1 [] t2 → FailsLine w m t2 t' → FailsWriting a t v t'
line_failed b a u v m t t1 t2 t' w e l r by still fails =
    let g = r.account in
    let f = fails (start b) g r.has_run.stands r.has_run.ran.1 in
    let told = tells_still t t1 t2 (told_by (Some b) g) r.has_run.tells still in
    failed_behind a v t t' (w ∷ r.work) (told_by (Some b) (f.0 ++ g)) (goes_further a u v [] r.work (w ∷ r.work) r.goes (by.goes r.work))
    (λ xs. first_of_line b v w r.work g f.0 xs e r.has_run.ran f.1.begins f.1.legal)
    (subst (λ text. Fails t text t') (sym (told_part b g f.0)) (fails_after t t2 t' (told_by (Some b) g) (part_text (start b) g f.0) l told f.2))

so_far_on : List WorkLine → Option Board → SoFar
so_far_on work board = record { board = board; work = work }

so_far_at : (p : Parsing) (b : Board) (work : List WorkLine) → whole_board p ≡ Some b → so_far p work ≡ record { board = Some b; work = work }
unfolding so_far_on
so_far_at p b work e = ap (so_far_on work) e

stopped_early : (b : Board) (a u v : Unread) (m : Held) (t t1 t' : Told) (end : SoFar → Script) → whole_board u.parser ≡ Some b → (r : RunsSoFar b a t m u t1) → IsScript u r.work v (end (so_far u.parser r.work)) → Tells t1 [] t' → EndsEarly a t v t' end
stopped_early b a u v m t t1 t' end e r s still = record {
  so_far = record { board = Some b; work = r.work };
  account = r.account;
  is_script = subst (λ f. IsScript a [] v (end f)) (so_far_at u.parser b r.work e) (script_behind a u v [] r.work (end (so_far u.parser r.work)) r.goes s);
  ran = r.has_run.ran;
  tells = tells_still t t1 t' (told_by (Some b) r.account) r.has_run.tells still;
}

-- no further line could be read
pub work_stops : (stop : Stop) (b : Board) (a u v : Unread) (m : Held) (t t1 t' : Told) → whole_board u.parser ≡ Some b → a.faults ≤ u.faults → t.faults ≤ t1.faults →
    RunsSoFar b a t m u t1 → StopsReading stop u t1 v t' → Stops stop a t v t'
work_stops ReadFault b a u v m t t1 t' e l k r s = record {
  so_far = record { board = Some b; work = r.work };
  account = r.account;
  goes = goes_further a u v [] r.work r.work r.goes (s.goes r.work);
  board = ap whole_board s.parser ∙ e;
  ran = r.has_run.ran;
  tells = tells_still t t1 t' (told_by (Some b) r.account) r.has_run.tells s.tells;
  failed = risen_from a.faults u.faults v.faults l s.failed;
  waits = s.waits;
  all = s.all;
}
work_stops WriteFault b a u v m t t1 t' e l k r s =
    failed_further a u v t t' r.work (told_by (Some b) r.account) r.goes (s.0 r.work) (λ xs. first_of_work b u r.work r.account xs e r.has_run.ran)
    (fails_still t t1 t' (told_by (Some b) r.account) k r.has_run.tells s.1)
work_stops (Refused fault) b a u v m t t1 t' e l k r s = stopped_early b a u v m t t1 t' (Rejected fault) e r (s.0 r.work) s.1
work_stops TooLong b a u v m t t1 t' e l k r s = stopped_early b a u v m t t1 t' Exceeds e r (s.0 r.work) s.1
work_stops NoMemory b a u v m t t1 t' e l k r s = absurd s
