-- The header of a script, line after line.
use Rattle.std.proofs.Common.{ℕ, ◌≡◌, ◌<◌, ◌≤◌, Bool, [], Option, None, refl, sym, ◌∙◌, ap, subst}
use Rattle.xv_model.specs.declared.board.Board.{Board}
use Rattle.board_script.specs.declared.lines.Said.{Said}
use Rattle.board_script.specs.declared.lines.Said.TheVariants as said
use Rattle.board_script.specs.declared.stage.Turn.{Turn}
use Rattle.board_script.specs.declared.stage.Turn.TheVariants as turns
use Rattle.board_script.specs.declared.stage.Stage.{Stage}
use Rattle.board_script.specs.declared.stage.Stage.TheVariants.{Header, Work, Started, Ended}
use Rattle.xv_model.specs.declared.board.Span.{Span}
use Rattle.board_script.specs.declared.work.Work.{Work as AWork}
use Rattle.board_script.specs.Lines.{IsSaidAt, IsHeaderSaid}
use Rattle.board_script.specs.Stage.{stage_after, IsOpen}
use Rattle.board_script.specs.Parser.{Parsing, board_by, whole_board}
use Rattle.board_script.specs.Script.{Script, Refused as Rejected, TooLong as Exceeds, SoFar, so_far}
use Rattle.xive_cli.specs.declared.stop.Stop.{Stop}
use Rattle.xive_cli.specs.declared.stop.Stop.TheVariants.{ReadFault, WriteFault, Refused, TooLong, NoMemory}
use Rattle.xive_cli.specs.Input.{Unread, script_left}
use Rattle.xive_cli.specs.Output.{Told, Tells}
use Rattle.xive_cli.specs.Reading.{GoesOn, IsScript, IsInHeader, Says, StopsReading}
use Rattle.xive_cli.specs.Stop.{Stops, EndsEarly}
use Rattle.xive_cli.specs.commands.Run.{output_of}
use Rattle.xive_cli.proofs.Telling.{risen_from, tells_both, fails_after}
use Rattle.xive_cli.proofs.Going.{goes_further, script_behind}

pub open_header : (stage : Stage) → IsInHeader stage → IsOpen stage
open_header (Header turn) h = tt
open_header Work h = tt
open_header Started h = tt
open_header Ended h = h

header_board : (stage : Stage) (b : Board) → IsInHeader stage → board_by stage b ≡ None
header_board (Header turn) b h = refl
header_board Work b h = absurd h
header_board Started b h = absurd h
header_board Ended b h = absurd h

end_said : (turn : Turn) (b : Board) → IsHeaderSaid turn b said.End → ⊥
end_said turns.Level b f = f
end_said turns.Unclaimed b f = f
end_said _ b f = f

work_said : (turn : Turn) (b : Board) (actor : ℕ) (w : AWork) → IsHeaderSaid turn b (said.Work actor w) → ⊥
work_said turns.Level b actor w f = f
work_said turns.Unclaimed b actor w f = f
work_said _ b actor w f = f

-- the header has no end
pub no_end : (stage : Stage) (b : Board) → IsInHeader stage → IsSaidAt stage b said.End → ⊥
no_end (Header turn) b h f = end_said turn b f
no_end Work b h f = h
no_end Started b h f = h
no_end Ended b h f = h

start_said : (turn : Turn) (b : Board) → IsHeaderSaid turn b said.Start → ⊥
start_said turns.Level b f = f
start_said turns.Unclaimed b f = f
start_said _ b f = f

-- and no start
pub no_start : (stage : Stage) (b : Board) → IsInHeader stage → IsSaidAt stage b said.Start → ⊥
no_start (Header turn) b h f = start_said turn b f
no_start Work b h f = h
no_start Started b h f = h
no_start Ended b h f = h

-- and no work
pub no_work : (stage : Stage) (b : Board) (actor : ℕ) (w : AWork) → IsInHeader stage → IsSaidAt stage b (said.Work actor w) → ⊥
no_work (Header turn) b actor w h f = work_said turn b actor w f
no_work Work b actor w h f = h
no_work Started b actor w h f = h
no_work Ended b actor w h f = h

-- the stage behind a line of the header
abbrev pub StageBehind : Said → Stage → Type 0
StageBehind said.Go stage = stage ≡ Work
StageBehind _ stage = IsInHeader stage

after_go : (stage : Stage) → IsInHeader stage → stage_after stage said.Go ≡ Work
after_go (Header turn) h = refl
after_go Work h = absurd h
after_go Started h = absurd h
after_go Ended h = absurd h

after_number : (stage : Stage) (n : ℕ) → IsInHeader stage → IsInHeader (stage_after stage (said.Number n))
after_number (Header turn) n h = tt
after_number Work n h = h
after_number Started n h = h
after_number Ended n h = h

after_pages : (stage : Stage) (two store : Bool) → IsInHeader stage → IsInHeader (stage_after stage (said.Pages two store))
after_pages (Header turn) two store h = tt
after_pages Work two store h = h
after_pages Started two store h = h
after_pages Ended two store h = h

after_level : (stage : Stage) (span : Span) → IsInHeader stage → IsInHeader (stage_after stage (said.Level span))
after_level (Header turn) span h = tt
after_level Work span h = h
after_level Started span h = h
after_level Ended span h = h

after_unclaimed : (stage : Stage) (span : Span) → IsInHeader stage → IsInHeader (stage_after stage (said.Unclaimed span))
after_unclaimed (Header turn) span h = tt
after_unclaimed Work span h = h
after_unclaimed Started span h = h
after_unclaimed Ended span h = h

after_unconnected : (stage : Stage) (span : Span) → IsInHeader stage → IsInHeader (stage_after stage (said.Unconnected span))
after_unconnected (Header turn) span h = tt
after_unconnected Work span h = h
after_unconnected Started span h = h
after_unconnected Ended span h = h

after_nothing : (stage : Stage) → IsInHeader stage → IsInHeader (stage_after stage said.Nothing)
after_nothing (Header turn) h = tt
after_nothing Work h = h
after_nothing Started h = h
after_nothing Ended h = h

-- one line of the header
pub record GoesInHeader (a : Unread) (it : Said) (b : Unread) : Type 0 where
  pub goes : GoesOn a [] b []
  pub rises : a.reader.given < b.reader.given
  pub stage : StageBehind it b.parser.stage

still : (s s' : Stage) → s' ≡ s → IsInHeader s → IsInHeader s'
still s s' e h = subst IsInHeader (sym e) h

pub header_line : (a b : Unread) (it : Said) → IsInHeader a.parser.stage → Says a it b → GoesInHeader a it b
header_line a b said.Nothing h s = record { goes = s.next.goes []; rises = s.next.rises; stage = still _ _ s.next.stage (after_nothing a.parser.stage h) }
header_line a b (said.Number n) h s = record { goes = s.next.goes []; rises = s.next.rises; stage = still _ _ s.next.stage (after_number a.parser.stage n h) }
header_line a b (said.Pages two store) h s = record { goes = s.next.goes []; rises = s.next.rises; stage = still _ _ s.next.stage (after_pages a.parser.stage two store h) }
header_line a b (said.Level span) h s = record { goes = s.next.goes []; rises = s.next.rises; stage = still _ _ s.next.stage (after_level a.parser.stage span h) }
header_line a b (said.Unclaimed span) h s = record { goes = s.next.goes []; rises = s.next.rises; stage = still _ _ s.next.stage (after_unclaimed a.parser.stage span h) }
header_line a b (said.Unconnected span) h s = record { goes = s.next.goes []; rises = s.next.rises; stage = still _ _ s.next.stage (after_unconnected a.parser.stage span h) }
header_line a b said.Go h s = record { goes = s.next.goes []; rises = s.next.rises; stage = s.next.stage ∙ after_go a.parser.stage h }
header_line a b said.Start h s = absurd (no_start a.parser.stage a.parser.board h s.fits)
header_line a b said.End h s = absurd (no_end a.parser.stage a.parser.board h s.fits)
header_line a b (said.Work actor w) h s = absurd (no_work a.parser.stage a.parser.board actor w h s.fits)

so_far_of : Option Board → SoFar
so_far_of board = record { board = board; work = [] }

so_far_none : (p : Parsing) → IsInHeader p.stage → so_far p [] ≡ record { board = None; work = [] }
unfolding so_far_of
so_far_none p h = ap so_far_of (header_board p.stage p.board h)

ends_in_header : (a u b : Unread) (t t' : Told) (end : SoFar → Script) → GoesOn a [] u [] → IsInHeader u.parser.stage → Tells t [] t' → IsScript u [] b (end (so_far u.parser [])) → EndsEarly a t b t' end
ends_in_header a u b t t' end goes h tells s = record {
  so_far = record { board = None; work = [] };
  account = [];
  is_script = subst (λ v. IsScript a [] b (end v)) (so_far_none u.parser h) (script_behind a u b [] [] (end (so_far u.parser [])) goes s);
  ran = refl;
  tells = tells;
}

-- the header stops
pub header_stops : (stop : Stop) (a u b : Unread) (t t1 t' : Told) → GoesOn a [] u [] → IsInHeader u.parser.stage → a.faults ≤ u.faults → t.faults ≤ t1.faults → Tells t [] t1 → StopsReading stop u t1 b t' → Stops stop a t b t'
header_stops ReadFault a u b t t1 t' goes h l m tells s = record {
  so_far = record { board = None; work = [] };
  account = [];
  goes = goes_further a u b [] [] [] goes (s.goes []);
  board = ap whole_board s.parser ∙ header_board u.parser.stage u.parser.board h;
  ran = refl;
  tells = tells_both t t1 t' [] [] tells s.tells;
  failed = risen_from a.faults u.faults b.faults l s.failed;
  waits = s.waits;
  all = s.all;
}
header_stops WriteFault a u b t t1 t' goes h l m tells s =
    let w = goes_further a u b [] [] [] goes (s.0 []) in
    record {
      read = w.read;
      consumed = w.consumed;
      last = w.last;
      text = [];
      begins = λ bytes meets account is. (output_of (script_left a [] _) account, refl);
      fails = fails_after t t1 t' [] [] m tells s.1;
    }
header_stops (Refused fault) a u b t t1 t' goes h l m tells s = ends_in_header a u b t t' (Rejected fault) goes h (tells_both t t1 t' [] [] tells s.1) (s.0 [])
header_stops TooLong a u b t t1 t' goes h l m tells s = ends_in_header a u b t t' Exceeds goes h (tells_both t t1 t' [] [] tells s.1) (s.0 [])
header_stops NoMemory a u b t t1 t' goes h l m tells s = absurd s

-- behind a line that isn't `go` the header goes on
pub header_goes_on : (it : Said) (stage : Stage) → (it ≡ said.Go → ⊥) → StageBehind it stage → IsInHeader stage
header_goes_on said.Go stage n s = absurd (n refl)
header_goes_on said.Nothing stage n s = s
header_goes_on (said.Number k) stage n s = s
header_goes_on (said.Pages two store) stage n s = s
header_goes_on (said.Level span) stage n s = s
header_goes_on (said.Unclaimed span) stage n s = s
header_goes_on (said.Unconnected span) stage n s = s
header_goes_on said.Start stage n s = s
header_goes_on said.End stage n s = s
header_goes_on (said.Work actor w) stage n s = s
