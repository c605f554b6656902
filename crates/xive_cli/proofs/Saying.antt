-- What the next line says.
use Rattle.std.proofs.Common.{ℕ, ◌≡◌, ◌<◌, ◌≤◌, ◌+◌, IsFalse, false, List, [], length, Option, Some, None, Ok, Err, ◌∙◌, ap, subst, rules}
use Rattle.xv_io.specs.Reader.{GivesLine, GivesWholeLine, HasNoLine, line_length}
use Rattle.xv_io.proofs.Places.{none_whole}
use Rattle.xv_base.specs.Limits.{byte_limit}
use Rattle.xv_model.specs.declared.board.Board.{Board}
use Rattle.board_script.specs.declared.faults.ScriptFault.{ScriptFault}
use Rattle.board_script.specs.declared.lines.Said.{Said}
use Rattle.board_script.specs.declared.lines.Said.TheVariants as said
use Rattle.board_script.specs.declared.stage.Stage.{Stage}
use Rattle.board_script.specs.declared.stage.Stage.TheVariants.{Header, Work, Started, Ended}
use Rattle.board_script.specs.Lines.{Reading, said_of, IsSaidAt}
use Rattle.board_script.specs.Stage.{stage_after, board_after, IsOpen}
use Rattle.board_script.specs.Parser.{Parsing, read_of, read_by, answer_by, parsing_after, parsing_by, parsing_from, finished, finished_by}
use Rattle.board_script.specs.Script.{Accepted, Refused as Rejected, TooLong as Exceeds, so_far}
use Rattle.board_script.proofs.Reading.{IsNotEnd}
use Rattle.xive_cli.specs.Input.{Unread}
use Rattle.xive_cli.specs.declared.stop.Stop.{Stop}
use Rattle.xive_cli.specs.declared.stop.Stop.TheVariants.{ReadFault, WriteFault, Refused, TooLong, NoMemory}
use Rattle.xive_cli.specs.Output.{Told, Tells}
use Rattle.xive_cli.specs.Reading.{IsScript, Says, GoesBy, GoesTo, Waits, CannotGoOn, StopsReading}
use Rattle.xive_cli.proofs.Telling.{risen_from, tells_both, fails_after}
use Rattle.xive_cli.proofs.Going.{goes_by_line, goes_further, ends_by_line, ends_by_input, script_behind}

after_answer : (p : Parsing) (l : List ℕ) (r : Reading) (it : Said) → answer_by p l r ≡ Ok it → ((parsing_by p l r).stage ≡ stage_after p.stage it) × ((parsing_by p l r).board ≡ board_after p.stage it p.board)
after_answer p l (Ok it') it e = let same : it' ≡ it = cc in (ap (stage_after p.stage) same, ap (λ i. board_after p.stage i p.board) same)
after_answer p l (Err m) it e = absurd cc

after_read : (f : Option ScriptFault) (p : Parsing) (l : List ℕ) (it : Said) → read_by f p l ≡ Ok it → ((parsing_from f p l).stage ≡ stage_after p.stage it) × ((parsing_from f p l).board ≡ board_after p.stage it p.board)
after_read (Some fault) p l it e = absurd cc
after_read None p l it e = after_answer p l (said_of p.stage p.board l) it e

-- a line was given, and this is read of it
pub record GivesSaid (a : Unread) (it : Said) (b : Unread) : Type 0 where
  pub gives : GivesLine a.reader b.reader
  pub whole : IsFalse a.reader.ended → GivesWholeLine a.reader b.reader
  pub counts : b.reader.given + length b.reader.ahead ≡ a.reader.given + length a.reader.ahead
  pub ended : b.reader.ended ≡ a.reader.ended
  pub left : b.left ≡ a.left
  pub reads : read_of a.parser b.reader.line ≡ Ok it
  pub after : b.parser ≡ parsing_after a.parser b.reader.line
  pub rises : a.reader.given < b.reader.given

goes_by : (a b : Unread) (it : Said) → GivesSaid a it b → IsNotEnd it → GoesBy a it b
goes_by a b it g n =
    let r = after_read a.parser.fault a.parser b.reader.line it g.reads in
    record {
      goes = goes_by_line a b it g.gives g.whole g.counts g.ended g.left g.reads g.after n;
      stage = ap (λ (p : Parsing). p.stage) g.after ∙ r.0;
      board = ap (λ (p : Parsing). p.board) g.after ∙ r.1;
      rises = g.rises;
    }

-- the next line says this
pub says_line : (a b : Unread) (it : Said) → GivesSaid a it b → IsSaidAt a.parser.stage a.parser.board it → Says a it b
says_line a b said.End g f = record { fits = f; next = ends_by_line a b g.gives g.ended g.left g.reads }
says_line a b said.Nothing g f = record { fits = f; next = goes_by a b said.Nothing g tt }
says_line a b (said.Number n) g f = record { fits = f; next = goes_by a b (said.Number n) g tt }
says_line a b (said.Pages two store) g f = record { fits = f; next = goes_by a b (said.Pages two store) g tt }
says_line a b (said.Level span) g f = record { fits = f; next = goes_by a b (said.Level span) g tt }
says_line a b (said.Unclaimed span) g f = record { fits = f; next = goes_by a b (said.Unclaimed span) g tt }
says_line a b (said.Unconnected span) g f = record { fits = f; next = goes_by a b (said.Unconnected span) g tt }
says_line a b said.Go g f = record { fits = f; next = goes_by a b said.Go g tt }
says_line a b said.Start g f = record { fits = f; next = goes_by a b said.Start g tt }
says_line a b (said.Work actor w) g f = record { fits = f; next = goes_by a b (said.Work actor w) g tt }

end_fits : (f : Option ScriptFault) (stage : Stage) (b : Board) (n : ℕ) → IsOpen stage → finished_by f stage n ≡ Ok tt → IsSaidAt stage b said.End
end_fits (Some fault) stage b n o e = absurd cc
end_fits None (Header turn) b n o e = absurd cc
end_fits None Work b n o e = tt
end_fits None Started b n o e = tt
end_fits None Ended b n o e = absurd o

-- the input is over, which ends the script as a line does
pub says_end : (a b : Unread) → HasNoLine a.reader false → b.reader.ended ≡ a.reader.ended → b.left ≡ a.left → IsOpen a.parser.stage → finished a.parser ≡ Ok tt → Says a said.End b
says_end a b none ended left o over = record {
  fits = end_fits a.parser.fault a.parser.stage a.parser.board a.parser.lines o over;
  next = ends_by_input a b none ended left over;
}

-- nothing was given
pub same_place : (a b : Unread) → b.reader ≡ a.reader → b.parser ≡ a.parser → b.left ≡ a.left → b.faults ≡ a.faults → b ≡ a
same_place a b r p l f = search rules

pub waits : (a : Unread) → IsFalse a.reader.ended → line_length a.reader.ahead ≡ length a.reader.ahead → length a.reader.ahead ≤ 256 → a.reader.given + length a.reader.ahead < byte_limit → Waits a
waits a ended none short below = record { ended = ended; whole = none_whole a.reader none short; short = short; below = below }

goes_by_from : (a u b : Unread) (it : Said) → GoesTo a u → u.parser ≡ a.parser → u.reader.given ≡ a.reader.given → GoesBy u it b → GoesBy a it b
goes_by_from a u b it goes p given by = record {
  goes = λ work. goes_further a u b work work _ (goes work) (by.goes work);
  stage = by.stage ∙ ap (λ (q : Parsing). stage_after q.stage it) p;
  board = by.board ∙ ap (λ (q : Parsing). board_after q.stage it q.board) p;
  rises = subst (λ n. n < b.reader.given) given by.rises;
}

fits_from : (a u : Unread) (it : Said) → u.parser ≡ a.parser → IsSaidAt u.parser.stage u.parser.board it → IsSaidAt a.parser.stage a.parser.board it
fits_from a u it p f = subst (λ (q : Parsing). IsSaidAt q.stage q.board it) p f

-- what the next line says after more was read it said before
pub says_from : (a u b : Unread) (it : Said) → GoesTo a u → u.parser ≡ a.parser → u.reader.given ≡ a.reader.given → Says u it b → Says a it b
says_from a u b said.End goes p given s = record {
  fits = fits_from a u said.End p s.fits;
  next = λ work. subst (λ (q : Parsing). IsScript a work b (Accepted q.board work)) p (script_behind a u b work work _ (goes work) (s.next work));
}
says_from a u b said.Nothing goes p given s = record { fits = fits_from a u said.Nothing p s.fits; next = goes_by_from a u b said.Nothing goes p given s.next }
says_from a u b (said.Number n) goes p given s = record { fits = fits_from a u (said.Number n) p s.fits; next = goes_by_from a u b (said.Number n) goes p given s.next }
says_from a u b (said.Pages two store) goes p given s = record { fits = fits_from a u (said.Pages two store) p s.fits; next = goes_by_from a u b (said.Pages two store) goes p given s.next }
says_from a u b (said.Level span) goes p given s = record { fits = fits_from a u (said.Level span) p s.fits; next = goes_by_from a u b (said.Level span) goes p given s.next }
says_from a u b (said.Unclaimed span) goes p given s = record { fits = fits_from a u (said.Unclaimed span) p s.fits; next = goes_by_from a u b (said.Unclaimed span) goes p given s.next }
says_from a u b (said.Unconnected span) goes p given s = record { fits = fits_from a u (said.Unconnected span) p s.fits; next = goes_by_from a u b (said.Unconnected span) goes p given s.next }
says_from a u b said.Go goes p given s = record { fits = fits_from a u said.Go p s.fits; next = goes_by_from a u b said.Go goes p given s.next }
says_from a u b said.Start goes p given s = record { fits = fits_from a u said.Start p s.fits; next = goes_by_from a u b said.Start goes p given s.next }
says_from a u b (said.Work actor w) goes p given s = record { fits = fits_from a u (said.Work actor w) p s.fits; next = goes_by_from a u b (said.Work actor w) goes p given s.next }

-- what cannot go on after more was read stops
pub stops_from : (stop : Stop) (a u b : Unread) (t t' : Told) → GoesTo a u → u.parser ≡ a.parser → Tells t [] t' → CannotGoOn stop u b → StopsReading stop a t b t'
stops_from (Refused fault) a u b t t' goes p tells c =
    (λ work. subst (λ (q : Parsing). IsScript a work b (Rejected fault (so_far q work))) p (script_behind a u b work work _ (goes work) (c work)), tells)
stops_from TooLong a u b t t' goes p tells c =
    (λ work. subst (λ (q : Parsing). IsScript a work b (Exceeds (so_far q work))) p (script_behind a u b work work _ (goes work) (c work)), tells)
stops_from ReadFault a u b t t' goes p tells c = absurd c
stops_from WriteFault a u b t t' goes p tells c = absurd c
stops_from NoMemory a u b t t' goes p tells c = absurd c

-- what stops after more was read and told stops
pub stops_again : (stop : Stop) (a u b : Unread) (t t1 t' : Told) → GoesTo a u → u.parser ≡ a.parser → a.faults ≤ u.faults → t.faults ≤ t1.faults → Tells t [] t1 → StopsReading stop u t1 b t' → StopsReading stop a t b t'
stops_again ReadFault a u b t t1 t' goes p l m tells s = record {
  failed = risen_from a.faults u.faults b.faults l s.failed;
  goes = λ work. goes_further a u b work work work (goes work) (s.goes work);
  waits = s.waits;
  parser = s.parser ∙ p;
  tells = tells_both t t1 t' [] [] tells s.tells;
  all = s.all;
}
stops_again WriteFault a u b t t1 t' goes p l m tells s = (λ work. goes_further a u b work work work (goes work) (s.0 work), fails_after t t1 t' [] [] m tells s.1)
stops_again (Refused fault) a u b t t1 t' goes p l m tells s = stops_from (Refused fault) a u b t t' goes p (tells_both t t1 t' [] [] tells s.1) s.0
stops_again TooLong a u b t t1 t' goes p l m tells s = stops_from TooLong a u b t t' goes p (tells_both t t1 t' [] [] tells s.1) s.0
stops_again NoMemory a u b t t1 t' goes p l m tells s = absurd s
