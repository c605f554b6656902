-- What is left to read of a script.
use Rattle.std.specs.Prelude.{ℕ, List, Option}
use Rattle.xv_io.specs.declared.source.Source.{Ghosts}
use Rattle.xv_io.specs.Reader.{Reading, lines_left, too_many_left, whole_left}
use Rattle.board_script.specs.Parser.{Parsing}
use Rattle.board_script.specs.Script.{Script, SoFar, WorkLine, script_from, so_far_from}
use Rattle.xive_cli.specs.declared.input.Input.{Input}

-- what is left to read: a reader with what it has read ahead, the parser that its lines are fed to, what its source has left, where that is known, and how often that failed
pub record Unread : Type 0 where
  pub reader : Reading
  pub parser : Parsing
  pub left : Option (List ℕ)
  pub faults : ℕ

-- what an input has left to read
abbrev pub unread : {S : Type 0} {G : Ghosts S} → Input S G → Unread
unread {S} {G} i = record { reader = i.reader; parser = i.parser; left = G.left i.source.now; faults = G.faults i.source.now }

-- the script of what is left, behind some work lines, where the source has these bytes left
abbrev pub script_left : Unread → List WorkLine → List ℕ → Script
script_left u work bytes = script_from u.parser work (lines_left u.reader bytes) (too_many_left u.reader bytes)

-- what the whole lines of what is left say, behind some work lines, where the source gives these bytes and maybe more
abbrev pub so_far_left : Unread → List WorkLine → List ℕ → Option SoFar
so_far_left u work bytes = so_far_from u.parser work (whole_left u.reader bytes)
