-- What a run tells.
use Rattle.std.specs.Prelude.{ℕ, ◌≡◌, ◌++◌, List, [], Option}
use Rattle.xv_io.specs.declared.sink.Sink.{Ghosts}
use Rattle.xv_io.specs.Faults.{HasRisen, AppendsPart}
use Rattle.xv_io.specs.Writer.{Puts}
use Rattle.xive_cli.specs.declared.output.Output.{Output}

-- what is told so far: the text that is gathered, what the sink holds, where that is known, and how often it failed
pub record Told : Type 0 where
  pub gathered : List ℕ
  pub held : Option (List ℕ)
  pub faults : ℕ

-- what an output has told
abbrev pub told : {K : Type 0} {G : Ghosts K} → Output K G → Told
told {K} {G} o = record { gathered = o.writer.gathered.items; held = G.held o.sink.now; faults = G.faults o.sink.now }

-- a text was told
abbrev pub Tells : Told → List ℕ → Told → Type 0
Tells a text b = Puts a.gathered a.held b.gathered b.held text

-- the sink failed: a proper beginning of what was gathered and of the text was appended, and nothing is gathered
pub record Fails (a : Told) (text : List ℕ) (b : Told) : Type 0 where
  pub failed : HasRisen a.faults b.faults
  pub part : AppendsPart a.held b.held (a.gathered ++ text)
  pub lost : b.gathered ≡ []
