-- What a writer has gathered, behind what its sink holds.
use Rattle.std.specs.Prelude.{ℕ, ◌≡◌, ◌++◌, List, Option}
use Rattle.std.specs.Io.KnownBytes.{Appends}

-- a text was put: of what was gathered and the text, the sink got the first bytes, and the rest is gathered now
pub record Puts (gathered : List ℕ) (held : Option (List ℕ)) (gathered' : List ℕ) (held' : Option (List ℕ)) (text : List ℕ) : Type 0 where
  pub sent : List ℕ
  pub appended : Appends held held' sent
  pub kept : sent ++ gathered' ≡ gathered ++ text
