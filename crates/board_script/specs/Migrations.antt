-- What a migration leaves, half way and once it has ended.
use Rattle.std.specs.Prelude.{ℕ, ◌≡◌, ◌<◌, ◌++◌, true, List, []}
use Rattle.xv_model.specs.declared.entries.Entry.{Entry}
use Rattle.xv_model.specs.account.Start.{Start}
use Rattle.xv_model.specs.source.Eas.{initialised}
use Rattle.xv_model.specs.source.Notices.{all_outstanding}
use Rattle.xv_model.specs.source.Pairs.{pq}
use Rattle.xv_model.specs.route.Flight.{flight}
use Rattle.board_script.specs.Resting.{HasEnded, IsKept}
use Rattle.board_script.specs.Work.{migrate}

-- the entries of a migration are those of its two halves: after the first one each source that was initialised is off, no message is in flight, and no
-- notice of any source is outstanding
pub record HasHalves (z : Start) (before part : List Entry) : Type 0 where
  pub first : List Entry
  pub second : List Entry
  pub whole : part ≡ second ++ first
  pub masked : (s : ℕ) → s < z.board.limits.sources → initialised z before s ≡ true → pq z (first ++ before) s ≡ 1
  pub no_message : flight z (first ++ before) ≡ []
  pub no_notice : all_outstanding z (first ++ before) ≡ 0

-- a migration brings all to rest while its sources are off
abbrev pub MigrationsRest : Type 0
MigrationsRest =
    (z : Start) (actor : ℕ) (before part : List Entry) → HasEnded z actor (migrate z.board.limits.sources) before part →
    HasHalves z before part

-- and leaves each source with the pair and the EAS that it had before
abbrev pub MigrationsKeep : Type 0
MigrationsKeep =
    (z : Start) (actor s : ℕ) (before part : List Entry) → HasEnded z actor (migrate z.board.limits.sources) before part → s < z.board.limits.sources →
    IsKept z before (part ++ before) s
