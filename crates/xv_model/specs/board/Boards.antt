-- Which boards there are.
use Rattle.std.specs.Prelude.{ℕ, ◌≡◌, ◌<◌, ◌≤◌, ◌&&◌, nat_le, Bool, if◌then◌else◌, take, slice_get, Some}
use Rattle.std.specs.List.{list_any}
use Rattle.xv_base.specs.Limits.{most_sources, most_processors, most_threads, most_actors, most_ram_mib, most_ranges}
use Rattle.xv_model.specs.declared.board.Span.{Span}
use Rattle.xv_model.specs.declared.board.Spans.{Spans}
use Rattle.xv_model.specs.declared.board.Board.{Board}

-- whether a number is in one of the ranges
abbrev pub is_in : Spans → ℕ → Bool
is_in spans n = list_any (λ span. nat_le span.first n && nat_le n span.last) (take spans.count spans.spans)

-- whether a board has the source as a level source
abbrev pub is_level : Board → ℕ → Bool
is_level b s = is_in b.level s

-- how many pages a source has
abbrev pub source_pages : Board → ℕ
source_pages b = if b.two_pages then 2 else 1

-- there are no more ranges than a board may name, all of numbers below a limit; the spans beyond the count are 0 and 0
pub record AreBelow (spans : Spans) (limit : ℕ) : Type 0 where
  pub few : spans.count ≤ most_ranges
  pub ordered : (i : ℕ) (span : Span) → i < spans.count → slice_get spans.spans i ≡ Some span → span.first ≤ span.last
  pub below : (i : ℕ) (span : Span) → i < spans.count → slice_get spans.spans i ≡ Some span → span.last < limit
  pub unused : (i : ℕ) (span : Span) → spans.count ≤ i → slice_get spans.spans i ≡ Some span → (span.first ≡ 0) × (span.last ≡ 0)

-- the counts of a board are within the limits, and its ranges within the counts
pub record IsBoard (b : Board) : Type 0 where
  pub some_source : 1 ≤ b.limits.sources
  pub sources : b.limits.sources ≤ most_sources
  pub some_processor : 1 ≤ b.limits.processors
  pub processors : b.limits.processors ≤ most_processors
  pub some_thread : 1 ≤ b.limits.threads
  pub threads : b.limits.threads ≤ most_threads
  pub some_actor : 1 ≤ b.limits.actors
  pub actors : b.limits.actors ≤ most_actors
  pub ram_mib : b.ram_mib ≤ most_ram_mib
  pub level : AreBelow b.level b.limits.sources
  pub unclaimed : AreBelow b.unclaimed b.limits.sources
  pub unconnected : AreBelow b.unconnected b.limits.processors
