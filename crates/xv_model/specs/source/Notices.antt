-- The notices of a source: each forward makes one, and each route consumes one.
use Rattle.std.specs.Prelude.{ℕ, ◌==◌, ◌+◌, ◌-◌, if◌then◌else◌, List, [], ◌∷◌, Option, Some, None, zero, suc}
use Rattle.std.specs.Option.{option_map_or}
use Rattle.xv_model.specs.declared.operations.Op.{Op}
use Rattle.xv_model.specs.declared.operations.Op.TheVariants as op
use Rattle.xv_model.specs.declared.outcomes.Outcome.{Outcome}
use Rattle.xv_model.specs.declared.outcomes.Outcome.TheVariants as out
use Rattle.xv_model.specs.declared.entries.Entry.{Entry}
use Rattle.xv_model.specs.account.Start.{Start}
use Rattle.xv_model.specs.source.Pairs.{touch_of, touch_at}

-- how many entries that touch s forwarded
abbrev pub forwards : Start → List Entry → ℕ → ℕ
forwards z [] s = z.forwards s
forwards z (x ∷ h) s = option_map_or (λ t. if t.forward == 0 then 0 else 1) (touch_at s (touch_of z.board x)) 0 + forwards z h s

-- the source whose notice was routed
abbrev pub route_in : Op → Outcome → Option ℕ
route_in (op.Route s) (out.Routed k routed) = Some s
route_in _ _ = None

-- how many notices of s were routed
abbrev pub routes : Start → List Entry → ℕ → ℕ
routes z [] s = z.routes s
routes z (x ∷ h) s = option_map_or (λ r. if r == s then 1 else 0) (route_in x.op x.outcome) 0 + routes z h s

-- how many notices of s are outstanding: forwarded, and not routed yet
abbrev pub outstanding : Start → List Entry → ℕ → ℕ
outstanding z h s = forwards z h s - routes z h s

-- the sum of a count over the numbers below n
abbrev pub sum_below : (ℕ → ℕ) → ℕ → ℕ
sum_below f zero = 0
sum_below f (suc n) = sum_below f n + f n

-- how many notices are outstanding over all sources
abbrev pub all_outstanding : Start → List Entry → ℕ
all_outstanding z h = sum_below (outstanding z h) z.board.limits.sources
