-- What becomes of notices: each is routed once, and what a route has to write enters one queue once.
use Rattle.std.specs.Prelude.{ℕ, ◌≡◌, ◌==◌, ◌≤◌, ◌&&◌, not, if◌then◌else◌, List, [], ◌∷◌, ◌++◌, Option, Some, None}
use Rattle.xv_model.specs.declared.eas.Eas.{Eas}
use Rattle.xv_model.specs.declared.operations.EndConfig.{EndConfig}
use Rattle.xv_model.specs.declared.operations.Op.{Op}
use Rattle.xv_model.specs.declared.operations.Op.TheVariants as op
use Rattle.xv_model.specs.declared.outcomes.Outcome.{Outcome}
use Rattle.xv_model.specs.declared.outcomes.Outcome.TheVariants as out
use Rattle.xv_model.specs.declared.entries.Entry.{Entry}
use Rattle.xv_model.specs.declared.board.Board.{Board}
use Rattle.xv_model.specs.account.Start.{Start, start}
use Rattle.xv_model.specs.source.Notices.{forwards, routes}
use Rattle.xv_model.specs.end.Flags.{is_valid, enqueues}
use Rattle.xv_model.specs.source.Eas.{eas}
use Rattle.xv_model.specs.end.Descriptors.{end_config}
use Rattle.xv_model.specs.end.Written.{written}
use Rattle.xv_model.specs.account.Legal.{IsLegal}
use Rattle.xv_model.specs.laws.Triggers.{down_from}

-- the number of a route of s, where an entry is one that routed a notice
abbrev pub route_number : ℕ → Op → Outcome → List ℕ
route_number s (op.Route r) (out.Routed k routed) = if r == s then k ∷ [] else []
route_number s _ _ = []

-- the numbers of the routes of s, the newest first
abbrev pub route_numbers : List Entry → ℕ → List ℕ
route_numbers [] s = []
route_numbers (x ∷ h) s = route_number s x.op x.outcome ++ route_numbers h s

-- a payload that has to enter the queue of an END
pub record Due : Type 0 where
  pub end : ℕ
  pub payload : ℕ

-- what a source with this EAS has to enter, where its END is configured so
abbrev pub due_by : Eas → EndConfig → Option Due
due_by a c = if a.valid && (not a.masked && (is_valid c && enqueues c)) then Some (record { end = a.end; payload = a.eisn }) else None

-- what a route of s with this outcome has to enter: its payload, where a notice was routed, the EAS is valid and unmasked, and the END has v and q
abbrev pub due_of : Start → List Entry → ℕ → Outcome → Option Due
due_of z h s (out.Routed k routed) = due_by (eas z h s) (end_config z h (eas z h s).end)
due_of z h s _ = None

-- what is due in the queue of e
abbrev pub due_at : ℕ → Option Due → List ℕ
due_at e (Some due) = if due.end == e then due.payload ∷ [] else []
due_at e None = []

-- The laws, of an account of a board.

-- the routes of each source have the numbers 1, 2, 3 and so on, in order
abbrev pub RoutesAreNumbered : Board → List Entry → Type 0
RoutesAreNumbered b h = (s : ℕ) → route_numbers h s ≡ down_from (routes (start b) h s)

-- the number of each route of a source is at most that of its forwards before it
abbrev pub RoutesAreForwarded : Board → List Entry → Type 0
RoutesAreForwarded b h = (before after : List Entry) (x : Entry) (s k : ℕ) → h ≡ after ++ x ∷ before → route_number s x.op x.outcome ≡ k ∷ [] → k ≤ forwards (start b) before s

-- a route writes what is due into its queue, once and at its end, and nothing into another's, whatever the END does then
abbrev pub EntersOnce : Board → List Entry → Type 0
EntersOnce b h = (before after : List Entry) (x : Entry) (s e : ℕ) → h ≡ after ++ x ∷ before → x.op ≡ op.Route s →
    written (start b) (x ∷ before) e ≡ written (start b) before e ++ due_at e (due_of (start b) before s x.outcome)

-- The laws hold of every legal account of a board.

abbrev pub RoutedInOrder : Type 0
RoutedInOrder = (b : Board) (h : List Entry) → IsLegal (start b) h → RoutesAreNumbered b h

abbrev pub RoutedOnceForwarded : Type 0
RoutedOnceForwarded = (b : Board) (h : List Entry) → IsLegal (start b) h → RoutesAreForwarded b h

abbrev pub EachEntersOnce : Type 0
EachEntersOnce = (b : Board) (h : List Entry) → IsLegal (start b) h → EntersOnce b h
