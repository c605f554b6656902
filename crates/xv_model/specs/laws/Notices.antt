-- What becomes of notices and of the messages that they make: there are no more of them than were routed, and a source that is quiet has none.
use Rattle.std.specs.Prelude.{ℕ, ◌≡◌, ◌+◌, ◌*◌, ◌≤◌, List, [], ◌∷◌, ◌++◌, length}
use Rattle.std.specs.Option.{option_map_or}
use Rattle.xv_model.specs.declared.board.Board.{Board}
use Rattle.xv_model.specs.declared.operations.Op.TheVariants as op
use Rattle.xv_model.specs.declared.outcomes.Outcome.TheVariants as out
use Rattle.xv_model.specs.declared.entries.Entry.{Entry}
use Rattle.xv_model.specs.account.Start.{start}
use Rattle.xv_model.specs.account.Legal.{IsLegal}
use Rattle.xv_model.specs.source.Notices.{route_in, outstanding}
use Rattle.xv_model.specs.route.Flight.{taken_in, flight}
use Rattle.xv_model.specs.route.Quiet.{messages_of}

-- how many entries took a message that they found
abbrev pub takes : List Entry → ℕ
takes [] = 0
takes (x ∷ h) = option_map_or (λ i. 1) (taken_in x.op x.outcome) 0 + takes h

-- how many entries routed a notice, of any source
abbrev pub routed : List Entry → ℕ
routed [] = 0
routed (x ∷ h) = option_map_or (λ s. 1) (route_in x.op x.outcome) 0 + routed h

-- The laws, of an account of a board.

-- after a source is said to be quiet no notice of it is outstanding, and no message that comes of one is in flight
abbrev pub QuietIsQuiet : Board → List Entry → Type 0
QuietIsQuiet b h = (before later : List Entry) (x : Entry) (s : ℕ) → h ≡ later ++ x ∷ before → x.op ≡ op.Quiet s → x.outcome ≡ out.Quiet →
    (outstanding (start b) (x ∷ before) s ≡ 0) × (messages_of (flight (start b) (x ∷ before)) s ≡ 0)

-- there are at most three takes of a message for each notice that was routed
abbrev pub TakesAreFew : Board → List Entry → Type 0
TakesAreFew b h = takes h ≤ 3 * routed h

-- and at most as many messages in flight as such notices
abbrev pub MessagesAreFew : Board → List Entry → Type 0
MessagesAreFew b h = length (flight (start b) h) ≤ routed h

-- The laws hold of every legal account of a board.

abbrev pub EachQuietIsQuiet : Type 0
EachQuietIsQuiet = (b : Board) (h : List Entry) → IsLegal (start b) h → QuietIsQuiet b h

abbrev pub EachTakesFew : Type 0
EachTakesFew = (b : Board) (h : List Entry) → IsLegal (start b) h → TakesAreFew b h

abbrev pub EachHasFewMessages : Type 0
EachHasFewMessages = (b : Board) (h : List Entry) → IsLegal (start b) h → MessagesAreFew b h
