-- Accounts that follow lines: how a line goes on, and that lines that end have a legal account.
use Rattle.std.proofs.Common.{ℕ, zero, suc, ◌≡◌, ◌<◌, ◌≤◌, true, List, [], ◌∷◌, ◌++◌, Option, Some, None, refl, arith}
use Rattle.std.proofs.lemmas.List.Elements.{All-head, All-tail}
use Rattle.xv_model.specs.declared.operations.Op.{Op}
use Rattle.xv_model.specs.declared.outcomes.Outcome.{Outcome}
use Rattle.xv_model.specs.declared.entries.Entry.{Entry}
use Rattle.xv_model.specs.account.Start.{Start}
use Rattle.xv_model.specs.account.Legal.{IsLegal, legal}
use Rattle.xv_model.specs.account.Scripts.{Line, Begins, IsPart, Follows, Ends, EachHasAccount}
use Rattle.xv_model.specs.board.Validity.{valid}

-- the entry of an operation of a line
abbrev pub made : Line → Op → Outcome → Entry
made line o outcome = record { actor = line.actor; op = o; outcome = outcome }

-- a beginning of a line's entries goes on with the entry of its next operation
pub begins_more : (z : Start) (line : Line) (before part : List Entry) (o : Op) (outcome : Outcome) → Begins z line before part → line.next z before part ≡ Some o → Begins z line before (made line o outcome ∷ part)
begins_more z line before part o outcome begins next = (begins, refl, next)

-- a legal account goes on with an entry of an actor of the board, whose operation is valid, and whose outcome is the legal one
pub legal_more : (z : Start) (line : Line) (h : List Entry) (o : Op) (outcome : Outcome) → IsLegal z h → line.actor < z.board.limits.actors → valid z.board o ≡ true → outcome ≡ legal z h o → IsLegal z (made line o outcome ∷ h)
legal_more z line h o outcome l actor valid_op is = (l, record { actor = actor; valid_op = valid_op; outcome = is })

-- the account that follows some lines goes on with all the entries of one more line
pub follows_more : (z : Start) (line : Line) (lines : List Line) (before part : List Entry) → Follows z lines before → Begins z line before part → line.next z before part ≡ None → Follows z (line ∷ lines) (part ++ before)
follows_more z line lines before part follows begins ends = (before, part, refl, follows, record { begins = begins; ends = ends })

-- a beginning of the entries of a line that ends goes on to all of them, in at most as many entries as the measure says
all_from : (z : Start) (line : Line) (e : Ends z line) (before : List Entry) (n : ℕ) (part : List Entry) → Begins z line before part → IsLegal z (part ++ before) → e.measure before part ≤ n →
    (m : Option Op) → line.next z before part ≡ m → (whole : List Entry) × IsPart z line before whole × IsLegal z (whole ++ before)
all_from z line e before n part b l w None at = (part, record { begins = b; ends = at }, l)
all_from z line e before zero part b l w (Some o) at =
    let more = begins_more z line before part o (legal z (part ++ before) o) b at in
    let legal_at = legal_more z line (part ++ before) o _ l e.actor (e.valid_ops before part o b l at) refl in
    absurd (let down = e.falls before part _ more legal_at in omega arith)
all_from z line e before (suc n) part b l w (Some o) at =
    let x = made line o (legal z (part ++ before) o) in
    let more = begins_more z line before part o (legal z (part ++ before) o) b at in
    let legal_at = legal_more z line (part ++ before) o _ l e.actor (e.valid_ops before part o b l at) refl in
    let down = e.falls before part x more legal_at in
    all_from z line e before n (x ∷ part) more legal_at (omega arith) (line.next z before (x ∷ part)) refl

-- a beginning of the entries of a line that ends goes on to all of them
pub has_rest : (z : Start) (line : Line) (before part : List Entry) → Ends z line → Begins z line before part → IsLegal z (part ++ before) → (whole : List Entry) × IsPart z line before whole × IsLegal z (whole ++ before)
has_rest z line before part e b l = all_from z line e before (e.measure before part) part b l (omega arith) (line.next z before part) refl

-- lines that end have a legal account
pub has_account : EachHasAccount
has_account z [] ends = ([], refl, _)
has_account z (line ∷ lines) ends =
    let (before, follows, l) = has_account z lines (All-tail (Ends z) line lines ends) in
    let (part, is_part, whole) = has_rest z line before [] (All-head (Ends z) line lines ends) _ l in
    (part ++ before, (before, part, refl, follows, is_part), whole)
