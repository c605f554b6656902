-- A script has one legal account.
use Rattle.std.proofs.Common.{ℕ, ◌≡◌, ◌≤◌, List, [], ◌∷◌, ◌++◌, length, Some, None, refl, sym, ◌∙◌, ap, subst, arith, inl, inr, append-nil, length-append}
use Rattle.std.proofs.lemmas.Bool.{cases_lt}
use Rattle.xv_model.specs.declared.operations.Op.{Op}
use Rattle.xv_model.specs.declared.outcomes.Outcome.{Outcome}
use Rattle.xv_model.specs.declared.entries.Entry.{Entry}
use Rattle.xv_model.specs.account.Start.{Start}
use Rattle.xv_model.specs.account.Legal.{IsLegal, legal}
use Rattle.xv_model.specs.account.Scripts.{Line, Begins, IsPart, OneAccount}

-- an entry of its three parts
abbrev make : ℕ → Op → Outcome → Entry
make actor o outcome = record { actor = actor; op = o; outcome = outcome }

-- entries of equal parts are equal
entries_equal : (x y : Entry) → x.actor ≡ y.actor → x.op ≡ y.op → x.outcome ≡ y.outcome → x ≡ y
entries_equal x y a o u = ap (λ v. make v x.op x.outcome) a ∙ ap (λ v. make y.actor v x.outcome) o ∙ ap (λ v. make y.actor y.op v) u

-- two next entries of one line after one account
same_entry : (z : Start) (line : Line) (h p : List Entry) (x y : Entry) → Begins z line h (x ∷ p) → Begins z line h (y ∷ p) → IsLegal z ((x ∷ p) ++ h) → IsLegal z ((y ∷ p) ++ h) → x ≡ y
same_entry z line h p x y a b l m =
    let some : Some x.op ≡ Some y.op = sym a.2 ∙ b.2 in
    let ops : x.op ≡ y.op = cc in
    entries_equal x y (a.1 ∙ sym b.1) ops (l.1.outcome ∙ ap (legal z (p ++ h)) ops ∙ sym m.1.outcome)

-- a list of no length is empty
nothing : (r : List Entry) → length r ≤ 0 → r ≡ []
nothing [] l = refl
nothing (x ∷ r) l = absurd (omega arith)

-- of two beginnings the longer one goes on from the other
goes_on : (z : Start) (line : Line) (h q p : List Entry) → Begins z line h p → Begins z line h q → IsLegal z (p ++ h) → IsLegal z (q ++ h) → length p ≤ length q → (r : List Entry) × (q ≡ r ++ p)
goes_on z line h [] [] a b l m w = ([], refl)
goes_on z line h [] (x ∷ p) a b l m w = absurd (omega arith)
goes_on z line h (y ∷ q) [] a b l m w = (y ∷ q, sym (append-nil (y ∷ q)))
goes_on z line h (y ∷ q) (x ∷ p) a b l m w =
    elim (cases_lt (length p) (length q)) [
      | inl longer ↦ let r = goes_on z line h q (x ∷ p) a b.0 l m.0 (omega arith) in (y ∷ r.0, ap (λ v. y ∷ v) r.1)
      | inr short ↦
          let r = goes_on z line h q p a.0 b.0 l.0 m.0 (omega arith) in
          let none : r.0 ≡ [] = nothing r.0 (omega (arith, ap length r.1, length-append r.0 p)) in
          let same : q ≡ p = r.1 ∙ ap (λ v. v ++ p) none in
          let first : y ≡ x = same_entry z line h p y x (subst (λ v. Begins z line h (y ∷ v)) same b) a (subst (λ v. IsLegal z ((y ∷ v) ++ h)) same m) l in
          ([], ap (λ v. v ∷ q) first ∙ ap (λ v. x ∷ v) same)
    ]

-- a beginning that goes on has a next operation
has_next : (z : Start) (line : Line) (h p r : List Entry) (x : Entry) → Begins z line h ((x ∷ r) ++ p) → (o : Op) × (line.next z h p ≡ Some o)
has_next z line h p [] x b = (x.op, b.2)
has_next z line h p (y ∷ r) x b = has_next z line h p r y b.0

-- a whole part does not go on
ended : (z : Start) (line : Line) (h p q : List Entry) → IsPart z line h p → Begins z line h q → (r : List Entry) → q ≡ r ++ p → q ≡ p
ended z line h p q a b [] e = e
ended z line h p q a b (x ∷ r) e = let n = has_next z line h p r x (subst (Begins z line h) e b) in let k : Some n.0 ≡ None = sym n.1 ∙ a.ends in absurd cc

-- of two parts that are all of a line the two are one
one_part : (z : Start) (line : Line) (h p q : List Entry) → IsPart z line h p → IsPart z line h q → IsLegal z (p ++ h) → IsLegal z (q ++ h) → q ≡ p
one_part z line h p q a b l m =
    elim (cases_lt (length q) (length p)) [
      | inl shorter ↦ let r = goes_on z line h p q b.begins a.begins m l (omega arith) in sym (ended z line h q p b a.begins r.0 r.1)
      | inr longer ↦ let r = goes_on z line h q p a.begins b.begins l m longer in ended z line h p q a b.begins r.0 r.1
    ]

-- a beginning of a line's entries is a beginning of all of them
pub begins_part : (z : Start) (line : Line) (h p q : List Entry) → IsPart z line h p → Begins z line h q → IsLegal z (p ++ h) → IsLegal z (q ++ h) → (r : List Entry) × (p ≡ r ++ q)
begins_part z line h p q a b l m =
    elim (cases_lt (length p) (length q)) [
      | inl shorter ↦ let r = goes_on z line h q p a.begins b l m (omega arith) in ([], sym (ended z line h p q a b r.0 r.1))
      | inr longer ↦ goes_on z line h p q b a.begins m l longer
    ]

-- an account before later entries of a legal one is legal
pub legal_before : (z : Start) (p h : List Entry) → IsLegal z (p ++ h) → IsLegal z h
legal_before z [] h l = l
legal_before z (x ∷ p) h l = legal_before z p h l.0

-- no two legal accounts follow the same lines
pub one_account : OneAccount
one_account z [] h g l m f k = f ∙ sym k
one_account z (line ∷ lines) h g l m (before, part, e, rest, whole) (before', part', e', rest', whole') =
    let lp = subst (IsLegal z) e l in
    let mp = subst (IsLegal z) e' m in
    let same : before ≡ before' = one_account z lines before before' (legal_before z part before lp) (legal_before z part' before' mp) rest rest' in
    let whole_at : IsPart z line before part' = subst (λ v. IsPart z line v part') (sym same) whole' in
    let mp_at : IsLegal z (part' ++ before) = subst (λ v. IsLegal z (part' ++ v)) (sym same) mp in
    let parts : part' ≡ part = one_part z line before part part' whole whole_at lp mp_at in
    e ∙ ap (λ v. v ++ before) (sym parts) ∙ ap (λ v. part' ++ v) same ∙ sym e'
