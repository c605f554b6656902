-- The account of more lines goes on from the account of these.
use Rattle.std.proofs.Common.{◌≡◌, List, [], ◌∷◌, ◌++◌, sym, ◌∙◌, ap, subst, append_assoc}
use Rattle.xv_model.specs.declared.entries.Entry.{Entry}
use Rattle.xv_model.specs.account.Start.{Start}
use Rattle.xv_model.specs.account.Legal.{IsLegal}
use Rattle.xv_model.specs.account.Scripts.{Line, Begins, IsPart, Follows, IsBeginning}
use Rattle.xv_model.proofs.Beginnings.{all, after, legal_beginning}
use Rattle.xv_model.proofs.OneAccount.{one_account, begins_part, legal_before}

-- the account of more lines has a beginning that follows these lines
split : (z : Start) (more lines : List Line) (h : List Entry) → Follows z (more ++ lines) h → (before : List Entry) × Follows z lines before × IsBeginning before h
split z [] lines h f = (h, f, all h)
split z (line ∷ more) lines h (before, part, e, rest, whole) =
    let r = split z more lines before rest in
    (r.0, r.1, subst (IsBeginning r.0) (sym e) (after part r.0 before r.2))

-- whatever legal account follows more lines, the legal account of these is a beginning of it
pub more_lines : (z : Start) (more lines : List Line) (g h : List Entry) → Follows z lines g → IsLegal z g → Follows z (more ++ lines) h → IsLegal z h → IsBeginning g h
more_lines z more lines g h f l k m =
    let r = split z more lines h k in
    subst (λ v. IsBeginning v h) (one_account z lines r.0 g (legal_beginning z r.0 h r.2 m) l r.1 f) r.2

-- the same of an account that goes on with some entries of the next line
pub more_entries : (z : Start) (more lines : List Line) (line : Line) (g q h : List Entry) → Follows z lines g → Begins z line g q → IsLegal z (q ++ g) → Follows z (more ++ line ∷ lines) h → IsLegal z h → IsBeginning (q ++ g) h
more_entries z more lines line g q h f b l k m = by (split z more (line ∷ lines) h k)
  where
    by : (before : List Entry) × Follows z (line ∷ lines) before × IsBeginning before h → IsBeginning (q ++ g) h
    by (before, (before', part, e, rest, whole), beginning) =
        let legal = subst (IsLegal z) e (legal_beginning z before h beginning m) in
        let same : before' ≡ g = one_account z lines before' g (legal_before z part before' legal) (legal_before z q g l) rest f in
        let whole_at = subst (λ v. IsPart z line v part) same whole in
        let legal_at = subst (λ v. IsLegal z (part ++ v)) same legal in
        let r = begins_part z line g part q whole_at b legal_at l in
        let is : before ≡ r.0 ++ (q ++ g) = e ∙ ap (λ v. part ++ v) same ∙ ap (λ v. v ++ g) r.1 ∙ append_assoc r.0 q g in
        record { later = beginning.later ++ r.0; whole = beginning.whole ∙ ap (λ v. beginning.later ++ v) is ∙ sym (append_assoc beginning.later r.0 (q ++ g)) }
