-- Beginnings of accounts.
use Rattle.std.proofs.Common.{List, [], ◌∷◌, ◌++◌, refl, sym, ◌∙◌, ap, subst, append_assoc, append-nil}
use Rattle.xv_model.specs.declared.entries.Entry.{Entry}
use Rattle.xv_model.specs.account.Start.{Start}
use Rattle.xv_model.specs.account.Scripts.{IsBeginning}
use Rattle.xv_model.specs.account.Legal.{IsLegal}
use Rattle.xv_model.proofs.OneAccount.{legal_before}

-- an account is a beginning of itself
pub all : (h : List Entry) → IsBeginning h h
all h = record { later = []; whole = refl }

-- the empty account is a beginning of each one
pub none : (h : List Entry) → IsBeginning [] h
none h = record { later = h; whole = sym (append-nil h) }

-- a beginning of an account is one of the account with one more entry
pub more : (x : Entry) (g h : List Entry) → IsBeginning g h → IsBeginning g (x ∷ h)
more x g h b = record { later = x ∷ b.later; whole = ap (λ v. x ∷ v) b.whole }

-- a beginning of an account is one of the account with later entries
pub after : (later g h : List Entry) → IsBeginning g h → IsBeginning g (later ++ h)
after later g h b = record { later = later ++ b.later; whole = ap (λ v. later ++ v) b.whole ∙ sym (append_assoc later b.later g) }

-- a beginning of a beginning is a beginning
pub trans : (f g h : List Entry) → IsBeginning f g → IsBeginning g h → IsBeginning f h
trans f g h a b = subst (IsBeginning f) (sym b.whole) (after b.later f g a)

-- of a legal account each beginning is legal
pub legal_beginning : (z : Start) (g h : List Entry) → IsBeginning g h → IsLegal z h → IsLegal z g
legal_beginning z g h b l = legal_before z b.later g (subst (IsLegal z) b.whole l)

-- the lemmas by which a search finds a beginning
pub ruleset beginnings = (all, none, more, after, trans)
