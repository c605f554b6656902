-- What is refused leaves the parts of a fabric as they were.
use Rattle.std.proofs.Common.{ℕ, ℤ, pos, ◌≡◌, ◌<◌, ◌≤◌, true, false, Result, Ok, Err, OnOk, OnErr, refl, sym, ◌∙◌, ap, inl, inr}
use Rattle.std.specs.Prelude.{◌⊎◌}
use Rattle.std.proofs.lemmas.Bool.{cases_lt}
use Rattle.xv_model.specs.declared.outcomes.HReply.{HReply}
use Rattle.xv_model.specs.declared.outcomes.MoveRefused.{MoveRefused}
use Rattle.xv_model.specs.declared.outcomes.Outcome.{Outcome}
use Rattle.xv_model.specs.declared.outcomes.Outcome.TheVariants.{Code, Fine, Refused, Reply, Value}
use Rattle.xv_model.specs.call.Accepted.{is_success}
use Rattle.fabric_core.specs.Processors.{Parts}

fine_refused : (o : Outcome) (why : MoveRefused) → o ≡ Fine → o ≡ Refused why → ⊥
fine_refused o why fine e = cc

value_refused : (o : Outcome) (cam : ℕ) (why : MoveRefused) → o ≡ Value cam → o ≡ Refused why → ⊥
value_refused o cam why value e = cc

same_parts : (p p' : Parts) → p'.vps ≡ p.vps → p'.rings ≡ p.rings → p' ≡ p
same_parts p p' vps rings = λ i. record { vps = vps i; rings = rings i }

-- a move that answers no more than that it was done
pub kept_move : (p p' : Parts) (r : Result Unit MoveRefused) (o : Outcome) (why : MoveRefused) → OnOk r (o ≡ Fine) → OnErr r (p'.vps ≡ p.vps) → OnErr r (p'.rings ≡ p.rings) → o ≡ Refused why → p' ≡ p
kept_move p p' (Ok u) o why fine vps rings e = absurd (fine_refused o why fine e)
kept_move p p' (Err w) o why fine vps rings e = same_parts p p' vps rings

-- a pull, which answers a CAM word
pub kept_pull : (p p' : Parts) (r : Result ℕ MoveRefused) (o : Outcome) (why : MoveRefused) → ((cam : ℕ) → r ≡ Ok cam → o ≡ Value cam) → OnErr r (p'.vps ≡ p.vps) → OnErr r (p'.rings ≡ p.rings) → o ≡ Refused why → p' ≡ p
kept_pull p p' (Ok cam) o why value vps rings e = absurd (value_refused o cam why (value cam refl) e)
kept_pull p p' (Err w) o why value vps rings e = same_parts p p' vps rings

code_same : (a b : ℤ) → Code a ≡ Code b → a ≡ b
code_same a b e = cc

success_not : true ≡ false → ⊥
success_not e = cc

-- a connection that isn't accepted
pub kept_connect : (p p' : Parts) (o : Outcome) (code : ℤ) (v servers : ℕ) → (v < servers → o ≡ Code (pos 0)) → (servers ≤ v → p' ≡ p) → o ≡ Code code → is_success code ≡ false → p' ≡ p
kept_connect p p' o code v servers accepted refused e fails = by (cases_lt v servers)
  where
    by : (v < servers) ⊎ (servers ≤ v) → p' ≡ p
    by (inl less) = absurd (success_not (ap is_success (code_same (pos 0) code (sym (accepted less) ∙ e)) ∙ fails))
    by (inr past) = refused past

-- the code of an outcome that is one
pub code_fails : (a b : ℤ) → Code a ≡ Code b → is_success b ≡ false → is_success a ≡ false
code_fails a b e fails = ap is_success (code_same a b e) ∙ fails

reply_same : (a b : HReply) → Reply a ≡ Reply b → a ≡ b
reply_same a b e = cc

-- the code of a reply, by what is answered
pub reply_fails : (a b : HReply) → Reply a ≡ Reply b → is_success b.code ≡ false → is_success a.code ≡ false
reply_fails a b e fails = ap (λ (r : HReply). is_success r.code) (reply_same a b e) ∙ fails
