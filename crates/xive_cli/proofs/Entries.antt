-- One more entry of a work line.
use Rattle.std.proofs.Common.{ℕ, ◌≡◌, ◌<◌, ◌≤◌, List, [], ◌∷◌, ◌++◌, Option, Some, true, refl, sym, ◌∙◌, ap, subst, arith}
use Rattle.xv_model.specs.declared.board.Board.{Board}
use Rattle.xv_model.specs.declared.operations.Op.{Op}
use Rattle.xv_model.specs.declared.outcomes.Outcome.{Outcome}
use Rattle.xv_model.specs.declared.entries.Entry.{Entry}
use Rattle.xv_model.specs.account.Start.{Start}
use Rattle.xv_model.specs.account.Burden.{burden}
use Rattle.xv_model.specs.account.Fit.{IsFitStart}
use Rattle.xv_model.specs.account.Index.{next_index}
use Rattle.xv_model.specs.account.Legal.{IsLegal, legal}
use Rattle.xv_model.specs.board.Validity.{valid}
use Rattle.account.specs.text.Entry.{entry_line}
use Rattle.machine.proofs.Burdens.{burden_of-is}
use Rattle.machine.specs.Machine.{Held, StandsFor, burden_of}
use Rattle.board_script.specs.declared.work.Work.{Work}
use Rattle.board_script.specs.Script.{WorkLine, line_for}
use Rattle.board_script.specs.Lines.{IsWork}
use Rattle.board_script.specs.Work.{next_op, load, Falls}
use Rattle.xive_cli.specs.Output.{Told, Tells, Fails}
use Rattle.xive_cli.specs.Line.{entry_of, TellsEntry, FailsEntry, part_text, IsLegalPart, RunsPart}
use Rattle.xive_cli.proofs.Telling.{tells_nothing, tells_both, fails_after}

-- the line makes this operation next, on the board of the machine
pub record MakesNext (w : WorkLine) (m : Held) (o : Op) (z : Start) (before part : List Entry) : Type 0 where
  pub next : next_op w.work z before part ≡ Some o
  pub actor : w.actor < m.fabric.tables.board.limits.actors
  pub valid_op : valid m.fabric.tables.board o ≡ true

-- an entry of the operation that is legal next goes on with the line
goes_legally : (w : WorkLine) (m : Held) (o : Op) (outcome : Outcome) (z : Start) (before part : List Entry) → IsLegalPart z (line_for w) before part → StandsFor m z (part ++ before) → MakesNext w m o z before part →
    outcome ≡ legal z (part ++ before) o → IsLegalPart z (line_for w) before (entry_of w.actor o outcome ∷ part)
goes_legally w m o outcome z before part p st n e = record {
  begins = (p.begins, refl, n.next);
  legal = (
    p.legal,
    record {
      actor = subst (λ (b : Board). w.actor < b.limits.actors) st.parts.fabric.tables.board n.actor;
      valid_op = subst (λ (b : Board). valid b o ≡ true) st.parts.fabric.tables.board n.valid_op;
      outcome = e;
    },
  );
}

-- no entry of a line was made yet
pub runs_none : (w : WorkLine) (m : Held) (t : Told) (z : Start) (before : List Entry) → StandsFor m z before → IsLegal z before → RunsPart w m t t z before []
runs_none w m t z before st legal = record { is_part = record { begins = tt; legal = legal }; stands = st; tells = tells_nothing t }

-- a line that has begun makes its first operation next
pub makes_first : (w : WorkLine) (o : Op) (m : Held) (z : Start) (before : List Entry) → Some o ≡ next_op w.work z before [] → valid m.fabric.tables.board o ≡ true → IsWork m.fabric.tables.board w.actor w.work → MakesNext w m o z before []
makes_first w o m z before next v is = record { next = sym next; actor = is.actor_is; valid_op = v }

-- one more entry was made, and its line was told
pub entry_ran : (w : WorkLine) (m m' : Held) (o : Op) (outcome : Outcome) (t0 t t' : Told) (z : Start) (before part : List Entry) → RunsPart w m t0 t z before part → MakesNext w m o z before part →
    TellsEntry m t (entry_of w.actor o outcome) m' t' → RunsPart w m' t0 t' z before (entry_of w.actor o outcome ∷ part)
entry_ran w m m' o outcome t0 t t' z before part r n e = record {
  is_part = goes_legally w m o outcome z before part r.is_part r.stands n (e.makes.outcome z (part ++ before) r.stands);
  stands = e.makes.stands z (part ++ before) r.stands;
  tells = tells_both t0 t t' (part_text z before part) (entry_line (next_index z (part ++ before)) (entry_of w.actor o outcome)) r.tells
      (subst (λ i. Tells t (entry_line i (entry_of w.actor o outcome)) t') r.stands.index e.tells);
}

-- one more entry was made, and the sink failed at its line
pub entry_failed : (w : WorkLine) (m m' : Held) (o : Op) (t0 t t' : Told) (z : Start) (before part : List Entry) → t0.faults ≤ t.faults → RunsPart w m t0 t z before part → MakesNext w m o z before part →
    FailsEntry m t w.actor o m' t' → (part : List Entry) × IsLegalPart z (line_for w) before part × Fails t0 (part_text z before part) t'
entry_failed w m m' o t0 t t' z before part l r n f = (
  entry_of w.actor o f.outcome ∷ part,
  goes_legally w m o f.outcome z before part r.is_part r.stands n (f.makes.outcome z (part ++ before) r.stands),
  fails_after t0 t t' (part_text z before part) (entry_line (next_index z (part ++ before)) (entry_of w.actor o f.outcome)) l r.tells
      (subst (λ i. Fails t (entry_line i (entry_of w.actor o f.outcome)) t') r.stands.index f.fails),
)

-- each entry brings the load of the line down
pub load_falls : (w : WorkLine) (going going' : Work) (last : Option Outcome) (m m' : Held) (o : Op) (outcome : Outcome) (t0 t t' : Told) (z : Start) (before part : List Entry) → RunsPart w m t0 t z before part → MakesNext w m o z before part →
    TellsEntry m t (entry_of w.actor o outcome) m' t' → IsFitStart z → Falls going going' last z (part ++ before) o → load going' (Some outcome) (burden_of m') < load going last (burden_of m)
load_falls w going going' last m m' o outcome t0 t t' z before part r n e fit falls =
    let x = entry_of w.actor o outcome in
    let ran = entry_ran w m m' o outcome t0 t t' z before part r n e in
    subst (λ b. load going' (Some outcome) b < load going last (burden_of m)) (sym (burden_of-is m' z (x ∷ (part ++ before)) ran.stands))
    (subst (λ b. load going' (Some outcome) (burden z (x ∷ (part ++ before))) < load going last b) (sym (burden_of-is m z (part ++ before) r.stands)) (falls fit x refl ran.is_part.legal))

-- a line that makes an operation had some load
pub some_load : (w : WorkLine) (going going' : Work) (last : Option Outcome) (m : Held) (o : Op) (t0 t : Told) (z : Start) (before part : List Entry) → RunsPart w m t0 t z before part → MakesNext w m o z before part →
    IsFitStart z → Falls going going' last z (part ++ before) o → 0 < load going last (burden_of m)
some_load w going going' last m o t0 t z before part r n fit falls =
    let x = entry_of w.actor o (legal z (part ++ before) o) in
    let p = goes_legally w m o (legal z (part ++ before) o) z before part r.is_part r.stands n refl in
    let less = subst (λ b. load going' (Some x.outcome) (burden z (x ∷ (part ++ before))) < load going last b) (sym (burden_of-is m z (part ++ before) r.stands)) (falls fit x refl p.legal) in
    omega (arith, less)

pub entry_is : (x : Entry) (actor : ℕ) (o : Op) → x.actor ≡ actor → x.op ≡ o → entry_of actor o x.outcome ≡ x
entry_is x actor o a e = ap (λ v. entry_of v o x.outcome) (sym a) ∙ ap (λ v. entry_of x.actor v x.outcome) (sym e)
