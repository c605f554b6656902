-- Tables after the entry of a hypercall, or of a setting of the KVM device.
use Rattle.std.proofs.Common.{ℕ, List, ◌∷◌, Some, sym, ◌∙◌, ap, arith}
use Rattle.std.proofs.lemmas.List.{append-nil}
use Rattle.xv_model.specs.declared.eas.Eas.{Eas}
use Rattle.xv_model.specs.declared.operations.AttrValue.{AttrValue}
use Rattle.xv_model.specs.declared.operations.Op.TheVariants as op
use Rattle.xv_model.specs.declared.outcomes.HReply.{HReply}
use Rattle.xv_model.specs.declared.outcomes.Outcome.{Outcome}
use Rattle.xv_model.specs.declared.outcomes.Outcome.TheVariants as out
use Rattle.xv_model.specs.declared.entries.Entry.{Entry}
use Rattle.xv_model.specs.account.Start.{Start}
use Rattle.xv_model.specs.route.Flight.{flight}
use Rattle.eas_table.specs.Table.{StandsFor as EasesStandFor}
use Rattle.end_queue.specs.declared.ends.EndRecord.{EndRecord}
use Rattle.end_queue.specs.Accounts.{StandsFor as EndsStandFor}
use Rattle.router.specs.Tables.{Kept, StandsFor}

abbrev pub entry : ℕ → ℕ → List ℕ → HReply → Entry
entry actor number args r = record { actor = actor; op = op.Hcall number args; outcome = out.Reply r }

-- it routes no notice and makes no message, so they represent the account with it where their EASes and ENDs do
pub called_stands : (t : Kept) (z : Start) (h : List Entry) (actor number : ℕ) (args : List ℕ) (r : HReply) (eases : List Eas) (ends : List EndRecord) → StandsFor t z h →
    EasesStandFor eases z (entry actor number args r ∷ h) → EndsStandFor ends z (entry actor number args r ∷ h) →
    StandsFor (record { board = t.board; eases = eases; routes = t.routes; ends = ends; messages = t.messages }) z (entry actor number args r ∷ h)
called_stands t z h actor number args r eases ends st eases_are ends_are = record {
  board = st.board;
  eases = eases_are;
  routes = λ q l. st.routes q l ∙ ap Some (omega arith);
  ends = ends_are;
  messages = st.messages ∙ sym (append-nil (flight z h));
}

-- so does a setting
pub set_stands : (t : Kept) (z : Start) (h : List Entry) (actor group number : ℕ) (value : AttrValue) (u : Outcome) (eases : List Eas) (ends : List EndRecord) → StandsFor t z h →
    EasesStandFor eases z (record { actor = actor; op = op.AttrSet group number value; outcome = u } ∷ h) → EndsStandFor ends z (record { actor = actor; op = op.AttrSet group number value; outcome = u } ∷ h) →
    StandsFor (record { board = t.board; eases = eases; routes = t.routes; ends = ends; messages = t.messages }) z (record { actor = actor; op = op.AttrSet group number value; outcome = u } ∷ h)
set_stands t z h actor group number value u eases ends st eases_are ends_are = record {
  board = st.board;
  eases = eases_are;
  routes = λ q l. st.routes q l ∙ ap Some (omega arith);
  ends = ends_are;
  messages = st.messages ∙ sym (append-nil (flight z h));
}
