-- Entries that configure an END, and what the tables represent then.
use Rattle.std.proofs.Common.{ℕ, ◌≡◌, ◌<◌, ◌*◌, ◌==◌, Bool, true, false, if◌then◌else◌, List, ◌∷◌, Some, None, refl, sym, ◌∙◌, ap, subst, arith, slice_set, slice_get}
use Rattle.std.proofs.lemmas.List.{append-nil}
use Rattle.std.specs.Option.{option_map_or}
use Rattle.xv_base.specs.Limits.{ends_per_processor}
use Rattle.xv_model.specs.declared.operations.EndConfig.{EndConfig}
use Rattle.xv_model.specs.declared.operations.Op.TheVariants as op
use Rattle.xv_model.specs.declared.outcomes.Outcome.TheVariants as out
use Rattle.xv_model.specs.declared.entries.Entry.{Entry}
use Rattle.xv_model.specs.account.Start.{Start}
use Rattle.xv_model.specs.route.Flight.{flight}
use Rattle.xv_model.proofs.Elements.{at_same, at_other, set_gives}
use Rattle.end_queue.specs.declared.ends.EndRecord.{EndRecord}
use Rattle.end_queue.specs.Accounts.{record_of}
use Rattle.end_queue.specs.Ends.{configured}
use Rattle.end_queue.proofs.Entering.{after_set}
use Rattle.router.specs.Tables.{Kept, StandsFor}

abbrev pub end_set : ℕ → ℕ → EndConfig → Entry
end_set actor e c = record { actor = actor; op = op.EndSet e c; outcome = out.Fine }

told : (z : Start) (h : List Entry) (e actor j : ℕ) (c : EndConfig) →
    record_of z (end_set actor e c ∷ h) j ≡ (if e == j then configured c else record_of z h j)
told z h e actor j c = after_set z h actor e c j ∙ by (e == j)
  where
    by : (same : Bool) → option_map_or configured (if same then Some c else None) (record_of z h j)
        ≡ (if same then configured c else record_of z h j)
    by true = refl
    by false = refl

-- the ENDs become those of which e is what a configuration makes of an END
pub configured_stands : (t : Kept) (z : Start) (h : List Entry) (e actor : ℕ) (c : EndConfig)
    (ends : List EndRecord) → StandsFor t z h → e < ends_per_processor * t.board.limits.processors → ends ≡ slice_set t.ends e (configured c) →
    StandsFor (record {
      board = t.board;
      eases = t.eases;
      routes = t.routes;
      ends = ends;
      messages = t.messages;
    }) z (end_set actor e c ∷ h)
configured_stands t z h e actor c ends st l is = record {
  board = st.board;
  eases = st.eases;
  routes = λ q l. st.routes q l ∙ ap Some (omega arith);
  ends = λ j below. ap (λ (es : List EndRecord). slice_get es j) is
      ∙ set_gives t.ends e (ends_per_processor * z.board.limits.processors) (configured c)
      (record_of z h) (record_of z (end_set actor e c ∷ h)) st.ends
      (subst (λ b. e < ends_per_processor * b.limits.processors) st.board l)
      (sym (told z h e actor e c ∙ at_same e (configured c) (record_of z h e)))
      (λ j other. told z h e actor j c ∙ at_other e j (configured c) (record_of z h j) other) j below;
  messages = st.messages ∙ sym (append-nil (flight z h));
}
