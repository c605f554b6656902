-- What an entry makes of what an account gives for an END.
use Rattle.std.proofs.Common.{ℕ, ℤ, ◌≡◌, ◌+◌, List, [], ◌∷◌, ◌++◌, length, Option, Some, None, refl, sym, ◌∙◌, ap, slice_get}
use Rattle.std.proofs.lemmas.List.{append-nil}
use Rattle.std.specs.Option.{option_map_or}
use Rattle.xv_model.specs.declared.operations.AttrValue.{AttrValue}
use Rattle.xv_model.specs.declared.operations.EndConfig.{EndConfig}
use Rattle.xv_model.specs.declared.operations.Op.TheVariants as op
use Rattle.xv_model.specs.declared.outcomes.HReply.{HReply}
use Rattle.xv_model.specs.declared.outcomes.Outcome.TheVariants as out
use Rattle.xv_model.specs.declared.entries.Entry.{Entry}
use Rattle.xv_model.specs.account.Start.{Start}
use Rattle.xv_model.specs.end.Descriptors.{end_config, until_config, config_by}
use Rattle.xv_model.specs.end.EventStates.{esn, ese, first_state}
use Rattle.xv_model.specs.end.Written.{written}
use Rattle.xv_model.specs.end.Reading.{taken}
use Rattle.end_queue.specs.declared.ends.EndRecord.{EndRecord}
use Rattle.end_queue.specs.Accounts.{StandsFor, record_of}
use Rattle.end_queue.specs.Ends.{configured}

-- an END after these were written for it, and these were taken
abbrev pub record_by : Start → List Entry → ℕ → List ℕ → List ℕ → EndRecord
record_by z h e ws ts = record {
  config = end_config z h e;
  written = length ws + until_config (z.written_count e) h e;
  taken = length ts + until_config (z.taken_count e) h e;
  esn = esn z h e;
  ese = ese z h e;
}

-- an END into whose queue nothing more is written, and from which nothing more is taken
pub nothing_entered : (z : Start) (h : List Entry) (e : ℕ) → record_by z h e (written z h e ++ []) (taken h e ++ []) ≡ record_of z h e
nothing_entered z h e = λ i. record_by z h e (append-nil (written z h e) i) (append-nil (taken h e) i)

-- an END that is told this, if anything, by an entry that does nothing else
abbrev told_by : Start → List Entry → ℕ → Option EndConfig → EndRecord
told_by z h e m = record {
  config = option_map_or (λ c. c) m (end_config z h e);
  written = length (option_map_or (λ c. []) m (written z h e ++ [])) + option_map_or (λ c. 0) m (until_config (z.written_count e) h e);
  taken = length (option_map_or (λ c. []) m (taken h e ++ [])) + option_map_or (λ c. 0) m (until_config (z.taken_count e) h e);
  esn = option_map_or first_state m (esn z h e);
  ese = option_map_or first_state m (ese z h e);
}

told : (z : Start) (h : List Entry) (e : ℕ) (m : Option EndConfig) → told_by z h e m ≡ option_map_or configured m (record_of z h e)
told z h e (Some c) = refl
told z h e None = nothing_entered z h e

-- an END after it was set, after a hypercall, and after an attribute was set: it is configured as they tell it, where they do
pub after_set : (z : Start) (h : List Entry) (actor end : ℕ) (c : EndConfig) (e : ℕ) →
    let x : Entry = record { actor = actor; op = op.EndSet end c; outcome = out.Fine } in record_of z (x ∷ h) e ≡ option_map_or configured (config_by e x) (record_of z h e)
after_set z h actor end c e = told z h e (config_by e (record { actor = actor; op = op.EndSet end c; outcome = out.Fine }))

pub after_call : (z : Start) (h : List Entry) (actor number : ℕ) (args : List ℕ) (r : HReply) (e : ℕ) →
    let x : Entry = record { actor = actor; op = op.Hcall number args; outcome = out.Reply r } in record_of z (x ∷ h) e ≡ option_map_or configured (config_by e x) (record_of z h e)
after_call z h actor number args r e = told z h e (config_by e (record { actor = actor; op = op.Hcall number args; outcome = out.Reply r }))

pub after_setting : (z : Start) (h : List Entry) (actor group number : ℕ) (value : AttrValue) (code : ℤ) (e : ℕ) →
    let x : Entry = record { actor = actor; op = op.AttrSet group number value; outcome = out.Code code } in record_of z (x ∷ h) e ≡ option_map_or configured (config_by e x) (record_of z h e)
after_setting z h actor group number value code e = told z h e (config_by e (record { actor = actor; op = op.AttrSet group number value; outcome = out.Code code }))

-- the entry changes each END by a rule
pub each_stands : (ends ends' : List EndRecord) (z : Start) (h : List Entry) (x : Entry) (rule : ℕ → EndRecord → EndRecord) → StandsFor ends z h →
    ((e : ℕ) (r : EndRecord) → slice_get ends e ≡ Some r → slice_get ends' e ≡ Some (rule e r)) → ((e : ℕ) → record_of z (x ∷ h) e ≡ rule e (record_of z h e)) → StandsFor ends' z (x ∷ h)
each_stands ends ends' z h x rule before each is e l = each e (record_of z h e) (before e l) ∙ ap Some (sym (is e))
