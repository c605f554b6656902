-- What ENDs represent after the entry of a hypercall.
use Rattle.std.proofs.Common.{ℕ, ◌≡◌, Bool, true, false, if◌then◌else◌, List, ◌∷◌, Option, Some, None, refl, ◌∙◌, ap, slice_get}
use Rattle.xv_model.specs.declared.hypercalls.Call.{Call}
use Rattle.xv_model.specs.declared.operations.Op.TheVariants as op
use Rattle.xv_model.specs.declared.outcomes.HReply.{HReply}
use Rattle.xv_model.specs.declared.outcomes.Outcome.TheVariants as out
use Rattle.xv_model.specs.declared.entries.Entry.{Entry}
use Rattle.xv_model.specs.account.Start.{Start}
use Rattle.xv_model.specs.call.Arguments.{call_of}
use Rattle.xv_model.specs.call.Accepted.{is_success}
use Rattle.end_queue.specs.declared.ends.EndRecord.{EndRecord}
use Rattle.end_queue.specs.Accounts.{StandsFor, record_of}
use Rattle.end_queue.proofs.Entering.{after_call, each_stands}
use Rattle.hint_calls.specs.Changes.{accepted_by, end_by_call}

abbrev entry : ℕ → ℕ → List ℕ → HReply → Entry
entry actor number args r = record { actor = actor; op = op.Hcall number args; outcome = out.Reply r }

-- the call of a number that is known, where it is accepted
named : (accepted : Bool) (m : Option Call) (c : Call) → m ≡ Some c → (if accepted then m else None) ≡ (if accepted then Some c else None)
named true m c is = is
named false m c is = refl

-- the ENDs change by a call
pub ends_stand : (ends ends' : List EndRecord) (z : Start) (h : List Entry) (actor number : ℕ) (args : List ℕ) (r : HReply) (c : Call) → call_of number args ≡ Some c →
    ((e : ℕ) (k : EndRecord) → slice_get ends e ≡ Some k → slice_get ends' e ≡ Some (end_by_call (accepted_by r.code c) e k)) → StandsFor ends z h → StandsFor ends' z (entry actor number args r ∷ h)
ends_stand ends ends' z h actor number args r c is each st =
    each_stands ends ends' z h (entry actor number args r) (λ e k. end_by_call (accepted_by r.code c) e k) st each
    (λ e. after_call z h actor number args r e ∙ ap (λ m. end_by_call m e (record_of z h e)) (named (is_success r.code) (call_of number args) c is))
