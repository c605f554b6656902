-- The law of hypercalls that are refused.
use Rattle.std.proofs.Common.{ℕ, ◌≡◌, Bool, true, false, if◌then◌else◌, List, [], ◌∷◌, length, Option, Some, None, option_and_then, refl, sym, ◌∙◌, ap, subst}
use Rattle.std.specs.Option.{option_map_or}
use Rattle.xv_model.specs.declared.hypercalls.codes.TheConstants.{H_FUNCTION}
use Rattle.xv_model.specs.declared.hypercalls.Call.{Call}
use Rattle.xv_model.specs.declared.operations.Op.{Op}
use Rattle.xv_model.specs.declared.operations.Op.TheVariants as op
use Rattle.xv_model.specs.declared.outcomes.HReply.{HReply}
use Rattle.xv_model.specs.declared.outcomes.Outcome.{Outcome}
use Rattle.xv_model.specs.declared.outcomes.Outcome.TheVariants as out
use Rattle.xv_model.specs.declared.entries.Entry.{Entry}
use Rattle.xv_model.specs.account.Start.{Start, start}
use Rattle.xv_model.specs.account.Legal.{IsLegal, legal}
use Rattle.xv_model.specs.call.Arguments.{call_of}
use Rattle.xv_model.specs.call.Accepted.{is_success, call_in}
use Rattle.xv_model.specs.device.Accepted.{setting_in}
use Rattle.xv_model.specs.call.Checks.{code_of, checks}
use Rattle.xv_model.specs.call.Outputs.{outputs}
use Rattle.xv_model.specs.call.Hypercalls.{reply_with, call_reply, hcall_reply}
use Rattle.xv_model.specs.end.Descriptors.{configuration_by, config_at}
use Rattle.xv_model.specs.laws.Hypercalls.{EachRefusedDoesNothing}
use Rattle.xv_model.proofs.OneAccount.{legal_before}

-- what isn't accepted has no outputs
bare_by : (accepted : Bool) (shown : List ℕ) → accepted ≡ false → length (if accepted then shown else []) ≡ 0
bare_by true shown refused = cc
bare_by false shown refused = refl

-- a reply that refuses has none
bare : (z : Start) (h : List Entry) (m : Option Call) → is_success (option_map_or (call_reply z h) m (reply_with H_FUNCTION [])).code ≡ false → (option_map_or (call_reply z h) m (reply_with H_FUNCTION [])).outs ≡ 0
bare z h (Some c) refused = bare_by (is_success (code_of (checks z h c))) (outputs z h c) refused
bare z h None refused = refl

-- what is refused isn't an accepted call
refused_call : (o : Op) (u : Outcome) (number : ℕ) (args : List ℕ) (reply : HReply) → o ≡ op.Hcall number args → u ≡ out.Reply reply → is_success reply.code ≡ false → call_in o u ≡ None
refused_call o u number args reply is answer refused = rw (is, answer, refused) refl

-- a hypercall that is refused does nothing
pub refused_does_nothing : EachRefusedDoesNothing
refused_does_nothing b h l before later x number args reply whole is answer refused =
    let z = start b in
    let n = (legal_before z later (x ∷ before) (subst (IsLegal z) whole l)).1 in
    let same : out.Reply reply ≡ out.Reply (hcall_reply z before number args) = sym answer ∙ n.outcome ∙ ap (legal z before) is in
    let replied : reply ≡ hcall_reply z before number args = cc in
    let none = refused_call x.op x.outcome number args reply is answer refused in
    let unset : setting_in x.op x.outcome ≡ None = ap (λ o. setting_in o x.outcome) is in (
      subst (λ r. is_success r.code ≡ false → r.outs ≡ 0) (sym replied) (bare z before (call_of number args)) refused,
      λ s. rw (unset, none) refl,
      λ e. rw is (ap (λ m. config_at e (option_and_then configuration_by m)) (ap (λ o. call_in o x.outcome) (sym is) ∙ none)),
    )
