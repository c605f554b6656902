-- What follows a hypercall on its line.
use Rattle.std.proofs.Common.{ℕ, ℤ, ◌≡◌, ◌-◌, nat_lt, Bool, true, false, if◌then◌else◌, List, [], ◌∷◌, Option, Some, None, refl, sym, ◌∙◌, ap, subst, arith}
use Rattle.std.proofs.lemmas.Bool.{and_parts}
use Rattle.std.specs.Option.{option_map_or}
use Rattle.xv_model.specs.declared.hypercalls.Call.{Call}
use Rattle.xv_model.specs.declared.hypercalls.Call.TheVariants as call
use Rattle.xv_model.specs.declared.hypercalls.codes.TheConstants.{H_SUCCESS, H_PARAMETER, H_P2, H_P3, H_FUNCTION}
use Rattle.xv_model.specs.declared.hypercalls.flags.TheConstants.{ESB_STORE}
use Rattle.xv_model.specs.declared.hypercalls.arguments.EsbArgs.{EsbArgs}
use Rattle.xv_model.specs.declared.hypercalls.arguments.ResetArgs.{ResetArgs}
use Rattle.xv_model.specs.declared.hypercalls.arguments.SyncArgs.{SyncArgs}
use Rattle.xv_model.specs.declared.outcomes.HReply.{HReply}
use Rattle.xv_model.specs.declared.outcomes.Outcome.TheVariants as out
use Rattle.xv_model.specs.declared.operations.Op.TheVariants as op
use Rattle.xv_model.specs.declared.pages.TheConstants.{PAGE_SIZE}
use Rattle.xv_model.specs.declared.entries.Entry.{Entry}
use Rattle.xv_model.specs.account.Start.{Start}
use Rattle.xv_model.specs.account.Legal.{IsNext, legal}
use Rattle.xv_model.specs.call.Accepted.{is_success, call_in}
use Rattle.xv_model.specs.call.Arguments.{call_of}
use Rattle.xv_model.specs.call.Checks.{code_of, checks, are_within, is_source}
use Rattle.xv_model.specs.call.Hypercalls.{reply_with, call_reply, hcall_reply}
use Rattle.xv_model.specs.source.Eas.{initialised}
use Rattle.board_script.specs.declared.steps.Then.{Then}
use Rattle.board_script.specs.declared.steps.Then.TheVariants.{Done, Route, Take, Sync, Drain, Esb, Reset, Init}
use Rattle.board_script.specs.Steps.{first_from, resets, setting_off, op_after}
use Rattle.board_script.specs.Work.{with_then, next_op}
use Rattle.board_script.specs.Calling.{then_called, calls, IsAccepted}
use Rattle.board_script.specs.Accepted.{first_after, EachAcceptedGoesOn, EachRefusedEnds}

-- a check of an accepted call holds, and so do those after it
passes : (b : Bool) (rest code : ℤ) → is_success code ≡ false → is_success (if b then rest else code) ≡ true → (b ≡ true) × (is_success rest ≡ true)
passes true rest code fails e = (refl, e)
passes false rest code fails e = cc

-- an accepted H_INT_ESB names a source of the board, and an offset on a page
esb_passes : (z : Start) (h : List Entry) (c : EsbArgs) → is_success (code_of (checks z h (call.Esb c))) ≡ true → (nat_lt c.lisn z.board.limits.sources ≡ true) × (nat_lt c.offset PAGE_SIZE ≡ true)
esb_passes z h c e =
    let flags = passes (are_within ESB_STORE c.flags) _ H_PARAMETER refl e in
    let source = passes (is_source z h c.lisn) _ H_P2 refl flags.1 in
    let offset = passes (nat_lt c.offset PAGE_SIZE) H_SUCCESS H_P3 refl source.1 in
    ((and_parts (nat_lt c.lisn z.board.limits.sources) (initialised z h c.lisn) source.0).0, offset.0)

-- and so does H_INT_SYNC
sync_passes : (z : Start) (h : List Entry) (c : SyncArgs) → is_success (code_of (checks z h (call.Sync c))) ≡ true → nat_lt c.lisn z.board.limits.sources ≡ true
sync_passes z h c e =
    let flags = passes (are_within 0 c.flags) _ H_PARAMETER refl e in
    let source = passes (is_source z h c.lisn) H_SUCCESS H_P2 refl flags.1 in
    (and_parts (nat_lt c.lisn z.board.limits.sources) (initialised z h c.lisn) source.0).0

-- what follows a call whose checks hold
after_call : (z : Start) (before h : List Entry) (c : Call) (reply : HReply) → is_success (code_of (checks z before c)) ≡ true → is_success reply.code ≡ true →
    op_after (then_called z.board c) 0 z h (out.Reply reply) ≡ first_after z h c
after_call z before h (call.Esb c) reply holds accepted = let p = esb_passes z before c holds in rw (p.0, p.1) (rw accepted refl)
after_call z before h (call.Sync c) reply holds accepted = let p = sync_passes z before c holds in rw p (rw accepted refl)
after_call z before h (call.Reset c) reply holds accepted =
    let n = z.board.limits.sources in
    let all : n - 0 ≡ n = omega arith in
    rw accepted (ap (λ k. setting_off (first_from (resets z h) 0 k)) all)
after_call z before h _ reply holds accepted = refl

-- a reply that is accepted is that of a call whose checks hold
accepted_by : (b : Bool) (m : Option Call) (c : Call) → (if b then m else None) ≡ Some c → (b ≡ true) × (m ≡ Some c)
accepted_by true m c e = (refl, e)
accepted_by false m c e = cc

replied : (z : Start) (h : List Entry) (m : Option Call) (c : Call) → m ≡ Some c → (option_map_or (call_reply z h) m (reply_with H_FUNCTION [])).code ≡ code_of (checks z h c)
replied z h m c e = ap (λ m. (option_map_or (call_reply z h) m (reply_with H_FUNCTION [])).code) e

-- the entry of a hypercall, as what is replied to it
entry_is : (z : Start) (h : List Entry) (x : Entry) (number : ℕ) (args : List ℕ) → x.op ≡ op.Hcall number args → IsNext z h x → x ≡ record { actor = x.actor; op = op.Hcall number args; outcome = out.Reply (hcall_reply z h number args) }
entry_is z h x number args e n =
    ap (λ p. record { actor = x.actor; op = p; outcome = x.outcome }) e ∙ ap (λ u. record { actor = x.actor; op = op.Hcall number args; outcome = u }) (n.outcome ∙ ap (legal z h) e)

called : (z : Start) (before : List Entry) (actor number : ℕ) (args : List ℕ) (c : Call) →
    let x : Entry = record { actor = actor; op = op.Hcall number args; outcome = out.Reply (hcall_reply z before number args) } in
    call_in x.op x.outcome ≡ Some c → next_op (calls z.board number args) z before (x ∷ []) ≡ first_after z (x ∷ before) c
called z before actor number args c e =
    let reply = hcall_reply z before number args in
    let x : Entry = record { actor = actor; op = op.Hcall number args; outcome = out.Reply reply } in
    let a = accepted_by (is_success reply.code) (call_of number args) c e in
    let holds = sym (ap is_success (replied z before (call_of number args) c a.1)) ∙ a.0 in
    ap (λ m. op_after (option_map_or (then_called z.board) m Done) 0 z (x ∷ before) (out.Reply reply)) a.1 ∙ after_call z before (x ∷ before) c reply holds a.0

pub each_accepted_goes_on : EachAcceptedGoesOn
each_accepted_goes_on z before x number args c n e accepted =
    let same = entry_is z before x number args e n in
    subst (λ y. next_op (calls z.board number args) z before (y ∷ []) ≡ first_after z (y ∷ before) c) (sym same) (called z before x.actor number args c (subst (λ (y : Entry). call_in y.op y.outcome ≡ Some c) same accepted))

-- the checks of an accepted call hold
holds : (z : Start) (h : List Entry) (number : ℕ) (args : List ℕ) (c : Call) → IsAccepted z h number args c → is_success (code_of (checks z h c)) ≡ true
holds z h number args c a = sym (ap is_success (replied z h (call_of number args) c a.names)) ∙ a.succeeds

-- the entry of an accepted call is one
pub accepted_in : (z : Start) (h : List Entry) (number : ℕ) (args : List ℕ) (c : Call) → IsAccepted z h number args c → call_in (op.Hcall number args) (out.Reply (hcall_reply z h number args)) ≡ Some c
accepted_in z h number args c a = rw a.succeeds a.names

-- the line of an accepted H_INT_SYNC brings its source to rest
pub sync_called : (z : Start) (h : List Entry) (number : ℕ) (args : List ℕ) (c : SyncArgs) → IsAccepted z h number args (call.Sync c) → calls z.board number args ≡ with_then (op.Hcall number args) (Sync c.lisn)
sync_called z h number args c a =
    let source = sync_passes z h c (holds z h number args (call.Sync c) a) in
    ap (λ m. with_then (op.Hcall number args) (option_map_or (then_called z.board) m Done)) a.names ∙ rw source refl

-- the line of H_INT_RESET resets each source
pub reset_called : (z : Start) (h : List Entry) (number : ℕ) (args : List ℕ) (c : ResetArgs) → IsAccepted z h number args (call.Reset c) → calls z.board number args ≡ with_then (op.Hcall number args) (Reset 0 z.board.limits.sources)
reset_called z h number args c a = ap (λ m. with_then (op.Hcall number args) (option_map_or (then_called z.board) m Done)) a.names

-- no line goes on after a call that was refused
ends_after : (t : Then) (z : Start) (h : List Entry) (reply : HReply) → is_success reply.code ≡ false → op_after t 0 z h (out.Reply reply) ≡ None
ends_after Done z h reply refused = refl
ends_after (Route s) z h reply refused = refl
ends_after Take z h reply refused = refl
ends_after (Sync s) z h reply refused = rw refused refl
ends_after (Drain from sources) z h reply refused = rw refused refl
ends_after (Esb s page offset store) z h reply refused = rw refused refl
ends_after (Reset from sources) z h reply refused = rw refused refl
ends_after (Init s asserted) z h reply refused = rw refused refl

pub each_refused_ends : EachRefusedEnds
each_refused_ends z before x number args reply answer refused =
    let t = option_map_or (then_called z.board) (call_of number args) Done in
    ap (op_after t 0 z (x ∷ before)) answer ∙ ends_after t z (x ∷ before) reply refused
