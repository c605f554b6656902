-- The texts of outcomes.
use Rattle.std.specs.Prelude.{ℕ, ◌==◌, Bool, if◌then◌else◌, List, [], ◌∷◌, ◌++◌, take, codes, decimal, Option, Some, None}
use Rattle.std.specs.Fmt.{signed_decimal}
use Rattle.xv_model.specs.declared.outcomes.Wrote.{Wrote}
use Rattle.xv_model.specs.declared.outcomes.Then.{Then}
use Rattle.xv_model.specs.declared.outcomes.Then.TheVariants.{Coalesced, Silent, Present, Escalate}
use Rattle.xv_model.specs.declared.outcomes.EndRun.{EndRun}
use Rattle.xv_model.specs.declared.outcomes.EndRun.TheVariants.{NoEnd, Ran}
use Rattle.xv_model.specs.declared.outcomes.Routed.{Routed}
use Rattle.xv_model.specs.declared.outcomes.Routed.TheVariants.{NoSource, Masked, Run}
use Rattle.xv_model.specs.declared.outcomes.HReply.{HReply}
use Rattle.xv_model.specs.declared.outcomes.Phase.{Phase}
use Rattle.xv_model.specs.declared.outcomes.Phase.TheVariants.{Saved, Restored, On, Pulled}
use Rattle.xv_model.specs.declared.outcomes.MoveRefused.{MoveRefused}
use Rattle.xv_model.specs.declared.outcomes.MoveRefused.TheVariants.{NotValid, VpBusy, RingBusy, NotPulled, NotRestored, NoContext}
use Rattle.xv_model.specs.declared.outcomes.Presented.{Presented}
use Rattle.xv_model.specs.declared.outcomes.Presented.TheVariants.{Found, Backlogged, Lost, NoProcessor}
use Rattle.xv_model.specs.declared.outcomes.Outcome.{Outcome}
use Rattle.xv_model.specs.declared.outcomes.Outcome.TheVariants as out
use Rattle.account.specs.text.Numbers.{pair_text, hex}
use Rattle.account.specs.text.Operations.{fields_text}

-- a pair before and after
abbrev pub pairs_text : ℕ → ℕ → List ℕ
pairs_text old new = pair_text old ++ codes " " ++ pair_text new

-- the number of a forward; 0 is none
abbrev pub forward_text : ℕ → List ℕ
forward_text n = if n == 0 then [] else codes " forward " ++ decimal n

-- what a pass wrote: the address and the word
abbrev pub wrote_text : Option Wrote → List ℕ
wrote_text None = codes "unwritten"
wrote_text (Some w) = codes "wrote " ++ hex w.addr ++ codes " " ++ hex w.word

-- how a pass goes on
abbrev pub next_text : Then → List ℕ
next_text Coalesced = codes " coalesced"
next_text Silent = codes " silent"
next_text Present = codes " present"
next_text Escalate = codes " escalate"

-- the pass of an END
abbrev pub pass_text : EndRun → List ℕ
pass_text (NoEnd e) = codes "end " ++ decimal e ++ codes " no-end"
pass_text (Ran e wrote next) =
    codes "end " ++ decimal e ++ codes " " ++ wrote_text wrote ++ next_text next

-- what became of a notice
abbrev pub routed_text : Routed → List ℕ
routed_text NoSource = codes "no-source"
routed_text Masked = codes "masked"
routed_text (Run pass) = pass_text pass

-- an output of a reply
abbrev pub output_text : ℕ → List ℕ
output_text n = codes " " ++ hex n

-- the outputs of a reply
abbrev pub outputs_text : List ℕ → List ℕ
outputs_text [] = []
outputs_text (n ∷ ns) = output_text n ++ outputs_text ns

abbrev pub reply_text : HReply → List ℕ
reply_text reply = codes "code " ++ signed_decimal reply.code ++ outputs_text (take reply.outs reply.out)

-- where a processor's context is
abbrev pub phase_text : Phase → List ℕ
phase_text Saved = codes "saved"
phase_text (Restored t) = codes "restored " ++ decimal t
phase_text (On t) = codes "on " ++ decimal t
phase_text (Pulled t) = codes "pulled " ++ decimal t

-- why a move of a context is refused
abbrev pub reason_text : MoveRefused → List ℕ
reason_text NotValid = codes "not-valid"
reason_text (VpBusy phase) = codes "vp-busy " ++ phase_text phase
reason_text (RingBusy v) = codes "ring-busy " ++ decimal v
reason_text (NotPulled phase) = codes "not-pulled " ++ phase_text phase
reason_text (NotRestored phase) = codes "not-restored " ++ phase_text phase
reason_text NoContext = codes "no-context"

-- what became of a presentation
abbrev pub presented_text : Presented → List ℕ
presented_text Found = codes "found"
presented_text Backlogged = codes "backlogged"
presented_text Lost = codes "lost"
presented_text NoProcessor = codes "no-processor"

-- the presentation of a priority to processor v: what became of it, and whether it escalates
abbrev pub presentation_text : ℕ → ℕ → Presented → Bool → List ℕ
presentation_text v priority presented escalates =
    codes "present " ++ decimal v ++ codes " " ++ decimal priority ++ codes " " ++ presented_text presented
    ++ (if escalates then codes " escalate" else [])

-- what became of an escalation to END e: no pass where its state coalesced it
abbrev pub escalated_text : ℕ → Option EndRun → List ℕ
escalated_text e None = codes "escalate " ++ decimal e ++ codes " coalesced"
escalated_text e (Some pass) = codes "escalate " ++ decimal e ++ codes " " ++ pass_text pass

-- what of a source is still on its way: notices and messages
abbrev pub busy_text : ℕ → ℕ → List ℕ
busy_text notices messages = codes "busy " ++ decimal notices ++ codes " " ++ decimal messages

-- an outcome
abbrev pub outcome_text : Outcome → List ℕ
outcome_text (out.Pq old new forward) = pairs_text old new ++ forward_text forward
outcome_text out.Spent = codes "spent"
outcome_text out.Ones = codes "ones"
outcome_text out.BadOffset = codes "bad-offset"
outcome_text (out.EndPq old new) = pairs_text old new
outcome_text out.NoEnd = codes "no-end"
outcome_text out.NoNotice = codes "no-notice"
outcome_text out.BusFull = codes "bus-full"
outcome_text (out.Routed k routed) = decimal k ++ codes " " ++ routed_text routed
outcome_text out.Fine = codes "ok"
outcome_text (out.Reply reply) = reply_text reply
outcome_text (out.Item payload) = codes "item " ++ hex payload
outcome_text out.Empty = codes "empty"
outcome_text out.NoQueue = codes "no-queue"
outcome_text (out.Cell word) = codes "word " ++ hex word
outcome_text out.BadRange = codes "bad-range"
outcome_text out.NoMessage = codes "no-message"
outcome_text (out.Present v priority presented escalates) = presentation_text v priority presented escalates
outcome_text (out.Escalated e pass) = escalated_text e pass
outcome_text out.Quiet = codes "quiet"
outcome_text (out.Busy notices messages) = busy_text notices messages
outcome_text (out.Refused reason) = codes "refused " ++ reason_text reason
outcome_text (out.Value value) = codes "value " ++ hex value
outcome_text out.Stored = codes "stored"
outcome_text out.BadAccess = codes "bad-access"
outcome_text (out.Code code) = codes "code " ++ signed_decimal code
outcome_text (out.Queue eq) = codes "queue " ++ fields_text eq
outcome_text (out.Context cppr ipb) = codes "context " ++ hex cppr ++ codes " " ++ hex ipb
