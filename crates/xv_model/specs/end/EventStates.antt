-- The states of an END, which coalesce its notifications and its escalations (QEMU's hw/intc/xive.c, xive_router_end_notify).
use Rattle.std.specs.Prelude.{ℕ, ◌==◌, ◌&&◌, ◌||◌, not, Bool, false, if◌then◌else◌, List, [], ◌∷◌, Option, Some, None}
use Rattle.std.specs.Option.{option_map_or}
use Rattle.xv_model.specs.declared.operations.EndConfig.{EndConfig}
use Rattle.xv_model.specs.declared.operations.Op.{Op}
use Rattle.xv_model.specs.declared.operations.Op.TheVariants as op
use Rattle.xv_model.specs.declared.outcomes.EndRun.{EndRun}
use Rattle.xv_model.specs.declared.outcomes.EndRun.TheVariants as run
use Rattle.xv_model.specs.declared.outcomes.Outcome.{Outcome}
use Rattle.xv_model.specs.declared.outcomes.Outcome.TheVariants as out
use Rattle.xv_model.specs.declared.messages.Message.{Message}
use Rattle.xv_model.specs.declared.messages.Message.TheVariants as message
use Rattle.xv_model.specs.declared.entries.Entry.{Entry}
use Rattle.xv_model.specs.account.Start.{Start}
use Rattle.xv_model.specs.account.Kinds.{run_of}
use Rattle.xv_model.specs.source.PqTable.{trigger_row}
use Rattle.xv_model.specs.end.Flags.{always_escalates, is_valid, always_notifies, is_silent}
use Rattle.xv_model.specs.end.Descriptors.{config_by, end_config}
use Rattle.xv_model.specs.route.Flight.{message_in, flight}

-- the state that a configuration gives: 00, or 01 where it makes the END not valid
abbrev pub first_state : EndConfig → ℕ
first_state c = if is_valid c then 0 else 1

-- whether a pass is of e, which was valid
abbrev pub ran_at : ℕ → Option EndRun → Bool
ran_at e (Some (run.Ran end wrote next)) = end == e
ran_at e _ = false

-- whether an END with this configuration asks its state before it notifies
abbrev pub asks_state : EndConfig → Bool
asks_state c = not (is_silent c || always_notifies c)

-- a load of a page of an END: what it made of the state that the page is of
pub record Load : Type 0 where
  pub end : ℕ
  pub page : ℕ
  pub new : ℕ

-- the load, where an entry is one that found a valid END
abbrev pub load_in : Op → Outcome → Option Load
load_in (op.EndEsb e page offset store) (out.EndPq old new) = Some (record { end = e; page = page; new = new })
load_in _ _ = None

-- what a load made of the state of e that a page is of, where it is one of that page
abbrev pub load_at : ℕ → ℕ → Option Load → Option ℕ
load_at page e (Some l) = if (l.page == page) && (l.end == e) then Some l.new else None
load_at page e None = None

-- what an entry made of the state of e that a page is of, where it loaded it
abbrev pub load_by : ℕ → ℕ → Entry → Option ℕ
load_by page e x = load_at page e (load_in x.op x.outcome)

-- the state of notifications (ESn): each pass that asks it triggers it, and each load of page 0 changes it
abbrev pub esn : Start → List Entry → ℕ → ℕ
esn z [] e = z.esn e
esn z (x ∷ h) e =
    let before = esn z h e in
    let triggered = if ran_at e (run_of x.op x.outcome) && asks_state (end_config z h e) then (trigger_row before).pair else before in
    option_map_or first_state (config_by e x) (option_map_or (λ new. new) (load_by 0 e x) triggered)

-- the END whose state an escalation asks: that of its message, unless this has u
abbrev pub asked_end : Option Message → Option ℕ
asked_end (Some (message.Escalate e flags esc esc_eisn origin)) = if always_escalates flags then None else Some e
asked_end _ = None

-- whether an operation after an account, with this outcome, took an escalation that asked the state of e
abbrev pub escalated_at : Start → List Entry → Op → Outcome → ℕ → Bool
escalated_at z h o u e = option_map_or (λ end. end == e) (asked_end (message_in (flight z h) o u)) false

-- the state of escalations (ESe): each escalation that asks it triggers it, and each load of page 1 changes it
abbrev pub ese : Start → List Entry → ℕ → ℕ
ese z [] e = z.ese e
ese z (x ∷ h) e =
    let before = ese z h e in
    let triggered = if escalated_at z h x.op x.outcome e then (trigger_row before).pair else before in
    option_map_or first_state (config_by e x) (option_map_or (λ new. new) (load_by 1 e x) triggered)
