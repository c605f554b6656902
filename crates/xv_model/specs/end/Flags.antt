-- The flags of an END (POWER9's XIVE, "event notification descriptor", word 0; QEMU's include/hw/ppc/xive_regs.h).
use Rattle.std.specs.Prelude.{ℕ, ◌==◌, ◌&&◌, Bool}
use Rattle.std.specs.Int.RustNames.{bit_and}
use Rattle.xv_model.specs.declared.operations.EndConfig.{EndConfig}
use Rattle.xv_model.specs.declared.operations.EndFlags.{EndFlags}

-- whether a number has a bit
abbrev pub has_bit : ℕ → ℕ → Bool
has_bit n bit = bit_and n bit == bit

-- b: a presentation that doesn't reach its processor on a thread is kept in its backlog
abbrev pub keeps_backlog : EndFlags → Bool
keeps_backlog flags = has_bit flags.0 8

-- e: what isn't delivered escalates
abbrev pub may_escalate : EndFlags → Bool
may_escalate flags = has_bit flags.0 16

-- u: an escalation asks no state
abbrev pub always_escalates : EndFlags → Bool
always_escalates flags = has_bit flags.0 32

-- v: the END is valid
abbrev pub is_valid : EndConfig → Bool
is_valid c = has_bit c.flags.0 1

-- q: what is routed to it is written into its queue
abbrev pub enqueues : EndConfig → Bool
enqueues c = has_bit c.flags.0 2

-- v and q: it has an event queue
abbrev pub has_event_queue : EndConfig → Bool
has_event_queue c = is_valid c && enqueues c

-- n: it notifies whatever its state is
abbrev pub always_notifies : EndConfig → Bool
always_notifies c = has_bit c.flags.0 4

-- e, of an END
abbrev pub escalates : EndConfig → Bool
escalates c = may_escalate c.flags

-- s: it presents nothing
abbrev pub is_silent : EndConfig → Bool
is_silent c = has_bit c.flags.0 64
