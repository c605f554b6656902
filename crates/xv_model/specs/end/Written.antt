-- What was written into the queue of an END. It is kept as a whole list, the oldest first; nothing wraps.
use Rattle.std.specs.Prelude.{ℕ, ◌==◌, ◌+◌, if◌then◌else◌, List, [], ◌∷◌, ◌++◌, length, slice_get, Option, Some, None}
use Rattle.std.specs.Option.{option_map_or}
use Rattle.xv_model.specs.declared.operations.Op.{Op}
use Rattle.xv_model.specs.declared.operations.Op.TheVariants as op
use Rattle.xv_model.specs.declared.outcomes.EndRun.{EndRun}
use Rattle.xv_model.specs.declared.outcomes.EndRun.TheVariants as run
use Rattle.xv_model.specs.declared.messages.Message.{Message}
use Rattle.xv_model.specs.declared.messages.Message.TheVariants as message
use Rattle.xv_model.specs.declared.entries.Entry.{Entry}
use Rattle.xv_model.specs.account.Start.{Start}
use Rattle.xv_model.specs.account.Kinds.{run_of}
use Rattle.xv_model.specs.source.Eas.{eas}
use Rattle.xv_model.specs.end.Descriptors.{config_by, until_config}
use Rattle.xv_model.specs.route.Flight.{flight}

-- the END into whose queue a pass wrote
abbrev pub wrote_in : Option EndRun → Option ℕ
wrote_in (Some (run.Ran e (Some wrote) next)) = Some e
wrote_in _ = None

-- the payload of a message that is taken: an escalation's
abbrev pub payload_in : Message → List ℕ
payload_in (message.Escalate e flags esc esc_eisn origin) = esc_eisn ∷ []
payload_in (message.Present e flags vp priority esc esc_eisn origin) = []

-- the payload of what an operation routes after an account: a route's is that of the source's EAS, and a take's that of the message
abbrev pub payload_of : Start → List Entry → Op → List ℕ
payload_of z h (op.Route s) = (eas z h s).eisn ∷ []
payload_of z h (op.Take i) = option_map_or payload_in (slice_get (flight z h) i) []
payload_of z h _ = []

-- what an entry after an account writes into the queue of e
abbrev pub entered : Start → List Entry → Entry → ℕ → List ℕ
entered z h x e = option_map_or (λ end. if end == e then payload_of z h x.op else []) (wrote_in (run_of x.op x.outcome)) []

-- the payloads of the passes that wrote for e since its last configuration
abbrev pub written : Start → List Entry → ℕ → List ℕ
written z [] e = []
written z (x ∷ h) e = option_map_or (λ c. []) (config_by e x) (written z h e ++ entered z h x e)

-- how many entries were written for e since its last configuration
abbrev pub written_count : Start → List Entry → ℕ → ℕ
written_count z h e = length (written z h e) + until_config (z.written_count e) h e
