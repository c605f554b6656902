-- What operations on no word do to the notices: a route alone does something.
use Rattle.std.proofs.Common.{ℕ, ◌≡◌, ◌≢◌, ◌==◌, ◌+◌, ◌-◌, ◌&&◌, not, Bool, true, false, if◌then◌else◌, List, slice_get, Option, Some, None, refl}
use Rattle.std.specs.Option.{option_map_or}
use Rattle.xv_model.specs.declared.operations.Op.{Op}
use Rattle.xv_model.specs.declared.operations.Op.TheVariants as op
use Rattle.xv_model.specs.declared.outcomes.Outcome.{Outcome}
use Rattle.xv_model.specs.declared.outcomes.Outcome.TheVariants as out
use Rattle.xv_model.specs.declared.outcomes.MoveRefused.TheVariants.{RingBusy, NoContext}
use Rattle.xv_model.specs.declared.kvm.Attribute.{Attribute}
use Rattle.xv_model.specs.declared.kvm.Attribute.TheVariants as attribute
use Rattle.xv_model.specs.declared.messages.Message.{Message}
use Rattle.xv_model.specs.declared.messages.Message.TheVariants as message
use Rattle.xv_model.specs.declared.tima.RingOp.{RingOp}
use Rattle.xv_model.specs.declared.tima.RingOp.TheVariants.{Load, SetCppr, Accept, Inject, Push, Pull}
use Rattle.xv_model.specs.declared.entries.Entry.{Entry}
use Rattle.xv_model.specs.account.Start.{Start}
use Rattle.xv_model.specs.account.Kinds.{part_beside}
use Rattle.xv_model.specs.account.Legal.{answer_on}
use Rattle.xv_model.specs.board.Validity.{ram_size, fits}
use Rattle.xv_model.specs.source.Notices.{outstanding}
use Rattle.xv_model.specs.end.Flags.{is_valid, enqueues}
use Rattle.xv_model.specs.end.Descriptors.{end_config}
use Rattle.xv_model.specs.end.Memory.{place, generation, word_at}
use Rattle.xv_model.specs.end.Reading.{taken_count, top_bit}
use Rattle.xv_model.specs.route.Flight.{flight}
use Rattle.xv_model.specs.route.Quiet.{messages_of}
use Rattle.xv_model.specs.route.Taking.{taken_by}
use Rattle.xv_model.specs.processor.Phases.{cam_of, is_connected, is_saved, phase, user_of}
use Rattle.xv_model.specs.processor.RingOps.{ring_op}
use Rattle.xv_model.specs.processor.Registers.{ring}
use Rattle.xv_model.specs.processor.Moves.{is_pulled, is_restored, is_cam, on_of}
use Rattle.xv_model.specs.processor.Accesses.{acknowledged, ring_outcome}
use Rattle.xv_model.specs.call.Accepted.{is_success}
use Rattle.xv_model.specs.call.Checks.{code_of}
use Rattle.xv_model.specs.device.Answers.{got_of, vp_state_code}
use Rattle.xv_model.specs.device.Attributes.{attribute_of}
use Rattle.xv_model.specs.device.Checks.{eq_id_checks}
use Rattle.machine.specs.Answering.{forwarded_in, consumed_in}

-- an outcome neither makes nor consumes a notice
pub record IsSilent (u : Outcome) : Type 0 where
  pub makes : forwarded_in u ≡ 0
  pub consumes : consumed_in u ≡ 0

pub silent_if : (b : Bool) (m n : Outcome) → IsSilent m → IsSilent n → IsSilent (if b then m else n)
silent_if true m n v w = v
silent_if false m n v w = w

-- what a message answers that is taken
silent_take : (z : Start) (h : List Entry) (m : Option Message) → IsSilent (option_map_or (taken_by z h) m out.NoMessage)
silent_take z h (Some (message.Present e flags vp priority esc esc_eisn origin)) = record { makes = refl; consumes = refl }
silent_take z h (Some (message.Escalate e flags esc esc_eisn origin)) = record { makes = refl; consumes = refl }
silent_take z h None = record { makes = refl; consumes = refl }

silent_user : (user : Option ℕ) → IsSilent (option_map_or (λ u. out.Refused (RingBusy u)) user out.Fine)
silent_user (Some u) = record { makes = refl; consumes = refl }
silent_user None = record { makes = refl; consumes = refl }

silent_on : (m : Option ℕ) (f : ℕ → Outcome) → ((v : ℕ) → IsSilent (f v)) → IsSilent (option_map_or f m (out.Refused NoContext))
silent_on (Some v) f w = w v
silent_on None f w = record { makes = refl; consumes = refl }

-- what an access to the TIMA answers
silent_tima : (z : Start) (h : List Entry) (t : ℕ) (m : Option RingOp) → IsSilent (option_map_or (ring_outcome z h t) m out.BadAccess)
silent_tima z h t None = record { makes = refl; consumes = refl }
silent_tima z h t (Some (Load at size)) = record { makes = refl; consumes = refl }
silent_tima z h t (Some (SetCppr value)) = silent_on (on_of z h t) (λ v. out.Stored) (λ v. record { makes = refl; consumes = refl })
silent_tima z h t (Some (Inject priority)) = silent_on (on_of z h t) (λ v. out.Stored) (λ v. record { makes = refl; consumes = refl })
silent_tima z h t (Some Accept) = silent_on (on_of z h t) (λ v. out.Value (acknowledged (ring z h t))) (λ v. record { makes = refl; consumes = refl })
silent_tima z h t (Some (Push cam)) =
    silent_if (not (is_cam z h cam)) _ _ (record { makes = refl; consumes = refl })
    (silent_if (not (is_restored t (phase z h (cam - cam_of 0)))) _ _ (record { makes = refl; consumes = refl }) (record { makes = refl; consumes = refl }))
silent_tima z h t (Some Pull) = silent_on (on_of z h t) (λ v. out.Value (cam_of v)) (λ v. record { makes = refl; consumes = refl })

-- what getting an attribute answers
silent_got : (z : Start) (h : List Entry) (m : Option Attribute) → IsSilent (got_of z h m)
silent_got z h (Some (attribute.EqConfig id)) = silent_if (is_success (code_of (eq_id_checks z h id))) _ _ (record { makes = refl; consumes = refl }) (record { makes = refl; consumes = refl })
silent_got z h (Some attribute.Reset) = record { makes = refl; consumes = refl }
silent_got z h (Some attribute.EqSync) = record { makes = refl; consumes = refl }
silent_got z h (Some attribute.NrServers) = record { makes = refl; consumes = refl }
silent_got z h (Some (attribute.Source s)) = record { makes = refl; consumes = refl }
silent_got z h (Some (attribute.SourceConfig s)) = record { makes = refl; consumes = refl }
silent_got z h (Some (attribute.SourceSync s)) = record { makes = refl; consumes = refl }
silent_got z h None = record { makes = refl; consumes = refl }

-- what an operation answers that is on no word, and no route
pub silent : (z : Start) (h : List Entry) (o : Op) → ((s : ℕ) → o ≢ op.Route s) → IsSilent (answer_on z h o (part_beside o))
silent z h (op.Route s) other = absurd (other s refl)
silent z h (op.Quiet s) other = silent_if ((outstanding z h s == 0) && (messages_of (flight z h) s == 0)) _ _ (record { makes = refl; consumes = refl }) (record { makes = refl; consumes = refl })
silent z h (op.Esb s page offset store) other = silent_if store _ _ (record { makes = refl; consumes = refl }) (record { makes = refl; consumes = refl })
silent z h (op.EndEsb e page offset store) other =
    silent_if store _ _ (record { makes = refl; consumes = refl })
    (silent_if (is_valid (end_config z h e)) _ _ (record { makes = refl; consumes = refl }) (record { makes = refl; consumes = refl }))
silent z h (op.Take i) other = silent_take z h (slice_get (flight z h) i)
silent z h (op.Restore v t) other =
    silent_if (not (is_connected z h v)) _ _ (record { makes = refl; consumes = refl })
    (silent_if (not (is_saved (phase z h v))) _ _ (record { makes = refl; consumes = refl }) (silent_user (user_of z h t)))
silent z h (op.Save v) other =
    silent_if (not (is_connected z h v)) _ _ (record { makes = refl; consumes = refl })
    (silent_if (not (is_pulled (phase z h v))) _ _ (record { makes = refl; consumes = refl }) (record { makes = refl; consumes = refl }))
silent z h (op.Tima t page offset size access) other = silent_tima z h t (ring_op page offset size access)
silent z h (op.Read e) other =
    let c = end_config z h e in
    let j = c.start + taken_count z h e in
    silent_if (is_valid c && enqueues c) _ _
    (silent_if (top_bit (word_at z h (place c j)) == generation c j) _ _ (record { makes = refl; consumes = refl }) (record { makes = refl; consumes = refl }))
    (record { makes = refl; consumes = refl })
silent z h (op.AttrGet group number) other = silent_got z h (attribute_of group number)
silent z h (op.VpGet v) other = silent_if (is_success (vp_state_code z h v)) _ _ (record { makes = refl; consumes = refl }) (record { makes = refl; consumes = refl })
silent z h (op.Peek addr) other = silent_if (fits (ram_size z.board) addr 4) _ _ (record { makes = refl; consumes = refl }) (record { makes = refl; consumes = refl })
silent z h (op.Zero addr len) other = silent_if (fits (ram_size z.board) addr len) _ _ (record { makes = refl; consumes = refl }) (record { makes = refl; consumes = refl })
silent z h _ other = record { makes = refl; consumes = refl }
