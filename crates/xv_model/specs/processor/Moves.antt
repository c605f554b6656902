-- The moves of contexts, and why they are refused: the first reason that holds (Linux's KVM, arch/powerpc/kvm/book3s_xive.c; POWER9's XIVE, "OS context").
use Rattle.std.specs.Prelude.{ℕ, pos, ◌==◌, ◌-◌, ◌&&◌, nat_le, nat_lt, not, Bool, true, false, if◌then◌else◌, List, Option, Some, None}
use Rattle.std.specs.Option.{option_map_or}
use Rattle.xv_model.specs.declared.kvm.errors.TheConstants.{EINVAL}
use Rattle.xv_model.specs.declared.outcomes.Phase.{Phase}
use Rattle.xv_model.specs.declared.outcomes.Phase.TheVariants.{Restored, Pulled}
use Rattle.xv_model.specs.declared.outcomes.MoveRefused.TheVariants.{NotValid, VpBusy, RingBusy, NotPulled, NotRestored, NoContext}
use Rattle.xv_model.specs.declared.outcomes.Outcome.{Outcome}
use Rattle.xv_model.specs.declared.outcomes.Outcome.TheVariants as out
use Rattle.xv_model.specs.declared.entries.Entry.{Entry}
use Rattle.xv_model.specs.account.Start.{Start}
use Rattle.xv_model.specs.processor.Phases.{cam_of, is_connected, servers, is_on, is_saved, phase, user_of}

-- what connecting v answers
abbrev pub connect_outcome : Start → List Entry → ℕ → Outcome
connect_outcome z h v = out.Code (if nat_lt v (servers z h) then pos 0 else EINVAL)

-- whether a context is restored on a thread, and whether it is pulled from one
abbrev pub is_restored : ℕ → Phase → Bool
is_restored t (Restored u) = u == t
is_restored t _ = false

abbrev pub is_pulled : Phase → Bool
is_pulled (Pulled t) = true
is_pulled _ = false

-- what restoring the context of v for a thread answers
abbrev pub restore_outcome : Start → List Entry → ℕ → ℕ → Outcome
restore_outcome z h v t =
    if not (is_connected z h v) then out.Refused NotValid
    else (if not (is_saved (phase z h v)) then out.Refused (VpBusy (phase z h v))
    else option_map_or (λ user. out.Refused (RingBusy user)) (user_of z h t) out.Fine)

-- what saving the context of v answers
abbrev pub save_outcome : Start → List Entry → ℕ → Outcome
save_outcome z h v =
    if not (is_connected z h v) then out.Refused NotValid
    else (if not (is_pulled (phase z h v)) then out.Refused (NotPulled (phase z h v)) else out.Fine)

-- whether a CAM word is that of a connected processor, and valid
abbrev pub is_cam : Start → List Entry → ℕ → Bool
is_cam z h cam =
    let v = cam - cam_of 0 in
    nat_le (cam_of 0) cam && (nat_lt v z.board.limits.processors && is_connected z h v)

-- what pushing a context onto a thread by its CAM word answers
abbrev pub push_outcome : Start → List Entry → ℕ → ℕ → Outcome
push_outcome z h t cam =
    if not (is_cam z h cam) then out.Refused NotValid
    else (if not (is_restored t (phase z h (cam - cam_of 0))) then out.Refused (NotRestored (phase z h (cam - cam_of 0))) else out.Fine)

-- the processor that is on a thread: its user, where that one's context is on it
abbrev pub on_by : (ℕ → Phase) → ℕ → Option ℕ → Option ℕ
on_by phases t (Some v) = if is_on t (phases v) then Some v else None
on_by phases t None = None

abbrev pub on_of : Start → List Entry → ℕ → Option ℕ
on_of z h t = on_by (phase z h) t (user_of z h t)

-- what pulling the context off a thread answers: its CAM word
abbrev pub pull_outcome : Start → List Entry → ℕ → Outcome
pull_outcome z h t = option_map_or (λ v. out.Value (cam_of v)) (on_of z h t) (out.Refused NoContext)
