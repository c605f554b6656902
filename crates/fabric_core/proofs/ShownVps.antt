-- What is shown of a processor is what the account says of it.
use Rattle.std.proofs.Common.{ℕ, ◌≡◌, ◌<◌, ◌^◌, Bool, true, false, if◌then◌else◌, List, refl, sym, ◌∙◌}
use Rattle.xv_model.specs.declared.entries.Entry.{Entry}
use Rattle.xv_model.specs.declared.outcomes.Phase.{Phase}
use Rattle.xv_model.specs.declared.outcomes.Phase.TheVariants.{Saved, Restored, On, Pulled}
use Rattle.xv_model.specs.account.Start.{Start}
use Rattle.xv_model.specs.processor.Priorities.{byte_of, has_priority}
use Rattle.xv_model.specs.processor.Phases.{is_running, is_saved, phase, thread_of}
use Rattle.xv_model.specs.processor.Pending.{kept, late}
use Rattle.xv_model.specs.processor.Registers.{cppr}
use Rattle.xv_model.proofs.Bytes.{byte_of-agrees, byte_of_has}
use Rattle.nvt_backlog.specs.declared.vp.Vp.{Vp}
use Rattle.nvt_backlog.specs.Vps.{vp_in}
use Rattle.thread_context.specs.declared.ring.RingRecord.{RingRecord}
use Rattle.presenter.specs.Contexts.{ipb_in}
use Rattle.fabric_core.specs.Processors.{IsProcessor, cppr_in, vp_of}

-- a byte in which these priorities are pending
pub byte_is : (byte : ℕ) (f : ℕ → Bool) → byte < 2 ^ 8 → ((q : ℕ) → q < 8 → has_priority byte q ≡ f q) → byte ≡ byte_of f
byte_is byte f l same = sym (byte_of_has byte l) ∙ byte_of-agrees (has_priority byte) f same

saved_cppr_is : (vp : Vp) (rings : List RingRecord) (now : Phase) (n : ℕ) → cppr_in vp rings (thread_of now) ≡ n → (is_saved now ≡ false → vp.cppr ≡ 0) → vp.cppr ≡ (if is_saved now then n else 0)
saved_cppr_is vp rings Saved n e none = e
saved_cppr_is vp rings (Restored t) n e none = none refl
saved_cppr_is vp rings (On t) n e none = none refl
saved_cppr_is vp rings (Pulled t) n e none = none refl

saved_ipb_is : (vp : Vp) (rings : List RingRecord) (now : Phase) (f : ℕ → Bool) → vp.ipb < 2 ^ 8 → (is_running now ≡ false → (q : ℕ) → q < 8 → has_priority (ipb_in vp rings (thread_of now)) q ≡ f q) →
    (is_saved now ≡ false → vp.ipb ≡ 0) → vp.ipb ≡ (if is_saved now then byte_of f else 0)
saved_ipb_is vp rings Saved f l same none = byte_is vp.ipb f l (same refl)
saved_ipb_is vp rings (Restored t) f l same none = none refl
saved_ipb_is vp rings (On t) f l same none = none refl
saved_ipb_is vp rings (Pulled t) f l same none = none refl

backlog_is : (byte : ℕ) (running : Bool) (f : ℕ → Bool) → byte < 2 ^ 8 → (running ≡ false → (q : ℕ) → q < 8 → has_priority byte q ≡ f q) → (running ≡ true → byte ≡ 0) → byte ≡ (if running then 0 else byte_of f)
backlog_is byte true f l same none = none refl
backlog_is byte false f l same none = byte_is byte f l (same refl)

pub processor_shown : (vps : List Vp) (rings : List RingRecord) (z : Start) (h : List Entry) (v : ℕ) → IsProcessor vps rings z h v → (vp_in vps v).ipb < 2 ^ 8 → (vp_in vps v).backlog < 2 ^ 8 → vp_in vps v ≡ vp_of z h v
processor_shown vps rings z h v is ipb_fits backlog_fits =
    let vp = vp_in vps v in
    let now = phase z h v in
    λ i. record {
      valid = is.valid i;
      phase = is.at i;
      cppr = saved_cppr_is vp rings now (cppr z h v) is.cppr_is is.no_cppr i;
      ipb = saved_ipb_is vp rings now (kept z h v) ipb_fits is.is_kept_as is.no_ipb i;
      backlog = backlog_is vp.backlog (is_running now) (late z h v) backlog_fits is.is_late_as is.none_late i;
    }
