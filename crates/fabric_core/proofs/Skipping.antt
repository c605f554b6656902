-- An entry that isn't the fabric's leaves what a fabric represents.
use Rattle.std.proofs.Common.{ℕ, ◌≡◌, false, List, ◌∷◌, Some, sym, ◌∙◌, ap}
use Rattle.xv_model.specs.declared.entries.Entry.{Entry}
use Rattle.xv_model.specs.declared.outcomes.Phase.{Phase}
use Rattle.xv_model.specs.account.Start.{Start}
use Rattle.xv_model.specs.account.Kinds.{is_fabric}
use Rattle.xv_model.specs.processor.Phases.{is_running, is_saved, thread_of}
use Rattle.xv_model.specs.processor.Priorities.{has_priority}
use Rattle.xv_model.proofs.FabricHalves.{word_at-skips, is_connected-skips, servers-skips}
use Rattle.xv_model.proofs.ProcessorHalves.{phase-skips, pending-skips, kept-skips, late-skips, cppr-skips}
use Rattle.guest_ram.specs.Ram.{StandsFor as MemoryStandsFor}
use Rattle.router.proofs.Keeping.{word_keeps}
use Rattle.nvt_backlog.specs.declared.vp.Vp.{Vp}
use Rattle.nvt_backlog.specs.Vps.{vp_in}
use Rattle.thread_context.specs.declared.ring.RingRecord.{RingRecord}
use Rattle.presenter.specs.Contexts.{ipb_in}
use Rattle.fabric_core.specs.Processors.{Parts, IsProcessor, StandsFor as ProcessorsStandFor, cppr_in}
use Rattle.fabric_core.specs.Fabric.{Held, StandsFor}

pub memory-skips : (memory : List ℕ) (z : Start) (h : List Entry) (x : Entry) → is_fabric z.board x.op ≡ false → MemoryStandsFor memory z h → MemoryStandsFor memory z (x ∷ h)
memory-skips memory z h x other st = record {
  size = st.size;
  words = λ i l. st.words i l ∙ ap Some (sym (word_at-skips z _ x h other));
}

processor-skips : (vps : List Vp) (rings : List RingRecord) (z : Start) (h : List Entry) (x : Entry) (v : ℕ) → is_fabric z.board x.op ≡ false → IsProcessor vps rings z h v → IsProcessor vps rings z (x ∷ h) v
processor-skips vps rings z h x v other st =
    let at = phase-skips z v x h other in
    record {
      valid = st.valid ∙ sym (is_connected-skips z v x h other);
      at = st.at ∙ sym at;
      cppr_is = ap (λ (p : Phase). cppr_in (vp_in vps v) rings (thread_of p)) at ∙ st.cppr_is ∙ sym (cppr-skips z v x h other);
      is_pending_as = λ q l. st.is_pending_as q l ∙ sym (pending-skips z v q x h other);
      is_kept_as = λ off q l. ap (λ (p : Phase). has_priority (ipb_in (vp_in vps v) rings (thread_of p)) q) at ∙ st.is_kept_as (sym (ap is_running at) ∙ off) q l ∙ sym (kept-skips z v q x h other);
      is_late_as = λ off q l. st.is_late_as (sym (ap is_running at) ∙ off) q l ∙ sym (late-skips z v q x h other);
      none_late = λ on. st.none_late (sym (ap is_running at) ∙ on);
      no_cppr = λ off. st.no_cppr (sym (ap is_saved at) ∙ off);
      no_ipb = λ off. st.no_ipb (sym (ap is_saved at) ∙ off);
    }

pub processors-skip : (p : Parts) (z : Start) (h : List Entry) (x : Entry) → is_fabric z.board x.op ≡ false → ProcessorsStandFor p z h → ProcessorsStandFor p z (x ∷ h)
processors-skip p z h x other st = record {
  servers_are = st.servers_are ∙ sym (servers-skips z x h other);
  processors = st.processors;
  threads = st.threads;
  each = λ v l. processor-skips p.vps.vps p.rings z h x v other (st.each v l);
  free = st.free;
}

-- an entry that isn't the fabric's leaves what the fabric represents
pub fabric-skips : (f : Held) (z : Start) (h : List Entry) (x : Entry) → is_fabric z.board x.op ≡ false → StandsFor f z h → StandsFor f z (x ∷ h)
fabric-skips f z h x other st = record {
  tables = word_keeps f.tables z h x other st.tables;
  memory = memory-skips f.memory z h x other st.memory;
  processors = processors-skip f.processors z h x other st.processors;
}
