-- The legal outcome of an operation of the fabric depends on the fabric's entries.
use Rattle.std.proofs.Common.{ℕ, ◌≡◌, ◌==◌, ◌≢◌, Bool, true, false, not, List, Option, Some, None, refl, ap}
use Rattle.std.specs.Option.{option_map_or}
use Rattle.xv_model.specs.declared.operations.Op.{Op}
use Rattle.xv_model.specs.declared.operations.Op.TheVariants as op
use Rattle.xv_model.specs.declared.outcomes.Outcome.TheVariants as out
use Rattle.xv_model.specs.declared.entries.Entry.{Entry}
use Rattle.xv_model.specs.account.Start.{Start}
use Rattle.xv_model.specs.account.Kinds.{WordAccess, access_of, part_beside, is_quiet, is_fabric}
use Rattle.xv_model.specs.account.Halves.{fabric_of}
use Rattle.xv_model.specs.account.Legal.{answer_on, legal}
use Rattle.xv_model.specs.source.Notices.{outstanding}
use Rattle.xv_model.specs.end.Pages.{end_page_answer}
use Rattle.xv_model.specs.end.Memory.{peek_outcome}
use Rattle.xv_model.specs.end.Reading.{read_outcome}
use Rattle.xv_model.specs.route.Taking.{take_outcome}
use Rattle.xv_model.specs.processor.Moves.{connect_outcome, restore_outcome, save_outcome}
use Rattle.xv_model.specs.processor.Accesses.{tima_outcome}
use Rattle.xv_model.specs.call.Hypercalls.{hcall_reply}
use Rattle.xv_model.specs.device.Answers.{attribute_code, attribute_outcome, vp_state_code, vp_state_outcome}
use Rattle.xv_model.proofs.FabricHalves.{same_fabric, route_half, end_page_answer-half, read_outcome-half, peek_outcome-half}
use Rattle.xv_model.proofs.CallHalves.{hcall_reply-half}
use Rattle.xv_model.proofs.DeviceHalves.{attribute_code-half, attribute_outcome-half, vp_state_code-half, vp_state_outcome-half}
use Rattle.xv_model.proofs.ProcessorHalves.{take_outcome-half, connect_outcome-half, restore_outcome-half, save_outcome-half, tima_outcome-half}

-- an operation of the fabric answers the same after accounts with the same fabric entries, where for a route a notice is outstanding after both or after neither
fabric_answer_half : (z : Start) (g h : List Entry) (o : Op) → not (is_quiet o) ≡ true → fabric_of z.board g ≡ fabric_of z.board h → ((s : ℕ) → o ≡ op.Route s → (outstanding z g s == 0) ≡ (outstanding z h s == 0)) →
    answer_on z g o (part_beside o) ≡ answer_on z h o (part_beside o)
fabric_answer_half z g h (op.Quiet s) is same none = cc
fabric_answer_half z g h (op.Route s) is same none = route_half z g h s same (none s refl)
fabric_answer_half z g h (op.EndEsb e page offset store) is same none = same_fabric z.board (λ f. end_page_answer z f e page offset store) g h (end_page_answer-half z e page offset store) same
fabric_answer_half z g h (op.Take i) is same none = same_fabric z.board (λ f. take_outcome z f i) g h (take_outcome-half z i) same
fabric_answer_half z g h (op.Connect v) is same none = same_fabric z.board (λ f. connect_outcome z f v) g h (connect_outcome-half z v) same
fabric_answer_half z g h (op.Restore v t) is same none = same_fabric z.board (λ f. restore_outcome z f v t) g h (restore_outcome-half z v t) same
fabric_answer_half z g h (op.Save v) is same none = same_fabric z.board (λ f. save_outcome z f v) g h (save_outcome-half z v) same
fabric_answer_half z g h (op.Tima t page offset size access) is same none = same_fabric z.board (λ f. tima_outcome z f t page offset size access) g h (tima_outcome-half z t page offset size access) same
fabric_answer_half z g h (op.Read e) is same none = same_fabric z.board (λ f. read_outcome z f e) g h (read_outcome-half z e) same
fabric_answer_half z g h (op.Peek addr) is same none = same_fabric z.board (λ f. peek_outcome z f addr) g h (peek_outcome-half z addr) same
fabric_answer_half z g h (op.Hcall number args) is same none = ap out.Reply (same_fabric z.board (λ f. hcall_reply z f number args) g h (hcall_reply-half z number args) same)
fabric_answer_half z g h (op.AttrSet group number value) is same none = ap out.Code (same_fabric z.board (λ f. attribute_code z f group number value) g h (attribute_code-half z group number value) same)
fabric_answer_half z g h (op.AttrGet group number) is same none = same_fabric z.board (λ f. attribute_outcome z f group number) g h (attribute_outcome-half z group number) same
fabric_answer_half z g h (op.VpGet v) is same none = same_fabric z.board (λ f. vp_state_outcome z f v) g h (vp_state_outcome-half z v) same
fabric_answer_half z g h (op.VpSet v cppr ipb) is same none = ap out.Code (same_fabric z.board (λ f. vp_state_code z f v) g h (vp_state_code-half z v) same)
fabric_answer_half z g h _ is same none = refl

-- an operation of the fabric is on no word, and not quiet
no_access : (m : Option WordAccess) (other : Bool) → option_map_or (λ a. false) m other ≡ true → (m ≡ None) × (other ≡ true)
no_access None other is = (refl, is)
no_access (Some a) other is = cc

-- the legal outcome of an operation of the fabric is the same after accounts with the same fabric entries, where for a route a notice is outstanding after both or after neither
pub legal_fabric_half : (z : Start) (g h : List Entry) (o : Op) → is_fabric z.board o ≡ true → fabric_of z.board g ≡ fabric_of z.board h → ((s : ℕ) → o ≡ op.Route s → (outstanding z g s == 0) ≡ (outstanding z h s == 0)) → legal z g o ≡ legal z h o
legal_fabric_half z g h o is same none = let k = no_access (access_of z.board o) (not (is_quiet o)) is in rw k.0 (fabric_answer_half z g h o k.1 same none)

-- the legal outcome of an operation of the fabric that isn't a route depends on the fabric's entries alone
pub fabric_half : (z : Start) (g h : List Entry) (o : Op) → is_fabric z.board o ≡ true → ((s : ℕ) → o ≢ op.Route s) → fabric_of z.board g ≡ fabric_of z.board h → legal z g o ≡ legal z h o
fabric_half z g h o is no_route same = legal_fabric_half z g h o is same (λ s e. absurd (no_route s e))
