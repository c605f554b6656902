-- The outcomes of a legal account are well-formed.
use Rattle.std.proofs.Common.{ℕ, ◌≡◌, ◌==◌, ◌+◌, ◌<◌, ◌≤◌, ◌&&◌, Bool, true, false, not, if◌then◌else◌, ◌-◌, List, [], length, slice_get, Option, Some, None, refl, sym, subst, arith}
use Rattle.std.specs.Prelude.{ℤ}
use Rattle.std.specs.Option.{option_map_or}
use Rattle.xv_base.specs.Limits.{most_messages, most_forwards}
use Rattle.xv_model.specs.declared.operations.Op.{Op}
use Rattle.xv_model.specs.declared.operations.Op.TheVariants as op
use Rattle.xv_model.specs.declared.outcomes.Outcome.{Outcome}
use Rattle.xv_model.specs.declared.outcomes.Outcome.TheVariants as out
use Rattle.xv_model.specs.declared.outcomes.MoveRefused.TheVariants.{RingBusy, NoContext}
use Rattle.xv_model.specs.declared.hypercalls.codes.TheConstants.{H_FUNCTION}
use Rattle.xv_model.specs.declared.hypercalls.Call.{Call}
use Rattle.xv_model.specs.declared.hypercalls.Call.TheVariants as call
use Rattle.xv_model.specs.declared.kvm.Attribute.{Attribute}
use Rattle.xv_model.specs.declared.kvm.Attribute.TheVariants as attribute
use Rattle.xv_model.specs.device.Attributes.{attribute_of}
use Rattle.xv_model.specs.device.Checks.{eq_id_checks}
use Rattle.xv_model.specs.device.Answers.{fields_of, got_by, got_of, vp_state_code}
use Rattle.xv_model.specs.call.Arguments.{call_of, end_of}
use Rattle.xv_model.specs.call.Accepted.{is_success}
use Rattle.xv_model.specs.call.Checks.{code_of, checks}
use Rattle.xv_model.specs.call.Outputs.{outputs}
use Rattle.xv_model.specs.call.Hypercalls.{reply_with, call_reply}
use Rattle.xv_model.specs.declared.messages.Message.{Message}
use Rattle.xv_model.specs.declared.messages.Message.TheVariants as message
use Rattle.xv_model.specs.declared.tima.RingOp.{RingOp}
use Rattle.xv_model.specs.declared.tima.RingOp.TheVariants.{Load, SetCppr, Accept, Inject, Push, Pull}
use Rattle.xv_model.specs.declared.entries.Entry.{Entry}
use Rattle.xv_model.specs.account.Start.{Start}
use Rattle.xv_model.specs.account.Kinds.{WordAccess, access_of, Word, part_beside}
use Rattle.xv_model.specs.source.PqTable.{Cell}
use Rattle.xv_model.specs.source.Pairs.{pq, asserted}
use Rattle.xv_model.specs.source.Notices.{forwards, outstanding}
use Rattle.xv_model.specs.route.Flight.{flight}
use Rattle.xv_model.specs.route.Quiet.{messages_of}
use Rattle.xv_model.specs.route.Taking.{taken_by}
use Rattle.xv_model.specs.processor.Phases.{cam_of, is_connected, is_saved, phase, user_of}
use Rattle.xv_model.specs.processor.RingOps.{ring_op}
use Rattle.xv_model.specs.processor.Priorities.{byte_of}
use Rattle.xv_model.specs.processor.Pending.{pending}
use Rattle.xv_model.specs.processor.Registers.{cppr, ring}
use Rattle.xv_model.specs.processor.Moves.{is_pulled, is_restored, is_cam, on_of}
use Rattle.xv_model.specs.processor.Accesses.{acknowledged, ring_outcome}
use Rattle.xv_model.specs.board.Boards.{is_level}
use Rattle.xv_model.specs.account.Legal.{IsLegal, IsNext, answer_by, cell_after, answer_on}
use Rattle.xv_model.specs.account.Outcomes.{IsWellFormed}
use Rattle.xv_model.specs.board.Validity.{ram_size, fits}
use Rattle.xv_model.specs.end.Flags.{is_valid, enqueues}
use Rattle.xv_model.specs.end.Memory.{place, generation, word_at}
use Rattle.xv_model.specs.end.Reading.{taken_count, top_bit}
use Rattle.xv_model.specs.end.Descriptors.{end_config}
use Rattle.xv_model.specs.end.Pages.{state_of}
use Rattle.xv_model.proofs.SmallPairs.{SetsPair, sets_access, small_cell, pq-below}
use Rattle.xv_model.proofs.SmallStates.{HasPairs, small_state, small_load, states-below}

-- of two well-formed outcomes each choice is well-formed
well_formed_if : (b : Bool) (m n : Outcome) → IsWellFormed m → IsWellFormed n → IsWellFormed (if b then m else n)
well_formed_if true m n v w = v
well_formed_if false m n v w = w

-- an answer by a cell of a pair is well-formed
cell_well_formed : (c : Cell) (q n : ℕ) → q < 4 → c.pair < 4 → IsWellFormed (answer_by c q n)
cell_well_formed c q n l m = well_formed_if c.forwards _ _ (well_formed_if (n == most_forwards) _ _ tt (l, m)) (l, m)

-- so is what a take answers
take_well_formed : (z : Start) (h : List Entry) (m : Option Message) → IsWellFormed (option_map_or (taken_by z h) m out.NoMessage)
take_well_formed z h (Some (message.Present e flags vp priority esc esc_eisn origin)) = tt
take_well_formed z h (Some (message.Escalate e flags esc esc_eisn origin)) = tt
take_well_formed z h None = tt

-- what a restore answers of a saved processor
restore_well_formed : (user : Option ℕ) → IsWellFormed (option_map_or (λ u. out.Refused (RingBusy u)) user out.Fine)
restore_well_formed (Some u) = tt
restore_well_formed None = tt

-- what is answered where a processor is on a thread
on_well_formed : (m : Option ℕ) (f : ℕ → Outcome) → ((v : ℕ) → IsWellFormed (f v)) → IsWellFormed (option_map_or f m (out.Refused NoContext))
on_well_formed (Some v) f w = w v
on_well_formed None f w = tt

-- and what an access to the TIMA answers
tima_well_formed : (z : Start) (h : List Entry) (t : ℕ) (m : Option RingOp) → IsWellFormed (option_map_or (ring_outcome z h t) m out.BadAccess)
tima_well_formed z h t None = tt
tima_well_formed z h t (Some (Load at size)) = tt
tima_well_formed z h t (Some (SetCppr value)) = on_well_formed (on_of z h t) (λ v. out.Stored) (λ v. tt)
tima_well_formed z h t (Some (Inject priority)) = on_well_formed (on_of z h t) (λ v. out.Stored) (λ v. tt)
tima_well_formed z h t (Some Accept) = on_well_formed (on_of z h t) (λ v. out.Value (acknowledged (ring z h t))) (λ v. tt)
tima_well_formed z h t (Some (Push cam)) = well_formed_if (not (is_cam z h cam)) _ _ tt (well_formed_if (not (is_restored t (phase z h (cam - cam_of 0)))) _ _ tt tt)
tima_well_formed z h t (Some Pull) = on_well_formed (on_of z h t) (λ v. out.Value (cam_of v)) (λ v. tt)

-- a call has no more than four outputs
few_outputs : (z : Start) (h : List Entry) (c : Call) → length (outputs z h c) ≤ 4
few_outputs z h (call.GetSourceInfo c) = omega arith
few_outputs z h (call.GetSourceConfig c) = omega arith
few_outputs z h (call.GetQueueInfo c) = omega arith
few_outputs z h (call.GetQueueConfig c) = omega arith
few_outputs z h _ = omega arith

-- so its reply has room for them
few_replied : (accepted : Bool) (shown : List ℕ) → length shown ≤ 4 → length (if accepted then shown else []) ≤ 4
few_replied true shown few = few
few_replied false shown few = omega arith

reply_well_formed : (z : Start) (h : List Entry) (m : Option Call) → (option_map_or (call_reply z h) m (reply_with H_FUNCTION [])).outs ≤ 4
reply_well_formed z h (Some c) = few_replied (is_success (code_of (checks z h c))) (outputs z h c) (few_outputs z h c)
reply_well_formed z h None = omega arith

-- what a call to the KVM device gets is well-formed
got_well_formed : (code : ℤ) (got : Outcome) → IsWellFormed got → IsWellFormed (got_by code got)
got_well_formed code got w = well_formed_if (is_success code) got (out.Code code) w tt

got_of_well_formed : (z : Start) (h : List Entry) (m : Option Attribute) → IsWellFormed (got_of z h m)
got_of_well_formed z h (Some (attribute.EqConfig id)) = got_well_formed (code_of (eq_id_checks z h id)) (out.Queue (fields_of z h (end_of id.server id.priority))) tt
got_of_well_formed z h (Some _) = tt
got_of_well_formed z h None = tt

-- an answer of an operation on no word is well-formed
fabric_well_formed : (z : Start) (h : List Entry) (o : Op) → ((e : ℕ) → HasPairs z h e) → IsWellFormed (answer_on z h o (part_beside o))
fabric_well_formed z h (op.Quiet s) w = well_formed_if ((outstanding z h s == 0) && (messages_of (flight z h) s == 0)) _ _ tt tt
fabric_well_formed z h (op.Route s) w = well_formed_if (outstanding z h s == 0) _ _ tt (well_formed_if (length (flight z h) == most_messages) _ _ tt tt)
fabric_well_formed z h (op.Esb s page offset store) w = well_formed_if store _ _ tt tt
fabric_well_formed z h (op.EndEsb e page offset store) w =
    let small = small_state z h e page (w e) in
    well_formed_if store _ _ tt (well_formed_if (is_valid (end_config z h e)) _ _ (small, small_load offset (state_of z h e page) small) tt)
fabric_well_formed z h (op.EndSet e c) w = tt
fabric_well_formed z h (op.Hcall number args) w = reply_well_formed z h (call_of number args)
fabric_well_formed z h (op.Read e) w =
    let c = end_config z h e in
    let j = c.start + taken_count z h e in
    well_formed_if (is_valid c && enqueues c) _ _ (well_formed_if (top_bit (word_at z h (place c j)) == generation c j) _ _ tt tt) tt
fabric_well_formed z h (op.Take i) w = take_well_formed z h (slice_get (flight z h) i)
fabric_well_formed z h (op.Connect v) w = tt
fabric_well_formed z h (op.Restore v t) w = well_formed_if (not (is_connected z h v)) _ _ tt (well_formed_if (not (is_saved (phase z h v))) _ _ tt (restore_well_formed (user_of z h t)))
fabric_well_formed z h (op.Save v) w = well_formed_if (not (is_connected z h v)) _ _ tt (well_formed_if (not (is_pulled (phase z h v))) _ _ tt tt)
fabric_well_formed z h (op.Tima t page offset size access) w = tima_well_formed z h t (ring_op page offset size access)
fabric_well_formed z h (op.Peek addr) w = well_formed_if (fits (ram_size z.board) addr 4) _ _ tt tt
fabric_well_formed z h (op.Zero addr len) w = well_formed_if (fits (ram_size z.board) addr len) _ _ tt tt
fabric_well_formed z h (op.AttrGet group number) w = got_of_well_formed z h (attribute_of group number)
fabric_well_formed z h (op.VpGet v) w = got_well_formed (vp_state_code z h v) (out.Context (cppr z h v) (byte_of (pending z h v))) tt
fabric_well_formed z h _ w = tt

-- the answer of an operation is well-formed, by whether it is an access
well_formed_by : (z : Start) (h : List Entry) (o : Op) (m : Option WordAccess) → ((a : WordAccess) → m ≡ Some a → SetsPair a.op) → ((s : ℕ) → pq z h s < 4) → ((e : ℕ) → HasPairs z h e) → IsWellFormed (answer_on z h o (option_map_or Word m (part_beside o)))
well_formed_by z h o None sets small states = fabric_well_formed z h o states
well_formed_by z h o (Some a) sets small states =
    cell_well_formed (cell_after z h a) (pq z h a.source) (forwards z h a.source) (small a.source)
    (small_cell a.op (is_level z.board a.source) (asserted z h a.source) (pq z h a.source) (small a.source) (sets a refl))

-- the outcome of the next entry of a legal account is well-formed
pub legal_well_formed : (z : Start) (h : List Entry) (x : Entry) → IsLegal z h → ((s : ℕ) → z.pair s < 4) → ((e : ℕ) → (z.esn e < 4) × (z.ese e < 4)) → IsNext z h x → IsWellFormed x.outcome
legal_well_formed z h x l w states n =
    subst IsWellFormed (sym n.outcome)
    (well_formed_by z h x.op (access_of z.board x.op) (λ a e. sets_access z.board x.op a n.valid_op e) (λ s. pq-below z h s l (w s)) (states-below z h l states))
