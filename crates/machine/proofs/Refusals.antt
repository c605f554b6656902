-- What is refused, and what only asks, leaves a machine as it was.
use Rattle.std.proofs.Common.{ℕ, ◌≡◌, ◌==◌, Bool, true, false, if◌then◌else◌, refl, sym, ap, subst, inl, inr, ◌+◌, ◌-◌, ◌∙◌, arith}
use Rattle.std.specs.Prelude.{◌⊎◌}
use Rattle.xv_base.specs.Limits.{most_forwards}
use Rattle.xv_model.specs.declared.board.Board.{Board}
use Rattle.xv_model.specs.declared.operations.PqOp.{PqOp}
use Rattle.xv_model.specs.declared.operations.Op.{Op}
use Rattle.xv_model.specs.declared.operations.Op.TheVariants as op
use Rattle.xv_model.specs.declared.outcomes.Outcome.{Outcome}
use Rattle.xv_model.specs.declared.outcomes.Outcome.TheVariants as out
use Rattle.xv_model.specs.account.Legal.{answer_by}
use Rattle.xv_model.specs.source.PqTable.{Cell}
use Rattle.esb_pq.specs.Applied.{cell_at}
use Rattle.esb_pq.specs.Word.{SourceParts}
use Rattle.fabric_core.specs.Fabric.{IsRefusal}
use Rattle.machine.specs.Answering.{consumed_in, forwarded_in, old_after}
use Rattle.machine.proofs.Silent.{IsSilent}
use Rattle.machine.proofs.Words.{IsOn, answer_at}

-- ---- an operation on a word
-- what it answers, a pair or that no more can be counted
abbrev IsAnswer : Outcome → Type 0
IsAnswer u = (u ≡ out.Spent) ⊎ ((old new forward : ℕ) × (u ≡ out.Pq old new forward))

answers : (c : Cell) (q n : ℕ) → IsAnswer (answer_by c q n)
answers c q n = by c.forwards
  where
    counted : (last : Bool) → IsAnswer (if last then out.Spent else out.Pq q c.pair (n + 1))
    counted true = inl refl
    counted false = inr (q, c.pair, n + 1, refl)

    by : (forwards : Bool) → IsAnswer (if forwards then (if n == most_forwards then out.Spent else out.Pq q c.pair (n + 1)) else out.Pq q c.pair 0)
    by true = counted (n == most_forwards)
    by false = inr (q, c.pair, 0, refl)

only_spent : (u : Outcome) → IsAnswer u → (u ≡ out.BadOffset) ⊎ (u ≡ out.Ones) ⊎ (u ≡ out.Spent) → u ≡ out.Spent
only_spent u (inl spent) r = spent
only_spent u (inr (old, new, forward, is)) (inl bad) = absurd cc
only_spent u (inr (old, new, forward, is)) (inr (inl ones)) = absurd cc
only_spent u (inr (old, new, forward, is)) (inr (inr spent)) = spent

-- where it is refused, no more can be counted
pub spent : (b : Board) (p : Op) (s : ℕ) (o : PqOp) (level : Bool) (w : SourceParts) (u : Outcome) → IsOn b p s o → u ≡ answer_at o level w → IsRefusal p u → u ≡ out.Spent
spent b (op.Pq t k) s o level w u on is r = r
spent b (op.Esb t page offset store) s o level w u on is r = only_spent u (subst IsAnswer (sym is) (answers (cell_at w level o) w.pq w.count)) r
spent b _ s o level w u on is r = absurd cc

-- then no pair is remembered
pub none_remembered : (o : PqOp) (u : Outcome) (before : ℕ) → u ≡ out.Spent → old_after o u before ≡ before
none_remembered o u before spent = ap (λ u. old_after o u before) spent

-- ---- the notices
silent_as : (u v : Outcome) → u ≡ v → IsSilent v → IsSilent u
silent_as u v e s = subst IsSilent (sym e) s

-- what is refused, or only asks, neither makes nor consumes one
pub refusal_silent : (o : Op) (u : Outcome) → IsRefusal o u → IsSilent u
refusal_silent (op.Pq s o) u e = silent_as u out.Spent e (record { makes = refl; consumes = refl })
refusal_silent (op.Esb s page offset store) u (inl e) = silent_as u out.BadOffset e (record { makes = refl; consumes = refl })
refusal_silent (op.Esb s page offset store) u (inr (inl e)) = silent_as u out.Ones e (record { makes = refl; consumes = refl })
refusal_silent (op.Esb s page offset store) u (inr (inr e)) = silent_as u out.Spent e (record { makes = refl; consumes = refl })
refusal_silent (op.EndEsb e page offset store) u (inl is) = silent_as u out.BadOffset is (record { makes = refl; consumes = refl })
refusal_silent (op.EndEsb e page offset store) u (inr is) = silent_as u out.NoEnd is (record { makes = refl; consumes = refl })
refusal_silent (op.Route s) u (inl e) = silent_as u out.NoNotice e (record { makes = refl; consumes = refl })
refusal_silent (op.Route s) u (inr e) = silent_as u out.BusFull e (record { makes = refl; consumes = refl })
refusal_silent (op.Take i) u e = silent_as u out.NoMessage e (record { makes = refl; consumes = refl })
refusal_silent (op.Quiet s) u (inl e) = silent_as u out.Quiet e (record { makes = refl; consumes = refl })
refusal_silent (op.Quiet s) u (inr (notices, messages, e)) = silent_as u (out.Busy notices messages) e (record { makes = refl; consumes = refl })
refusal_silent (op.EndSet e c) u r = absurd r
refusal_silent (op.Connect v) u (code, e, fails) = silent_as u (out.Code code) e (record { makes = refl; consumes = refl })
refusal_silent (op.Restore v t) u (why, e) = silent_as u (out.Refused why) e (record { makes = refl; consumes = refl })
refusal_silent (op.Save v) u (why, e) = silent_as u (out.Refused why) e (record { makes = refl; consumes = refl })
refusal_silent (op.Tima t page offset size access) u (inl e) = silent_as u out.BadAccess e (record { makes = refl; consumes = refl })
refusal_silent (op.Tima t page offset size access) u (inr (why, e)) = silent_as u (out.Refused why) e (record { makes = refl; consumes = refl })
refusal_silent (op.Hcall number args) u (reply, e, fails) = silent_as u (out.Reply reply) e (record { makes = refl; consumes = refl })
refusal_silent (op.Read e) u (inl is) = silent_as u out.NoQueue is (record { makes = refl; consumes = refl })
refusal_silent (op.Read e) u (inr is) = silent_as u out.Empty is (record { makes = refl; consumes = refl })
refusal_silent (op.Peek addr) u (inl e) = silent_as u out.BadRange e (record { makes = refl; consumes = refl })
refusal_silent (op.Peek addr) u (inr (word, e)) = silent_as u (out.Cell word) e (record { makes = refl; consumes = refl })
refusal_silent (op.Zero addr len) u e = silent_as u out.BadRange e (record { makes = refl; consumes = refl })
refusal_silent (op.AttrSet group number value) u (code, e, fails) = silent_as u (out.Code code) e (record { makes = refl; consumes = refl })
refusal_silent (op.AttrGet group number) u (inl (code, e)) = silent_as u (out.Code code) e (record { makes = refl; consumes = refl })
refusal_silent (op.AttrGet group number) u (inr (eq, e)) = silent_as u (out.Queue eq) e (record { makes = refl; consumes = refl })
refusal_silent (op.VpGet v) u (inl (code, e)) = silent_as u (out.Code code) e (record { makes = refl; consumes = refl })
refusal_silent (op.VpGet v) u (inr (cppr, ipb, e)) = silent_as u (out.Context cppr ipb) e (record { makes = refl; consumes = refl })
refusal_silent (op.VpSet v cppr ipb) u (code, e, fails) = silent_as u (out.Code code) e (record { makes = refl; consumes = refl })

-- so their number stays
pub notices_kept : (o : Op) (u : Outcome) (before after made consumed : ℕ) → IsRefusal o u → made ≡ forwarded_in u → consumed ≡ consumed_in u → after ≡ before + made - consumed → after ≡ before
notices_kept o u before after made consumed r makes consumes is =
    let silent = refusal_silent o u r in
    let none = makes ∙ silent.makes in
    let no = consumes ∙ silent.consumes in omega (arith, is, none, no)
