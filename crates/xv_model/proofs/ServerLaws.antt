-- The law of servers.
use Rattle.std.proofs.Common.{ℕ, zero, suc, ◌≡◌, ◌==◌, ◌<◌, ◌≤◌, ◌&&◌, ◌||◌, nat_lt, nat_le, not, Bool, true, false, if◌then◌else◌, List, [], ◌∷◌, Option, Some, None, option_and_then, refl, sym, ◌∙◌, ap, subst, arith, inl, inr}
use Rattle.std.specs.Prelude.{pos}
use Rattle.std.specs.Option.{option_map_or}
use Rattle.std.proofs.lemmas.Bool.{and_parts, ltb-true, leb-true, eqb-true, cases_eq}
use Rattle.xv_model.specs.declared.kvm.errors.TheConstants.{EBUSY, EINVAL}
use Rattle.xv_model.specs.declared.kvm.Setting.{Setting}
use Rattle.xv_model.specs.declared.kvm.Setting.TheVariants as setting
use Rattle.xv_model.specs.declared.operations.Op.{Op}
use Rattle.xv_model.specs.declared.operations.Op.TheVariants as op
use Rattle.xv_model.specs.declared.outcomes.Outcome.{Outcome}
use Rattle.xv_model.specs.declared.outcomes.Outcome.TheVariants as out
use Rattle.xv_model.specs.declared.entries.Entry.{Entry}
use Rattle.xv_model.specs.account.Start.{Start, start}
use Rattle.xv_model.specs.account.Legal.{IsLegal, IsNext, legal}
use Rattle.xv_model.specs.call.Accepted.{is_success}
use Rattle.xv_model.specs.device.Accepted.{setting_in, servers_set, servers_in}
use Rattle.xv_model.specs.device.Checks.{some_below, some_connected}
use Rattle.xv_model.specs.processor.Phases.{connected_in, is_connected, servers}
use Rattle.xv_model.specs.laws.Servers.{EachHasServers}
use Rattle.xv_model.proofs.AcceptedSettings.{accepted_passes}

-- What the number of servers may be, and who may be connected, after an account.
pub record HasServers (z : Start) (h : List Entry) : Type 0 where
  pub some : 1 ≤ servers z h
  pub most : servers z h ≤ z.board.limits.processors
  pub connected : (v : ℕ) → v < z.board.limits.processors → is_connected z h v ≡ true → v < servers z h

-- a processor below n that is connected is one of those
some_found : (connected : ℕ → Bool) (n v : ℕ) → v < n → connected v ≡ true → some_below connected n ≡ true
some_found connected zero v w e = absurd (omega arith)
some_found connected (suc n) v w e = elim (cases_eq v n) [
  | inl same ↦ let here : connected n ≡ true = ap connected (sym same) ∙ e in rw here refl
  | inr other ↦ let below : v < n = omega arith in ap (λ b. connected n || b) (some_found connected n v below e) ∙ or_true (connected n)
]
  where
    or_true : (b : Bool) → (b || true) ≡ true
    or_true true = refl
    or_true false = refl

-- a number of servers that is accepted is 1 to all processors, while none is connected
passed : (allowed free : Bool) → is_success (if allowed then (if free then pos 0 else EBUSY) else EINVAL) ≡ true → (allowed ≡ true) × (free ≡ true)
passed true true e = (refl, refl)
passed true false e = cc
passed false free e = cc

-- the setting of servers, where one is
set_is : (m : Option Setting) (n : ℕ) → option_and_then servers_set m ≡ Some n → m ≡ Some (setting.NrServers n)
set_is (Some (setting.NrServers k)) n e = let same : k ≡ n = cc in ap (λ k. Some (setting.NrServers k)) same
set_is (Some _) n e = cc
set_is None n e = cc

-- a processor that is connected by an entry is below the number of servers
connected_below : (z : Start) (h : List Entry) (o : Op) (v : ℕ) → connected_in o (legal z h o) ≡ Some v → v < servers z h
connected_below z h (op.Connect u) v e = by (nat_lt u (servers z h)) refl e
  where
    by : (b : Bool) → nat_lt u (servers z h) ≡ b → connected_in (op.Connect u) (out.Code (if b then pos 0 else EINVAL)) ≡ Some v → v < servers z h
    by true is e = let same : u ≡ v = cc in subst (λ v. v < servers z h) same (ltb-true u (servers z h) is)
    by false is e = cc
connected_below z h _ v e = cc

-- an entry that sets the number of servers connects no processor
connects_none : (o : Op) (u : Outcome) (c : Setting) → setting_in o u ≡ Some c → connected_in o u ≡ None
connects_none (op.Connect v) u c e = cc
connects_none _ u c e = refl

-- one more entry, by the number of servers that it sets, if any
servers_more : (z : Start) (h : List Entry) (x : Entry) → IsNext z h x → HasServers z h → HasServers z (x ∷ h)
servers_more z h x n so_far = by (servers_in x.op x.outcome) refl
  where
    unset : servers z (x ∷ h) ≡ servers z h → HasServers z (x ∷ h)
    unset same = record {
      some = subst (λ k. 1 ≤ k) (sym same) so_far.some;
      most = subst (λ k. k ≤ z.board.limits.processors) (sym same) so_far.most;
      connected = λ v w e. subst (λ k. v < k) (sym same) (connected_by v w (connected_in x.op x.outcome) refl e);
    }
      where
        connected_by : (v : ℕ) → v < z.board.limits.processors → (m : Option ℕ) → connected_in x.op x.outcome ≡ m → (option_map_or (λ u. u == v) m false || is_connected z h v) ≡ true → v < servers z h
        connected_by v w None is e = so_far.connected v w e
        connected_by v w (Some u) is e = one (u == v) refl e
          where
            one : (same : Bool) → (u == v) ≡ same → (same || is_connected z h v) ≡ true → v < servers z h
            one true here e = subst (λ v. v < servers z h) (eqb-true u v here) (connected_below z h x.op u (ap (connected_in x.op) (sym n.outcome) ∙ is))
            one false here e = so_far.connected v w e

    by : (m : Option ℕ) → servers_in x.op x.outcome ≡ m → HasServers z (x ∷ h)
    by None is = unset (ap (λ m. option_map_or (λ n. n) m (servers z h)) is)
    by (Some k) is =
        let set = set_is (setting_in x.op x.outcome) k is in
        let checks = passed (nat_lt 0 k && nat_le k z.board.limits.processors) (not (some_connected z h)) (accepted_passes z h x (setting.NrServers k) n set) in
        let range = and_parts (nat_lt 0 k) (nat_le k z.board.limits.processors) checks.0 in
        let now : servers z (x ∷ h) ≡ k = ap (λ m. option_map_or (λ n. n) m (servers z h)) is in
        let none : connected_in x.op x.outcome ≡ None = connects_none x.op x.outcome (setting.NrServers k) set in
        let more = ltb-true 0 k range.0 in
        record {
          some = subst (λ n. 1 ≤ n) (sym now) (omega (arith, more));
          most = subst (λ n. n ≤ z.board.limits.processors) (sym now) (leb-true k z.board.limits.processors range.1);
          connected = λ v w e.
              let before : is_connected z h v ≡ true = ap (λ m. option_map_or (λ u. u == v) m false || is_connected z h v) (sym none) ∙ e in
              let found = some_found (is_connected z h) z.board.limits.processors v w before in
              absurd (let no : not true ≡ true = ap not (sym found) ∙ checks.1 in cc);
        }

-- the law holds of the accounts that go on from where it holds
pub has_servers : (z : Start) (h : List Entry) → HasServers z [] → IsLegal z h → HasServers z h
has_servers z [] first l = first
has_servers z (x ∷ h) first l = servers_more z h x l.1 (has_servers z h first l.0)

pub each_has_servers : EachHasServers
each_has_servers b h is_board l =
    let r = has_servers (start b) h (record { some = is_board.some_processor; most = omega arith; connected = λ v w e. w }) l in
    record { some = r.some; most = r.most; connected = r.connected }
