-- The account of the example of a queue: in each round the source is told its next EISN, triggered, routed, read and ended.
use Rattle.std.proofs.Common.{ℕ, zero, suc, ◌≡◌, ◌+◌, ◌<◌, true, false, List, [], ◌∷◌, ◌++◌, length, slice_get, Some, None, refl, sym, ◌∙◌, ap, subst, arith, lit<, inl, inr, length-append}
use Rattle.std.proofs.lemmas.Bool.{cases_lt}
use Rattle.std.proofs.lemmas.List.Elements.{All-nil, All-cons}
use Rattle.xv_model.specs.declared.pages.TheConstants.{ESB_SET_PQ, ESB_SET_STEP}
use Rattle.xv_model.specs.declared.hypercalls.TheConstants.{H_INT_SET_SOURCE_CONFIG}
use Rattle.xv_model.specs.declared.hypercalls.codes.TheConstants.{H_SUCCESS}
use Rattle.xv_model.specs.declared.hypercalls.flags.TheConstants.{SRC_SET_EISN}
use Rattle.xv_model.specs.declared.operations.PqOp.TheVariants.{Trigger, Eoi, Set}
use Rattle.xv_model.specs.declared.operations.Op.{Op}
use Rattle.xv_model.specs.declared.operations.Op.TheVariants as op
use Rattle.xv_model.specs.declared.outcomes.Then.TheVariants.{Coalesced}
use Rattle.xv_model.specs.declared.outcomes.EndRun.TheVariants as run
use Rattle.xv_model.specs.declared.outcomes.Routed.TheVariants.{Run}
use Rattle.xv_model.specs.declared.outcomes.Outcome.{Outcome}
use Rattle.xv_model.specs.declared.outcomes.Outcome.TheVariants as out
use Rattle.xv_model.specs.declared.entries.Entry.{Entry}
use Rattle.xv_model.specs.account.Start.{Start, start}
use Rattle.xv_model.specs.account.Legal.{IsLegal}
use Rattle.xv_model.specs.source.Pairs.{pq}
use Rattle.xv_model.specs.source.Notices.{forwards, routes}
use Rattle.xv_model.specs.source.Eas.{eas}
use Rattle.xv_model.specs.call.Hypercalls.{reply_with}
use Rattle.xv_model.specs.end.Descriptors.{config_by}
use Rattle.xv_model.specs.end.EventStates.{esn}
use Rattle.xv_model.specs.end.Written.{written}
use Rattle.xv_model.specs.end.Memory.{place, wrote_at, word_by}
use Rattle.xv_model.specs.end.Reading.{taken}
use Rattle.xv_model.specs.route.Flight.{flight}
use Rattle.xv_model.specs.processor.Phases.{is_connected}
use Rattle.xv_model.specs.laws.Queues.{KeepsUp, LeavesQueue, IsOwnQueue}
use Rattle.xv_model.specs.laws.QueueExample.{one_source, one_page}
use Rattle.xv_model.proofs.FreshPages.{zeros_are_fresh}

-- the start record of the board
abbrev pub z : Start
z = start one_source

-- an entry of the one actor
abbrev pub by_one : Op → Outcome → Entry
by_one o outcome = record { actor = 0; op = o; outcome = outcome }

-- END 0 is configured
abbrev pub configuring : Entry
configuring = by_one (op.EndSet 0 one_page) out.Fine

-- a load of the END's page switches its notifications off: the guest polls
abbrev pub polling : Entry
polling = by_one (op.EndEsb 0 0 (ESB_SET_PQ + ESB_SET_STEP) false) (out.EndPq 0 1)

-- the source is enabled
abbrev pub enabling : Entry
enabling = by_one (op.Pq 0 (Set 0)) (out.Pq 1 0 0)

-- the source is told its END and the EISN n
abbrev pub telling : ℕ → Entry
telling n = by_one (op.Hcall H_INT_SET_SOURCE_CONFIG (SRC_SET_EISN ∷ 0 ∷ 0 ∷ 0 ∷ n ∷ [])) (out.Reply (reply_with H_SUCCESS []))

-- the source is triggered after n forwards
abbrev pub triggering : ℕ → Entry
triggering n = by_one (op.Pq 0 Trigger) (out.Pq 0 2 (n + 1))

-- its notice is routed after n routes, and written into the queue
abbrev pub routing : ℕ → Entry
routing n = by_one (op.Route 0) (out.Routed (n + 1) (Run (run.Ran 0 (Some (wrote_at one_page n n)) Coalesced)))

-- the payload n is read
abbrev pub reading : ℕ → Entry
reading n = by_one (op.Read 0) (out.Item n)

-- the interrupt is ended
abbrev pub ending : Entry
ending = by_one (op.Pq 0 Eoi) (out.Pq 2 0 0)

-- the entries since the configuration, with so many rounds
unfoldable pub since : ℕ → List Entry
since zero = enabling ∷ polling ∷ []
since (suc n) = ending ∷ reading n ∷ routing n ∷ triggering n ∷ telling n ∷ since n

-- the account after the configuration
abbrev pub account : List Entry → List Entry
account later = later ++ configuring ∷ []

-- these entries since then leave END 0 its queue, as the law asks
abbrev pub Own : List Entry → Type 0
Own later = IsOwnQueue z [] configuring later 0 one_page

-- the payloads of so many rounds: each is its number
unfoldable pub up_to : ℕ → List ℕ
up_to zero = []
up_to (suc n) = up_to n ++ n ∷ []

-- one more payload
pub up_to-more : (n : ℕ) → up_to (suc n) ≡ up_to n ++ n ∷ []
unfolding up_to
up_to-more n = refl

-- there are so many
pub length-up_to : (n : ℕ) → length (up_to n) ≡ n
unfolding up_to
length-up_to zero = refl
length-up_to (suc n) = omega (arith, length-append (up_to n) (n ∷ []), length-up_to n)

-- an element of a list in front
get-front : (xs ys : List ℕ) (k p : ℕ) → slice_get xs k ≡ Some p → slice_get (xs ++ ys) k ≡ Some p
get-front [] ys k p is = cc
get-front (x ∷ xs) ys zero p is = is
get-front (x ∷ xs) ys (suc k) p is = get-front xs ys k p is

-- the element after a list in front
pub get-next : (xs : List ℕ) (p : ℕ) → slice_get (xs ++ p ∷ []) (length xs) ≡ Some p
get-next [] p = refl
get-next (x ∷ xs) p = get-next xs p

-- the payload of each round is its number
pub get-up_to : (n k : ℕ) → k < n → slice_get (up_to n) k ≡ Some k
unfolding up_to
get-up_to zero k l = absurd (omega arith)
get-up_to (suc n) k l =
    elim (cases_lt k n) [
      | inl before ↦ get-front (up_to n) (n ∷ []) k k (get-up_to n k before)
      | inr last ↦
          let same : length (up_to n) ≡ k = omega (arith, length-up_to n) in
          let n_is : n ≡ k = omega arith in
          ap (slice_get (up_to n ++ n ∷ [])) (sym same) ∙ get-next (up_to n) n ∙ ap Some n_is
    ]

-- the board after so many rounds
pub record AfterRounds (n : ℕ) (later : List Entry) : Type 0 where
  pub is_legal : IsLegal z (account later)
  pub own : Own later
  pub pair : pq z (account later) 0 ≡ 0
  pub forwarded : forwards z (account later) 0 ≡ n
  pub routed : routes z (account later) 0 ≡ n
  pub valid_eas : (eas z (account later) 0).valid ≡ true
  pub off : esn z (account later) 0 ≡ 1
  pub connected : is_connected z (account later) 0 ≡ true
  pub none_flies : flight z (account later) ≡ []
  pub wrote : written z (account later) 0 ≡ up_to n
  pub took : taken (account later) 0 ≡ up_to n

-- where the reader keeps up in one more entry, by how much later the read is
keeps_more : (later : List Entry) (y : Entry) → Own later → (y.op ≡ op.Read 0 → KeepsUp z (account later) 0) →
    (after earlier : List Entry) (r : Entry) → y ∷ later ≡ after ++ r ∷ earlier → r.op ≡ op.Read 0 → KeepsUp z (account earlier) 0
keeps_more later y w keeps [] earlier r is read =
    let same : later ≡ earlier = cc in
    let one : y ≡ r = cc in
    subst (λ v. KeepsUp z (account v) 0) same (keeps (ap (λ v. v.op) one ∙ read))
keeps_more later y w keeps (a ∷ after) earlier r is read = let same : later ≡ after ++ r ∷ earlier = cc in w.keeps_up after earlier r same read

-- one more entry that leaves the END its queue
pub own_more : (later : List Entry) (y : Entry) → Own later → LeavesQueue 0 one_page y → (y.op ≡ op.Read 0 → KeepsUp z (account later) 0) → Own (y ∷ later)
own_more later y w leaves keeps = record {
  configured = w.configured;
  is_on = w.is_on;
  has_queue = w.has_queue;
  fresh = w.fresh;
  own = All-cons (LeavesQueue 0 one_page) y later leaves w.own;
  keeps_up = keeps_more later y w keeps;
}

-- no entry stands in the empty account
not_none : (later earlier : List Entry) (y : Entry) → [] ≡ later ++ y ∷ earlier → ⊥
not_none [] earlier y is = cc
not_none (l ∷ later) earlier y is = cc

-- at the start no entry follows
own_none : Own []
own_none = record {
  configured = refl;
  is_on = refl;
  has_queue = refl;
  fresh = zeros_are_fresh z (configuring ∷ []) one_page refl (λ j. refl);
  own = All-nil (LeavesQueue 0 one_page);
  keeps_up = λ later earlier y is read. absurd (not_none later earlier y is);
}

-- an entry that isn't a read, and neither writes a word nor configures END 0, leaves it its queue
pub own_quiet : (later : List Entry) (y : Entry) → Own later → config_by 0 y ≡ None → ((a : ℕ) → word_by a y ≡ None) → (y.op ≡ op.Read 0 → ⊥) → Own (y ∷ later)
own_quiet later y w config no_word no_read =
    own_more later y w (record { config = config; words = λ j word is. let none : None ≡ Some word = sym (no_word (place one_page j)) ∙ is in absurd cc }) (λ read. absurd (no_read read))

-- the board after no round
pub none_after : AfterRounds 0 (since 0)
unfolding since up_to
none_after =
    let own_polling = own_quiet [] polling own_none refl (λ a. refl) (λ read. cc) in
    record {
      is_legal = (((tt, record { actor = lit< tt; valid_op = refl; outcome = refl }), record { actor = lit< tt; valid_op = refl; outcome = refl }), record { actor = lit< tt; valid_op = refl; outcome = refl });
      own = own_quiet (polling ∷ []) enabling own_polling refl (λ a. refl) (λ read. cc);
      pair = refl;
      forwarded = refl;
      routed = refl;
      valid_eas = refl;
      off = refl;
      connected = refl;
      none_flies = refl;
      wrote = refl;
      took = refl;
    }
