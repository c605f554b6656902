-- How a whole run ends.
use Rattle.std.proofs.Common.{ℕ, ◌≡◌, ◌≤◌, ◌-◌, IsTrue, List, [], ◌++◌, length, Option, Some, None, IsSome, refl, sym, ◌∙◌, ap, subst, append_assoc, append-nil, arith}
use Rattle.std.specs.Prelude.{map}
use Rattle.std.specs.Io.KnownBytes.{Appends, Consumes}
use Rattle.xv_base.specs.Limits.{byte_limit}
use Rattle.xv_base.specs.Lines.{lines_within, are_too_many, whole_lines}
use Rattle.xv_io.specs.Faults.{AppendsPart}
use Rattle.xv_io.specs.Reader.{Meets, lines_left, too_many_left}
use Rattle.xv_io.specs.Writer.{Puts}
use Rattle.xv_io.proofs.Appending.{part_more}
use Rattle.xv_io.proofs.Puts.{puts_all}
use Rattle.xv_model.specs.declared.board.Board.{Board}
use Rattle.xv_model.specs.declared.entries.Entry.{Entry}
use Rattle.xv_model.specs.account.Start.{start}
use Rattle.xv_model.proofs.OneAccount.{one_account}
use Rattle.xv_model.proofs.TriggerLaws.{numbered_in_order, each_accounted, comes_again}
use Rattle.xv_model.proofs.QueueLaws.{each_reads_next, each_reads_as_written}
use Rattle.xv_model.proofs.SoundMoves.{each_has_one_user, each_is_user}
use Rattle.xv_model.proofs.KeptOff.{each_is_kept_off}
use Rattle.xv_model.proofs.ShownLaws.{each_is_shown}
use Rattle.xv_model.proofs.PendingLaws.{each_is_in_ring, each_stays_pending}
use Rattle.xv_model.proofs.AcknowledgementLaws.{each_accepts_most_favoured, each_answers_accepted, each_leaves_alone, each_leaves_all}
use Rattle.xv_model.proofs.RouteLaws.{routed_in_order, once_forwarded, each_enters_once}
use Rattle.xv_model.proofs.FewMessages.{quiet_is_quiet, takes_are_few, messages_are_few}
use Rattle.xv_model.proofs.EscalationLaws.{undelivered_escalates, silent_escalates, escalation_runs}
use Rattle.xv_model.proofs.HypercallLaws.{refused_does_nothing}
use Rattle.xv_model.proofs.MigrationLaws.{each_tells_old_pairs, each_state_goes_on}
use Rattle.xv_model.proofs.ServerLaws.{each_has_servers}
use Rattle.account.specs.Account.{report_text, account_text}
use Rattle.account.specs.text.Refusal.{too_long_line}
use Rattle.machine.specs.Machine.{Held, StandsFor}
use Rattle.board_script.specs.declared.faults.ScriptFault.{ScriptFault}
use Rattle.board_script.specs.declared.stage.Stage.TheVariants.{Work}
use Rattle.board_script.specs.Parser.{Parsing, new_parsing, board_by}
use Rattle.board_script.specs.Script.{Script, Accepted, Refused as Rejected, TooLong as Exceeds, SoFar, WorkLine, line_for, script_from, script_of, so_far_from, script_so_far, board_in, IsAccountOn, IsAccountOf}
use Rattle.board_script.proofs.Accounts.{each_has_account}
use Rattle.xive_cli.specs.declared.stop.Stop.{Stop}
use Rattle.xive_cli.specs.declared.stop.Stop.TheVariants.{ReadFault, WriteFault, Refused, TooLong, NoMemory}
use Rattle.xive_cli.specs.Input.{Unread, script_left, so_far_left}
use Rattle.xive_cli.specs.Output.{Told, Tells, Fails}
use Rattle.xive_cli.specs.Reading.{GoesOn, IsScript}
use Rattle.xive_cli.specs.Stop.{Stops, RunsAll, EndsEarly, FailsReading, FailsWriting, BeginsOutput}
use Rattle.xive_cli.specs.Work.{RunsAllWork}
use Rattle.xive_cli.specs.commands.Run.{told_by, told_so_far, output_of, refusal_of, AreScript, WritesAccount, WritesRefusal, WritesTooLong, WritesSoFar, WritesPart, HasHeader}
use Rattle.xive_cli.proofs.Telling.{risen_from, tells_both, tells_still, fails_after, fails_still}
use Rattle.xive_cli.proofs.Going.{goes_further, script_behind, consumes_both}
use Rattle.xive_cli.proofs.Beginning.{board_from}

so_far_on : List WorkLine → Option Board → SoFar
so_far_on work board = record { board = board; work = work }

-- no two accounts follow the same work lines
same_on : (board : Option Board) (work : List WorkLine) (g h : List Entry) → IsAccountOn board work g → IsAccountOn board work h → h ≡ g
same_on (Some b) work g h r s = one_account (start b) (map line_for work) h g s.1 r.1 s.0 r.0
same_on None work g h r s = s ∙ sym r

-- ---- behind the header

early_after : (a u v : Unread) (t t1 t' : Told) (end : SoFar → Script) → GoesOn a [] u [] → Tells t [] t1 → EndsEarly u t1 v t' end → EndsEarly a t v t' end
early_after a u v t t1 t' end g tells s = record {
  so_far = s.so_far;
  account = s.account;
  is_script = script_behind a u v [] [] (end s.so_far) g s.is_script;
  ran = s.ran;
  tells = tells_both t t1 t' [] (told_so_far s.so_far s.account) tells s.tells;
}

writing_after : (a u v : Unread) (t t1 t' : Told) → GoesOn a [] u [] → t.faults ≤ t1.faults → Tells t [] t1 → FailsWriting u t1 v t' → FailsWriting a t v t'
writing_after a u v t t1 t' g l tells s =
    let text = s.text in
    record {
      read = g.read ++ s.read;
      consumed = consumes_both a.left u.left v.left g.read s.read g.consumed s.consumed;
      last = λ e. let k = g.last e in let m = s.last k.1 in (ap (λ r. r ++ s.read) k.0 ∙ m.0, m.1);
      text = text;
      begins = λ bytes m. subst (BeginsOutput text)
          (sym (ap (script_left a []) (append_assoc g.read s.read bytes) ∙ g.script (s.read ++ bytes) (λ e. let k = s.last e in ap (λ r. r ++ bytes) k.0 ∙ m k.1)))
          (s.begins bytes m);
      fails = fails_after t t1 t' [] text l tells s.fails;
    }

-- what stops behind the header stops the run
pub stops_after : (stop : Stop) (a u v : Unread) (t t1 t' : Told) → GoesOn a [] u [] → a.faults ≤ u.faults → t.faults ≤ t1.faults → Tells t [] t1 → Stops stop u t1 v t' → Stops stop a t v t'
stops_after ReadFault a u v t t1 t' g l k tells s = record {
  so_far = s.so_far;
  account = s.account;
  goes = goes_further a u v [] [] s.so_far.work g s.goes;
  board = s.board;
  ran = s.ran;
  tells = tells_both t t1 t' [] (told_so_far s.so_far s.account) tells s.tells;
  failed = risen_from a.faults u.faults v.faults l s.failed;
  waits = s.waits;
  all = s.all;
}
stops_after WriteFault a u v t t1 t' g l k tells s = writing_after a u v t t1 t' g k tells s
stops_after (Refused fault) a u v t t1 t' g l k tells s = early_after a u v t t1 t' (Rejected fault) g tells s
stops_after TooLong a u v t t1 t' g l k tells s = early_after a u v t t1 t' Exceeds g tells s
stops_after NoMemory a u v t t1 t' g l k tells s = record { goes = goes_further a u v [] [] [] g s.goes; stage = s.stage; tells = tells_both t t1 t' [] [] tells s.tells }

-- ---- behind the work lines

-- the account of a script that is accepted is one
same_account : (b : Board) (work : List WorkLine) (g h : List Entry) → IsAccountOn (Some b) work g → IsAccountOf (Accepted b work) h → h ≡ g
same_account b work g h ran is = same_on (Some b) work g h ran is

account_first : (b : Board) (work : List WorkLine) (g : List Entry) → IsAccountOn (Some b) work g → BeginsOutput (account_text b g) (Accepted b work)
account_first b work g ran = λ h is. ([], ap (account_text b) (same_account b work g h ran is) ∙ sym (append-nil (account_text b g)))

-- the report was told
pub all_told : (b : Board) (a v : Unread) (m : Held) (t t1 t2 t' : Told) → m.fabric.tables.board ≡ b → (r : RunsAllWork b a t m v t1) → ((h : List Entry) → StandsFor m (start m.fabric.tables.board) h → Tells t1 (report_text (start m.fabric.tables.board) h) t2) → Tells t2 [] t' → t'.gathered ≡ [] → RunsAll a t v t'
all_told b a v m t t1 t2 t' e r report flushed all =
    let told = subst (λ c. (h : List Entry) → StandsFor m (start c) h → Tells t1 (report_text (start c) h) t2) e report in
    record {
      board = b;
      work = r.work;
      account = r.account;
      is_script = r.is_script;
      is_board = r.is_board;
      ran = r.has_run.ran;
      tells = tells_still t t2 t' (account_text b r.account) (tells_both t t1 t2 (told_by (Some b) r.account) (report_text (start b) r.account) r.has_run.tells (told r.account r.has_run.stands)) flushed;
      all = all;
    }

account_failed : (b : Board) (a v : Unread) (m : Held) (t t1 t' : Told) → (r : RunsAllWork b a t m v t1) → Fails t (account_text b r.account) t' → FailsWriting a t v t'
account_failed b a v m t t1 t' r f = record {
  read = r.is_script.read;
  consumed = r.is_script.consumed;
  last = r.is_script.last;
  text = account_text b r.account;
  begins = λ bytes meets. subst (BeginsOutput (account_text b r.account)) (sym (r.is_script.is bytes meets)) (account_first b r.work r.account r.has_run.ran);
  fails = f;
}

-- the report was not written whole
pub report_failed : (b : Board) (a v : Unread) (m : Held) (t t1 t' : Told) → m.fabric.tables.board ≡ b → t.faults ≤ t1.faults → RunsAllWork b a t m v t1 → ((h : List Entry) → StandsFor m (start m.fabric.tables.board) h → Fails t1 (report_text (start m.fabric.tables.board) h) t') → FailsWriting a t v t'
report_failed b a v m t t1 t' e l r report =
    let failed = subst (λ c. (h : List Entry) → StandsFor m (start c) h → Fails t1 (report_text (start c) h) t') e report in
    account_failed b a v m t t1 t' r (fails_after t t1 t' (told_by (Some b) r.account) (report_text (start b) r.account) l r.has_run.tells (failed r.account r.has_run.stands))

-- the last piece was not written whole
pub flush_failed : (b : Board) (a v : Unread) (m : Held) (t t1 t2 t' : Told) → m.fabric.tables.board ≡ b → t.faults ≤ t2.faults → RunsAllWork b a t m v t1 → ((h : List Entry) → StandsFor m (start m.fabric.tables.board) h → Tells t1 (report_text (start m.fabric.tables.board) h) t2) → Fails t2 [] t' → FailsWriting a t v t'
flush_failed b a v m t t1 t2 t' e l r report f =
    let told = subst (λ c. (h : List Entry) → StandsFor m (start c) h → Tells t1 (report_text (start c) h) t2) e report in
    account_failed b a v m t t1 t' r
    (fails_still t t2 t' (account_text b r.account) l (tells_both t t1 t2 (told_by (Some b) r.account) (report_text (start b) r.account) r.has_run.tells (told r.account r.has_run.stands)) f)

-- ---- from the first byte

-- before the first byte of an input, and with nothing told
pub record IsNew (a : Unread) (t : Told) : Type 0 where
  pub parser : a.parser ≡ new_parsing
  pub ahead : a.reader.ahead ≡ []
  pub given : a.reader.given ≡ 0
  pub gathered : t.gathered ≡ []

-- the bytes that are left meet the reader
abbrev pub MeetsLeft : Unread → Type 0
MeetsLeft v = (bytes : List ℕ) → IsTrue v.reader.ended → v.left ≡ Some bytes → bytes ≡ []

first_at : Parsing → ℕ → List ℕ → List ℕ → Script
first_at p given ahead bytes = script_from p [] (lines_within (byte_limit - given) (ahead ++ bytes)) (are_too_many (byte_limit - given) (ahead ++ bytes))

from_first : (a : Unread) (t : Told) (bytes : List ℕ) → IsNew a t → script_left a [] bytes ≡ script_of bytes
unfolding first_at
from_first a t bytes n =
    ap (λ p. first_at p a.reader.given a.reader.ahead bytes) n.parser ∙ ap (λ k. first_at new_parsing k a.reader.ahead bytes) n.given ∙ ap (λ ahead. first_at new_parsing 0 ahead bytes) n.ahead

so_far_first : (a : Unread) (t : Told) (bytes : List ℕ) → IsNew a t → so_far_left a [] bytes ≡ script_so_far bytes
so_far_first a t bytes n = ap (λ p. so_far_from p [] (whole_lines (a.reader.ahead ++ bytes))) n.parser ∙ ap (λ ahead. so_far_from new_parsing [] (whole_lines (ahead ++ bytes))) n.ahead

-- the known bytes are what is read from there on
known : (a v : Unread) (t : Told) (read : List ℕ) (P : Option (List ℕ) → Type 0) → IsNew a t → MeetsLeft v → Consumes a.left v.left read → P None →
    ((bytes : List ℕ) → Meets v.reader bytes → P (Some (read ++ bytes))) → P a.left
known a v t read P n meets c none some = by a.left v.left c meets
  where
    by : (left left' : Option (List ℕ)) → Consumes left left' read → ((bytes : List ℕ) → IsTrue v.reader.ended → left' ≡ Some bytes → bytes ≡ []) → P left
    by None left' c m = none
    by (Some xs) None c m = absurd c
    by (Some xs) (Some ys) c m = subst (λ bytes. P (Some bytes)) (sym c) (some ys (λ e. m ys e refl))

are_script : (a v : Unread) (t : Told) (s : Script) → IsNew a t → MeetsLeft v → IsScript a [] v s → AreScript a.left s
are_script a v t s n meets is = known a v t is.read (λ left. AreScript left s) n meets is.consumed tt (λ bytes m. sym (from_first a t (is.read ++ bytes) n) ∙ is.is bytes m)

-- what was told with nothing gathered at either end was appended
pub appended : (t t' : Told) (text : List ℕ) → t.gathered ≡ [] → t'.gathered ≡ [] → Tells t text t' → Appends t.held t'.held text
appended t t' text e f tells = puts_all t.held t'.held text (subst (λ w. Puts [] t.held w t'.held text) f (subst (λ w. Puts w t.held t'.gathered t'.held text) e tells))

-- the account of the whole script was written
pub account_written : (a v : Unread) (t t' : Told) → IsNew a t → MeetsLeft v → RunsAll a t v t' → WritesAccount a.left t.held t'.held
account_written a v t t' n meets r = record {
  board = r.board;
  work = r.work;
  account = r.account;
  is_script = are_script a v t (Accepted r.board r.work) n meets r.is_script;
  is_board = r.is_board;
  follows = r.ran.0;
  legal = r.ran.1;
  numbered = numbered_in_order r.board r.account r.ran.1;
  accounted = each_accounted r.board r.account r.ran.1;
  come_again = comes_again r.board r.account r.ran.1;
  routed_in_order = routed_in_order r.board r.account r.ran.1;
  once_forwarded = once_forwarded r.board r.account r.ran.1;
  quiet_is_quiet = quiet_is_quiet r.board r.account r.ran.1;
  takes_are_few = takes_are_few r.board r.account r.ran.1;
  messages_are_few = messages_are_few r.board r.account r.ran.1;
  enter_once = each_enters_once r.board r.account r.ran.1;
  reads_next = each_reads_next r.board r.account r.ran.1;
  reads_as_written = each_reads_as_written r.board r.account r.ran.1;
  one_user = each_has_one_user r.board r.account r.ran.1;
  users = each_is_user r.board r.account r.ran.1;
  kept_off = each_is_kept_off r.board r.account r.ran.1;
  in_ring = each_is_in_ring r.board r.account r.ran.1;
  shown = each_is_shown r.board r.account r.ran.1;
  stay_pending = each_stays_pending r.board r.account r.ran.1;
  accept_most_favoured = each_accepts_most_favoured r.board r.account r.ran.1;
  answer_accepted = each_answers_accepted r.board r.account r.ran.1;
  leave_alone = each_leaves_alone r.board r.account r.ran.1;
  leave_all = each_leaves_all r.board r.account r.ran.1;
  undelivered_escalate = undelivered_escalates r.board r.account r.ran.1;
  silent_escalate = silent_escalates r.board r.account r.ran.1;
  escalations_run = escalation_runs r.board r.account r.ran.1;
  refused_do_nothing = refused_does_nothing r.board r.account r.ran.1;
  tell_old_pairs = each_tells_old_pairs r.board r.account r.ran.1;
  states_go_on = each_state_goes_on r.board r.account r.ran.1;
  servers = each_has_servers r.board r.account r.is_board r.ran.1;
  written = appended t t' (account_text r.board r.account) n.gathered r.all r.tells;
}

-- a refusal was written
pub refusal_written : (fault : ScriptFault) (a v : Unread) (t t1 t' : Told) → IsNew a t → MeetsLeft v → EndsEarly a t v t1 (Rejected fault) → Tells t1 (refusal_of fault) t' → t'.gathered ≡ [] → WritesRefusal a.left t.held t'.held
refusal_written fault a v t t1 t' n meets s tells all = record {
  fault = fault;
  so_far = s.so_far;
  account = s.account;
  is_script = are_script a v t (Rejected fault s.so_far) n meets s.is_script;
  ran = s.ran;
  written = appended t t' (told_so_far s.so_far s.account ++ refusal_of fault) n.gathered all (tells_both t t1 t' (told_so_far s.so_far s.account) (refusal_of fault) s.tells tells);
}

-- too many bytes were told
pub too_long_written : (a v : Unread) (t t1 t' : Told) → IsNew a t → MeetsLeft v → EndsEarly a t v t1 Exceeds → Tells t1 too_long_line t' → t'.gathered ≡ [] → WritesTooLong a.left t.held t'.held
too_long_written a v t t1 t' n meets s tells all = record {
  so_far = s.so_far;
  account = s.account;
  is_script = are_script a v t (Exceeds s.so_far) n meets s.is_script;
  ran = s.ran;
  written = appended t t' (told_so_far s.so_far s.account ++ too_long_line) n.gathered all (tells_both t t1 t' (told_so_far s.so_far s.account) too_long_line s.tells tells);
}

-- a read failed
pub so_far_written : (a v : Unread) (t t1 t' : Told) → IsNew a t → FailsReading a t v t1 → Tells t1 [] t' → t'.gathered ≡ [] → WritesSoFar a.left v.left t.held t'.held
unfolding so_far_on
so_far_written a v t t1 t' n s still all = record {
  consumed = s.goes.read;
  so_far = s.so_far;
  account = s.account;
  is_consumed = s.goes.consumed;
  short = omega (arith, s.goes.given, s.waits.below, n.given, ap length n.ahead);
  is_so_far =
      sym (so_far_first a t s.goes.read n) ∙ ap (so_far_left a []) (sym (append-nil s.goes.read)) ∙ s.goes.so_far s.waits.ended []
      ∙ ap (so_far_from v.parser s.so_far.work) s.waits.whole ∙ ap (λ board. Some (so_far_on s.so_far.work board)) s.board;
  ran = s.ran;
  written = appended t t' (told_so_far s.so_far s.account) n.gathered all (tells_still t t1 t' (told_so_far s.so_far s.account) s.tells still);
}

-- a write failed at a text that is told first
pub part_written : (a v : Unread) (t t' : Told) → IsNew a t → MeetsLeft v → FailsWriting a t v t' → WritesPart a.left t.held t'.held
part_written a v t t' n meets s = known a v t s.read (λ left. WritesPart left t.held t'.held) n meets s.consumed tt (λ bytes m.
    let script = script_of (s.read ++ bytes) in
    let account = each_has_account (s.read ++ bytes) in
    let same = from_first a t (s.read ++ bytes) n in
    let first = subst (BeginsOutput s.text) same (s.begins bytes m) account.0 account.1 in (
      account.0,
      account.1,
      subst (AppendsPart t.held t'.held) (sym first.1)
          (part_more t.held t'.held s.text first.0 (subst (λ w. AppendsPart t.held t'.held (w ++ s.text)) n.gathered s.fails.part)),
    ))

-- the last line was not written whole
pub last_failed : (a v : Unread) (t t1 t' : Told) (end : SoFar → Script) (line : List ℕ) → ((f : SoFar) (h : List Entry) → output_of (end f) h ≡ told_so_far f h ++ line) → ((f : SoFar) (h : List Entry) → IsAccountOf (end f) h → IsAccountOn f.board f.work h) →
    t.faults ≤ t1.faults → EndsEarly a t v t1 end → Fails t1 line t' → FailsWriting a t v t'
last_failed a v t t1 t' end line is on l s f = record {
  read = s.is_script.read;
  consumed = s.is_script.consumed;
  last = s.is_script.last;
  text = told_so_far s.so_far s.account ++ line;
  begins = λ bytes m. subst (BeginsOutput (told_so_far s.so_far s.account ++ line)) (sym (s.is_script.is bytes m)) (λ h account.
      ([], is s.so_far h ∙ ap (λ g. told_so_far s.so_far g ++ line) (same_on s.so_far.board s.so_far.work s.account h s.ran (on s.so_far h account)) ∙ sym (append-nil (told_so_far s.so_far s.account ++ line))));
  fails = fails_after t t1 t' (told_so_far s.so_far s.account) line l s.tells f;
}

-- the header is whole
pub header_whole : (a v : Unread) (t : Told) → IsNew a t → MeetsLeft v → GoesOn a [] v [] → v.parser.stage ≡ Work → HasHeader a.left
header_whole a v t n meets g e = known a v t g.read HasHeader n meets g.consumed tt (λ bytes m.
    subst (λ o. IsSome o) (sym (ap board_in (sym (from_first a t (g.read ++ bytes) n) ∙ g.script bytes m) ∙ board_from v.parser.board v.parser [] (lines_left v.reader bytes) (too_many_left v.reader bytes) (ap (λ s. board_by s v.parser.board) e))) refl)

-- what was told in the end, seen from before the header
pub all_after : (a u v : Unread) (t t1 t' : Told) → GoesOn a [] u [] → Tells t [] t1 → RunsAll u t1 v t' → RunsAll a t v t'
all_after a u v t t1 t' g tells r = record {
  board = r.board;
  work = r.work;
  account = r.account;
  is_script = script_behind a u v [] [] (Accepted r.board r.work) g r.is_script;
  is_board = r.is_board;
  ran = r.ran;
  tells = tells_both t t1 t' [] (account_text r.board r.account) tells r.tells;
  all = r.all;
}
