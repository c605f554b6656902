-- A script goes on, line after line and read after read.
use Rattle.std.proofs.Common.{ℕ, ◌≡◌, ◌<◌, ◌+◌, ◌-◌, Bool, true, false, IsFalse, List, [], ◌∷◌, ◌++◌, length, Option, Some, None, Ok, Err, refl, sym, ◌∙◌, ap, subst, arith, append_assoc, length-append}
use Rattle.std.specs.Io.KnownBytes.{Consumes, Keeps}
use Rattle.xv_base.specs.Limits.{byte_limit, longest_line}
use Rattle.xv_base.specs.Lines.{lines_within, are_too_many, whole_lines}
use Rattle.xv_io.specs.Reader.{Reading, Reads, Meets, GivesLine, GivesWholeLine, HasLongLine, HasNoLine, lines_left, too_many_left, whole_left}
use Rattle.board_script.specs.declared.faults.ScriptFault.{ScriptFault}
use Rattle.board_script.specs.declared.lines.Said.{Said}
use Rattle.board_script.specs.declared.lines.Said.TheVariants as said
use Rattle.board_script.specs.Parser.{Parsing, read_of, parsing_after, finished}
use Rattle.board_script.specs.Script.{Script, Accepted, Refused as Rejected, TooLong as Exceeds, WorkLine, so_far, work_with, script_from, so_far_from}
use Rattle.board_script.proofs.Reading.{IsNotEnd, one_line, one_so_far, end_line, refused_line, end_of_input, refused_end, too_long}
use Rattle.xive_cli.specs.Input.{Unread, script_left, so_far_left}
use Rattle.xive_cli.specs.Reading.{GoesOn, GoesTo, IsScript}

consumes_none : (a : Option (List ℕ)) → Consumes a a []
consumes_none None = tt
consumes_none (Some xs) = refl

pub consumes_both : (a b c : Option (List ℕ)) (x y : List ℕ) → Consumes a b x → Consumes b c y → Consumes a c (x ++ y)
consumes_both None b c x y p q = tt
consumes_both (Some xs) None c x y p q = absurd p
consumes_both (Some xs) (Some ys) None x y p q = absurd q
consumes_both (Some xs) (Some ys) (Some zs) x y p q = p ∙ ap (λ v. x ++ v) q ∙ sym (append_assoc x y zs)

not_yet : (x y : Bool) → (x ≡ true → y ≡ true) → y ≡ false → x ≡ false
not_yet true y f e = cc (f refl, e)
not_yet false y f e = refl

-- it goes on to where it is
pub goes_nowhere : (a : Unread) → GoesTo a a
goes_nowhere a = λ work. record {
  read = [];
  consumed = consumes_none a.left;
  script = λ bytes m. refl;
  so_far = λ o bytes. refl;
  given = omega arith;
  last = λ e. (refl, e);
}

-- from there it goes on further
pub goes_further : (a b c : Unread) (u v w : List WorkLine) → GoesOn a u b v → GoesOn b v c w → GoesOn a u c w
goes_further a b c u v w p q = record {
  read = p.read ++ q.read;
  consumed = consumes_both a.left b.left c.left p.read q.read p.consumed q.consumed;
  script = λ bytes m. ap (script_left a u) (append_assoc p.read q.read bytes) ∙ p.script (q.read ++ bytes) (λ e. let l = q.last e in ap (λ r. r ++ bytes) l.0 ∙ m l.1) ∙ q.script bytes m;
  so_far = λ o bytes. ap (so_far_left a u) (append_assoc p.read q.read bytes) ∙ p.so_far (not_yet b.reader.ended c.reader.ended (λ e. (q.last e).1) o) (q.read ++ bytes) ∙ q.so_far o bytes;
  given = omega (arith, p.given, q.given, length-append p.read q.read);
  last = λ e. let k = p.last e in let l = q.last k.1 in (ap (λ r. r ++ q.read) k.0 ∙ l.0, l.1);
}

-- from there the script is this one
pub script_behind : (a b c : Unread) (u v : List WorkLine) (s : Script) → GoesOn a u b v → IsScript b v c s → IsScript a u c s
script_behind a b c u v s p q = record {
  read = p.read ++ q.read;
  consumed = consumes_both a.left b.left c.left p.read q.read p.consumed q.consumed;
  is = λ bytes m. ap (script_left a u) (append_assoc p.read q.read bytes) ∙ p.script (q.read ++ bytes) (λ e. let l = q.last e in ap (λ r. r ++ bytes) l.0 ∙ m l.1) ∙ q.is bytes m;
  last = λ e. let k = p.last e in let l = q.last k.1 in (ap (λ r. r ++ q.read) k.0 ∙ l.0, l.1);
}

script_at : Parsing → List WorkLine → ℕ → List ℕ → Script
script_at p work given bytes = script_from p work (lines_within (byte_limit - given) bytes) (are_too_many (byte_limit - given) bytes)

same_script : (a b : Unread) (xs ys : List ℕ) (work : List WorkLine) → b.parser ≡ a.parser → b.reader.given ≡ a.reader.given → b.reader.ahead ++ ys ≡ a.reader.ahead ++ xs → script_left a work xs ≡ script_left b work ys
unfolding script_at
same_script a b xs ys work p g e =
    sym (ap (λ q. script_at q work b.reader.given (b.reader.ahead ++ ys)) p ∙ ap (λ n. script_at a.parser work n (b.reader.ahead ++ ys)) g ∙ ap (script_at a.parser work a.reader.given) e)

same_so_far : (a b : Unread) (xs ys : List ℕ) (work : List WorkLine) → b.parser ≡ a.parser → b.reader.ahead ++ ys ≡ a.reader.ahead ++ xs → so_far_left a work xs ≡ so_far_left b work ys
same_so_far a b xs ys work p e = sym (ap (λ q. so_far_from q work (whole_lines (b.reader.ahead ++ ys))) p ∙ ap (λ v. so_far_from a.parser work (whole_lines v)) e)

-- more was read
pub goes_by_reading : (a b : Unread) → Reads a.reader a.left b.reader b.left → b.parser ≡ a.parser → b.reader.given ≡ a.reader.given → IsFalse a.reader.ended → GoesTo a b
goes_by_reading a b r p g o = λ work.
    let ahead = λ (bytes : List ℕ). ap (λ v. v ++ bytes) r.ahead ∙ append_assoc a.reader.ahead r.read bytes in
    record {
      read = r.read;
      consumed = r.consumed;
      script = λ bytes m. same_script a b (r.read ++ bytes) bytes work p g (ahead bytes);
      so_far = λ no bytes. same_so_far a b (r.read ++ bytes) bytes work p (ahead bytes);
      given = omega (arith, g, ap length r.ahead, length-append a.reader.ahead r.read);
      last = λ e. absurd (cc (e, o));
    }

consumes_kept : (a b : Option (List ℕ)) → Keeps a b → Consumes a b []
consumes_kept None b k = tt
consumes_kept (Some xs) None k = absurd k
consumes_kept (Some xs) (Some ys) k = sym k

-- nothing was read
pub goes_by_missing : (a b : Unread) → b.reader ≡ a.reader → b.parser ≡ a.parser → Keeps a.left b.left → GoesTo a b
goes_by_missing a b r p k = λ work. record {
  read = [];
  consumed = consumes_kept a.left b.left k;
  script = λ bytes m. same_script a b bytes bytes work p (ap (λ (v : Reading). v.given) r) (ap (λ (v : Reading). v.ahead ++ bytes) r);
  so_far = λ o bytes. same_so_far a b bytes bytes work p (ap (λ (v : Reading). v.ahead ++ bytes) r);
  given = omega (arith, ap (λ (v : Reading). v.given) r, ap (λ (v : Reading). length v.ahead) r);
  last = λ e. (refl, ap (λ (v : Reading). v.ended) r ∙ e);
}

-- one line was given, which isn't the end
pub goes_by_line : (a b : Unread) (it : Said) → GivesLine a.reader b.reader → (IsFalse a.reader.ended → GivesWholeLine a.reader b.reader) →
    b.reader.given + length b.reader.ahead ≡ a.reader.given + length a.reader.ahead → b.reader.ended ≡ a.reader.ended → b.left ≡ a.left →
    read_of a.parser b.reader.line ≡ Ok it → b.parser ≡ parsing_after a.parser b.reader.line → IsNotEnd it → (work : List WorkLine) → GoesOn a work b (work_with it work)
goes_by_line a b it gives whole counts same left reads after not_end = λ work. record {
  read = [];
  consumed = subst (λ v. Consumes a.left v []) (sym left) (consumes_none a.left);
  script = λ bytes m.
      let g = gives bytes (λ e. m (same ∙ e)) in
      ap (λ ls. script_from a.parser work ls (too_many_left a.reader bytes)) g.0
      ∙ ap (script_from a.parser work (b.reader.line ∷ lines_left b.reader bytes)) g.1
      ∙ one_line a.parser work b.reader.line (lines_left b.reader bytes) (too_many_left b.reader bytes) it reads not_end
      ∙ ap (λ (p : Parsing). script_from p (work_with it work) (lines_left b.reader bytes) (too_many_left b.reader bytes)) (sym after);
  so_far = λ o bytes.
      ap (so_far_from a.parser work) (whole (sym same ∙ o) bytes)
      ∙ one_so_far a.parser work b.reader.line (whole_left b.reader bytes) it reads not_end
      ∙ ap (λ (p : Parsing). so_far_from p (work_with it work) (whole_left b.reader bytes)) (sym after);
  given = omega (arith, counts);
  last = λ e. (refl, same ∙ e);
}

-- what is read of the next line, or that there is none, settles the script
settled : (a b : Unread) (work : List WorkLine) (s : Script) → b.reader.ended ≡ a.reader.ended → b.left ≡ a.left → ((bytes : List ℕ) → Meets a.reader bytes → script_left a work bytes ≡ s) → IsScript a work b s
settled a b work s same left is = record {
  read = [];
  consumed = subst (λ v. Consumes a.left v []) (sym left) (consumes_none a.left);
  is = λ bytes m. is bytes (λ e. m (same ∙ e));
  last = λ e. (refl, same ∙ e);
}

first_line : (a b : Unread) (work : List WorkLine) (bytes : List ℕ) (line : List ℕ) (ls : List (List ℕ)) → lines_left a.reader bytes ≡ line ∷ ls → script_left a work bytes ≡ script_from a.parser work (line ∷ ls) (too_many_left a.reader bytes)
first_line a b work bytes line ls e = ap (λ v. script_from a.parser work v (too_many_left a.reader bytes)) e

-- the end line was given
pub ends_by_line : (a b : Unread) → GivesLine a.reader b.reader → b.reader.ended ≡ a.reader.ended → b.left ≡ a.left → read_of a.parser b.reader.line ≡ Ok said.End → (work : List WorkLine) → IsScript a work b (Accepted a.parser.board work)
ends_by_line a b gives same left reads = λ work. settled a b work (Accepted a.parser.board work) same left (λ bytes m.
    first_line a b work bytes b.reader.line (lines_left b.reader bytes) (gives bytes m).0 ∙ end_line a.parser work b.reader.line (lines_left b.reader bytes) (too_many_left a.reader bytes) reads)

-- a line was given that is refused
pub refused_by_line : (a b : Unread) (fault : ScriptFault) → GivesLine a.reader b.reader → b.reader.ended ≡ a.reader.ended → b.left ≡ a.left → read_of a.parser b.reader.line ≡ Err fault → (work : List WorkLine) → IsScript a work b (Rejected fault (so_far a.parser work))
refused_by_line a b fault gives same left reads = λ work. settled a b work (Rejected fault (so_far a.parser work)) same left (λ bytes m.
    first_line a b work bytes b.reader.line (lines_left b.reader bytes) (gives bytes m).0 ∙ refused_line a.parser work b.reader.line (lines_left b.reader bytes) (too_many_left a.reader bytes) fault reads)

-- the next line is long, and long lines are refused
pub refused_by_length : (a b : Unread) (fault : ScriptFault) → HasLongLine a.reader → b.reader.ended ≡ a.reader.ended → b.left ≡ a.left → ((line : List ℕ) → longest_line < length line → read_of a.parser line ≡ Err fault) → (work : List WorkLine) → IsScript a work b (Rejected fault (so_far a.parser work))
refused_by_length a b fault long same left reads = λ work. settled a b work (Rejected fault (so_far a.parser work)) same left (λ bytes m.
    let l = long bytes m in
    first_line a b work bytes l.0 l.1 l.2 ∙ refused_line a.parser work l.0 l.1 (too_many_left a.reader bytes) fault (reads l.0 l.3))

no_line : (a : Unread) (work : List WorkLine) (many : Bool) (bytes : List ℕ) → HasNoLine a.reader many → Meets a.reader bytes → script_left a work bytes ≡ script_from a.parser work [] many
no_line a work many bytes none m =
    let n = none bytes m in
    ap (λ ls. script_from a.parser work ls (too_many_left a.reader bytes)) n.0 ∙ ap (script_from a.parser work []) n.1

-- the input is over
pub ends_by_input : (a b : Unread) → HasNoLine a.reader false → b.reader.ended ≡ a.reader.ended → b.left ≡ a.left → finished a.parser ≡ Ok tt → (work : List WorkLine) → IsScript a work b (Accepted a.parser.board work)
ends_by_input a b none same left over = λ work. settled a b work (Accepted a.parser.board work) same left (λ bytes m. no_line a work false bytes none m ∙ end_of_input a.parser work over)

pub refused_by_end : (a b : Unread) (fault : ScriptFault) → HasNoLine a.reader false → b.reader.ended ≡ a.reader.ended → b.left ≡ a.left → finished a.parser ≡ Err fault → (work : List WorkLine) → IsScript a work b (Rejected fault (so_far a.parser work))
refused_by_end a b fault none same left over = λ work. settled a b work (Rejected fault (so_far a.parser work)) same left (λ bytes m. no_line a work false bytes none m ∙ refused_end a.parser work fault over)

-- there were too many bytes
pub exceeds : (a b : Unread) → HasNoLine a.reader true → b.reader.ended ≡ a.reader.ended → b.left ≡ a.left → (work : List WorkLine) → IsScript a work b (Exceeds (so_far a.parser work))
exceeds a b none same left = λ work. settled a b work (Exceeds (so_far a.parser work)) same left (λ bytes m. no_line a work true bytes none m ∙ too_long a.parser work)
