-- Texts that are printed into what is gathered, and then settled.
use Rattle.std.proofs.Common.{ℕ, zero, suc, ◌≡◌, ◌<◌, ◌≤◌, ◌+◌, ◌-◌, List, [], ◌++◌, refl, sym, ◌∙◌, ap, subst, append-nil, append_assoc, add-one, arith, OnOk, OnErr, Result, Ok, Err}
use Rattle.xv_io.specs.Faults.{HasRisen, AppendsPart}
use Rattle.xv_io.specs.Writer.{Puts}
use Rattle.xv_model.specs.declared.board.Board.{Board}
use Rattle.xv_model.specs.declared.entries.Entry.{Entry}
use Rattle.xv_model.specs.account.Start.{Start, start}
use Rattle.account.specs.Account.{texts_below, processor_line_of, ring_line_of}
use Rattle.account.specs.text.Report.{ring_line}
use Rattle.nvt_backlog.specs.declared.vp.Vp.{Vp}
use Rattle.thread_context.specs.declared.ring.Ring.{Ring}
use Rattle.fabric_core.specs.Processors.{vp_of, ring_shown}
use Rattle.machine.specs.Machine.{Held, StandsFor}
use Rattle.xive_cli.specs.Output.{Told, Tells, Fails}
use Rattle.xive_cli.specs.Report.{TellsOf, FailsOf, connected_line}
use Rattle.xive_cli.proofs.Telling.{tells_nothing, tells_both, tells_printed, fails_after, fails_more, fails_printed}

-- the texts of numbers begin with those of the numbers below a smaller one
texts_begin : (f : ℕ → List ℕ) (n k m : ℕ) → m ≡ n + k → (rest : List ℕ) × (texts_below f m ≡ texts_below f n ++ rest)
texts_begin f n zero m e =
    let same : m ≡ n = omega (arith, e) in
    ([], ap (λ i. texts_below f i) same ∙ sym (append-nil (texts_below f n)))
texts_begin f n (suc k) m e =
    let before = texts_begin f n k (n + k) refl in
    let same : m ≡ suc (n + k) = omega (arith, e) in
    (before.0 ++ f (n + k), ap (λ i. texts_below f i) same ∙ ap (λ v. v ++ f (n + k)) before.1 ∙ append_assoc (texts_below f n) before.0 (f (n + k)))

-- the lines of no numbers
pub none_told : (m : Held) (line : Start → List Entry → ℕ → List ℕ) (a : Told) → TellsOf m (λ z h. texts_below (line z h) 0) a a
none_told m line a h st = tells_nothing a

-- the line of one more number was printed and settled
pub one_told : (m : Held) (line : Start → List Entry → ℕ → List ℕ) (i : ℕ) (a b c : Told) (mid text : List ℕ) →
    TellsOf m (λ z h. texts_below (line z h) i) a b → ((h : List Entry) → StandsFor m (start m.fabric.tables.board) h → text ≡ line (start m.fabric.tables.board) h i) →
    mid ≡ b.gathered ++ text → Puts mid b.held c.gathered c.held [] → TellsOf m (λ z h. texts_below (line z h) (i + 1)) a c
one_told m line i a b c mid text before is printed put h st =
    let f = line (start m.fabric.tables.board) h in
    let one : Tells b (f i) c = subst (λ t. Tells b t c) (is h st) (tells_printed b c mid text printed put) in
    subst (λ n. Tells a (texts_below f n) c) (sym (add-one i)) (tells_both a b c (texts_below f i) (f i) (before h st) one)

-- the sink failed there
pub one_failed : (m : Held) (line : Start → List Entry → ℕ → List ℕ) (i n : ℕ) (a b c : Told) (mid text : List ℕ) → i < n → a.faults ≤ b.faults →
    TellsOf m (λ z h. texts_below (line z h) i) a b → ((h : List Entry) → StandsFor m (start m.fabric.tables.board) h → text ≡ line (start m.fabric.tables.board) h i) →
    mid ≡ b.gathered ++ text → AppendsPart b.held c.held mid → HasRisen b.faults c.faults → c.gathered ≡ [] → FailsOf m (λ z h. texts_below (line z h) n) a c
one_failed m line i n a b c mid text low count before is printed part failed lost h st =
    let f = line (start m.fabric.tables.board) h in
    let one : Fails b (f i) c = subst (λ t. Fails b t c) (is h st) (fails_printed b c mid text printed part failed lost) in
    let more = texts_begin f (suc i) (n - suc i) n (omega (arith, low)) in
    subst (λ t. Fails a t c) (sym more.1) (fails_more a c (texts_below f i ++ f i) more.0 (fails_after a b c (texts_below f i) (f i) count (before h st) one))

-- what a machine of a board shows of a processor is its line
pub processor_printed : (b : Board) (h : List Entry) (v : ℕ) (p : Vp) → p ≡ vp_of (start b) h v → connected_line v p ≡ processor_line_of (start b) h v
processor_printed b h v p is = ap (connected_line v) is

-- what a machine shows of a ring is its line
pub ring_printed : (b : Board) (h : List Entry) (t : ℕ) (r : Ring) → r ≡ ring_shown (start b) h t → ring_line t r.nsr r.cppr r.ipb r.pipr r.cam ≡ ring_line_of (start b) h t
ring_printed b h t r is = ap (λ (r : Ring). ring_line t r.nsr r.cppr r.ipb r.pipr r.cam) is

-- a text of a machine, and then another
pub tells_parts : (m : Held) (x y : Start → List Entry → List ℕ) (a b c : Told) → TellsOf m x a b → TellsOf m y b c → TellsOf m (λ z h. x z h ++ y z h) a c
tells_parts m x y a b c p q h st = tells_both a b c (x (start m.fabric.tables.board) h) (y (start m.fabric.tables.board) h) (p h st) (q h st)

-- after a text of a machine the sink failed at another
pub fails_parts : (m : Held) (x y : Start → List Entry → List ℕ) (a b c : Told) → a.faults ≤ b.faults → TellsOf m x a b → FailsOf m y b c → FailsOf m (λ z h. x z h ++ y z h) a c
fails_parts m x y a b c l p f h st = fails_after a b c (x (start m.fabric.tables.board) h) (y (start m.fabric.tables.board) h) l (p h st) (f h st)

-- where the sink failed at a text of a machine, it failed at a longer one
pub fails_more_parts : (m : Held) (x y : Start → List Entry → List ℕ) (a c : Told) → FailsOf m x a c → FailsOf m (λ z h. x z h ++ y z h) a c
fails_more_parts m x y a c f h st = fails_more a c (x (start m.fabric.tables.board) h) (y (start m.fabric.tables.board) h) (f h st)

-- the last lines of a report behind those before: one text
pub last_parts : (x y z w : List ℕ) → x ++ y ++ z ++ w ≡ x ++ (y ++ z ++ w)
last_parts x y z w = append_assoc (x ++ y) z w ∙ append_assoc x y (z ++ w) ∙ ap (λ v. x ++ v) (sym (append_assoc y z w))

-- what follows from what holds after a success, or after an error, holds there
pub on_ok_then : {T E P Q : Type 0} (r : Result T E) → (P → Q) → OnOk r P → OnOk r Q
on_ok_then (Ok x) f p = f p
on_ok_then (Err e) f p = tt

pub on_err_then : {T E P Q : Type 0} (r : Result T E) → (P → Q) → OnErr r P → OnErr r Q
on_err_then (Ok x) f p = tt
on_err_then (Err e) f p = f p
