-- The table of the lines after the header: by the name of the operation, the words after it, and what they say. A name stands in it once.
use Rattle.std.specs.Prelude.{ℕ, ◌==◌, ◌+◌, ◌*◌, ◌^◌, ◌||◌, not, Bool, true, false, if◌then◌else◌, List, [], ◌∷◌, Ok, Err, codes}
use Rattle.std.specs.declared.result.Result.{Result}
use Rattle.xv_model.specs.declared.board.Board.{Board}
use Rattle.xv_model.specs.declared.operations.Access.TheVariants.{Load, Store}
use Rattle.xv_model.specs.declared.operations.EndConfig.{EndConfig}
use Rattle.xv_model.specs.declared.operations.EqFields.{EqFields}
use Rattle.xv_model.specs.declared.operations.Op.{Op}
use Rattle.xv_model.specs.declared.operations.Op.TheVariants as op
use Rattle.xv_model.specs.declared.operations.PqOp.TheVariants.{Trigger, Eoi, Get, Set, Raise, Lower, Init}
use Rattle.xv_model.specs.declared.pages.TheConstants.{END_PAGES}
use Rattle.xv_model.specs.declared.tima.TheConstants.{TM_PAGES, TM_HV_PAGE, TM_OS_PAGE, TM_QW1_OS, TM_OS_CPPR, TM_OS_CAM, TM_ACKNOWLEDGE, TM_SET_PENDING, TM_PULL_CONTEXT, CAM_VALID, CAM_FIRST}
use Rattle.xv_model.specs.account.Start.{no_config}
use Rattle.xv_model.specs.board.Boards.{is_level, source_pages}
use Rattle.xv_model.specs.board.Validity.{end_count, valid}
use Rattle.board_script.specs.declared.faults.Cause.{Cause}
use Rattle.board_script.specs.declared.faults.Cause.TheVariants.{NotLevel, BadEnd}
use Rattle.board_script.specs.declared.work.Work.{Work}
use Rattle.board_script.specs.Work.{once, then_route, settle, sync, drain, migrate}
use Rattle.board_script.specs.Calling.{calls, reset}
use Rattle.board_script.specs.Setting.{sets, sets_queue}
use Rattle.board_script.specs.Flags.{of_bits}
use Rattle.board_script.specs.Grammar.{Form, Number, AnyNumber, Size, Pair, Flags, Grammar, Stop, Word}

-- ---- the ranges of numbers

abbrev pub below : ℕ → Form
below high = Number 0 high

abbrev pub source : Board → Form
source b = below b.limits.sources

abbrev pub end_number : Board → Form
end_number b = below (end_count b)

abbrev pub processor : Board → Form
processor b = below b.limits.processors

abbrev pub thread : Board → Form
thread b = below b.limits.threads

abbrev pub byte : Form
byte = below (2 ^ 8)

abbrev pub word32 : Form
word32 = below (2 ^ 32)

-- an offset in bytes on a page of 64 KiB
abbrev pub offset : Form
offset = below (2 ^ 16)

-- ---- what is said, or the joint rule that is broken

abbrev pub does : Op → Result Work Cause
does o = Ok (once o)

-- a line that needs a level source
abbrev pub on_level : Board → ℕ → Work → Result Work Cause
on_level b s w = if is_level b s then Ok w else Err NotLevel

-- the word of a source is initialised; only a level source has a line that may be asserted
abbrev pub initialises : Board → ℕ → Bool → Result Work Cause
initialises b s asserted = if is_level b s || not asserted then does (op.Pq s (Init asserted)) else Err NotLevel

-- an END is configured, where the board allows the configuration
abbrev pub configures : Board → ℕ → EndConfig → Result Work Cause
configures b e c = if valid b (op.EndSet e c) then does (op.EndSet e c) else Err BadEnd

-- ---- the words after a name

abbrev pub nothing : Work → Grammar Work
nothing w = Stop (Ok w)

abbrev pub one : Form → (ℕ → Result Work Cause) → Grammar Work
one form say = Word form (λ n. Stop (say n))

abbrev pub two : Form → Form → (ℕ → ℕ → Result Work Cause) → Grammar Work
two first second say = Word first (λ m. Word second (λ n. Stop (say m n)))

-- something that has pages, one of these, and an offset on it
abbrev pub on_page : Form → ℕ → (ℕ → ℕ → ℕ → Op) → Grammar Work
on_page form pages make = Word form (λ k. Word (below pages) (λ page. Word offset (λ at. Stop (does (make k page at)))))

-- a thread, a page of the TIMA, an offset, how many bytes, and for a store the value, which has no more
abbrev pub tima_load : Board → Grammar Work
tima_load b = Word (thread b) (λ t. Word (below TM_PAGES) (λ page. Word offset (λ at. Word Size (λ size. Stop (does (op.Tima t page at size Load))))))

abbrev pub tima_store : Board → Grammar Work
tima_store b =
    Word (thread b) (λ t. Word (below TM_PAGES) (λ page. Word offset (λ at. Word Size (λ size.
    Word (below (2 ^ (8 * size))) (λ value. Stop (does (op.Tima t page at size (Store value))))))))

-- an END, its flags, a processor, a priority, the address and the size of its queue, and its escalation END with the payload
abbrev pub escalation : Board → ℕ → EndConfig → Grammar Work
escalation b e c = Word (end_number b) (λ esc. Word word32 (λ payload. Stop (configures b e (record c { esc = esc; esc_eisn = payload }))))

abbrev pub queue : Board → ℕ → EndConfig → Grammar Work
queue b e c = Word AnyNumber (λ addr. Word word32 (λ shift. escalation b e (record c { qaddr = addr; qshift = shift })))

-- a configuration that notifies a processor with a priority, and has no more
abbrev pub notifying : ℕ → ℕ → ℕ → EndConfig
notifying flags vp priority = record no_config { flags = of_bits flags; vp = vp; priority = priority }

abbrev pub target : Board → ℕ → ℕ → Grammar Work
target b e flags = Word (processor b) (λ vp. Word byte (λ priority. queue b e (notifying flags vp priority)))

abbrev pub configuration : Board → Grammar Work
configuration b = Word (end_number b) (λ e. Word Flags (λ flags. target b e flags))

-- the number of a hypercall, and its five arguments
abbrev pub last_args : Board → ℕ → ℕ → ℕ → Grammar Work
last_args board number a b =
    Word AnyNumber (λ c. Word AnyNumber (λ d. Word AnyNumber (λ e. Stop (Ok (calls board number (a ∷ b ∷ c ∷ d ∷ e ∷ []))))))

abbrev pub hypercall : Board → Grammar Work
hypercall board = Word AnyNumber (λ number. Word AnyNumber (λ a. Word AnyNumber (λ b. last_args board number a b)))

-- the group of an attribute, the attribute, and what it is set to
abbrev pub attribute : Board → Grammar Work
attribute b = Word word32 (λ group. two AnyNumber AnyNumber (λ number value. Ok (sets b group number value)))

-- the identifier of an event queue, its flags, its size and its address, and the toggle and the index of its next entry
abbrev pub next_entry : ℕ → EqFields → Grammar Work
next_entry number eq = two word32 word32 (λ toggle index. Ok (sets_queue number (record eq { qtoggle = toggle; qindex = index })))

abbrev pub event_queue : Grammar Work
event_queue = Word AnyNumber (λ number. Word word32 (λ flags. Word word32 (λ shift. Word AnyNumber (λ addr. next_entry number (record { flags = flags; qshift = shift; qaddr = addr; qtoggle = 0; qindex = 0 })))))

-- a processor, its CPPR and its IPB
abbrev pub processor_state : Board → Grammar Work
processor_state b = Word (processor b) (λ v. two byte byte (λ cppr ipb. does (op.VpSet v cppr ipb)))

-- the CAM word of a processor, with its valid bit
abbrev pub cam_store : ℕ → ℕ → Op
cam_store t v = op.Tima t TM_HV_PAGE TM_OS_CAM 4 (Store (CAM_VALID + CAM_FIRST + v))

-- ---- the table

pub record Row : Type 0 where
  pub name : List ℕ
  pub words : Grammar Work

abbrev pub row : List ℕ → Grammar Work → Row
row name words = record { name = name; words = words }

-- lines of the KVM device, and the one of a migration
abbrev pub device_rows : Board → List Row
device_rows b =
    row (codes "kvmset") (attribute b)
    ∷ row (codes "kvmeq") event_queue
    ∷ row (codes "kvmget") (two word32 AnyNumber (λ group number. does (op.AttrGet group number)))
    ∷ row (codes "vpget") (one (processor b) (λ v. does (op.VpGet v)))
    ∷ row (codes "vpset") (processor_state b)
    ∷ row (codes "migrate") (nothing (migrate b.limits.sources))
    ∷ []

-- lines that move the context of a processor
abbrev pub move_rows : Board → List Row
move_rows b =
    row (codes "push") (two (thread b) (processor b) (λ t v. does (cam_store t v)))
    ∷ row (codes "pull") (one (thread b) (λ t. does (op.Tima t TM_HV_PAGE TM_PULL_CONTEXT 4 Load)))
    ∷ row (codes "connect") (one (processor b) (λ v. does (op.Connect v)))
    ∷ row (codes "restore") (two (processor b) (thread b) (λ v t. does (op.Restore v t)))
    ∷ row (codes "save") (one (processor b) (λ v. does (op.Save v)))
    ∷ device_rows b

-- lines that come less often
abbrev pub rare_rows : Board → List Row
rare_rows b =
    row (codes "raise") (one (source b) (λ s. on_level b s (once (op.Pq s Raise))))
    ∷ row (codes "lower") (one (source b) (λ s. on_level b s (once (op.Pq s Lower))))
    ∷ row (codes "assert") (one (source b) (λ s. on_level b s (then_route s Raise)))
    ∷ row (codes "init") (two (source b) (below 2) (λ s asserted. initialises b s (asserted == 1)))
    ∷ row (codes "endload") (on_page (end_number b) END_PAGES (λ e page at. op.EndEsb e page at false))
    ∷ row (codes "endstore") (on_page (end_number b) END_PAGES (λ e page at. op.EndEsb e page at true))
    ∷ row (codes "peek") (one AnyNumber (λ addr. does (op.Peek addr)))
    ∷ row (codes "zero") (two AnyNumber AnyNumber (λ addr len. does (op.Zero addr len)))
    ∷ row (codes "endset") (configuration b)
    ∷ row (codes "hcall") (hypercall b)
    ∷ row (codes "reset") (nothing (reset b))
    ∷ move_rows b

-- lines on messages, or on the ring of a thread
abbrev pub ring_rows : Board → List Row
ring_rows b =
    row (codes "settle") (nothing settle)
    ∷ row (codes "ack") (one (thread b) (λ t. does (op.Tima t TM_OS_PAGE TM_ACKNOWLEDGE 2 Load)))
    ∷ row (codes "cppr") (two (thread b) byte (λ t value. does (op.Tima t TM_OS_PAGE TM_OS_CPPR 1 (Store value))))
    ∷ row (codes "take") (one word32 (λ i. does (op.Take i)))
    ∷ row (codes "inject") (two (thread b) byte (λ t value. does (op.Tima t TM_OS_PAGE TM_SET_PENDING 1 (Store value))))
    ∷ row (codes "regs") (one (thread b) (λ t. does (op.Tima t TM_OS_PAGE TM_QW1_OS 8 Load)))
    ∷ row (codes "quiet") (one (source b) (λ s. does (op.Quiet s)))
    ∷ row (codes "sync") (one (source b) (λ s. Ok (sync s)))
    ∷ row (codes "drain") (nothing (drain b.limits.sources))
    ∷ row (codes "tload") (tima_load b)
    ∷ row (codes "tstore") (tima_store b)
    ∷ rare_rows b

-- all lines, those that come most often first
abbrev pub rows : Board → List Row
rows b =
    row (codes "fire") (one (source b) (λ s. Ok (then_route s Trigger)))
    ∷ row (codes "finish") (one (source b) (λ s. Ok (then_route s Eoi)))
    ∷ row (codes "trigger") (one (source b) (λ s. does (op.Pq s Trigger)))
    ∷ row (codes "eoi") (one (source b) (λ s. does (op.Pq s Eoi)))
    ∷ row (codes "load") (on_page (source b) (source_pages b) (λ s page at. op.Esb s page at false))
    ∷ row (codes "store") (on_page (source b) (source_pages b) (λ s page at. op.Esb s page at true))
    ∷ row (codes "set") (two (source b) Pair (λ s pq. does (op.Pq s (Set pq))))
    ∷ row (codes "get") (one (source b) (λ s. does (op.Pq s Get)))
    ∷ row (codes "route") (one (source b) (λ s. does (op.Route s)))
    ∷ row (codes "read") (one (end_number b) (λ e. does (op.Read e)))
    ∷ ring_rows b
