-- What is read of a line fits its stage, whatever its bytes are.
use Rattle.std.proofs.Common.{ℕ, ◌≡◌, ◌<◌, ◌+◌, ◌-◌, ◌^◌, ◌&&◌, ◌||◌, ◌==◌, nat_lt, not, Bool, true, false, if◌then◌else◌, List, [], ◌∷◌, codes, Option, Some, None, Ok, Err, IfSome, IfOk, refl, subst, arith}
use Rattle.std.specs.Cmp.Derive.{both_true}
use Rattle.std.specs.Option.{option_map_or}
use Rattle.std.proofs.lemmas.Bool.Decides.{nat_tests}
use Rattle.xv_base.specs.Limits.{most_sources, most_processors, most_threads, most_actors, most_ram_mib, most_ranges}
use Rattle.xv_model.specs.declared.board.Board.{Board}
use Rattle.xv_model.specs.declared.board.Span.{Span}
use Rattle.xv_model.specs.declared.board.Spans.{Spans}
use Rattle.xv_model.specs.declared.hypercalls.Call.{Call}
use Rattle.xv_model.specs.declared.hypercalls.Call.TheVariants as call
use Rattle.xv_model.specs.declared.pages.TheConstants.{PAGE_SIZE}
use Rattle.xv_model.specs.declared.kvm.Setting.{Setting}
use Rattle.xv_model.specs.declared.kvm.Setting.TheVariants as setting
use Rattle.xv_model.specs.declared.kvm.arguments.SourceArgs.{SourceArgs}
use Rattle.xv_model.specs.declared.operations.AttrValue.TheVariants.{Number}
use Rattle.xv_model.specs.device.Attributes.{setting_by}
use Rattle.xv_model.specs.call.Arguments.{call_of}
use Rattle.xv_model.specs.declared.tima.TheConstants.{CAM_VALID, CAM_FIRST}
use Rattle.xv_model.specs.declared.operations.EndConfig.{EndConfig}
use Rattle.xv_model.specs.declared.operations.PqOp.TheVariants.{Raise, Lower, Init}
use Rattle.xv_model.specs.declared.operations.Op.TheVariants as op
use Rattle.xv_model.specs.board.Boards.{IsBoard, is_level, source_pages}
use Rattle.xv_model.specs.board.Validity.{valid}
use Rattle.board_script.specs.declared.faults.Cause.{Cause}
use Rattle.board_script.specs.declared.faults.Cause.TheVariants.{OutOfRange, NotLevel, BadEnd}
use Rattle.board_script.specs.declared.stage.Turn.{Turn}
use Rattle.board_script.specs.declared.stage.Turn.TheVariants as turns
use Rattle.board_script.specs.declared.stage.Stage.{Stage}
use Rattle.board_script.specs.declared.stage.Stage.TheVariants.{Header, Work, Started, Ended}
use Rattle.board_script.specs.declared.lines.Said.{Said}
use Rattle.board_script.specs.declared.lines.Said.TheVariants as said
use Rattle.board_script.specs.declared.work.Work.{Work as AWork}
use Rattle.board_script.specs.declared.steps.Then.TheVariants.{Done, Sync}
use Rattle.board_script.specs.Steps.{WithThen}
use Rattle.board_script.specs.Work.{once, then_route, HasValidSteps}
use Rattle.board_script.specs.Setting.{initialisation, then_set, sets}
use Rattle.board_script.specs.Calling.{management_number, esb_access, then_called, calls}
use Rattle.xv_model.specs.declared.hypercalls.TheConstants.{H_INT_RESET}
use Rattle.xv_model.specs.declared.hypercalls.arguments.EsbArgs.{EsbArgs}
use Rattle.board_script.specs.Words.{skip, says_nothing, word_of, rest_of, is_word}
use Rattle.board_script.specs.Numbers.{number_of}
use Rattle.board_script.specs.Grammar.{Grammar, Stop, some_at, read_at, refused_at, walk}
use Rattle.board_script.specs.Operations.{notifying, escalation, Row, device_rows, move_rows, rare_rows, ring_rows, rows}
use Rattle.board_script.specs.Working.{words_after, work_by, work_from, actor_in, actor_by, actor_line, work_of}
use Rattle.board_script.specs.Header.{HeaderRow, has_room, range_words, row_of, header_rows, header_by, header_of}
use Rattle.board_script.specs.Lines.{Reading, check_of, words_of, said_by, checked_of, said_of, IsNumber, IsRange, IsHeaderSaid, IsWorkSaid, IsWordsSaid, IsSaidAt}
use Rattle.board_script.proofs.Grammars.{choose, choose_some, read_fits, any_fits, at_fits, InRange, Says, walk_says}

below : (a b : ℕ) → nat_lt a b ≡ true → a < b
below a b e = grind (arith, nat_tests)

-- what a row says is so, and what those after it say
infixr 30 ◌&◌
◌&◌ : {A B : Type 0} → A → B → A × B
p & ps = (p, ps)

-- ---- what the rows of the table of work say

-- what each row says is valid on a board
abbrev RowsSay : Board → List Row → Type 0
RowsSay b [] = Unit {0}
RowsSay b (r ∷ rs) = Says (HasValidSteps b) r.words × RowsSay b rs

-- what is said where a test passes
tested : (b : Board) (test : Bool) (w : AWork) (cause : Cause) → (test ≡ true → HasValidSteps b w) → IfOk (if test then Ok w else Err cause) (HasValidSteps b)
tested b test w cause h = choose (HasValidSteps b) test (Ok w) (Err cause) h tt

escalation_says : (b : Board) (e : ℕ) (c : EndConfig) → Says (HasValidSteps b) (escalation b e c)
escalation_says b e c esc p payload q =
    let o = op.EndSet e (record c { esc = esc; esc_eisn = payload }) in
    tested b (valid b o) (once o) BadEnd (λ v. v)

-- the CAM word of a processor of the board has four bytes
cam_below : (b : Board) (v : ℕ) → IsBoard b → nat_lt v b.limits.processors ≡ true → nat_lt (CAM_VALID + CAM_FIRST + v) (2 ^ 32) ≡ true
cam_below b v is below = let few = is.processors in grind (arith, nat_tests)

-- the last page of a source is one of its pages
last_page : (b : Board) → nat_lt (management_number b) (source_pages b) ≡ true
last_page b = by b.two_pages
  where
    by : (two : Bool) → nat_lt ((if two then 2 else 1) - 1) (if two then 2 else 1) ≡ true
    by true = refl
    by false = refl

-- what a call goes on with is valid
access_says : (b : Board) (c : EsbArgs) (number : ℕ) (args : List ℕ) (s offset : Bool) → nat_lt c.lisn b.limits.sources ≡ s → WithThen b (op.Hcall number args) (if s && offset then esb_access b c else Done)
access_says b c number args true true e = (refl, both_true e (last_page b))
access_says b c number args true false e = refl
access_says b c number args false offset e = refl

sync_says : (b : Board) (s number : ℕ) (args : List ℕ) (known : Bool) → nat_lt s b.limits.sources ≡ known → WithThen b (op.Hcall number args) (if known then Sync s else Done)
sync_says b s number args true e = (tt, e)
sync_says b s number args false e = refl

called_says : (b : Board) (number : ℕ) (args : List ℕ) (m : Option Call) → WithThen b (op.Hcall number args) (option_map_or (then_called b) m Done)
called_says b number args (Some (call.Esb c)) = access_says b c number args (nat_lt c.lisn b.limits.sources) (nat_lt c.offset PAGE_SIZE) refl
called_says b number args (Some (call.Sync c)) = sync_says b c.lisn number args (nat_lt c.lisn b.limits.sources) refl
called_says b number args (Some (call.Reset c)) = (refl, omega arith)
called_says b number args (Some _) = refl
called_says b number args None = refl

calls_says : (b : Board) (number : ℕ) (args : List ℕ) → HasValidSteps b (calls b number args)
calls_says b number args = called_says b number args (call_of number args)

-- and what a setting goes on with
up_on_level : (level asserted : Bool) → (level || not (level && asserted)) ≡ true
up_on_level true asserted = refl
up_on_level false asserted = refl

init_says : (b : Board) (c : SourceArgs) (group number value : ℕ) (known : Bool) → nat_lt c.source b.limits.sources ≡ known → WithThen b (op.AttrSet group number (Number value)) (if known then initialisation b c.source c.asserted else Done)
init_says b c group number value true e = (refl, both_true e (up_on_level (is_level b c.source) c.asserted))
init_says b c group number value false e = refl

source_sync_says : (b : Board) (s group number value : ℕ) (known : Bool) → nat_lt s b.limits.sources ≡ known → WithThen b (op.AttrSet group number (Number value)) (if known then Sync s else Done)
source_sync_says b s group number value true e = (tt, e)
source_sync_says b s group number value false e = refl

set_says : (b : Board) (group number value : ℕ) (m : Option Setting) → WithThen b (op.AttrSet group number (Number value)) (option_map_or (then_set b) m Done)
set_says b group number value (Some setting.Reset) = (refl, omega arith)
set_says b group number value (Some setting.EqSync) = (tt, omega arith)
set_says b group number value (Some (setting.Source c)) = init_says b c group number value (nat_lt c.source b.limits.sources) refl
set_says b group number value (Some (setting.SourceSync s)) = source_sync_says b s group number value (nat_lt s b.limits.sources) refl
set_says b group number value (Some _) = refl
set_says b group number value None = refl

sets_says : (b : Board) (group number value : ℕ) → HasValidSteps b (sets b group number value)
sets_says b group number value = set_says b group number value (setting_by group number (Number value))

device_say : (b : Board) → RowsSay b (device_rows b)
device_say b =
    (λ group p number q value r. sets_says b group number value)
    & (λ number p flags q shift r addr u toggle v index w. refl)
    & (λ group p number q. refl)
    & (λ v p. p.below)
    & (λ v p cppr q ipb r. p.below)
    & omega arith
    & tt

moves_say : (b : Board) → IsBoard b → RowsSay b (move_rows b)
moves_say b is =
    (λ t p v q. both_true p.below (cam_below b v is q.below))
    & (λ t p. both_true p.below refl)
    & (λ v p. p.below)
    & (λ v p t q. both_true p.below q.below)
    & (λ v p. p.below)
    & device_say b

rare_say : (b : Board) → IsBoard b → RowsSay b (rare_rows b)
rare_say b is =
    (λ s p. tested b (is_level b s) (once (op.Pq s Raise)) NotLevel (both_true p.below))
    & (λ s p. tested b (is_level b s) (once (op.Pq s Lower)) NotLevel (both_true p.below))
    & (λ s p. tested b (is_level b s) (then_route s Raise) NotLevel (λ e. (both_true p.below e, p.below)))
    & (λ s p asserted q. tested b (is_level b s || not (asserted == 1)) (once (op.Pq s (Init (asserted == 1)))) NotLevel (both_true p.below))
    & (λ e p page q at r. both_true p.below q.below)
    & (λ e p page q at r. both_true p.below q.below)
    & (λ addr p. refl)
    & (λ addr p len q. refl)
    & (λ e p flags q vp r priority u addr v shift w. escalation_says b e (record (notifying flags vp priority) { qaddr = addr; qshift = shift }))
    & (λ number p a q c r d u e v f w. calls_says b number (a ∷ c ∷ d ∷ e ∷ f ∷ []))
    & calls_says b H_INT_RESET (0 ∷ 0 ∷ 0 ∷ 0 ∷ 0 ∷ [])
    & moves_say b is

ring_say : (b : Board) → IsBoard b → RowsSay b (ring_rows b)
ring_say b is =
    refl
    & (λ t p. both_true p.below refl)
    & (λ t p value q. both_true p.below q.below)
    & (λ i p. refl)
    & (λ t p value q. both_true p.below q.below)
    & (λ t p. both_true p.below refl)
    & (λ s p. p.below)
    & (λ s p. (refl, p.below))
    & (refl, omega arith)
    & (λ t p page q at r size u. both_true p.below (both_true q.below u))
    & (λ t p page q at r size u value v. both_true p.below (both_true q.below (both_true u v.below)))
    & rare_say b is

rows_say : (b : Board) → IsBoard b → RowsSay b (rows b)
rows_say b is =
    (λ s p. (both_true p.below refl, p.below))
    & (λ s p. (both_true p.below refl, p.below))
    & (λ s p. both_true p.below refl)
    & (λ s p. both_true p.below refl)
    & (λ s p page q at r. both_true p.below q.below)
    & (λ s p page q at r. both_true p.below q.below)
    & (λ s p pq q. both_true p.below q)
    & (λ s p. both_true p.below refl)
    & (λ s p. p.below)
    & (λ e p. p.below)
    & ring_say b is

after_says : (b : Board) (rs : List Row) (name : List ℕ) → RowsSay b rs → IfSome (words_after rs name) (Says (HasValidSteps b))
after_says b [] name say = tt
after_says b (r ∷ rs) name say = choose_some (Says (HasValidSteps b)) (is_word r.name name) (Some r.words) (words_after rs name) say.0 (after_says b rs name say.1)

work_by_fits : (b : Board) (at rest : List ℕ) (words : Option (Grammar AWork)) → IfSome words (Says (HasValidSteps b)) → IfOk (work_by at words rest) (HasValidSteps b)
work_by_fits b at rest (Some words) says = walk_says (HasValidSteps b) at words rest says
work_by_fits b at rest None says = tt

work_from_fits : (b : Board) (rest : List ℕ) → IsBoard b → IfOk (work_from b rest) (HasValidSteps b)
work_from_fits b rest is =
    let words = words_after (rows b) (word_of rest) in
    any_fits (HasValidSteps b) (some_at rest) (λ u. work_by rest words (rest_of rest)) (λ u. work_by_fits b rest (rest_of rest) words (after_says b (rows b) (word_of rest) (rows_say b is)))

-- a number is an actor of a board
abbrev IsActor : Board → ℕ → Type 0
IsActor b n = nat_lt n b.limits.actors ≡ true

actor_in_fits : (b : Board) (word : List ℕ) (m : Option ℕ) → IfOk (actor_in b word m) (IsActor b)
actor_in_fits b word (Some n) = choose (IsActor b) (nat_lt n b.limits.actors) (Ok n) (Err OutOfRange) (λ e. e) tt
actor_in_fits b word None = tt

actor_line_fits : (b : Board) (rest : List ℕ) → IsBoard b → IfOk (actor_line b rest) (IsWorkSaid b)
actor_line_fits b rest is =
    let word = word_of rest in
    read_fits (IsWorkSaid b) (IsActor b) (read_at rest (actor_by b word)) _ (at_fits (IsActor b) rest (actor_by b word) (actor_in_fits b word (number_of word))) (λ actor p.
    read_fits (IsWorkSaid b) (HasValidSteps b) (work_from b (rest_of rest)) (λ work. Ok (said.Work actor work)) (work_from_fits b (rest_of rest) is) (λ work v.
    record { actor_is = below actor b.limits.actors p; valid_steps = v }))

work_fits : (b : Board) (started : Bool) (rest : List ℕ) → IsBoard b → IfOk (work_of b started rest) (IsWorkSaid b)
work_fits b started rest is =
    let P = IsWorkSaid b in
    choose P (is_word (codes "end") (word_of rest)) (walk rest (Stop (Ok said.End)) (rest_of rest)) _ (λ e. walk_says P rest (Stop (Ok said.End)) (rest_of rest) tt)
    (choose P (is_word (codes "start") (word_of rest) && not started) (walk rest (Stop (Ok said.Start)) (rest_of rest)) (actor_line b rest) (λ e. walk_says P rest (Stop (Ok said.Start)) (rest_of rest) tt)
    (actor_line_fits b rest is))

-- ---- what the rows of the header say

-- what a row says has a property, where there is room for it
abbrev HeaderSays : (Said → Type 0) → HeaderRow → Type 0
HeaderSays P r = r.room ≡ true → Says P r.words

abbrev AllSay : (Said → Type 0) → List HeaderRow → Type 0
AllSay P [] = Unit {0}
AllSay P (r ∷ rs) = HeaderSays P r × AllSay P rs

number_says : (low most n : ℕ) → InRange low (most + 1) n → IsNumber low most (said.Number n)
number_says low most n p = (p.from, (let l = below n (most + 1) p.below in omega arith))

range_says : (P : Said → Type 0) (limit : ℕ) (spans : Spans) (make : Span → Said) → ((span : Span) → IsRange limit spans span → P (make span)) → has_room spans ≡ true → Says P (range_words limit make)
range_says P limit spans make h room first p last q =
    h (record { first = first; last = last })
    (record { room = below spans.count most_ranges room; ordered = q.from; below = below last limit q.below })

header_say : (turn : Turn) (b : Board) → AllSay (IsHeaderSaid turn b) (header_rows turn b)
header_say turns.Board b = (λ e n p. number_says 1 1 n p) & tt
header_say turns.Sources b = (λ e n p. number_says 1 most_sources n p) & tt
header_say turns.Processors b = (λ e n p. number_says 1 most_processors n p) & tt
header_say turns.Threads b = (λ e n p. number_says 1 most_threads n p) & tt
header_say turns.Ram b = (λ e n p. number_says 0 most_ram_mib n p) & tt
header_say turns.Actors b = (λ e n p. number_says 1 most_actors n p) & tt
header_say turns.Esb b = (λ e pages p eoi q. tt) & tt
header_say turns.Level b =
    let P = IsHeaderSaid turns.Level b in
    range_says P b.limits.sources b.level said.Level (λ span q. q)
    & range_says P b.limits.sources b.unclaimed said.Unclaimed (λ span q. q)
    & range_says P b.limits.processors b.unconnected said.Unconnected (λ span q. q)
    & (λ e. tt)
    & tt
header_say turns.Unclaimed b =
    let P = IsHeaderSaid turns.Unclaimed b in
    range_says P b.limits.sources b.unclaimed said.Unclaimed (λ span q. q)
    & range_says P b.limits.processors b.unconnected said.Unconnected (λ span q. q)
    & (λ e. tt)
    & tt
header_say turns.Unconnected b =
    let P = IsHeaderSaid turns.Unconnected b in
    range_says P b.limits.processors b.unconnected said.Unconnected (λ span q. q) & (λ e. tt) & tt

row_says : (P : Said → Type 0) (rs : List HeaderRow) (name : List ℕ) → AllSay P rs → IfSome (row_of rs name) (HeaderSays P)
row_says P [] name say = tt
row_says P (r ∷ rs) name say = choose_some (HeaderSays P) (is_word r.name name) (Some r) (row_of rs name) say.0 (row_says P rs name say.1)

header_by_fits : (P : Said → Type 0) (rest : List ℕ) (r : Option HeaderRow) → IfSome r (HeaderSays P) → IfOk (header_by rest r) P
header_by_fits P rest (Some r) says = choose P r.room (walk rest r.words (rest_of rest)) (refused_at OutOfRange rest) (λ e. walk_says P rest r.words (rest_of rest) (says e)) tt
header_by_fits P rest None says = tt

header_fits : (turn : Turn) (b : Board) (rest : List ℕ) → IfOk (header_of turn b rest) (IsHeaderSaid turn b)
header_fits turn b rest =
    let P = IsHeaderSaid turn b in
    let rs = header_rows turn b in
    header_by_fits P rest (row_of rs (word_of rest)) (row_says P rs (word_of rest) (header_say turn b))

-- ---- what a line says

-- what a line may say at a stage is also nothing
said_fits : (stage : Stage) (b : Board) (r : Reading) → IfOk r (IsWordsSaid stage b) → IfOk r (IsSaidAt stage b)
said_fits stage b (Ok said.Nothing) f = tt
said_fits stage b (Ok it) f = f
said_fits stage b (Err m) f = tt

checked_fits : (stage : Stage) (b : Board) (line : List ℕ) → IfOk (words_of stage b (skip line)) (IsWordsSaid stage b) → IfOk (checked_of stage b line) (IsSaidAt stage b)
checked_fits stage b line f =
    let rest = skip line in
    any_fits (IsSaidAt stage b) (check_of line) (λ u. said_by stage b rest) (λ u.
    choose (IsSaidAt stage b) (says_nothing rest) (Ok said.Nothing) (words_of stage b rest) (λ e. tt) (said_fits stage b (words_of stage b rest) f))

-- what is read of a line fits its stage
pub fits : (stage : Stage) (b : Board) (line : List ℕ) → IsBoard b → IfOk (said_of stage b line) (IsSaidAt stage b)
fits Ended b line is = tt
fits (Header turn) b line is = checked_fits (Header turn) b line (header_fits turn b (skip line))
fits Work b line is = checked_fits Work b line (work_fits b false (skip line) is)
fits Started b line is = checked_fits Started b line (work_fits b true (skip line) is)

-- the same of what was read
pub fits_read : (stage : Stage) (b : Board) (line : List ℕ) (it : Said) → IsBoard b → said_of stage b line ≡ Ok it → IsSaidAt stage b it
fits_read stage b line it is e = subst (λ r. IfOk r (IsSaidAt stage b)) e (fits stage b line is)
