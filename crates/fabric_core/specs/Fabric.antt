-- What a fabric keeps and shows, and which account it represents.
use Rattle.std.specs.Prelude.{ℕ, ℤ, ◌≡◌, ◌<◌, ◌⊎◌, true, false, List}
use Rattle.xv_model.specs.declared.board.Board.{Board}
use Rattle.xv_model.specs.declared.entries.Entry.{Entry}
use Rattle.xv_model.specs.declared.operations.EqFields.{EqFields}
use Rattle.xv_model.specs.declared.operations.Op.{Op}
use Rattle.xv_model.specs.declared.operations.Op.TheVariants as op
use Rattle.xv_model.specs.declared.outcomes.HReply.{HReply}
use Rattle.xv_model.specs.declared.outcomes.MoveRefused.{MoveRefused}
use Rattle.xv_model.specs.declared.outcomes.Outcome.{Outcome}
use Rattle.xv_model.specs.declared.outcomes.Outcome.TheVariants as out
use Rattle.xv_model.specs.account.Start.{Start}
use Rattle.xv_model.specs.board.Validity.{valid_config}
use Rattle.xv_model.specs.source.Notices.{forwards}
use Rattle.xv_model.specs.call.Accepted.{is_success}
use Rattle.xv_model.specs.end.Descriptors.{end_config}
use Rattle.xv_model.specs.end.EventStates.{esn, ese}
use Rattle.xv_model.specs.end.Reading.{taken_count}
use Rattle.xv_model.specs.end.Written.{written_count}
use Rattle.guest_ram.specs.Ram.{StandsFor as MemoryStandsFor}
use Rattle.router.specs.Tables.{Kept, StandsFor as TablesStandFor}
use Rattle.fabric_core.specs.declared.views.QueueView.{QueueView}
use Rattle.fabric_core.specs.Processors.{Parts, StandsFor as ProcessorsStandFor}

-- what a fabric keeps: the router's tables, the words of memory, the processors with the rings of threads
pub record Held : Type 0 where
  pub tables : Kept
  pub memory : List ℕ
  pub processors : Parts

-- the fabric represents the account: each of its parts does
pub record StandsFor (f : Held) (z : Start) (h : List Entry) : Type 0 where
  pub tables : TablesStandFor f.tables z h
  pub memory : MemoryStandsFor f.memory z h
  pub processors : ProcessorsStandFor f.processors z h

-- where an operation routes a notice of a source, or asks whether it is quiet, this is how often that one forwarded
abbrev pub IsCounted : Op → ℕ → Start → List Entry → Type 0
IsCounted o n z h = (s : ℕ) → (o ≡ op.Route s) ⊎ (o ≡ op.Quiet s) → n ≡ forwards z h s

-- what an operation answers where it changes nothing: it is refused, or it only asks
abbrev pub IsRefusal : Op → Outcome → Type 0
IsRefusal (op.Pq s o) u = u ≡ out.Spent
IsRefusal (op.Esb s page offset store) u = (u ≡ out.BadOffset) ⊎ (u ≡ out.Ones) ⊎ (u ≡ out.Spent)
IsRefusal (op.EndEsb e page offset store) u = (u ≡ out.BadOffset) ⊎ (u ≡ out.NoEnd)
IsRefusal (op.Route s) u = (u ≡ out.NoNotice) ⊎ (u ≡ out.BusFull)
IsRefusal (op.Take i) u = u ≡ out.NoMessage
IsRefusal (op.Quiet s) u = (u ≡ out.Quiet) ⊎ ((notices messages : ℕ) × (u ≡ out.Busy notices messages))
IsRefusal (op.Connect v) u = (code : ℤ) × (u ≡ out.Code code) × (is_success code ≡ false)
IsRefusal (op.Restore v t) u = (why : MoveRefused) × (u ≡ out.Refused why)
IsRefusal (op.Save v) u = (why : MoveRefused) × (u ≡ out.Refused why)
IsRefusal (op.Tima t page offset size access) u = (u ≡ out.BadAccess) ⊎ ((why : MoveRefused) × (u ≡ out.Refused why))
IsRefusal (op.Hcall number args) u = (reply : HReply) × (u ≡ out.Reply reply) × (is_success reply.code ≡ false)
IsRefusal (op.Read e) u = (u ≡ out.NoQueue) ⊎ (u ≡ out.Empty)
IsRefusal (op.Peek addr) u = (u ≡ out.BadRange) ⊎ ((word : ℕ) × (u ≡ out.Cell word))
IsRefusal (op.Zero addr len) u = u ≡ out.BadRange
IsRefusal (op.AttrSet group number value) u = (code : ℤ) × (u ≡ out.Code code) × (is_success code ≡ false)
IsRefusal (op.AttrGet group number) u = ((code : ℤ) × (u ≡ out.Code code)) ⊎ ((eq : EqFields) × (u ≡ out.Queue eq))
IsRefusal (op.VpGet v) u = ((code : ℤ) × (u ≡ out.Code code)) ⊎ ((cppr ipb : ℕ) × (u ≡ out.Context cppr ipb))
IsRefusal (op.VpSet v cppr ipb) u = (code : ℤ) × (u ≡ out.Code code) × (is_success code ≡ false)
IsRefusal _ _ = ⊥

-- what an account gives for what a fabric shows of an END
abbrev pub queue_view : Start → List Entry → ℕ → QueueView
queue_view z h e = record {
  config = end_config z h e;
  written = written_count z h e;
  taken = taken_count z h e;
  esn = esn z h e;
  ese = ese z h e;
}

-- the configuration is valid on the board, and the states are pairs
pub record IsQueue (b : Board) (q : QueueView) : Type 0 where
  pub config : valid_config b q.config ≡ true
  pub esn : q.esn < 4
  pub ese : q.ese < 4
