-- An account that meets what the laws of queues ask, and in which two whole queues are read.
use Rattle.std.specs.Prelude.{ℕ, ◌≡◌, ◌<◌, ◌*◌, false, List, ◌∷◌, ◌++◌, length, slice_get, Some}
use Rattle.xv_model.specs.declared.board.Board.{Board}
use Rattle.xv_model.specs.declared.board.TheConstants.Spans.{NONE}
use Rattle.xv_model.specs.declared.operations.EndConfig.{EndConfig}
use Rattle.xv_model.specs.declared.entries.Entry.{Entry}
use Rattle.xv_model.specs.board.Boards.{IsBoard}
use Rattle.xv_model.specs.account.Start.{start}
use Rattle.xv_model.specs.account.Legal.{IsLegal}
use Rattle.xv_model.specs.end.Memory.{entries}
use Rattle.xv_model.specs.end.Reading.{taken}
use Rattle.xv_model.specs.laws.Queues.{IsOwnQueue}

-- a board with 1 message source, 1 processor, 1 thread, 1 actor and 1 MiB of memory
abbrev pub one_source : Board
one_source = record {
  limits = record { sources = 1; processors = 1; threads = 1; actors = 1 };
  ram_mib = 1;
  two_pages = false;
  store_eoi = false;
  level = NONE;
  unclaimed = NONE;
  unconnected = NONE;
}

-- v and q, with a queue of 4 KiB at the address 4 KiB, which has 1,024 entries
abbrev pub one_page : EndConfig
one_page = record { flags = record { 0 = 3 }; vp = 0; priority = 0; qaddr = 4096; qshift = 12; start = 0; esc = 0; esc_eisn = 0 }

-- On that board there is an account in which END 0 is configured so, and that meets what the laws ask.
-- Two queues full of payloads are taken, and each payload is its own number, so that none is like another.
pub record ReadsTwoQueues : Type 0 where
  pub before : List Entry
  pub first : Entry
  pub since : List Entry
  pub is_board : IsBoard one_source
  pub is_legal : IsLegal (start one_source) (since ++ first ∷ before)
  pub is_own : IsOwnQueue (start one_source) before first since 0 one_page
  pub two_queues : length (taken (since ++ first ∷ before) 0) ≡ 2 * entries one_page
  pub numbers : (k : ℕ) → k < 2 * entries one_page → slice_get (taken (since ++ first ∷ before) 0) k ≡ Some k
