-- Accounts of processors on which the definitions are computed: what a ring reads then, and what moves and accesses answer.
use Rattle.std.proofs.Common.{ℕ, ◌≡◌, List, [], ◌∷◌, true, false, refl}
use Rattle.xv_model.specs.declared.board.Board.{Board}
use Rattle.xv_model.specs.declared.board.TheConstants.Spans.{NONE}
use Rattle.xv_model.specs.declared.operations.Op.{Op}
use Rattle.xv_model.specs.declared.operations.Op.TheVariants as op
use Rattle.xv_model.specs.declared.operations.Access.TheVariants as access
use Rattle.xv_model.specs.declared.outcomes.Presented.TheVariants.{Found, Backlogged}
use Rattle.xv_model.specs.declared.outcomes.Phase.TheVariants as ph
use Rattle.xv_model.specs.declared.outcomes.Outcome.{Outcome}
use Rattle.xv_model.specs.declared.outcomes.Outcome.TheVariants as out
use Rattle.xv_model.specs.declared.entries.Entry.{Entry}
use Rattle.xv_model.specs.account.Start.{start}
use Rattle.xv_model.specs.processor.Registers.{ring}
use Rattle.xv_model.specs.processor.Moves.{restore_outcome}
use Rattle.xv_model.specs.processor.Accesses.{tima_outcome}
use Rattle.xv_model.specs.declared.outcomes.MoveRefused.TheVariants.{NotValid, VpBusy, NotRestored, NoContext}

-- a board with one processor and one thread
abbrev b : Board
b = record { limits = record { sources = 4; processors = 1; threads = 1; actors = 2 }; ram_mib = 0; two_pages = true; store_eoi = false; level = NONE; unclaimed = NONE; unconnected = NONE }

abbrev entry : Op → Outcome → Entry
entry o u = record { actor = 0; op = o; outcome = u }

-- processor 0 is restored, and pushed onto thread 0
abbrev pushed : List Entry
pushed = entry (op.Tima 0 1 0x18 4 (access.Store 0x80000400)) out.Fine ∷ entry (op.Restore 0 0) out.Fine ∷ []

-- with CPPR 7 the priority 3 is injected
abbrev injected : List Entry
injected = entry (op.Tima 0 2 0x812 1 (access.Store 3)) out.Stored ∷ entry (op.Tima 0 2 0x11 1 (access.Store 7)) out.Stored ∷ pushed

has_an_interrupt : ring (start b) injected 0 ≡ record { nsr = 0x80; cppr = 7; ipb = 0x10; pipr = 3; cam = 0x80000400 }
has_an_interrupt = refl

masked_by_cppr : ring (start b) (entry (op.Tima 0 2 0x11 1 (access.Store 2)) out.Stored ∷ injected) 0 ≡ record { nsr = 0; cppr = 2; ipb = 0x10; pipr = 3; cam = 0x80000400 }
masked_by_cppr = refl

-- priority 0 is presented while it is pulled, 1 while it is saved, 2 while it is restored again, and 3 when it is pushed
abbrev presented_everywhere : List Entry
presented_everywhere = entry (op.Take 0) (out.Present 0 3 Found false) ∷ entry (op.Tima 0 1 0x18 4 (access.Store 0x80000400)) out.Fine ∷ entry (op.Take 0) (out.Present 0 2 Backlogged false) ∷ entry (op.Restore 0 0) out.Fine ∷
    entry (op.Take 0) (out.Present 0 1 Backlogged false) ∷ entry (op.Save 0) out.Fine ∷ entry (op.Take 0) (out.Present 0 0 Backlogged false) ∷ entry (op.Tima 0 1 0x818 4 access.Load) (out.Value 0x80000400) ∷ pushed

keeps_all_four : ring (start b) presented_everywhere 0 ≡ record { nsr = 0; cppr = 0; ipb = 0xf0; pipr = 0; cam = 0x80000400 }
keeps_all_four = refl

-- at CPPR 4 the priorities 6, 2, 2 and 5 are injected, and 2 is accepted
abbrev acknowledged_once : List Entry
acknowledged_once = entry (op.Tima 0 2 0x810 2 access.Load) (out.Value 0x8002) ∷ entry (op.Tima 0 2 0x812 1 (access.Store 5)) out.Stored ∷ entry (op.Tima 0 2 0x812 1 (access.Store 2)) out.Stored ∷ entry (op.Tima 0 2 0x812 1 (access.Store 2)) out.Stored ∷ entry (op.Tima 0 2 0x812 1 (access.Store 6)) out.Stored ∷ entry (op.Tima 0 2 0x11 1 (access.Store 4)) out.Stored ∷ pushed

accepts_the_least : ring (start b) acknowledged_once 0 ≡ record { nsr = 0; cppr = 2; ipb = 0x6; pipr = 5; cam = 0x80000400 }
accepts_the_least = refl

opens_again : ring (start b) (entry (op.Tima 0 2 0x11 1 (access.Store 0xff)) out.Stored ∷ acknowledged_once) 0 ≡ record { nsr = 0x80; cppr = 0xff; ipb = 0x6; pipr = 5; cam = 0x80000400 }
opens_again = refl

-- What is answered.

-- what a load from a page of thread 0 answers
abbrev at_load : List Entry → ℕ → ℕ → ℕ → Outcome
at_load h page offset size = tima_outcome (start b) h 0 page offset size access.Load

reads_an_interrupt : at_load injected 2 0x10 8 ≡ out.Value 0x800710ffff00ff03
reads_an_interrupt = refl

reads_when_masked : at_load (entry (op.Tima 0 2 0x11 1 (access.Store 2)) out.Stored ∷ injected) 2 0x10 8 ≡ out.Value 0x210ffff00ff03
reads_when_masked = refl

acknowledges_nothing_when_masked : at_load (entry (op.Tima 0 2 0x11 1 (access.Store 2)) out.Stored ∷ injected) 2 0x810 2 ≡ out.Value 0x2
acknowledges_nothing_when_masked = refl

reads_all_four : at_load presented_everywhere 2 0x10 8 ≡ out.Value 0xf0ffff00ff00
reads_all_four = refl

acknowledges_nothing_more : at_load acknowledged_once 2 0x810 2 ≡ out.Value 0x2
acknowledges_nothing_more = refl

reads_a_free_ring : at_load [] 2 0x10 8 ≡ out.Value 0xffff00ffff
reads_a_free_ring = refl

-- a board with two processors, of which only processor 0 is connected, and two threads
abbrev c : Board
c = record { limits = record { sources = 1; processors = 2; threads = 2; actors = 2 }; ram_mib = 0; two_pages = true; store_eoi = false; level = NONE; unclaimed = NONE; unconnected = record { count = 1; spans = record { first = 1; last = 1 } ∷ [] } }

-- processor 0 is pulled off thread 0
abbrev pulled : List Entry
pulled = entry (op.Tima 0 1 0x818 4 access.Load) (out.Value 0x80000400) ∷ pushed

pulls : tima_outcome (start c) pushed 0 1 0x818 4 access.Load ≡ out.Value 0x80000400
pulls = refl

restores_no_pulled_one : restore_outcome (start c) pulled 0 1 ≡ out.Refused (VpBusy (ph.Pulled 0))
restores_no_pulled_one = refl

pushes_no_pulled_one : tima_outcome (start c) pulled 1 1 0x18 4 (access.Store 0x80000400) ≡ out.Refused (NotRestored (ph.Pulled 0))
pushes_no_pulled_one = refl

pushes_no_unconnected_one : tima_outcome (start c) pulled 1 1 0x18 4 (access.Store 0x80000401) ≡ out.Refused NotValid
pushes_no_unconnected_one = refl

pulls_none : tima_outcome (start c) pulled 0 1 0x818 4 access.Load ≡ out.Refused NoContext
pulls_none = refl

stores_no_cppr_without_one : tima_outcome (start c) pulled 0 2 0x11 1 (access.Store 5) ≡ out.Refused NoContext
stores_no_cppr_without_one = refl

has_no_register_there : tima_outcome (start c) pulled 0 3 0x10 1 access.Load ≡ out.BadAccess
has_no_register_there = refl
