-- A machine on which nothing has happened.
use Rattle.std.proofs.Common.{ℕ, ◌≡◌, ◌<◌, false, List, [], Some, refl, sym, ◌∙◌, ap, subst, arith, slice_get}
use Rattle.std.proofs.Math.ListN.{replicate, length-replicate}
use Rattle.std.proofs.lemmas.List.{get_or-replicate}
use Rattle.std.proofs.lemmas.Option.{slice_get-get_or}
use Rattle.xv_model.specs.declared.board.Board.{Board}
use Rattle.xv_model.specs.account.Start.{start}
use Rattle.xv_model.proofs.Sums.{sum_below-zero}
use Rattle.esb_pq.specs.Word.{SourceParts}
use Rattle.fabric_core.specs.Fabric.{Held as FabricHeld, StandsFor as FabricStandsFor}
use Rattle.machine.specs.Machine.{StandsFor}

-- the word of a source that is off
abbrev pub off : SourceParts
off = record { pq = 1; asserted = false; count = 0 }

pub starts : (b : Board) (f : FabricHeld) (words : List SourceParts) (pairs : List ℕ) (w : SourceParts) → w ≡ off → FabricStandsFor f (start b) [] →
    words ≡ replicate b.limits.sources w → pairs ≡ replicate b.limits.sources 1 → StandsFor (record { fabric = f; words = words; old_pairs = pairs; count = 0; notices = 0 }) (start b) []
starts b f words pairs w is_off fabric items olds = record {
  parts = record {
    fabric = fabric;
    words = λ s l. subst (λ ws. slice_get ws s ≡ Some off) (sym (items ∙ ap (replicate b.limits.sources) is_off))
        (slice_get-get_or (replicate b.limits.sources off) s off (subst (λ k. s < k) (sym (length-replicate b.limits.sources off)) l)
        ∙ ap Some (get_or-replicate b.limits.sources s off off l));
    forwarded = λ s. omega arith;
  };
  old_pairs = λ s l. subst (λ ps. slice_get ps s ≡ Some 1) (sym olds)
      (slice_get-get_or (replicate b.limits.sources 1) s 1 (subst (λ k. s < k) (sym (length-replicate b.limits.sources 1)) l)
      ∙ ap Some (get_or-replicate b.limits.sources s 1 1 l));
  index = refl;
  notices = sym (sum_below-zero b.limits.sources);
}
