-- The laws of the addition of counts.
use Rattle.std.specs.Prelude.{ℕ}
use Rattle.std.proofs.Common.{ap, arith}
use Rattle.sum_tree.specs.Laws.{SummaryLaws}
use Rattle.sum_tree.specs.Count.{no_items, count_sum, AnyCount, CountFits}
use Rattle.sum_tree.specs.declared.count.Count.{Count}

abbrev as_count : ℕ → Count
as_count n = record { items = n }

pub count_laws : SummaryLaws no_items count_sum AnyCount CountFits
count_laws = record {
  empty_admitted = tt;
  op_admitted = λ a b p q. tt;
  left_identity = λ a p. ap as_count (omega arith);
  right_identity = λ a p. ap as_count (omega arith);
  assoc = λ a b c p q r. ap as_count (omega arith);
  empty_fits = omega arith;
  fits_parts = λ a b c p q r h. omega arith;
}
