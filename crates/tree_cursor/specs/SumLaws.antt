-- What sums that tell the greatest key keep.
use Rattle.std.specs.Prelude.{Option, refl}
use Rattle.std.specs.Cmp.{IsTotalOrder}
use Rattle.std.specs.declared.cmp.Ordering.{Ordering}
use Rattle.std.proofs.Common.{ap}
use Rattle.tree_cursor.specs.declared.ready.Greatest.{Greatest}
use Rattle.tree_cursor.specs.Keys.{cmp_less}
use Rattle.tree_cursor.specs.KeyLaws.{greater_none, greater_assoc, order_less}
use Rattle.tree_cursor.specs.Sums.{AnyGreatest, greatest_sum, nothing_greatest}
use Rattle.sum_tree.specs.Laws.{SummaryLaws}

abbrev with_key : {K : Type 0} → Option K → Greatest K
with_key o = record { key = o }

pub greatest_laws : {K : Type 0} (cmp : K → K → Ordering) → IsTotalOrder cmp → SummaryLaws nothing_greatest (greatest_sum cmp) AnyGreatest AnyGreatest
greatest_laws cmp t = record {
  empty_admitted = tt;
  op_admitted = λ a b p q. tt;
  left_identity = λ a p. refl;
  right_identity = λ a p. ap with_key (greater_none (cmp_less cmp) a.key);
  assoc = λ a b c p q r. ap with_key (greater_assoc (cmp_less cmp) (order_less cmp t) a.key b.key c.key);
  empty_fits = tt;
  fits_parts = λ a b c p q r h. tt;
}
