-- The greatest key of items whose keys ascend is the last one's.
use Rattle.std.proofs.Common.{◌≡◌, List, Some, refl}
use Rattle.std.specs.declared.cmp.Ordering.{Ordering}
use Rattle.sum_tree.specs.Laws.{fold}
use Rattle.sum_tree.specs.Keyed.{Ascending, IsLastKey}
use Rattle.sum_tree.proofs.Lasts.{last_of_sum}
use Rattle.tree_cursor.specs.KeyLaws.{greater_past}
use Rattle.tree_cursor.specs.Sums.{nothing_greatest, greatest_sum}
use Rattle.tree_cursor.specs.declared.ready.Greatest.{Greatest}

pub greatest_is_last : {T K : Type 0} (cmp : K → K → Ordering) (key : T → K) (xs : List T) (s : Greatest K) → Ascending cmp key xs
    → s ≡ fold nothing_greatest (greatest_sum cmp) (λ (x : T). record { key = Some (key x) }) xs → IsLastKey key xs s.key
greatest_is_last {T} {K} cmp key xs s a e =
    last_of_sum nothing_greatest (greatest_sum cmp) (λ (x : T). record { key = Some (key x) }) cmp key (λ (g : Greatest K). g.key) refl (λ x. refl) (λ g w x f l. greater_past cmp g.key (key w) (key x) f l) xs s a e
