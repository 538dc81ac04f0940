-- Two sums added.
use Rattle.std.proofs.Common.{◌≡◌, List, ◌++◌, sym, subst}
use Rattle.sum_tree.specs.Laws.{SummaryLaws, fold}
use Rattle.sum_tree.proofs.Folds.{fold-append}

module _ {S T : Type 0} {empty : S} {op : S → S → S} {admits fits : S → Type 0} (laws : SummaryLaws empty op admits fits) (sum_of : T → S) (admitted : (x : T) → admits (sum_of x)) where
  pub added_sum : (xs ys : List T) (s t : S) → s ≡ fold empty op sum_of xs → t ≡ fold empty op sum_of ys → op s t ≡ fold empty op sum_of (xs ++ ys)
  added_sum xs ys s t e f = rw (e, f) (sym (fold-append laws sum_of admitted xs ys))

  pub added_fits : (xs ys : List T) (s t : S) → s ≡ fold empty op sum_of xs → t ≡ fold empty op sum_of ys → fits (fold empty op sum_of (xs ++ ys)) → fits (op s t)
  added_fits xs ys s t e f h = subst fits (sym (added_sum xs ys s t e f)) h
