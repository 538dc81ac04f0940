-- A change of a range given by its ends, from a change of a range given by its length.
use Rattle.std.proofs.Common.{◌≡◌, ℕ, ◌+◌, ◌-◌, ◌≤◌, List, Option, ap, ◌∙◌}
use Rattle.std.proofs.Math.Nat.{add-sub_of_le}
use Rattle.sum_tree.specs.Seen.{Seen}
use Rattle.sum_tree.specs.Shape.{join_items}
use Rattle.sum_tree.specs.Grown.{IsSplit, pair_list}
use Rattle.sum_tree.specs.Spliced.{IsSpliced, splice_list}
use Rattle.sum_tree.proofs.Opened.{pair-joined}
use Rattle.sum_tree.proofs.Splices.{spliced-joined}

module _ {T : Type 0} where
  -- what replaces the tree has the items after the change
  pub spliced_range : (h w i j : ℕ) (ys xs : List T) (a : Seen T) (b : Option (Seen T)) → i ≤ j → IsSpliced h w (splice_list i (i + (j - i)) ys xs) a b → join_items (pair_list a b) ≡ splice_list i j ys xs
  spliced_range h w i j ys xs a b order done = spliced-joined h w (splice_list i (i + (j - i)) ys xs) a b done ∙ ap (λ (n : ℕ). splice_list i n ys xs) (add-sub_of_le order)

  -- and so have the two that are to replace it
  pub split_range : (h w i j : ℕ) (ys xs : List T) (a : Seen T) (b : Option (Seen T)) → i ≤ j → IsSplit h w (splice_list i (i + (j - i)) ys xs) a b → join_items (pair_list a b) ≡ splice_list i j ys xs
  split_range h w i j ys xs a b order split = pair-joined h w (splice_list i (i + (j - i)) ys xs) a b split ∙ ap (λ (n : ℕ). splice_list i n ys xs) (add-sub_of_le order)
