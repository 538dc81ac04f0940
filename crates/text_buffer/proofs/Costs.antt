-- What an edit costs, by the fragments of a content.
use Rattle.std.proofs.Common.{◌≡◌, ℕ, ◌+◌, ◌-◌, ◌*◌, ◌^◌, ◌<◌, ◌≤◌, List, length, arith, subst}
use Rattle.op_model.specs.declared.operation.Piece.{Piece}
use Rattle.op_model.specs.Histories.{History}
use Rattle.fragments.specs.declared.fragment.Fragment.{Fragment}
use Rattle.remote_edit.specs.Costs.{touch_count}
use Rattle.remote_edit.specs.Fragments.{fragments_of}
use Rattle.text_buffer.specs.declared.content.Content.{Content}
use Rattle.text_buffer.specs.Costs.{IsEditCost}
use Rattle.text_buffer.specs.Document.{IsContent}

difference_least : (m n b : ℕ) → m ≤ n + b → m - n ≤ b
difference_least m n b e = omega (arith, e)

-- steps from n to m that keep the bound of a content's tree are no more than an edit may cost
pub edit_cost : (c : Content) (h : History) (changes : List Piece) (m n : ℕ) → IsContent c h → (0 < c.fragments.height → 2 * 6 ^ c.fragments.height ≤ length c.fragments.items)
    → m ≤ n + 256 * (length changes + touch_count c.fragments.items changes + 1) * (c.fragments.height + 1) → IsEditCost h changes (m - n)
edit_cost c h changes m n k tall b = record {
  height = c.fragments.height;
  tall = λ p. subst (λ (fs : List Fragment). 2 * 6 ^ c.fragments.height ≤ length fs) k.fragments (tall p);
  cost = difference_least m n (256 * (length changes + touch_count (fragments_of h) changes + 1) * (c.fragments.height + 1))
      (subst (λ (fs : List Fragment). m ≤ n + 256 * (length changes + touch_count fs changes + 1) * (c.fragments.height + 1)) k.fragments b);
}

at_least_itself : (n b : ℕ) → n ≤ n + b
at_least_itself n b = omega arith

-- no step is no more than that
pub no_cost : (c : Content) (h : History) (changes : List Piece) (n : ℕ) → IsContent c h → (0 < c.fragments.height → 2 * 6 ^ c.fragments.height ≤ length c.fragments.items)
    → IsEditCost h changes (n - n)
no_cost c h changes n k tall = edit_cost c h changes n n k tall (at_least_itself n (256 * (length changes + touch_count c.fragments.items changes + 1) * (c.fragments.height + 1)))

no_difference : (n : ℕ) → 0 ≡ n - n
no_difference n = omega arith

-- nor is it where a counter stays as it was
pub kept_cost : (h : History) (changes : List Piece) (n : ℕ) → IsEditCost h changes 0 → IsEditCost h changes (n - n)
kept_cost h changes n k = subst (λ (d : ℕ). IsEditCost h changes d) (no_difference n) k
