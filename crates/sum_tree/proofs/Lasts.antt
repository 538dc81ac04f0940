-- Sums that give the last key of a list in ascending order of keys.
use Rattle.std.proofs.Common.{◌≡◌, ℕ, suc, ◌-◌, List, [], ◌∷◌, length, get_or, Option, Some, None, sym, ap, subst, ◌∙◌, arith}
use Rattle.std.proofs.lemmas.Option.{same_Some}
use Rattle.std.specs.declared.cmp.Ordering.{Ordering}
use Rattle.std.specs.declared.cmp.Ordering.TheVariants.{Less}
use Rattle.sum_tree.specs.Laws.{fold}
use Rattle.sum_tree.specs.Keyed.{Ascending, IsLastKey}
use Rattle.sum_tree.proofs.Keys.{ascending_rest}

-- the last of two or more is the last without the first
get_or-last : {X : Type 0} (w x : X) (xs : List X) (d : X) → get_or (w ∷ x ∷ xs) (length (w ∷ x ∷ xs) - 1) d ≡ get_or (x ∷ xs) (length (x ∷ xs) - 1) d
get_or-last w x xs d =
    let e : length (w ∷ x ∷ xs) - 1 ≡ suc (length (x ∷ xs) - 1) = omega arith in
    ap (λ (m : ℕ). get_or (w ∷ x ∷ xs) m d) e

is_last : {T K : Type 0} (key : T → K) (xs : List T) (o : Option K) → ((d : T) → o ≡ Some (key (get_or xs (length xs - 1) d))) → IsLastKey key xs o
is_last key xs None e = tt
is_last key xs (Some k) e = λ d. same_Some k (key (get_or xs (length xs - 1) d)) (e d)

-- for sums that give no key for no items and the key of a single item, where each later item, whose key is greater,
-- replaces that key with its own
module _ {S T K : Type 0} (empty : S) (op : S → S → S) (sum_of : T → S) (cmp : K → K → Ordering) (key : T → K) (last : S → Option K) (none : last empty ≡ None) (first : (x : T) → last (op empty (sum_of x)) ≡ Some (key x)) (next : (s : S) (w x : T) → last s ≡ Some (key w) → cmp (key w) (key x) ≡ Less → last (op s (sum_of x)) ≡ Some (key x)) where
  fold_last : (s : S) (w : T) (xs : List T) (d : T) → last s ≡ Some (key w) → Ascending cmp key (w ∷ xs) → last (fold s op sum_of xs) ≡ Some (key (get_or (w ∷ xs) (length (w ∷ xs) - 1) d))
  fold_last s w [] d e a =
      let one : length (w ∷ []) - 1 ≡ 0 = omega arith in
      e ∙ ap (λ (m : ℕ). Some (key (get_or (w ∷ []) m d))) (sym one)
  fold_last s w (x ∷ xs) d e a =
      let up : cmp (key w) (key x) ≡ Less = a 0 1 d (omega arith) (omega arith) in
      let rest : Ascending cmp key (x ∷ xs) = ascending_rest cmp key w (x ∷ xs) a in
      fold_last (op s (sum_of x)) x xs d (next s w x e up) rest ∙ ap (λ (y : T). Some (key y)) (sym (get_or-last w x xs d))

  -- the sum of a list gives its last key
  pub last_of_sum : (xs : List T) (s : S) → Ascending cmp key xs → s ≡ fold empty op sum_of xs → IsLastKey key xs (last s)
  last_of_sum [] s a e = subst (λ (o : Option K). IsLastKey key [] o) (sym (ap last e ∙ none)) tt
  last_of_sum (w ∷ xs) s a e = is_last key (w ∷ xs) (last s) (λ d. ap last e ∙ fold_last (op empty (sum_of w)) w xs d (first w) a)
