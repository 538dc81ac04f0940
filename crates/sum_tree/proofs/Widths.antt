-- The number of children when some are replaced, and the nodes made from them.
use Rattle.std.proofs.Common.{◌≡◌, ℕ, ◌+◌, ◌-◌, ◌^◌, ◌≤◌, List, [], ◌∷◌, ◌++◌, length, take, drop, All, Option, Some, None, ap, sym, refl, subst, append-nil, ◌∙◌, take-append-drop, arith, length-append}
use Rattle.std.proofs.lemmas.List.{length-take-le, length-drop}
use Rattle.std.proofs.lemmas.List.Elements.{All-cons, All-nil}
use Rattle.sum_tree.specs.Seen.{Seen}
use Rattle.sum_tree.specs.Shape.{join_items, IsChild}
use Rattle.sum_tree.specs.Grown.{IsSplit, pair_list, with_run}
use Rattle.sum_tree.specs.Spliced.{IsSpliced}
use Rattle.sum_tree.proofs.Pairs.{split_root}

pub run_length : {X : Type 0} (xs : List X) (i j : ℕ) (a : X) (b : Option X) → i ≤ j → j ≤ length xs → length (with_run xs i j a b) ≡ length xs - (j - i) + length (pair_list a b)
run_length xs i j a b ij le =
    omega (arith, ij, le, length-append (take i xs ++ pair_list a b) (drop j xs), length-append (take i xs) (pair_list a b), length-take-le i xs (omega (arith, ij, le)), length-drop j xs)

-- two lists copied, one after the other
pub appended : {X : Type 0} (none one two f b xs ys : List X) → none ≡ [] → one ≡ none ++ f → two ≡ one ++ b → f ≡ xs → b ≡ ys → two ≡ xs ++ ys
appended none one two f b xs ys n p q u v = q ∙ ap (λ (zs : List _). zs ++ b) (p ∙ ap (λ (zs : List _). zs ++ f) n ∙ u) ∙ ap (λ (zs : List _). xs ++ zs) v

module _ {T : Type 0} where
  pub both_children : (h : ℕ) (a b : Seen T) → IsChild h a → IsChild h b → All (IsChild h) (a ∷ b ∷ [])
  both_children h a b p q = All-cons (IsChild h) a (b ∷ []) p (All-cons (IsChild h) b [] q (All-nil (IsChild h)))

  -- what was split of at least v entries, and of the items xs, is so of w and of ys
  pub split_widened : (h v w : ℕ) (xs ys : List T) (a : Seen T) (b : Option (Seen T)) → w ≤ v → xs ≡ ys → IsSplit h v xs a b → IsSplit h w ys a b
  split_widened h v w xs ys a None le e s = (s.0 ∙ e, s.1, omega (arith, le, s.2), s.3, s.4)
  split_widened h v w xs ys a (Some b) le e s = (s.0 ∙ e, s.1, s.2)

  pub split_as : (h h' v w : ℕ) (xs ys : List T) (a : Seen T) (b : Option (Seen T)) → h ≡ h' → w ≤ v → xs ≡ ys → IsSplit h v xs a b → IsSplit h' w ys a b
  split_as h h' v w xs ys a b level le e s = subst (λ (i : ℕ). IsSplit i w ys a b) level (split_widened h v w xs ys a b le e s)

  leaf_many : (xs : List T) (a : Seen T) → a.items ≡ xs → a.height ≡ 0 → 6 ≤ length xs → 6 ^ (a.height + 1) ≤ length a.items
  leaf_many xs a i h six = rw (h, i) six

  pub spliced_root : (h w : ℕ) (xs : List T) (a : Seen T) (b : Option (Seen T)) → IsSpliced h w xs a b → IsSplit a.height 0 (join_items (pair_list a b)) a b
  spliced_root h w xs a None s = (sym (append-nil a.items), refl, omega arith, s.2, s.3)
  spliced_root h w xs a (Some b) s = split_root h 0 xs a b s

  pub leaf_alone : (n : ℕ) (xs : List T) (a : Seen T) → a.items ≡ xs → a.height ≡ 0 → a.width ≡ length xs → n ≡ length xs → length xs ≤ 12 → IsSplit 0 n xs a None
  leaf_alone n xs a i h w e l = (i, h, omega (arith, w, e), omega (arith, w, l), λ six. leaf_many xs a i h (omega (arith, six, w)))

  pub leaf_is_child : (xs : List T) (a : Seen T) → a.items ≡ xs → a.height ≡ 0 → a.width ≡ length xs → 6 ≤ length xs → length xs ≤ 12 → IsChild 1 a
  leaf_is_child xs a i h w least most = record {
    lower = omega (arith, h);
    wide = omega (arith, w, least);
    narrow = omega (arith, w, most);
    many = rw (h, i) least;
  }

  -- two leaves, of the first k items and of the others
  pub two_leaves : (n : ℕ) (xs fs gs : List T) (k : ℕ) (a b : Seen T) → fs ≡ take k xs → gs ≡ drop k xs → (a.items ≡ fs) × (a.height ≡ 0) × (a.width ≡ length fs) → (b.items ≡ gs) × (b.height ≡ 0) × (b.width ≡ length gs) → 6 ≤ k → k ≤ 12 → 6 + k ≤ length xs → length xs ≤ 12 + k → IsSplit 0 n xs a (Some b)
  two_leaves n xs fs gs k a b f g p q lo hi least most =
      let front : length fs ≡ k = omega (arith, ap length f, length-take-le k xs (omega (arith, least))) in
      let back : length gs ≡ length xs - k = omega (arith, ap length g, length-drop k xs) in
      (rw (p.0, q.0, f, g) (take-append-drop k xs), leaf_is_child fs a p.0 p.1 p.2 (omega (arith, front, lo)) (omega (arith, front, hi)), leaf_is_child gs b q.0 q.1 q.2 (omega (arith, back, least)) (omega (arith, back, most)))
