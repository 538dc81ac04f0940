-- A node after a change within one child.
use Rattle.std.proofs.Common.{◌≡◌, ℕ, ◌+◌, ◌-◌, ◌<◌, ◌≤◌, List, [], ◌∷◌, ◌++◌, length, get_or, take, drop, Option, Some, None, sym, ap, subst, ◌∙◌, append_assoc, arith, length-append, take-append-drop}
use Rattle.std.proofs.lemmas.List.{append-nil, take-append-le, drop-append-le, length-take-le, length-drop, drop-drop, take_rest}
use Rattle.std.proofs.Math.Seq.{take-append-add, drop-append-add}
use Rattle.sum_tree.specs.Laws.{SummaryLaws, fold}
use Rattle.sum_tree.specs.Seen.{Seen}
use Rattle.sum_tree.specs.Shape.{IsChild, join_items}
use Rattle.sum_tree.specs.Grown.{IsSplit, pair_list, with_pair, with_run}
use Rattle.sum_tree.specs.Spliced.{splice_list, IsPiece, IsSpliced}
use Rattle.sum_tree.proofs.Folds.{fits_left, fits_right, fits_without}
use Rattle.sum_tree.proofs.Children.{joined-append, joined-take_more, joined-split}
use Rattle.sum_tree.proofs.Opened.{IsInner, pair-joined}

module _ {T : Type 0} where
  pub run-joined : (ts : List (Seen T)) (i j : ℕ) (a : Seen T) (b : Option (Seen T)) → join_items (with_run ts i j a b) ≡ join_items (take i ts) ++ (join_items (pair_list a b) ++ join_items (drop j ts))
  run-joined ts i j a b =
      joined-append (take i ts ++ pair_list a b) (drop j ts) ∙ ap (λ (xs : List T). xs ++ join_items (drop j ts)) (joined-append (take i ts) (pair_list a b)) ∙ append_assoc (join_items (take i ts)) (join_items (pair_list a b)) (join_items (drop j ts))

  pub pair_none : (a : Seen T) (b : Option (Seen T)) → b ≡ None → join_items (pair_list a b) ≡ a.items
  pair_none a b e = ap (λ (o : Option (Seen T)). join_items (pair_list a o)) e ∙ append-nil a.items

  -- a, which replaces child k, comes after the child before it
  pub beside_left : (ts : List (Seen T)) (k : ℕ) (t a : Seen T) (b : Option (Seen T)) → 0 < k → k < length ts → t ≡ get_or ts (k - 1) t → b ≡ None → join_items (with_pair ts k a b) ≡ join_items (take (k - 1) ts) ++ ((t.items ++ a.items) ++ join_items (drop (k + 1) ts))
  beside_left ts k t a b pos lt read e =
      let one : k - 1 + 1 ≡ k = omega arith in
      let front : join_items (take k ts) ≡ join_items (take (k - 1) ts) ++ t.items = ap (λ (n : ℕ). join_items (take n ts)) (sym one) ∙ joined-take_more ts (k - 1) t (omega arith) read in
      let r = join_items (drop (k + 1) ts) in
      run-joined ts k (k + 1) a b ∙ ap (λ (xs : List T). join_items (take k ts) ++ (xs ++ r)) (pair_none a b e) ∙ ap (λ (xs : List T). xs ++ (a.items ++ r)) front ∙ append_assoc (join_items (take (k - 1) ts)) t.items (a.items ++ r) ∙ ap (λ (xs : List T). join_items (take (k - 1) ts) ++ xs) (sym (append_assoc t.items a.items r))

  -- a, which replaces the first child, comes before the second
  pub beside_right : (ts : List (Seen T)) (k : ℕ) (t a : Seen T) (b : Option (Seen T)) → k ≡ 0 → 2 ≤ length ts → t ≡ get_or ts 1 t → b ≡ None → join_items (with_pair ts k a b) ≡ (a.items ++ t.items) ++ join_items (drop 2 ts)
  beside_right [] k t a b z l read e = absurd (omega (arith, l))
  beside_right (u ∷ []) k t a b z l read e = absurd (omega (arith, l))
  beside_right (u ∷ v ∷ ts) k t a b z l read e =
      let here : join_items (with_pair (u ∷ v ∷ ts) 0 a b) ≡ a.items ++ join_items (v ∷ ts) = run-joined (u ∷ v ∷ ts) 0 1 a b ∙ ap (λ (xs : List T). xs ++ join_items (v ∷ ts)) (pair_none a b e) in
      ap (λ (n : ℕ). join_items (with_pair (u ∷ v ∷ ts) n a b)) z ∙ here ∙ ap (λ (w : Seen T). a.items ++ (w.items ++ join_items ts)) (sym read) ∙ sym (append_assoc a.items t.items (join_items ts))

  -- what the two were made into replaces them
  pub joined_left : (ts : List (Seen T)) (k : ℕ) (h w : ℕ) (t a a' : Seen T) (b b' : Option (Seen T)) → 0 < k → k < length ts → t ≡ get_or ts (k - 1) t → b ≡ None → IsSplit h w (t.items ++ a.items) a' b' → join_items (with_run ts (k - 1) (k + 1) a' b') ≡ join_items (with_pair ts k a b)
  joined_left ts k h w t a a' b b' pos lt read e s =
      run-joined ts (k - 1) (k + 1) a' b' ∙ ap (λ (xs : List T). join_items (take (k - 1) ts) ++ (xs ++ join_items (drop (k + 1) ts))) (pair-joined h w (t.items ++ a.items) a' b' s) ∙ sym (beside_left ts k t a b pos lt read e)

  pub joined_right : (ts : List (Seen T)) (k : ℕ) (h w : ℕ) (t a a' : Seen T) (b b' : Option (Seen T)) → k ≡ 0 → 2 ≤ length ts → t ≡ get_or ts 1 t → b ≡ None → IsSplit h w (a.items ++ t.items) a' b' → join_items (with_run ts 0 2 a' b') ≡ join_items (with_pair ts k a b)
  joined_right ts k h w t a a' b b' z l read e s =
      run-joined ts 0 2 a' b' ∙ ap (λ (xs : List T). xs ++ join_items (drop 2 ts)) (pair-joined h w (a.items ++ t.items) a' b' s) ∙ sym (beside_right ts k t a b z l read e)

  -- the change of a range within child k is the change of that child
  pub spliced_within : (s : Seen T) (ts : List (Seen T)) (k r n i : ℕ) (t : Seen T) (ys : List T) → IsInner s ts → k < length ts → r + n ≤ length t.items → length (join_items (take k ts)) + r ≡ i → t ≡ get_or ts k t → join_items (take k ts) ++ (splice_list r (r + n) ys t.items ++ join_items (drop (k + 1) ts)) ≡ splice_list i (i + n) ys s.items
  spliced_within s ts k r n i t ys o lt within before read =
      let f = join_items (take k ts) in
      let z = join_items (drop (k + 1) ts) in
      let whole : s.items ≡ f ++ (t.items ++ z) = o.items ∙ sym (joined-split ts (k + 1)) ∙ ap (λ (xs : List T). xs ++ z) (joined-take_more ts k t lt read) ∙ append_assoc f t.items z in
      let front : take i s.items ≡ f ++ take r t.items = ap (take i) whole ∙ ap (λ (m : ℕ). take m (f ++ (t.items ++ z))) (sym before) ∙ take-append-add f (t.items ++ z) r ∙ ap (λ (xs : List T). f ++ xs) (take-append-le r t.items z (omega (arith, within))) in
      let last : length f + (r + n) ≡ i + n = omega (arith, before) in
      let back : drop (i + n) s.items ≡ drop (r + n) t.items ++ z = ap (drop (i + n)) whole ∙ ap (λ (m : ℕ). drop m (f ++ (t.items ++ z))) (sym last) ∙ drop-append-add f (t.items ++ z) (r + n) ∙ drop-append-le (r + n) t.items z within in
      let all : splice_list i (i + n) ys s.items ≡ ((f ++ take r t.items) ++ ys) ++ (drop (r + n) t.items ++ z) = ap (λ (xs : List T). (xs ++ ys) ++ drop (i + n) s.items) front ∙ ap (λ (xs : List T). ((f ++ take r t.items) ++ ys) ++ xs) back in
      ap (λ (xs : List T). f ++ xs) (append_assoc (take r t.items ++ ys) (drop (r + n) t.items) z) ∙ sym (append_assoc f (take r t.items ++ ys) (drop (r + n) t.items ++ z)) ∙ ap (λ (xs : List T). xs ++ (drop (r + n) t.items ++ z)) (sym (append_assoc f (take r t.items) ys)) ∙ sym all

  pub spliced_child : (s : Seen T) (ts : List (Seen T)) (k r n i : ℕ) (t : Seen T) (ys : List T) (a : Seen T) (b : Option (Seen T)) → IsInner s ts → k < length ts → r + n ≤ length t.items → length (join_items (take k ts)) + r ≡ i → t ≡ get_or ts k t → join_items (pair_list a b) ≡ splice_list r (r + n) ys t.items → join_items (with_pair ts k a b) ≡ splice_list i (i + n) ys s.items
  spliced_child s ts k r n i t ys a b o lt within before read made =
      run-joined ts k (k + 1) a b ∙ ap (λ (xs : List T). join_items (take k ts) ++ (xs ++ join_items (drop (k + 1) ts))) made ∙ spliced_within s ts k r n i t ys o lt within before read

  pub spliced_piece : (h w : ℕ) (xs : List T) (a : Seen T) (b : Option (Seen T)) → IsSpliced h w xs a b → 3 ≤ w → IsPiece (h + 1) a b
  spliced_piece h w xs a None s l = (ap (λ (n : ℕ). n + 1) (s.1 l), s.2, s.3)
  spliced_piece h w xs a (Some b) s l = (s.1, s.2)

  pub spliced-joined : (h w : ℕ) (xs : List T) (a : Seen T) (b : Option (Seen T)) → IsSpliced h w xs a b → join_items (pair_list a b) ≡ xs
  spliced-joined h w xs a None s = append-nil a.items ∙ s.0
  spliced-joined h w xs a (Some b) s = ap (λ (ys : List T). a.items ++ ys) (append-nil b.items) ∙ s.0

  -- the entries that a changed leaf is made of
  pub leaf_spliced : (i j : ℕ) (xs old d e ys all : List T) → xs ≡ old → d ≡ old → e ≡ old → all ≡ (take i d ++ ys) ++ take (length e - j) (drop j e) → all ≡ splice_list i j ys xs
  leaf_spliced i j xs old d e ys all whole f g made =
      made ∙ ap (λ (zs : List T). (take i d ++ ys) ++ zs) (take_rest e j) ∙ ap (λ (zs : List T). (take i zs ++ ys) ++ drop j e) (f ∙ sym whole) ∙ ap (λ (zs : List T). (take i xs ++ ys) ++ drop j zs) (g ∙ sym whole)

  pub split_spliced : (h h' v w : ℕ) (xs ys : List T) (a : Seen T) (b : Option (Seen T)) → h ≡ h' → xs ≡ ys → IsSplit h v xs a b → IsSpliced h' w ys a b
  split_spliced h h' v w xs ys a None e f s = (s.0 ∙ f, λ l. s.1 ∙ e, s.3, s.4)
  split_spliced h h' v w xs ys a (Some b) e f s = (s.0 ∙ f, subst (λ (n : ℕ). IsChild (n + 1) a) e s.1, subst (λ (n : ℕ). IsChild (n + 1) b) e s.2)

drop_one_more : {X : Type 0} (xs : List X) (i : ℕ) → drop (i + 1) xs ≡ drop 1 (drop i xs)
drop_one_more xs i = sym (drop-drop 1 i xs)

module _ {S T : Type 0} {empty : S} {op : S → S → S} {admits fits : S → Type 0} (laws : SummaryLaws empty op admits fits) (sum_of : T → S) (admitted : (x : T) → admits (sum_of x)) where
  -- what is put in fits, and so does the front with it
  pub fits_put : (i j : ℕ) (ys xs : List T) → fits (fold empty op sum_of (splice_list i j ys xs)) → fits (fold empty op sum_of (take i xs ++ ys))
  fits_put i j ys xs h = fits_left laws sum_of admitted (take i xs ++ ys) (drop j xs) h

  pub fits_new : (i j : ℕ) (ys xs : List T) → fits (fold empty op sum_of (splice_list i j ys xs)) → fits (fold empty op sum_of ys)
  fits_new i j ys xs h = fits_right laws sum_of admitted (take i xs) ys (fits_put i j ys xs h)

  -- what is left without item i fits
  pub fits_cut : (i : ℕ) (none xs : List T) → none ≡ [] → fits (fold empty op sum_of xs) → fits (fold empty op sum_of (splice_list i (i + 1) none xs))
  fits_cut i none xs e h =
      let rest : take 1 (drop i xs) ++ drop (i + 1) xs ≡ drop i xs = ap (λ (us : List T). take 1 (drop i xs) ++ us) (drop_one_more xs i) ∙ take-append-drop 1 (drop i xs) in
      let whole : take i xs ++ (take 1 (drop i xs) ++ drop (i + 1) xs) ≡ xs = ap (λ (us : List T). take i xs ++ us) rest ∙ take-append-drop i xs in
      let cut : take i xs ++ drop (i + 1) xs ≡ splice_list i (i + 1) none xs = ap (λ (us : List T). us ++ drop (i + 1) xs) (sym (append-nil (take i xs))) ∙ ap (λ (us : List T). (take i xs ++ us) ++ drop (i + 1) xs) (sym e) in
      subst (λ (us : List T). fits (fold empty op sum_of us)) cut (fits_without laws sum_of admitted (take i xs) (take 1 (drop i xs)) (drop (i + 1) xs) (subst (λ (us : List T). fits (fold empty op sum_of us)) (sym whole) h))

pub short_cut : {T : Type 0} (i : ℕ) (none xs : List T) → none ≡ [] → i < length xs → length (splice_list i (i + 1) none xs) ≤ length xs
short_cut {T} i none xs e lt = omega (arith, length-append (take i xs ++ none) (drop (i + 1) xs), length-append (take i xs) none, ap length e, length-take-le i xs (omega (arith, lt)), length-drop (i + 1) xs)
