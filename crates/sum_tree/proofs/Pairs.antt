-- What replaces one child, or two, when a node is changed in place.
use Rattle.std.proofs.Common.{refl, ◌≡◌, ℕ, ◌+◌, ◌-◌, ◌<◌, ◌≤◌, List, [], ◌∷◌, ◌++◌, length, get_or, set, take, drop, Option, Some, None, sym, ap, subst, ◌∙◌, append_assoc, take-append-drop, arith, length-append}
use Rattle.std.proofs.lemmas.List.{append-nil, drop-set, drop_all, drop-append-le, take-set-le, take-take, take-append-le, length-take-le, length-drop}
use Rattle.std.proofs.lemmas.List.Elements.{All-append, All-cons, All-nil, All-take, All-drop}
use Rattle.std.specs.List.{All, insert}
use Rattle.sum_tree.specs.Seen.{Seen}
use Rattle.sum_tree.specs.Shape.{join_items, IsChild}
use Rattle.sum_tree.specs.Grown.{IsSplit, pair_list, with_pair, with_run}
use Rattle.sum_tree.specs.Here.{IsPushedBesideOr}
use Rattle.sum_tree.specs.Placed.{IsPlaced, inner_seen, AreChildren}
use Rattle.sum_tree.proofs.Children.{many_enough}
use Rattle.sum_tree.proofs.Opened.{joined-last, with_last-joined, pair-joined, last_is_child}
use Rattle.sum_tree.proofs.Splices.{run-joined}

module _ {X : Type 0} where
  set_parts : (xs : List X) (k : ℕ) (a : X) → k < length xs → set xs k a ≡ take k xs ++ a ∷ drop (k + 1) xs
  set_parts xs k a lt =
      sym (take-append-drop k (set xs k a)) ∙ ap (λ (ys : List X). ys ++ drop k (set xs k a)) (take-set-le k xs k a (omega arith)) ∙ ap (λ (ys : List X). take k xs ++ ys) (drop-set xs k a lt)

  pub put_one : (xs : List X) (k : ℕ) (a : X) → k < length xs → set xs k a ≡ with_pair xs k a None
  put_one xs k a lt = set_parts xs k a lt ∙ sym (append_assoc (take k xs) (a ∷ []) (drop (k + 1) xs))

  pub put_two : (xs : List X) (k : ℕ) (a b : X) → k < length xs → set (insert xs (k + 1) b) k a ≡ with_pair xs k a (Some b)
  put_two xs k a b lt =
      let rest = drop (k + 1) xs in
      let long : k < length (take (k + 1) xs ++ b ∷ rest) = omega (arith, lt, length-append (take (k + 1) xs) (b ∷ rest), length-take-le (k + 1) xs (omega (arith, lt))) in
      let front : take k (take (k + 1) xs ++ b ∷ rest) ≡ take k xs = take-append-le k (take (k + 1) xs) (b ∷ rest) (omega (arith, lt, length-take-le (k + 1) xs (omega (arith, lt)))) ∙ take-take k (k + 1) xs (omega arith) in
      let back : drop (k + 1) (take (k + 1) xs ++ b ∷ rest) ≡ b ∷ rest = drop-append-le (k + 1) (take (k + 1) xs) (b ∷ rest) (omega (arith, lt, length-take-le (k + 1) xs (omega (arith, lt)))) ∙ ap (λ (ys : List X). ys ++ b ∷ rest) (drop_all (k + 1) (take (k + 1) xs) (omega (arith, lt, length-take-le (k + 1) xs (omega (arith, lt))))) in
      set_parts (take (k + 1) xs ++ b ∷ rest) k a long ∙ ap (λ (ys : List X). ys ++ a ∷ drop (k + 1) (take (k + 1) xs ++ b ∷ rest)) front ∙ ap (λ (ys : List X). take k xs ++ a ∷ ys) back ∙ sym (append_assoc (take k xs) (a ∷ b ∷ []) rest)

  pub put_end : (xs : List X) (k : ℕ) (a b : X) → k + 1 ≡ length xs → set xs k a ++ b ∷ [] ≡ with_pair xs k a (Some b)
  put_end xs k a b e =
      let none : drop (k + 1) xs ≡ [] = drop_all (k + 1) xs (omega (arith, e)) in
      let front : set xs k a ≡ take k xs ++ a ∷ [] = set_parts xs k a (omega (arith, e)) ∙ ap (λ (ys : List X). take k xs ++ a ∷ ys) none in
      ap (λ (ys : List X). ys ++ b ∷ []) front ∙ append_assoc (take k xs) (a ∷ []) (b ∷ [])
      ∙ sym (ap (λ (ys : List X). (take k xs ++ a ∷ b ∷ []) ++ ys) none ∙ append-nil (take k xs ++ a ∷ b ∷ []))

  pub pair_few : (a : X) (b : Option X) → (1 ≤ length (pair_list a b)) × (length (pair_list a b) ≤ 2)
  pair_few a None = (omega arith, omega arith)
  pair_few a (Some b) = (omega arith, omega arith)

  pub pair_length : (xs : List X) (k : ℕ) (a : X) (b : Option X) → k < length xs → length (with_pair xs k a b) ≡ length xs - 1 + length (pair_list a b)
  pair_length xs k a b lt =
      omega (arith, lt, length-append (take k xs ++ pair_list a b) (drop (k + 1) xs), length-append (take k xs) (pair_list a b), length-take-le k xs (omega (arith, lt)), length-drop (k + 1) xs)

module _ {T : Type 0} where
  -- what a child became is a child, or two
  pub split_children : (h k w : ℕ) (xs : List T) (a : Seen T) (b : Option (Seen T)) → k + 1 ≡ h → 6 ≤ w → IsSplit k w xs a b → All (IsChild h) (pair_list a b)
  split_children h k w xs a None e l s =
      let wide : 6 ≤ a.width = omega (arith, l, s.2) in
      let child : IsChild h a = record {
        lower = ap (λ (n : ℕ). n + 1) s.1 ∙ e;
        wide = wide;
        narrow = s.3;
        many = s.4 wide;
      } in
      All-cons (IsChild h) a [] child (All-nil (IsChild h))
  split_children h k w xs a (Some b) e l s =
      All-cons (IsChild h) a (b ∷ []) (subst (λ (n : ℕ). IsChild n a) e s.1) (All-cons (IsChild h) b [] (subst (λ (n : ℕ). IsChild n b) e s.2) (All-nil (IsChild h)))

  pub run_children : (h : ℕ) (ts : List (Seen T)) (i j : ℕ) (a : Seen T) (b : Option (Seen T)) → All (IsChild h) ts → All (IsChild h) (pair_list a b) → All (IsChild h) (with_run ts i j a b)
  run_children h ts i j a b all pair =
      All-append (IsChild h) (take i ts ++ pair_list a b) (drop j ts) (All-append (IsChild h) (take i ts) (pair_list a b) (All-take (IsChild h) i ts all) pair) (All-drop (IsChild h) j ts all)

  pub last_whole : (ts : List (Seen T)) (n : ℕ) (t : Seen T) (x : T) (ys : List T) → n ≡ length ts → 2 ≤ length ts → t ≡ get_or ts (n - 1) t → ys ≡ x ∷ [] → join_items ts ++ x ∷ [] ≡ join_items (take (n - 1) ts) ++ (t.items ++ ys)
  last_whole ts n t x ys e least read one =
      ap (λ (zs : List T). zs ++ x ∷ []) (joined-last ts n t e (omega (arith, e, least)) read) ∙ append_assoc (join_items (take (n - 1) ts)) t.items (x ∷ []) ∙ ap (λ (zs : List T). join_items (take (n - 1) ts) ++ (t.items ++ zs)) (sym one)

  -- one more item after those of the last child, which was copied
  pub pushed_beside : (h : ℕ) (ts us : List (Seen T)) (n : ℕ) (t a : Seen T) (b : Option (Seen T)) (x : T) (ys : List T) → All (IsChild h) ts → n ≡ length ts → 2 ≤ length ts → length ts < 12 → t ≡ get_or ts (n - 1) t → ys ≡ x ∷ [] → IsSplit t.height t.width (t.items ++ ys) a b → us ≡ with_pair ts (n - 1) a b → IsPushedBesideOr h ts us x None
  pushed_beside h ts us n t a b x ys all e least few read one split made =
      let l : 1 ≤ n = omega (arith, e, least) in
      let child : IsChild h t = last_is_child h ts n t all e l read in
      let items : join_items us ≡ join_items ts ++ x ∷ [] = ap join_items made ∙ with_last-joined ts n a b e l ∙ ap (λ (zs : List T). join_items (take (n - 1) ts) ++ zs) (pair-joined t.height t.width (t.items ++ ys) a b split) ∙ sym (append_assoc (join_items (take (n - 1) ts)) t.items ys) ∙ ap (λ (zs : List T). zs ++ ys) (sym (joined-last ts n t e l read)) ∙ ap (λ (zs : List T). join_items ts ++ zs) one in
      let two = pair_few a b in
      let size : length us ≡ length ts - 1 + length (pair_list a b) = ap length made ∙ pair_length ts (n - 1) a b (omega (arith, e, l)) in
      let children : All (IsChild h) us = subst (λ (vs : List (Seen T)). All (IsChild h) vs) (sym made) (run_children h ts (n - 1) (n - 1 + 1) a b all (split_children h t.height t.width (t.items ++ ys) a b child.lower child.wide split)) in
      (items, children, omega (arith, size, two.0, least), omega (arith, size, two.1, few))

  pub split_moved : (h h' w : ℕ) (xs ys : List T) (a b : Seen T) → h ≡ h' → xs ≡ ys → IsSplit h w xs a (Some b) → IsSplit h' 0 ys a (Some b)
  split_moved h h' w xs ys a b e f s = (s.0 ∙ f, subst (λ (n : ℕ). IsChild (n + 1) a) e s.1, subst (λ (n : ℕ). IsChild (n + 1) b) e s.2)

  -- two of one height under a new root
  pub split_root : (h w : ℕ) (xs : List T) (a b : Seen T) → IsSplit h w xs a (Some b) → IsSplit a.height 0 (join_items (pair_list a (Some b))) a (Some b)
  split_root h w xs a b s =
      let height : h ≡ a.height = omega (arith, s.1.lower) in
      split_moved h a.height w xs (join_items (pair_list a (Some b))) a b height (sym (pair-joined h w xs a (Some b) s)) s

  -- the items of all where those of child k are m, and it became two
  pub paired_all : (ts us : List (Seen T)) (k h w : ℕ) (a b : Seen T) (m xs : List T) → us ≡ with_pair ts k a (Some b) → IsSplit h w m a (Some b) → join_items (take k ts) ++ (m ++ join_items (drop (k + 1) ts)) ≡ xs → join_items us ≡ xs
  paired_all ts us k h w a b m xs made split whole =
      ap join_items made ∙ run-joined ts k (k + 1) a (Some b) ∙ ap (λ (zs : List T). join_items (take k ts) ++ (zs ++ join_items (drop (k + 1) ts))) (pair-joined h w m a (Some b) split) ∙ whole

  -- a pair that there is room for
  pub paired_placed : (h : ℕ) (ts us : List (Seen T)) (k : ℕ) (a b : Seen T) → k < length ts → length ts < 12 → AreChildren h ts → IsChild h a → IsChild h b → us ≡ with_pair ts k a (Some b) → AreChildren h us × IsPlaced (length ts) (join_items (with_pair ts k a (Some b))) (inner_seen h ts) (inner_seen h us)
  paired_placed h ts us k a b lt few all p q made =
      let size : length us ≡ length ts - 1 + 2 = ap length made ∙ pair_length ts k a (Some b) lt in
      let pair : All (IsChild h) (pair_list a (Some b)) = All-cons (IsChild h) a (b ∷ []) p (All-cons (IsChild h) b [] q (All-nil (IsChild h))) in
      let children : All (IsChild h) us = subst (λ (vs : List (Seen T)). All (IsChild h) vs) (sym made) (run_children h ts k (k + 1) a (Some b) all.0 pair) in (
        (children, omega (arith, size, all.1), omega (arith, size, few)),
        record {
          items = ap join_items made;
          height = refl;
          wide = omega (arith, size, lt);
          narrow = omega (arith, size, few);
          many = λ l. many_enough h us children l;
        },
      )
