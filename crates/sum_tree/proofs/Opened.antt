-- What is known when an inner node is opened, and of its last child.
use Rattle.std.proofs.Common.{◌≡◌, ℕ, ◌+◌, ◌-◌, ◌*◌, ◌^◌, ◌<◌, ◌≤◌, List, [], ◌++◌, length, get_or, take, drop, Option, Some, None, Vec, Global, sym, ap, subst, ◌∙◌, append_assoc, arith, length-append}
use Rattle.std.proofs.lemmas.List.{append-nil, take_all, drop_all, get_or-append-add}
use Rattle.std.proofs.lemmas.List.Concat.{get_or-flat_map}
use Rattle.std.specs.List.{All}
use Rattle.sum_tree.specs.Seen.{Seen}
use Rattle.sum_tree.specs.Shape.{join_items, node_view, content_items, content_width, IsChild, IsContent}
use Rattle.sum_tree.specs.Grown.{IsSplit, pair_list, with_pair}
use Rattle.sum_tree.specs.declared.tree.Node.{Node}
use Rattle.sum_tree.specs.declared.tree.Content.{Content}
use Rattle.sum_tree.specs.declared.tree.Content.TheVariants.{Leaf, Inner}
use Rattle.sum_tree.proofs.Children.{joined-append, joined-take_more, joined-split, inner_is_low, inner_is_tall}

-- s is seen of an inner node with the children ts
pub record IsInner {T : Type 0} (s : Seen T) (ts : List (Seen T)) : Type 0 where
  pub items : s.items ≡ join_items ts
  pub width : s.width ≡ length ts
  pub children : All (IsChild s.height) ts
  pub least : 2 ≤ length ts
  pub most : length ts ≤ 12

pub opened : {T S : Type 0} (s : Seen T) (n m : Node T S) (v : Vec (Seen T) Global) → node_view n ≡ s → m ≡ n → m.content ≡ Inner v → IsContent n.height n.content → IsInner s v.items
opened {T} {S} s n m v e f q h =
    let is : n.content ≡ Inner v = subst (λ (x : Node T S). x.content ≡ Inner v) f q in
    let inner : Content T S = Inner v in
    let held : IsContent n.height inner = subst (λ (k : Content T S). IsContent n.height k) is h in
    let height : n.height ≡ s.height = ap (λ (x : Seen T). x.height) e in
    record {
      items = sym (ap (λ (x : Seen T). x.items) e) ∙ ap content_items is;
      width = sym (ap (λ (x : Seen T). x.width) e) ∙ ap content_width is;
      children = subst (λ (k : ℕ). All (IsChild k) v.items) height held.0;
      least = held.1;
      most = held.2;
    }

module _ {T : Type 0} where
  pub last_is_child : (h : ℕ) (ts : List (Seen T)) (n : ℕ) (t : Seen T) → All (IsChild h) ts → n ≡ length ts → 1 ≤ n → t ≡ get_or ts (n - 1) t → IsChild h t
  last_is_child h ts n t a e l read = subst (λ (u : Seen T). IsChild h u) (sym read) (a (n - 1) t (omega arith))

  pub joined-last : (ts : List (Seen T)) (n : ℕ) (t : Seen T) → n ≡ length ts → 1 ≤ n → t ≡ get_or ts (n - 1) t → join_items ts ≡ join_items (take (n - 1) ts) ++ t.items
  joined-last ts n t e l read =
      let all : take (n - 1 + 1) ts ≡ ts = take_all (n - 1 + 1) ts (omega arith) in
      sym (ap join_items all) ∙ joined-take_more ts (n - 1) t (omega arith) read

  pub pair-joined : (h w : ℕ) (xs : List T) (a : Seen T) (b : Option (Seen T)) → IsSplit h w xs a b → join_items (pair_list a b) ≡ xs
  pair-joined h w xs a None s = append-nil a.items ∙ s.0
  pair-joined h w xs a (Some b) s = ap (λ (ys : List T). a.items ++ ys) (append-nil b.items) ∙ s.0

  pub with_last-joined : (ts : List (Seen T)) (n : ℕ) (a : Seen T) (b : Option (Seen T)) → n ≡ length ts → 1 ≤ n → join_items (with_pair ts (n - 1) a b) ≡ join_items (take (n - 1) ts) ++ join_items (pair_list a b)
  with_last-joined ts n a b e l =
      let none : drop (n - 1 + 1) ts ≡ [] = drop_all (n - 1 + 1) ts (omega arith) in
      ap (λ (us : List (Seen T)). join_items ((take (n - 1) ts ++ pair_list a b) ++ us)) none ∙ ap join_items (append-nil (take (n - 1) ts ++ pair_list a b)) ∙ joined-append (take (n - 1) ts) (pair_list a b)

  -- the items of the whole followed by ys end with those of the last child and ys
  pub ends_with_last : (s : Seen T) (ts : List (Seen T)) (ys : List T) (n : ℕ) (t : Seen T) → IsInner s ts → n ≡ length ts → t ≡ get_or ts (n - 1) t → s.items ++ ys ≡ join_items (take (n - 1) ts) ++ (t.items ++ ys)
  ends_with_last s ts ys n t o e read =
      let l : 1 ≤ n = omega (arith, o.least) in
      ap (λ (xs : List T). xs ++ ys) (o.items ∙ joined-last ts n t e l read) ∙ append_assoc (join_items (take (n - 1) ts)) t.items ys

  -- the last item is that of the last child
  pub end_of_child : (s : Seen T) (ts : List (Seen T)) (n : ℕ) (t : Seen T) (x d : T) → IsInner s ts → n ≡ length ts → t ≡ get_or ts (n - 1) t → 1 ≤ length t.items → x ≡ get_or t.items (length t.items - 1) d → x ≡ get_or s.items (length s.items - 1) d
  end_of_child s ts n t x d o e read filled is =
      let f = join_items (take (n - 1) ts) in
      let whole : s.items ≡ f ++ t.items = o.items ∙ joined-last ts n t e (omega (arith, o.least)) read in
      let place : length f + (length t.items - 1) ≡ length s.items - 1 = omega (arith, ap length whole, length-append f t.items, filled) in
      is ∙ sym (get_or-append-add f t.items (length t.items - 1) d) ∙ ap (λ (m : ℕ). get_or (f ++ t.items) m d) place ∙ ap (λ (xs : List T). get_or xs (length s.items - 1) d) (sym whole)

  -- after the last child has grown by ys
  pub grown_last : (s : Seen T) (ts : List (Seen T)) (ys : List T) (n : ℕ) (t : Seen T) (w : ℕ) (a : Seen T) (b : Option (Seen T)) → IsInner s ts → n ≡ length ts → t ≡ get_or ts (n - 1) t → IsSplit t.height w (t.items ++ ys) a b → join_items (with_pair ts (n - 1) a b) ≡ s.items ++ ys
  grown_last s ts ys n t w a b o e read g =
      let l : 1 ≤ n = omega (arith, o.least) in
      with_last-joined ts n a b e l ∙ ap (λ (xs : List T). join_items (take (n - 1) ts) ++ xs) (pair-joined t.height w (t.items ++ ys) a b g) ∙ sym (ends_with_last s ts ys n t o e read)

  pub begins_with_first : (s : Seen T) (ts : List (Seen T)) (ys : List T) (t : Seen T) → IsInner s ts → t ≡ get_or ts 0 t → ys ++ s.items ≡ (ys ++ t.items) ++ join_items (drop 1 ts)
  begins_with_first s ts ys t o read =
      let one : join_items (take 1 ts) ≡ t.items = joined-take_more ts 0 t (omega (arith, o.least)) read in
      ap (λ (xs : List T). ys ++ xs) (o.items ∙ sym (joined-split ts 1) ∙ ap (λ (xs : List T). xs ++ join_items (drop 1 ts)) one) ∙ sym (append_assoc ys t.items (join_items (drop 1 ts)))

  pub first_is_child : (h : ℕ) (ts : List (Seen T)) (t : Seen T) → All (IsChild h) ts → 1 ≤ length ts → t ≡ get_or ts 0 t → IsChild h t
  first_is_child h ts t a l read = subst (λ (u : Seen T). IsChild h u) (sym read) (a 0 t (omega arith))

  -- item j of child k is item i of all
  pub item_of_child : (s : Seen T) (ts us : List (Seen T)) (k j i : ℕ) (t : Seen T) (x d : T) → IsInner s ts → us ≡ ts → k < length us → j < length (get_or us k t).items → length (join_items (take k us)) + j ≡ i → t ≡ get_or ts k t → x ≡ get_or t.items j d → x ≡ get_or s.items i d
  item_of_child s ts us k j i t x d o same lt ltj before read is =
      let lt' : k < length ts = omega (arith, ap length same) in
      let ltj' : j < length (get_or ts k t).items = subst (λ (vs : List (Seen T)). j < length (get_or vs k t).items) same ltj in
      let before' : length (join_items (take k ts)) + j ≡ i = subst (λ (vs : List (Seen T)). length (join_items (take k vs)) + j ≡ i) same before in
      let here : get_or (join_items ts) (length (join_items (take k ts)) + j) d ≡ get_or (get_or ts k t).items j d = get_or-flat_map (λ (u : Seen T). u.items) ts k j t d lt' ltj' in
      is ∙ ap (λ (u : Seen T). get_or u.items j d) read ∙ sym here ∙ ap (λ (m : ℕ). get_or (join_items ts) m d) before' ∙ ap (λ (xs : List T). get_or xs i d) (sym o.items)

pub opened_leaf : {T S : Type 0} (s : Seen T) (n m : Node T S) (v : Vec T Global) → node_view n ≡ s → m ≡ n → m.content ≡ Leaf v → s.items ≡ v.items
opened_leaf {T} {S} s n m v e f q =
    sym (ap (λ (x : Seen T). x.items) e) ∙ ap content_items (subst (λ (x : Node T S). x.content ≡ Leaf v) f q)

pub leaf_height : {T S : Type 0} (s : Seen T) (n m : Node T S) (v : Vec T Global) → node_view n ≡ s → m ≡ n → m.content ≡ Leaf v → IsContent n.height n.content → s.height ≡ 0
leaf_height {T} {S} s n m v e f q h =
    let is : n.content ≡ Leaf v = subst (λ (x : Node T S). x.content ≡ Leaf v) f q in
    let leaf : Content T S = Leaf v in
    let held : IsContent n.height leaf = subst (λ (k : Content T S). IsContent n.height k) is h in
    sym (ap (λ (x : Seen T). x.height) e) ∙ held.0

pub leaf_width : {T S : Type 0} (s : Seen T) (n m : Node T S) (v : Vec T Global) → node_view n ≡ s → m ≡ n → m.content ≡ Leaf v → IsContent n.height n.content → (s.width ≡ length v.items) × (length v.items ≤ 12)
leaf_width {T} {S} s n m v e f q h =
    let is : n.content ≡ Leaf v = subst (λ (x : Node T S). x.content ≡ Leaf v) f q in
    let leaf : Content T S = Leaf v in
    let held : IsContent n.height leaf = subst (λ (k : Content T S). IsContent n.height k) is h in
    (sym (ap (λ (x : Seen T). x.width) e) ∙ ap content_width is, held.1)

-- no node is higher than 15
pub node_is_low : {S T : Type 0} (h : ℕ) (c : Content T S) → IsContent h c → length (content_items c) ≤ 2 ^ 40 → h ≤ 15
node_is_low h (Leaf v) k short = omega (arith, k.0)
node_is_low h (Inner v) k short = inner_is_low h v.items k.0 k.1 short

-- an inner node has at least as many items as its height requires
pub node_is_tall : {S T : Type 0} (h : ℕ) (c : Content T S) → IsContent h c → 0 < h → 2 * 6 ^ h ≤ length (content_items c)
node_is_tall h (Leaf v) k l = absurd (omega (arith, k.0, l))
node_is_tall h (Inner v) k l = inner_is_tall h v.items k.0 k.1
