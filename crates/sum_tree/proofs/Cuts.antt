-- The cut of a node before one of its items as a cut of the child that holds it.
use Rattle.std.proofs.Common.{◌≡◌, ℕ, ◌+◌, ◌-◌, ◌<◌, List, ◌++◌, length, get_or, take, drop, Vec, Global, refl, sym, ap, subst, ◌∙◌, arith}
use Rattle.sum_tree.specs.Seen.{Seen}
use Rattle.sum_tree.specs.Shape.{join_items, node_view, IsChild, IsContent}
use Rattle.sum_tree.specs.declared.tree.Node.{Node}
use Rattle.sum_tree.specs.declared.tree.Content.TheVariants.{Inner}
use Rattle.sum_tree.proofs.Opened.{IsInner, opened}
use Rattle.sum_tree.proofs.Fronts.{take_of_child, drop_of_child, rest_of_node}

-- item i of a node seen as s is item j of its child k, t
pub record IsCut {T : Type 0} (s : Seen T) (ts : List (Seen T)) (k j i : ℕ) (t : Seen T) : Type 0 where
  pub inner : IsInner s ts
  pub lt : k < length ts
  pub read : t ≡ get_or ts k t
  pub within : j < length t.items
  pub before : length (join_items (take k ts)) + j ≡ i
  pub child : IsChild s.height t

-- the child that was found in a node that is opened
pub cut_of : {S T : Type 0} {node m : Node T S} {s : Seen T} {v : Vec (Seen T) Global} {us : List (Seen T)} (k j i : ℕ) {t : Seen T} → node_view node ≡ s → m ≡ node → m.content ≡ Inner v → IsContent node.height node.content → us ≡ v.items → k < length us → ((d : Seen T) → j < length (get_or us k d).items) → length (join_items (take k us)) + j ≡ i → t ≡ get_or v.items k t → IsCut s v.items k j i t
cut_of {S} {T} {node} {m} {s} {v} {us} k j i {t} view lent is held same lt within before read =
    let inner : IsInner s v.items = opened s node m v view lent is held in
    let low : k < length v.items = omega (arith, lt, ap length same) in
    record {
      inner = inner;
      lt = low;
      read = read;
      within = subst (λ (u : Seen T). j < length u.items) (sym read) (subst (λ (ws : List (Seen T)). j < length (get_or ws k t).items) same (within t));
      before = subst (λ (ws : List (Seen T)). length (join_items (take k ws)) + j ≡ i) same before;
      child = subst (λ (u : Seen T). IsChild s.height u) (sym read) (inner.children k t low);
    }

module _ {T : Type 0} where
  -- the items before the cut
  pub cut_front : {s : Seen T} {ts : List (Seen T)} {k j i : ℕ} {t : Seen T} → IsCut s ts k j i t → take i s.items ≡ join_items (take k ts) ++ take j t.items
  cut_front {s} {ts} {k} {j} {i} {t} cut = take_of_child s ts k j i t cut.inner cut.lt cut.within cut.before cut.read

  -- the items from the cut on
  pub cut_rest : {s : Seen T} {ts : List (Seen T)} {k j i : ℕ} {t : Seen T} → IsCut s ts k j i t → drop i s.items ≡ drop j t.items ++ join_items (drop (k + 1) ts)
  cut_rest {s} {ts} {k} {j} {i} {t} cut = drop_of_child s ts k j i t cut.inner cut.lt cut.within cut.before cut.read

  -- the children before that child, and its items before the cut
  pub cut_before : {s : Seen T} {ts us : List (Seen T)} {k j i : ℕ} {t : Seen T} {front last : List T} → IsCut s ts k j i t → us ≡ ts → front ≡ join_items (take k us) → last ≡ take j t.items → front ++ last ≡ take i s.items
  cut_before {s} {ts} {us} {k} {j} {i} {t} {front} {last} cut same f l =
      ap (λ (xs : List T). xs ++ last) (f ∙ ap (λ (vs : List (Seen T)). join_items (take k vs)) same) ∙ ap (λ (xs : List T). join_items (take k ts) ++ xs) l ∙ sym (cut_front cut)

  -- that child's items from the cut on, and the children after it
  pub cut_behind : {s : Seen T} {ts us : List (Seen T)} {k j i : ℕ} {t : Seen T} {rest back : List T} → IsCut s ts k j i t → us ≡ ts → rest ≡ drop j t.items → back ≡ join_items (take (length us - (k + 1)) (drop (k + 1) us)) → rest ++ back ≡ drop i s.items
  cut_behind {s} {ts} {us} {k} {j} {i} {t} {rest} {back} cut same r b =
      rest_of_node s ts ts us k j i t rest back cut.inner refl same cut.lt (subst (λ (u : Seen T). j < length u.items) cut.read cut.within) cut.before cut.read r b
