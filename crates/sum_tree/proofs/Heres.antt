-- What a push in place preserves of a node.
use Rattle.std.proofs.Common.{◌≡◌, ℕ, ◌+◌, ◌-◌, ◌^◌, ◌≤◌, List, [], ◌∷◌, ◌++◌, length, get_or, set, take, Vec, Global, Option, Some, None, sym, ap, subst, ◌∙◌, append_assoc, arith, length-append}
use Rattle.std.proofs.lemmas.List.{take_all, take_more_set, length-set, set-get_or}
use Rattle.std.specs.List.{All}
use Rattle.sum_tree.specs.Laws.{SummaryLaws, fold}
use Rattle.sum_tree.specs.Seen.{Seen}
use Rattle.sum_tree.specs.Here.{IsPushedOr}
use Rattle.sum_tree.specs.Shape.{join_items, node_view, content_items, content_width, IsChild, IsContent, IsNode}
use Rattle.sum_tree.specs.declared.tree.Node.{Node}
use Rattle.sum_tree.specs.declared.tree.Content.{Content}
use Rattle.sum_tree.specs.declared.tree.Content.TheVariants.{Inner}
use Rattle.sum_tree.proofs.Folds.{fold_admitted, fold-append, fold_single}
use Rattle.sum_tree.proofs.Children.{joined-append, joined_single}
use Rattle.sum_tree.proofs.Opened.{joined-last}

module _ {T : Type 0} where
  pub set_last : (ts : List (Seen T)) (n : ℕ) (u : Seen T) → n ≡ length ts → 1 ≤ n → set ts (n - 1) u ≡ take (n - 1) ts ++ u ∷ []
  set_last ts n u e l =
      let all : take (n - 1 + 1) (set ts (n - 1) u) ≡ set ts (n - 1) u = take_all (n - 1 + 1) (set ts (n - 1) u) (omega (arith, length-set ts (n - 1) u)) in
      sym all ∙ take_more_set ts (n - 1) u (omega arith)

  -- the last child with one item more
  pub joined-set_last : (ts : List (Seen T)) (n : ℕ) (t u : Seen T) (x : T) → n ≡ length ts → 1 ≤ n → t ≡ get_or ts (n - 1) t → u.items ≡ t.items ++ x ∷ [] → join_items (set ts (n - 1) u) ≡ join_items ts ++ x ∷ []
  joined-set_last ts n t u x e l read grown =
      ap join_items (set_last ts n u e l) ∙ joined-append (take (n - 1) ts) (u ∷ []) ∙ ap (λ (ys : List T). join_items (take (n - 1) ts) ++ ys) (joined_single u ∙ grown) ∙ sym (append_assoc (join_items (take (n - 1) ts)) t.items (x ∷ [])) ∙ ap (λ (ys : List T). ys ++ x ∷ []) (sym (joined-last ts n t e l read))

  pub pushed_none : (t u : Seen T) (x : T) (o : Option T) → o ≡ None → IsPushedOr t u x o → (u.items ≡ t.items ++ x ∷ []) × (u.height ≡ t.height) × (t.width ≤ u.width) × (u.width ≤ 12)
  pushed_none t u x o e h = subst (λ (q : Option T). IsPushedOr t u x q) e h

  pub pushed_some : (t u : Seen T) (x y : T) (o : Option T) → o ≡ Some y → IsPushedOr t u x o → (u ≡ t) × (y ≡ x)
  pushed_some t u x y o e h = subst (λ (q : Option T). IsPushedOr t u x q) e h

  -- child k as it was
  pub set_same : (ts : List (Seen T)) (k : ℕ) (t u : Seen T) → t ≡ get_or ts k t → u ≡ t → set ts k u ≡ ts
  set_same ts k t u read same = ap (set ts k) (same ∙ read) ∙ set-get_or ts k t

  pub grown_child : (h : ℕ) (t u : Seen T) (x : T) → IsChild h t → u.items ≡ t.items ++ x ∷ [] → u.height ≡ t.height → t.width ≤ u.width → u.width ≤ 12 → IsChild h u
  grown_child h t u x c items height wide narrow = record {
    lower = ap (λ (k : ℕ). k + 1) height ∙ c.lower;
    wide = omega (arith, c.wide);
    narrow = narrow;
    many = subst (λ (k : ℕ). 6 ^ (k + 1) ≤ length u.items) (sym height) (omega (arith, c.many, ap length items, length-append t.items (x ∷ [])));
  }

module _ {S T : Type 0} {empty : S} {op : S → S → S} {admits fits : S → Type 0} (laws : SummaryLaws empty op admits fits) (sum_of : T → S) (admitted : (x : T) → admits (sum_of x)) where
  -- the parts of IsNode
  abbrev pub Held : ℕ → ℕ → S → Content T S → Type 0
  Held h len s c = IsContent h c × (len ≡ length (content_items c)) × (s ≡ fold empty op sum_of (content_items c)) × fits (fold empty op sum_of (content_items c)) × (length (content_items c) ≤ 2 ^ 40)

  pub held : (n m : Node T S) → m ≡ n → IsNode empty op fits sum_of n → Held m.height m.len m.sum m.content
  held n m e h = subst (λ (x : Node T S). IsNode empty op fits sum_of x) (sym e) h

  pub start_sum : (n m : Node T S) (z : S) → m ≡ n → z ≡ empty → IsNode empty op fits sum_of n → op z m.sum ≡ fold empty op sum_of (content_items n.content)
  start_sum n m z e f h =
      let same : m.sum ≡ fold empty op sum_of (content_items n.content) = ap (λ (x : Node T S). x.sum) e ∙ h.2 in
      rw (f, same) (laws.left_identity (fold empty op sum_of (content_items n.content)) (fold_admitted laws sum_of admitted (content_items n.content)))

  pub start_fits : (n m : Node T S) (z : S) → m ≡ n → z ≡ empty → IsNode empty op fits sum_of n → fits (op z m.sum)
  start_fits n m z e f h = subst fits (sym (start_sum n m z e f h)) h.3

  pub next_sum : (xs : List T) (x : T) (s t : S) → s ≡ fold empty op sum_of xs → t ≡ sum_of x → op s t ≡ fold empty op sum_of (xs ++ x ∷ [])
  next_sum xs x s t e f = rw (e, f) (sym (fold-append laws sum_of admitted xs (x ∷ []) ∙ ap (op (fold empty op sum_of xs)) (fold_single laws sum_of admitted x)))

  pub next_fits : (xs : List T) (x : T) (s t : S) → s ≡ fold empty op sum_of xs → t ≡ sum_of x → fits (fold empty op sum_of (xs ++ x ∷ [])) → fits (op s t)
  next_fits xs x s t e f h = subst fits (sym (next_sum xs x s t e f)) h

  abbrev pub HeldInner : ℕ → ℕ → S → List (Seen T) → Type 0
  HeldInner h len s ts = (All (IsChild h) ts × (2 ≤ length ts) × (length ts ≤ 12)) × (len ≡ length (join_items ts)) × (s ≡ fold empty op sum_of (join_items ts)) × fits (fold empty op sum_of (join_items ts)) × (length (join_items ts) ≤ 2 ^ 40)

pub same_seen : {T S : Type 0} (s : Seen T) (n m : Node T S) (v : Vec (Seen T) Global) (ts : List (Seen T)) → node_view n ≡ s → m ≡ n → m.content ≡ Inner v → ts ≡ v.items → record { items = join_items ts; height = m.height; width = length ts } ≡ s
same_seen {T} {S} s n m v ts e f is g =
    let here : node_view m ≡ s = ap node_view f ∙ e in
    rw g (subst (λ (c : Content T S). record { items = content_items c; height = m.height; width = content_width c } ≡ s) is here)
