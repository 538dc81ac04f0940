-- The last child of a node.
use Rattle.std.proofs.Common.{◌≡◌, ℕ, ◌-◌, ◌≤◌, List, [], ◌∷◌, ◌++◌, length, get_or, set, take, None, refl, sym, ap, subst, ◌∙◌, arith, length-append}
use Rattle.std.proofs.lemmas.List.{length-set}
use Rattle.std.proofs.lemmas.List.Elements.{All-set}
use Rattle.sum_tree.specs.Laws.{SummaryLaws, fold}
use Rattle.sum_tree.specs.Seen.{Seen}
use Rattle.sum_tree.specs.Shape.{join_items, IsChild}
use Rattle.sum_tree.specs.Here.{IsPushedOr}
use Rattle.sum_tree.specs.Placed.{AreChildren, inner_seen}
use Rattle.sum_tree.proofs.Folds.{fits_right}
use Rattle.sum_tree.proofs.Opened.{IsInner, last_is_child, joined-last, ends_with_last}
use Rattle.sum_tree.proofs.Heres.{set_same, grown_child, joined-set_last}

-- t is the last of the n children of a node seen as s
pub record IsLast {T : Type 0} (s : Seen T) (ts : List (Seen T)) (n : ℕ) (t : Seen T) : Type 0 where
  pub inner : IsInner s ts
  pub len : n ≡ length ts
  pub some : 1 ≤ n
  pub read : t ≡ get_or ts (n - 1) t
  pub child : IsChild s.height t

module _ {T : Type 0} where
  -- the child that is read at the last place is the last
  pub last_of : {s : Seen T} {ts : List (Seen T)} {n : ℕ} {t : Seen T} → IsInner s ts → n ≡ length ts → t ≡ get_or ts (n - 1) t → IsLast s ts n t
  last_of {s} {ts} {n} {t} inner len read =
      let some : 1 ≤ n = omega (arith, len, inner.least) in
      record {
        inner = inner;
        len = len;
        some = some;
        read = read;
        child = last_is_child s.height ts n t inner.children len some read;
      }

  -- it has no more items than all together
  pub last_length : {s : Seen T} {ts : List (Seen T)} {n : ℕ} {t : Seen T} → IsLast s ts n t → length t.items ≤ length s.items
  last_length {s} {ts} {n} {t} last =
      omega (arith, ap length (last.inner.items ∙ joined-last ts n t last.len last.some last.read), length-append (join_items (take (n - 1) ts)) t.items)

  -- where it is as it was, so are all
  pub last_same : {s : Seen T} {ts : List (Seen T)} {n : ℕ} {t u : Seen T} → IsLast s ts n t → u ≡ t → set ts (n - 1) u ≡ ts
  last_same {s} {ts} {n} {t} {u} last same = set_same ts (n - 1) t u last.read same

  -- and are still the children of such a node
  pub last_children : {s : Seen T} {ts : List (Seen T)} {n : ℕ} {t u : Seen T} → IsLast s ts n t → u ≡ t → AreChildren s.height (set ts (n - 1) u)
  last_children {s} last same = subst (λ (vs : List (Seen T)). AreChildren s.height vs) (sym (last_same last same)) (last.inner.children, last.inner.least, last.inner.most)

  -- and followed by an item have the same items as before with it
  pub last_behind : {s : Seen T} {ts : List (Seen T)} {n : ℕ} {t u : Seen T} {x y : T} → IsLast s ts n t → u ≡ t → y ≡ x → join_items (set ts (n - 1) u) ++ y ∷ [] ≡ join_items ts ++ x ∷ []
  last_behind {s} {ts} {n} {t} {u} {x} {y} last same one = ap (λ (vs : List (Seen T)). join_items vs ++ y ∷ []) (last_same last same) ∙ ap (λ (z : T). join_items ts ++ z ∷ []) one

  -- where it took one item more, so did all
  pub last_growth : {h : ℕ} {ts : List (Seen T)} {n : ℕ} {t : Seen T} (u : Seen T) (x : T) → IsLast (inner_seen h ts) ts n t → IsPushedOr t u x None → AreChildren h (set ts (n - 1) u) × IsPushedOr (inner_seen h ts) (inner_seen h (set ts (n - 1) u)) x None
  last_growth {h} {ts} {n} {t} u x last p =
      let count : length (set ts (n - 1) u) ≡ length ts = length-set ts (n - 1) u in (
        (All-set (IsChild h) ts (n - 1) u (grown_child h t u x last.child p.0 p.1 p.2 p.3) last.inner.children, omega (arith, count, last.inner.least), omega (arith, count, last.inner.most)),
        (joined-set_last ts n t u x last.len last.some last.read p.0, refl, omega (arith, count), omega (arith, count, last.inner.most)),
      )

module _ {S T : Type 0} {empty : S} {op : S → S → S} {admits fits : S → Type 0} (laws : SummaryLaws empty op admits fits) (sum_of : T → S) (admitted : (x : T) → admits (sum_of x)) where
  -- if everything followed by more fits, so does the last child
  pub last_fits : {s : Seen T} {ts : List (Seen T)} {n : ℕ} {t : Seen T} (ys : List T) → IsLast s ts n t → fits (fold empty op sum_of (s.items ++ ys)) → fits (fold empty op sum_of (t.items ++ ys))
  last_fits {s} {ts} {n} {t} ys last ok =
      fits_right laws sum_of admitted (join_items (take (n - 1) ts)) (t.items ++ ys) (subst (λ (zs : List T). fits (fold empty op sum_of zs)) (ends_with_last s ts ys n t last.inner last.len last.read) ok)
