-- What the levels of a path weigh.
use Rattle.std.proofs.Common.{◌≡◌, ◌≢◌, ℕ, zero, suc, ◌+◌, ◌*◌, ◌^◌, ◌<◌, ◌≤◌, List, [], ◌∷◌, ◌++◌, length, ap, sym, ◌∙◌, append_assoc, subst, arith, add-one, Bor}
use Rattle.std.specs.List.{All}
use Rattle.std.specs.Prelude.{reverse}
use Rattle.std.proofs.lemmas.List.{reverse-append, length-reverse}
use Rattle.std.proofs.Math.Nat.{pow-succ', mul-le-mul_left}
use Rattle.sum_tree.specs.Seen.{Seen}
use Rattle.sum_tree.specs.Shape.{IsChild}
use Rattle.tree_cursor.specs.Rest.{Rest}
use Rattle.sum_tree.proofs.Children.{child_filled}
use Rattle.tree_cursor.specs.Levels.{weights, looks_below, IsBelow, IsFirstPart, IsLevel, AreLevels, TakesInner, TakesPart, left_items, left_looks, left_work, items_left, work_left}
use Rattle.tree_cursor.specs.declared.path.Part.{Part}
use Rattle.tree_cursor.specs.declared.path.Part.TheVariants.{Node, One}
use Rattle.tree_cursor.specs.declared.path.Left.{Left}
use Rattle.tree_cursor.specs.declared.path.Left.TheVariants.{Trees}

-- children weigh less than their parent
pub weights_le : {T : Type 0} (h : ℕ) (ts : List (Seen T)) → All (IsChild h) ts → weights ts ≤ length ts * 13 ^ h
weights_le h [] a = omega arith
weights_le h (t ∷ ts) a =
    let c : IsChild h t = a 0 t (omega arith) in
    let e : 13 ^ (t.height + 1) ≡ 13 ^ h = ap (λ (n : ℕ). 13 ^ n) c.lower in
    let more : weights ts ≤ length ts * 13 ^ h = weights_le h ts (λ k d p. a (suc k) d (omega arith)) in
    omega (arith, e, more)

pub pow-pos : (h : ℕ) → 0 < 13 ^ h
pow-pos zero = omega arith
pow-pos (suc h) = omega (arith, pow-pos h, pow-succ' 13 h)

pub weights_lt : {T : Type 0} (h : ℕ) (ts : List (Seen T)) → All (IsChild h) ts → length ts ≤ 12 → weights ts < 13 ^ (h + 1)
weights_lt h ts a l =
    let more : 13 ^ (h + 1) ≡ 13 * 13 ^ h = rw add-one (pow-succ' 13 h) in
    let few : 13 ^ h * length ts ≤ 13 ^ h * 12 = mul-le-mul_left (13 ^ h) l in
    let some : 0 < 13 ^ h = pow-pos h in
    omega (arith, more, few, some, weights_le h ts a)

-- the first of the children that are left, and the others
pub first_below : {T S : Type 0} (l : Left T S) (ts : Bor (List (Seen T))) (t : Seen T) (us : List (Seen T)) → l ≡ Trees ts → ts.now ≡ t ∷ us → (h : ℕ) → IsBelow h l → (t.height + 1 ≡ h) × All (IsChild h) us
first_below l ts t us e f h b =
    let a : All (IsChild h) (t ∷ us) = subst (All (IsChild h)) f (subst (IsBelow h) e b) in
    ((a 0 t (omega arith)).lower, λ k d p. a (suc k) d (omega arith))

-- the looks below children
pub looks_all : {T : Type 0} (h : ℕ) (ts : List (Seen T)) → All (IsChild h) ts → length ts ≤ 12 → looks_below ts ≤ 12 * (h + 1)
looks_all h [] a l = omega arith
looks_all h (t ∷ ts) a l = omega (arith, l, (a 0 t (omega arith)).lower)

looks_rest : {T : Type 0} (h : ℕ) (t : Seen T) (us : List (Seen T)) → All (IsChild h) (t ∷ us) → 1 + looks_below us ≤ looks_below (t ∷ us)
looks_rest h t [] a = omega arith
looks_rest h t (u ∷ us) a = omega (arith, (a 0 t (omega arith)).lower, (a 1 u (omega arith)).lower)

-- the first of the children that are left is not empty, and a look less is left behind it
pub looks_first : {T S : Type 0} (l : Left T S) (ts : Bor (List (Seen T))) (t : Seen T) (us : List (Seen T)) → l ≡ Trees ts → ts.now ≡ t ∷ us → (h : ℕ) → IsBelow h l → (1 ≤ length t.items) × (1 + looks_below us ≤ left_looks l)
looks_first l ts t us e f h b =
    let a : All (IsChild h) (t ∷ us) = subst (All (IsChild h)) f (subst (IsBelow h) e b) in
    let looks : left_looks l ≡ looks_below (t ∷ us) = ap left_looks e ∙ ap looks_below f in
    (child_filled h t (a 0 t (omega arith)), omega (arith, looks, looks_rest h t us a))

pub looks_into : {T S : Type 0} (l : Left T S) (ts : Bor (List (Seen T))) (t : Seen T) (us : List (Seen T)) → l ≡ Trees ts → ts.now ≡ t ∷ us → 1 + 12 * (t.height + 1) ≤ left_looks l
looks_into l ts t us e f =
    let looks : left_looks l ≡ looks_below (t ∷ us) = ap left_looks e ∙ ap looks_below f in
    omega (arith, looks)

pub below_split : {T S : Type 0} (old new : Left T S) (part : Part T S) (h : ℕ) → IsFirstPart old part new → IsBelow h old → IsBelow h new
below_split old new (Node t) h s b = (s.2 h b).1
below_split old new (One e) h s b = s.2 h b

module _ {T S : Type 0} where
  -- a level of which less is left
  pub level_split : (ls : List (Left T S)) (l new : Left T S) (part : Part T S) → IsLevel ls l → IsFirstPart l part new → IsLevel ls new
  level_split ls l new part o s = record { height = o.height; low = o.low; below = below_split l new part o.height s o.below }

  pub takes_split : (ls : List (Left T S)) (l new : Left T S) (part : Part T S) (before after : Rest T) → IsLevel ls l → IsFirstPart l part new → before.items ≡ left_items l ++ items_left ls → before.work ≡ left_work l + work_left ls → after.items ≡ left_items new ++ items_left ls → after.work ≡ left_work new + work_left ls → after.depth ≡ length ls → TakesPart before part after
  takes_split ls l new (Node t) before after o s i w j v d = (
    i ∙ ap (λ xs. xs ++ items_left ls) s.0 ∙ append_assoc t.now.items (left_items new) (items_left ls) ∙ ap (λ xs. t.now.items ++ xs) (sym j),
    omega (arith, s.1, w, v),
    omega (arith, (s.2 o.height o.below).0, o.low, d),
  )
  takes_split ls l new (One e) before after o s i w j v d = (
    i ∙ ap (λ xs. xs ++ items_left ls) s.0 ∙ ap (λ xs. e.now ∷ xs) (sym j),
    omega (arith, s.1, w, v),
  )

  pub takes_inner : (ls : List (Left T S)) (l new : Left T S) (part : Part T S) (before after : Rest T) → IsLevel ls l → IsFirstPart l part new → (before.inner ≢ [] → (left_items l ≡ before.inner) × (left_looks l ≡ before.looks)) → after.inner ≡ left_items new → after.looks ≡ left_looks new → TakesInner before part after
  takes_inner ls l new (Node t) before after o s inner j v = (
    (s.3 o.height o.below).0,
    λ some. let i = inner some in (sym i.0 ∙ s.0 ∙ ap (λ xs. t.now.items ++ xs) (sym j), omega (arith, (s.3 o.height o.below).1, i.1, v), omega (arith, s.4, i.1)),
  )
  takes_inner ls l new (One e) before after o s inner j v =
      λ some. let i = inner some in (sym i.0 ∙ s.0 ∙ ap (λ xs. e.now ∷ xs) (sym j), omega (arith, s.3, i.1, v))

  pub first_level : (above : List (Left T S)) (l : Left T S) (h : ℕ) → above ≡ [] → h ≤ 15 → IsBelow h l → AreLevels (l ∷ reverse above)
  first_level above l h e low b = rw e (record { height = h; low = omega (arith, low); below = b }, tt)

  pub next_level : (old above : List (Left T S)) (outer l : Left T S) (h : ℕ) → above ≡ old ++ (outer ∷ []) → AreLevels (outer ∷ reverse old) → length old + 1 + h ≤ 15 → IsBelow h l → AreLevels (l ∷ reverse above)
  next_level old above outer l h e a low b =
      rw (e, reverse-append old (outer ∷ [])) (record { height = h; low = omega (arith, low, length-reverse old); below = b }, a)
