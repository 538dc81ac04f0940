-- A node after a push in place.
use Rattle.std.proofs.Common.{refl, ◌≡◌, ℕ, ◌+◌, ◌^◌, ◌<◌, List, [], ◌∷◌, ◌++◌, length, Option, None, Some, ap, sym, subst, ◌∙◌, arith, length-append}
use Rattle.std.specs.Prelude.{Result, Ok, Err}
use Rattle.sum_tree.specs.Laws.{SummaryLaws, fold}
use Rattle.sum_tree.specs.Seen.{Seen}
use Rattle.sum_tree.specs.Shape.{join_items, content_items, IsContent, IsNode}
use Rattle.sum_tree.specs.Here.{IsPushedOr, IsPushed, IsPushedBeside}
use Rattle.sum_tree.specs.Placed.{AreChildren, content_seen, inner_seen}
use Rattle.sum_tree.specs.declared.tree.Content.{Content}
use Rattle.sum_tree.proofs.Folds.{fold_admitted}
use Rattle.sum_tree.proofs.Heres.{next_sum}

-- the children after a push beside them
pub beside_children : {T E : Type 0} (h : ℕ) (old new : List (Seen T)) (x : T) (r : Result (Option T) E) → IsPushedBeside h old new x r → AreChildren h old → AreChildren h new
beside_children h old new x (Ok None) p a = (p.1, omega (arith, p.2, a.1), p.3)
beside_children {T} h old new x (Ok (Some y)) p a = subst (λ (ts : List (Seen T)). AreChildren h ts) (sym p.0) a
beside_children {T} h old new x (Err e) p a = subst (λ (ts : List (Seen T)). AreChildren h ts) (sym p) a

pub beside_pushed : {T E : Type 0} (h : ℕ) (old ts new : List (Seen T)) (y x : T) (r : Result (Option T) E) → old ≡ ts → y ≡ x → IsPushedBeside h old new y r → IsPushed (inner_seen h ts) (inner_seen h new) x r
beside_pushed {T} h old ts new y x (Ok None) e f p =
    (p.0 ∙ ap (λ (us : List (Seen T)). join_items us ++ y ∷ []) e ∙ ap (λ (z : T). join_items ts ++ z ∷ []) f, refl, omega (arith, p.2, ap length e), p.3)
beside_pushed h old ts new y x (Ok (Some z)) e f p = (ap (inner_seen h) (p.0 ∙ e), p.1 ∙ f)
beside_pushed h old ts new y x (Err z) e f p = ap (inner_seen h) (p ∙ e)

module _ {S T : Type 0} {empty : S} {op : S → S → S} {admits fits : S → Type 0} (laws : SummaryLaws empty op admits fits) (sum_of : T → S) (admitted : (x : T) → admits (sum_of x)) where
  -- the sum that a push writes
  pub pushed_sum : (xs : List T) (x : T) (s : S) → s ≡ fold empty op sum_of xs → op (op empty s) (sum_of x) ≡ fold empty op sum_of (xs ++ x ∷ [])
  pushed_sum xs x s e =
      let begun : op empty s ≡ fold empty op sum_of xs = ap (op empty) e ∙ laws.left_identity (fold empty op sum_of xs) (fold_admitted laws sum_of admitted xs) in
      next_sum laws sum_of admitted xs x (op empty s) (sum_of x) begun refl

  -- a node that took one item more
  pub pushed_node : (len h : ℕ) (s u : S) (c d : Content T S) (x : T) (o : Option T) → o ≡ None → IsNode empty op fits sum_of (record { height = h; len = len; sum = s; content = c }) → IsContent h d → IsPushedOr (content_seen h c) (content_seen h d) x o → u ≡ op (op empty s) (sum_of x) → fits (fold empty op sum_of (content_items c ++ x ∷ [])) → length (content_items c) < 2 ^ 40 → IsNode empty op fits sum_of (record { height = h; len = len + 1; sum = u; content = d })
  pushed_node len h s u c d x o none node held p e ok short =
      let q : IsPushedOr (content_seen h c) (content_seen h d) x None = subst (λ (r : Option T). IsPushedOr (content_seen h c) (content_seen h d) x r) none p in
      let all : content_items d ≡ content_items c ++ x ∷ [] = q.0 in
      let more : length (content_items d) ≡ length (content_items c) + 1 = omega (arith, ap length all, length-append (content_items c) (x ∷ [])) in
      (held, omega (arith, more, node.1), rw all (e ∙ pushed_sum (content_items c) x s node.2), rw all ok, omega (arith, more, short))
