-- One more node on a path.
use Rattle.std.proofs.Common.{◌≡◌, List, [], ◌∷◌, ◌++◌, sym, ap, subst, refl}
use Rattle.sum_tree.specs.declared.around.Around.{Around}
use Rattle.sum_tree.specs.Around.{outer_sum, outer_sums, Fitting}

module _ {S : Type 0} (op : S → S → S) where
  pub outer_sum-snoc : (ls : List (Around S)) (a : Around S) (x y : S) → y ≡ op (op a.before x) a.behind → outer_sum op (ls ++ a ∷ []) x ≡ outer_sum op ls y
  outer_sum-snoc [] a x y e = sym e
  outer_sum-snoc (b ∷ ls) a x y e = ap (λ (s : S). op (op b.before s) b.behind) (outer_sum-snoc ls a x y e)

  pub outer_sums-snoc : (ls : List (Around S)) (a : Around S) (x y : S) → y ≡ op (op a.before x) a.behind → outer_sums op (ls ++ a ∷ []) x ≡ outer_sums op ls y ++ y ∷ []
  outer_sums-snoc [] a x y e = ap (λ (s : S). s ∷ []) (sym e)
  outer_sums-snoc (b ∷ ls) a x y e = rw (outer_sum-snoc ls a x y e, outer_sums-snoc ls a x y e) refl

  pub Fitting-snoc : (fits : S → Type 0) (ls : List (Around S)) (a : Around S) (x y : S) → y ≡ op (op a.before x) a.behind → Fitting fits op ls y → fits (op a.before x) → fits y → Fitting fits op (ls ++ a ∷ []) x
  Fitting-snoc fits [] a x y e h f k = (f, subst fits e k, tt)
  Fitting-snoc fits (b ∷ ls) a x y e h f k =
      let same : outer_sum op ls y ≡ outer_sum op (ls ++ a ∷ []) x = sym (outer_sum-snoc ls a x y e) in
      (subst (λ (s : S). fits (op b.before s)) same h.0, subst (λ (s : S). fits (op (op b.before s) b.behind)) same h.1, Fitting-snoc fits ls a x y e h.2 f k)

  pub Fitting-last : (fits : S → Type 0) (ls : List (Around S)) (a : Around S) (x y : S) → y ≡ op (op a.before x) a.behind → Fitting fits op (ls ++ a ∷ []) x → Fitting fits op ls y × fits (op a.before x) × fits y
  Fitting-last fits [] a x y e h = (tt, h.0, subst fits (sym e) h.1)
  Fitting-last fits (b ∷ ls) a x y e h =
      let rest : Fitting fits op ls y × fits (op a.before x) × fits y = Fitting-last fits ls a x y e h.2 in
      let same : outer_sum op (ls ++ a ∷ []) x ≡ outer_sum op ls y = outer_sum-snoc ls a x y e in
      ((subst (λ (s : S). fits (op b.before s)) same h.0, subst (λ (s : S). fits (op (op b.before s) b.behind)) same h.1, rest.0), rest.1, rest.2)
