-- Fragments of which those at some places are changed to others with as many cells.
use Rattle.std.proofs.Common.{◌≡◌, ℕ, zero, suc, ◌+◌, ◌<◌, ◌⊎◌, Bool, true, false, cond, ◌||◌, ◌==◌, List, [], ◌∷◌, ◌++◌, length, map, refl, sym, ap, ◌∙◌, arith, subst, Some, None, inl, inr, slice_get}
use Rattle.std.proofs.lemmas.Bool.{cases_Bool, eq-eqb, ne_eqb}
use Rattle.std.proofs.lemmas.Option.{same_Some}
use Rattle.sum_tree.specs.Laws.{fold}
use Rattle.sum_tree.specs.Spliced.{splice_list}
use Rattle.op_model.proofs.Elements.{eqb_less, none_past}
use Rattle.fragments.specs.declared.fragment.Fragment.{Fragment}
use Rattle.fragments.specs.declared.fragment.FragmentSummary.{FragmentSummary}
use Rattle.fragments.specs.Summaries.{no_fragments, summaries, summary_of, SummaryFits}
use Rattle.fragments.specs.SeenPlaces.{cells_of}
use Rattle.remote_edit.specs.Anew.{changed_at}
use Rattle.remote_edit.specs.Finds.{is_place}

or_false : (b : Bool) → (b || false) ≡ b
or_false true = refl
or_false false = refl

or_true : (b : Bool) → (b || true) ≡ true
or_true true = refl
or_true false = refl

module _ (m : Fragment → Fragment) where
  pub changed_long : (at : ℕ → Bool) (xs : List Fragment) → length (changed_at m at xs) ≡ length xs
  changed_long at [] = refl
  changed_long at (x ∷ xs) = ap suc (changed_long (λ i. at (suc i)) xs)

  pub changed_same : (at by : ℕ → Bool) (xs : List Fragment) → ((i : ℕ) → i < length xs → at i ≡ by i) → changed_at m at xs ≡ changed_at m by xs
  changed_same at by [] f = refl
  changed_same at by (x ∷ xs) f =
      ap (λ (b : Bool). cond b (m x) x ∷ changed_at m (λ i. at (suc i)) xs) (f 0 (omega arith))
      ∙ ap (λ (ys : List Fragment). cond (by 0) (m x) x ∷ ys) (changed_same (λ i. at (suc i)) (λ i. by (suc i)) xs (λ i l. f (suc i) (omega (arith, l))))

  pub changed_get : (at : ℕ → Bool) (i : ℕ) (xs : List Fragment) (x : Fragment) → slice_get xs i ≡ Some x → slice_get (changed_at m at xs) i ≡ Some (cond (at i) (m x) x)
  changed_get at i [] x e = absurd (cc)
  changed_get at zero (y ∷ xs) x e = ap (λ (z : Fragment). Some (cond (at 0) (m z) z)) (same_Some y x e)
  changed_get at (suc i) (y ∷ xs) x e = changed_get (λ j. at (suc j)) i xs x e

  -- a fragment that stays is there either way
  pub stays_at : (at : ℕ → Bool) (i : ℕ) (xs : List Fragment) (x : Fragment) → slice_get xs i ≡ Some x → m x ≡ x → slice_get (changed_at m at xs) i ≡ Some x
  stays_at at i xs x e s = changed_get at i xs x e ∙ go (at i)
    where
      go : (b : Bool) → Some (cond b (m x) x) ≡ Some x
      go true = ap (λ (z : Fragment). Some z) s
      go false = refl

  put_next : (at by : ℕ → Bool) (i : ℕ) (xs : List Fragment) (x : Fragment) → slice_get xs i ≡ Some x → by i ≡ true → ((j : ℕ) → (j ≡ i → ⊥) → by j ≡ at j)
      → splice_list i (suc i) (m x ∷ []) (changed_at m at xs) ≡ changed_at m by xs
  put_next at by i [] x e t f = absurd (cc)
  put_next at by zero (y ∷ xs) x e t f =
      let q : y ≡ x = same_Some y x e in
      ap (λ (z : Fragment). m z ∷ changed_at m (λ i. at (suc i)) xs) (sym q)
      ∙ ap (λ (b : Bool). cond b (m y) y ∷ changed_at m (λ i. at (suc i)) xs) (sym t)
      ∙ ap (λ (ys : List Fragment). cond (by 0) (m y) y ∷ ys) (changed_same (λ i. at (suc i)) (λ i. by (suc i)) xs (λ j l. sym (f (suc j) (λ z. absurd (omega (arith, z))))))
  put_next at by (suc i) (y ∷ xs) x e t f =
      ap (λ (b : Bool). cond b (m y) y ∷ splice_list i (suc i) (m x ∷ []) (changed_at m (λ j. at (suc j)) xs)) (sym (f 0 (λ z. absurd (omega (arith, z)))))
      ∙ ap (λ (ys : List Fragment). cond (by 0) (m y) y ∷ ys) (put_next (λ j. at (suc j)) (λ j. by (suc j)) i xs x e t (λ j n. f (suc j) (λ z. n (omega (arith, z)))))

  pub changed_put : (at by : ℕ → Bool) (i : ℕ) (xs : List Fragment) (x : Fragment) → slice_get xs i ≡ Some x → by i ≡ true → ((j : ℕ) → (j ≡ i → ⊥) → by j ≡ at j)
      → splice_list i (i + 1) (m x ∷ []) (changed_at m at xs) ≡ changed_at m by xs
  changed_put at by i xs x e t f = let q : suc i ≡ i + 1 = omega arith in subst (λ (j : ℕ). splice_list i j (m x ∷ []) (changed_at m at xs) ≡ changed_at m by xs) q (put_next at by i xs x e t f)

  -- if what is not changed stays, all are changed
  pub changed_all : (at : ℕ → Bool) (xs : List Fragment) → ((i : ℕ) (x : Fragment) → slice_get xs i ≡ Some x → (at i ≡ true) ⊎ (m x ≡ x)) → changed_at m at xs ≡ map m xs
  changed_all at [] f = refl
  changed_all at (x ∷ xs) f =
      ap (λ (y : Fragment). y ∷ changed_at m (λ i. at (suc i)) xs) (go (at 0) (f 0 x refl)) ∙ ap (λ (ys : List Fragment). m x ∷ ys) (changed_all (λ i. at (suc i)) xs (λ i y e. f (suc i) y e))
    where
      go : (b : Bool) → (b ≡ true) ⊎ (m x ≡ x) → cond b (m x) x ≡ m x
      go true s = refl
      go false (inl e) = cc
      go false (inr e) = sym e

  pub none_changed : (xs : List Fragment) → xs ≡ changed_at m (is_place []) xs
  none_changed [] = refl
  none_changed (x ∷ xs) = ap (λ (ys : List Fragment). x ∷ ys) (none_changed xs)

  -- ---- room

  abbrev sum : FragmentSummary → List Fragment → FragmentSummary
  sum a fs = fold a summaries summary_of fs

  one_cells : (b : Bool) (v h n : ℕ) → (v + cond b n 0) + (h + cond b 0 n) ≡ v + h + n
  one_cells true v h n = omega arith
  one_cells false v h n = omega arith

  -- the cells of a sum depend on the lengths alone
  changed_cells : ((f : Fragment) → (m f).len ≡ f.len) → (at : ℕ → Bool) (fs : List Fragment) (a b : FragmentSummary) → cells_of a ≡ cells_of b → cells_of (sum a (changed_at m at fs)) ≡ cells_of (sum b fs)
  changed_cells k at [] a b e = e
  changed_cells k at (f ∷ fs) a b e = elim (cases_Bool (at 0)) [
    | inl t ↦ rw t (changed_cells k (λ i. at (suc i)) fs (summaries a (summary_of (m f))) (summaries b (summary_of f))
        (let p = one_cells (m f).visible a.visible a.hidden (m f).len in let q = one_cells f.visible b.visible b.hidden f.len in let l = k f in omega (arith, e, p, q, l)))
    | inr t ↦ rw t (changed_cells k (λ i. at (suc i)) fs (summaries a (summary_of f)) (summaries b (summary_of f))
        (let p = one_cells f.visible a.visible a.hidden f.len in let q = one_cells f.visible b.visible b.hidden f.len in omega (arith, e, p, q)))
  ]

  pub changed_fits : ((f : Fragment) → (m f).len ≡ f.len) → (at : ℕ → Bool) (fs : List Fragment) → SummaryFits (fold no_fragments summaries summary_of fs) → SummaryFits (fold no_fragments summaries summary_of (changed_at m at fs))
  changed_fits k at fs h = let e = changed_cells k at fs no_fragments no_fragments refl in omega (arith, e, h)

-- ---- one place more

any_last : (ps : List ℕ) (i j : ℕ) → is_place (ps ++ i ∷ []) j ≡ (is_place ps j || (i == j))
any_last [] i j = or_false (i == j)
any_last (p ∷ ps) i j = go (p == j) (any_last ps i j)
  where
    go : (b : Bool) → is_place (ps ++ i ∷ []) j ≡ (is_place ps j || (i == j)) → (b || is_place (ps ++ i ∷ []) j) ≡ ((b || is_place ps j) || (i == j))
    go true h = refl
    go false h = h

-- a place past the last fragment changes nothing
pub past_last : (m : Fragment → Fragment) (ps : List ℕ) (i : ℕ) (xs : List Fragment) → slice_get xs i ≡ None → changed_at m (is_place ps) xs ≡ changed_at m (is_place (ps ++ i ∷ [])) xs
past_last m ps i xs e =
    let l = none_past xs i e in
    changed_same m (is_place ps) (is_place (ps ++ i ∷ [])) xs (λ j n. sym (any_last ps i j ∙ ap (λ (b : Bool). is_place ps j || b) (eqb_less j i (omega (arith, l, n))) ∙ or_false (is_place ps j)))

pub put_place : (m : Fragment → Fragment) (ps : List ℕ) (i : ℕ) (xs : List Fragment) (x : Fragment) → slice_get xs i ≡ Some x
    → splice_list i (i + 1) (m x ∷ []) (changed_at m (is_place ps) xs) ≡ changed_at m (is_place (ps ++ i ∷ [])) xs
put_place m ps i xs x e = changed_put m (is_place ps) (is_place (ps ++ i ∷ [])) i xs x e (any_last ps i i ∙ ap (λ (b : Bool). is_place ps i || b) (eq-eqb i i refl) ∙ or_true (is_place ps i))
    (λ j n. any_last ps i j ∙ ap (λ (b : Bool). is_place ps j || b) (ne_eqb i j (λ z. n (sym z))) ∙ or_false (is_place ps j))
