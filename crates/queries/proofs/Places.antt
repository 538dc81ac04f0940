-- Facts about what stands at each place of a list.
use Rattle.std.proofs.Common.{◌≡◌, ◌≢◌, ℕ, ◌+◌, ◌<◌, ◌≤◌, ◌==◌, Bool, true, false, List, [], ◌∷◌, ◌++◌, length, map, set, get_or, refl, sym, ap, ◌∙◌, subst, arith, get_or-set_same, length-append, ⊎_elim, ap₂}
use Rattle.std.proofs.lemmas.List.{get_or-set_other, get_or_append_left, get_or-append-add, length-set}
use Rattle.std.proofs.lemmas.Bool.{cases_lt, eq-eqb, eqb-true}
use Rattle.std.proofs.lemmas.List.FromFn.{map-range_with_len_more}
use Rattle.queries.specs.Dealt.{AllAt}
use Rattle.queries.specs.Published.{column, columns, published_of}
use Rattle.logbook.specs.Pages.{Named}
use Rattle.op_model.specs.declared.operation.Operation.{Operation}
use Rattle.snapshot_pub.specs.States.{PublisherState}

-- what is set at one place, as a fact about each place
pub each_set : {X : Type 0} (P P' : ℕ → X → Type 0) (xs : List X) (k : ℕ) (y : X) → k < length xs → AllAt P xs → P' k y → ((i : ℕ) (x : X) → i ≢ k → P i x → P' i x) → AllAt P' (set xs k y)
each_set P P' xs k y within a new others i d below = by_place (i == k) refl
  where
    by_place : (b : Bool) → (i == k) ≡ b → P' i (get_or (set xs k y) i d)
    by_place true e =
        let here : i ≡ k = eqb-true i k e in
        subst (λ (j : ℕ). P' j (get_or (set xs k y) j d)) (sym here) (subst (P' k) (sym (get_or-set_same xs k y d within)) new)
    by_place false e =
        let other : i ≢ k = λ f. absurd (cc (e, ap (λ (j : ℕ). j == k) f ∙ eq-eqb k k refl)) in
        subst (P' i) (sym (get_or-set_other xs k i y d other)) (others i (get_or xs i d) other (a i d (omega (arith, below, length-set xs k y))))

-- one more at the end
pub all_at_more : {X : Type 0} (P : ℕ → X → Type 0) (xs : List X) (x : X) → AllAt P xs → P (length xs) x → AllAt P (xs ++ x ∷ [])
all_at_more P xs x a new i d below = ⊎_elim
    (λ (front : i < length xs). subst (P i) (sym (get_or_append_left xs (x ∷ []) d i front)) (a i d front))
    (λ (last : length xs ≤ i).
    let at : i ≡ length xs + 0 = omega (arith, last, below, length-append xs (x ∷ [])) in
    subst (λ (j : ℕ). P j (get_or (xs ++ x ∷ []) j d)) (sym at) (subst (P (length xs + 0)) (sym (get_or-append-add xs (x ∷ []) 0 d)) (subst (λ (j : ℕ). P j x) (omega arith) new)))
    (cases_lt i (length xs))

-- ---- what each worker is told

-- one worker more
pub pairs_more : (ts : List (List Named)) (w : ℕ) (rows : List (List Named)) (t : List Named) → ts ≡ columns w rows → t ≡ column w rows → ts ++ t ∷ [] ≡ columns (w + 1) rows
pairs_more ts w rows t e f =
    ap₂ (λ (us : List (List Named)) (u : List Named). us ++ u ∷ []) e f
    ∙ sym (map-range_with_len_more (λ (v : ℕ). column v rows) 0 w w (omega arith))

pub sizes_of : (ps : List PublisherState) → map (λ (p : PublisherState). length (published_of p)) ps ≡ map (λ (h : List Operation). length h) (map published_of ps)
sizes_of [] = refl
sizes_of (p ∷ ps) = ap (λ (ns : List ℕ). length (published_of p) ∷ ns) (sizes_of ps)
