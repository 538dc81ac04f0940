-- The readers of each worker, one replica more at a time.
use Rattle.std.proofs.Common.{◌≡◌, ℕ, ◌+◌, ◌<◌, ◌≤◌, List, [], ◌∷◌, ◌++◌, length, map, set, get_or, sym, ap, ◌∙◌, subst, arith}
use Rattle.std.proofs.lemmas.List.{map-append}
use Rattle.logbook.specs.Pages.{Named}
use Rattle.queries.specs.Dealt.{AllAt}
use Rattle.queries.specs.Published.{column, columns, no_pair}
use Rattle.queries.proofs.Places.{each_set}
use Rattle.op_model.proofs.Elements.{range_map}

module _ {X : Type 0} (f : X → List Named) where
  -- the readers of a worker have its pairs in these rows
  abbrev pub HasColumn : List (List Named) → ℕ → X → Type 0
  HasColumn rows w c = f c ≡ column w rows

  module _ (rows : List (List Named)) (row : List Named) where
    -- the readers of the workers before place k have one row more
    abbrev pub IsServed : ℕ → ℕ → X → Type 0
    IsServed k w c = (w < k → HasColumn (rows ++ row ∷ []) w c) × (k ≤ w → HasColumn rows w c)

    pub served_more : (xs : List X) (k : ℕ) (old new : X) (b : Named) → k < length xs → AllAt (IsServed k) xs → old ≡ get_or xs k old → f new ≡ f old ++ b ∷ [] → get_or row k no_pair ≡ b
        → AllAt (IsServed (k + 1)) (set xs k new)
    served_more xs k old new b within h at is same =
        let was : HasColumn rows k old = subst (HasColumn rows k) (sym at) ((h k old within).1 (omega arith)) in
        let now : HasColumn (rows ++ row ∷ []) k new =
        is ∙ (ap (λ (l : List Named). l ++ b ∷ []) was ∙ (ap (λ (x : Named). column k rows ++ x ∷ []) (sym same) ∙ sym (map-append (λ (r : List Named). get_or r k no_pair) rows (row ∷ [])))) in
        each_set (IsServed k) (IsServed (k + 1)) xs k new within h (λ _. now, λ le. absurd (omega (arith, le)))
        (λ w c other p. (λ lt. p.0 (omega (arith, lt, other)), λ le. p.1 (omega (arith, le))))

  pub readers_columns : (rows : List (List Named)) (xs : List X) (workers : ℕ) → length xs ≡ workers → AllAt (HasColumn rows) xs → map f xs ≡ columns workers rows
  readers_columns rows xs workers many h =
      subst (λ (n : ℕ). map f xs ≡ columns n rows) many (range_map (λ w. column w rows) f xs 0 (λ i d within. h i d within ∙ ap (λ (w : ℕ). column w rows) (omega arith)))
