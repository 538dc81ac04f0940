-- The rows of a text that follows another: the last row of the first goes on with the first row of the second.
use Rattle.std.proofs.Common.{◌≡◌, ℕ, ◌+◌, Bool, true, false, cond, List, [], ◌∷◌, ◌++◌, length, refl, ap, ◌∙◌, sym}
use Rattle.std.specs.List.{slice_split, onto_first}
use Rattle.std.proofs.lemmas.List.Splits.{length-slice_split}
use Rattle.text_dims.specs.Counts.{is_newline, newline_count, rows, last_of_rows}

pub record Begun {X : Type 0} (xs : List X) : Type 0 where
  pub first : X
  pub rest : List X
  pub is : xs ≡ first ∷ rest

pub record Ended {X : Type 0} (xs : List X) : Type 0 where
  pub front : List X
  pub last : X
  pub is : xs ≡ front ++ last ∷ []

cons_begun : {X : Type 0} (x : X) (xs : List X) → Begun (x ∷ xs)
cons_begun x xs = record { first = x; rest = xs; is = refl }

cons_ended : {X : Type 0} (x : X) (xs : List X) → Ended (x ∷ xs)
cons_ended x [] = record { front = []; last = x; is = refl }
cons_ended x (y ∷ ys) =
    let r = cons_ended y ys in record { front = x ∷ r.front; last = r.last; is = ap (λ zs. x ∷ zs) r.is }

onto_begun : (x : ℕ) (rs : List (List ℕ)) → Begun (onto_first x rs)
onto_begun x [] = cons_begun (x ∷ []) []
onto_begun x (r ∷ rs) = cons_begun (x ∷ r) rs

pub split_begun : (bs : List ℕ) → Begun (slice_split is_newline bs)
split_begun [] = cons_begun [] []
split_begun (b ∷ bs) =
    elim (is_newline b) as (λ t. Begun (cond t ([] ∷ slice_split is_newline bs) (onto_first b (slice_split is_newline bs)))) [
      | true ↦ cons_begun [] (slice_split is_newline bs)
      | false ↦ onto_begun b (slice_split is_newline bs)
    ]

pub rows_begun : (bs : List ℕ) → Begun (rows bs)
unfolding rows
rows_begun bs = split_begun bs

ended_along : {X : Type 0} {xs ys : List X} → xs ≡ ys → Ended ys → Ended xs
ended_along e r = record { front = r.front; last = r.last; is = e ∙ r.is }

pub rows_ended : (bs : List ℕ) → Ended (rows bs)
rows_ended bs = let b = rows_begun bs in ended_along b.is (cons_ended b.first b.rest)

-- the rows of two texts, with the seam's row made one
join : List (List ℕ) → List (List ℕ) → List (List ℕ)
join [] ss = ss
join (r ∷ []) [] = r ∷ []
join (r ∷ []) (s ∷ ss) = (r ++ s) ∷ ss
join (r ∷ q ∷ rs) ss = r ∷ join (q ∷ rs) ss

onto-join : (x : ℕ) (r : List ℕ) (rs : List (List ℕ)) (s : List ℕ) (ss : List (List ℕ)) → onto_first x (join (r ∷ rs) (s ∷ ss)) ≡ join (onto_first x (r ∷ rs)) (s ∷ ss)
unfolding join
onto-join x r [] s ss = refl
onto-join x r (q ∷ rs) s ss = refl

join-nil : (s : List ℕ) (ss : List (List ℕ)) → s ∷ ss ≡ join ([] ∷ []) (s ∷ ss)
unfolding join
join-nil s ss = refl

join-cons : (r q : List ℕ) (rs ss : List (List ℕ)) → join (r ∷ q ∷ rs) ss ≡ r ∷ join (q ∷ rs) ss
unfolding join
join-cons r q rs ss = refl

join-step : (t : Bool) (x : ℕ) (rs ss us : List (List ℕ)) → us ≡ join rs ss → Begun rs → Begun ss →
    cond t ([] ∷ us) (onto_first x us) ≡ join (cond t ([] ∷ rs) (onto_first x rs)) ss
join-step true x rs ss us e r s =
    rw (e, r.is) (sym (join-cons [] r.first r.rest ss))
join-step false x rs ss us e r s = rw (e, r.is, s.is) (onto-join x r.first r.rest s.first s.rest)

split-join : (xs ys : List ℕ) → slice_split is_newline (xs ++ ys) ≡ join (slice_split is_newline xs) (slice_split is_newline ys)
split-join [] ys = let b = split_begun ys in rw b.is (join-nil b.first b.rest)
split-join (x ∷ xs) ys = join-step (is_newline x) x (slice_split is_newline xs) (slice_split is_newline ys) (slice_split is_newline (xs ++ ys)) (split-join xs ys) (split_begun xs) (split_begun ys)

join-ended : (f : List (List ℕ)) (l s : List ℕ) (ss : List (List ℕ)) → join (f ++ l ∷ []) (s ∷ ss) ≡ f ++ (l ++ s) ∷ ss
unfolding join
join-ended [] l s ss = refl
join-ended (g ∷ []) l s ss = refl
join-ended (g ∷ h ∷ f) l s ss = ap (λ t. g ∷ t) (join-ended (h ∷ f) l s ss)

pub rows-append : (xs ys : List ℕ) (f : List (List ℕ)) (l s : List ℕ) (ss : List (List ℕ)) → rows xs ≡ f ++ l ∷ [] → rows ys ≡ s ∷ ss → rows (xs ++ ys) ≡ f ++ (l ++ s) ∷ ss
unfolding rows
rows-append xs ys f l s ss e d = split-join xs ys ∙ rw (e, d) (join-ended f l s ss)

pub last_of_rows-append : (f : List (List ℕ)) (r : List ℕ) (rs : List (List ℕ)) → last_of_rows (f ++ r ∷ rs) ≡ last_of_rows (r ∷ rs)
last_of_rows-append [] r rs = refl
last_of_rows-append (g ∷ []) r rs = refl
last_of_rows-append (g ∷ h ∷ f) r rs = last_of_rows-append (h ∷ f) r rs

pub length-rows : (bs : List ℕ) → length (rows bs) ≡ newline_count bs + 1
unfolding rows newline_count
length-rows bs = length-slice_split is_newline bs
