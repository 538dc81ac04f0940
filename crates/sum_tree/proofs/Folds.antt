-- What follows from the laws for a fold.
use Rattle.std.proofs.Common.{◌≡◌, ℕ, ◌+◌, ◌<◌, List, [], ◌∷◌, ◌++◌, length, get_or, take, drop, sym, ap, subst, refl, ◌∙◌, take-append-drop}
use Rattle.std.proofs.lemmas.List.{take_more, append-nil}
use Rattle.sum_tree.specs.Laws.{SummaryLaws, fold}

module _ {S T : Type 0} {empty : S} {op : S → S → S} {admits fits : S → Type 0} (laws : SummaryLaws empty op admits fits) (sum_of : T → S) (admitted : (x : T) → admits (sum_of x)) where
  abbrev total : List T → S
  total = fold empty op sum_of

  pub start_admitted : (a : S) (xs : List T) → admits a → admits (fold a op sum_of xs)
  start_admitted a [] p = p
  start_admitted a (x ∷ xs) p = start_admitted (op a (sum_of x)) xs (laws.op_admitted a (sum_of x) p (admitted x))

  pub fold_admitted : (xs : List T) → admits (fold empty op sum_of xs)
  fold_admitted xs = start_admitted empty xs laws.empty_admitted

  -- to start from a is to add the sum to a
  pub fold-start : (a : S) (xs : List T) → admits a → fold a op sum_of xs ≡ op a (fold empty op sum_of xs)
  fold-start a [] p = sym (laws.right_identity a p)
  fold-start a (x ∷ xs) p =
      let first : op empty (sum_of x) ≡ sum_of x = laws.left_identity (sum_of x) (admitted x) in
      let rest : fold empty op sum_of (x ∷ xs) ≡ op (sum_of x) (total xs) = ap (λ (s : S). fold s op sum_of xs) first ∙ fold-start (sum_of x) xs (admitted x) in
      fold-start (op a (sum_of x)) xs (laws.op_admitted a (sum_of x) p (admitted x)) ∙ laws.assoc a (sum_of x) (total xs) p (admitted x) (fold_admitted xs) ∙ ap (op a) (sym rest)

  pub fold-then : (a : S) (xs ys : List T) → fold a op sum_of (xs ++ ys) ≡ fold (fold a op sum_of xs) op sum_of ys
  fold-then a [] ys = refl
  fold-then a (x ∷ xs) ys = fold-then (op a (sum_of x)) xs ys

  pub fold-append : (xs ys : List T) → fold empty op sum_of (xs ++ ys) ≡ op (fold empty op sum_of xs) (fold empty op sum_of ys)
  fold-append xs ys = fold-then empty xs ys ∙ fold-start (total xs) ys (fold_admitted xs)

  pub fold_single : (x : T) → fold empty op sum_of (x ∷ []) ≡ sum_of x
  fold_single x = laws.left_identity (sum_of x) (admitted x)

  -- with a part left out, what is left fits
  pub fits_without : (xs ys zs : List T) → fits (fold empty op sum_of (xs ++ (ys ++ zs))) → fits (fold empty op sum_of (xs ++ zs))
  fits_without xs ys zs h =
      let whole : total (xs ++ (ys ++ zs)) ≡ op (total xs) (op (total ys) (total zs)) = fold-append xs (ys ++ zs) ∙ ap (op (total xs)) (fold-append ys zs) in
      subst fits (sym (fold-append xs zs)) (laws.fits_parts (total xs) (total ys) (total zs) (fold_admitted xs) (fold_admitted ys) (fold_admitted zs) (subst fits whole h))

  pub fits_right : (xs ys : List T) → fits (fold empty op sum_of (xs ++ ys)) → fits (fold empty op sum_of ys)
  fits_right xs ys h = fits_without [] xs ys h

  pub fits_left : (xs ys : List T) → fits (fold empty op sum_of (xs ++ ys)) → fits (fold empty op sum_of xs)
  fits_left xs ys h =
      let padded : fits (total (xs ++ (ys ++ []))) = subst (λ (zs : List T). fits (total (xs ++ zs))) (sym (append-nil ys)) h in
      subst (λ (zs : List T). fits (total zs)) (append-nil xs) (fits_without xs ys [] padded)

  pub fits_take : (xs : List T) (i : ℕ) → fits (fold empty op sum_of xs) → fits (fold empty op sum_of (take i xs))
  fits_take xs i h = fits_left (take i xs) (drop i xs) (subst (λ (zs : List T). fits (total zs)) (sym (take-append-drop i xs)) h)

  pub fits_drop : (xs : List T) (i : ℕ) → fits (fold empty op sum_of xs) → fits (fold empty op sum_of (drop i xs))
  fits_drop xs i h = fits_right (take i xs) (drop i xs) (subst (λ (zs : List T). fits (total zs)) (sym (take-append-drop i xs)) h)

  -- a loop that keeps the last item back: with it, what is added so far is the sum of the first and so many of the rest
  pub last_fits : (all : List T) (first : T) (rest : List T) (i : ℕ) (y : T) (s t : S) → all ≡ first ∷ rest → fits (fold empty op sum_of all) → op s (sum_of y) ≡ fold empty op sum_of (first ∷ take i rest) → t ≡ sum_of y → fits (op s t)
  last_fits all first rest i y s t same h e f =
      let split : all ≡ (first ∷ take i rest) ++ drop i rest = same ∙ ap (λ (zs : List T). first ∷ zs) (sym (take-append-drop i rest)) in
      rw (f, e) (fits_left (first ∷ take i rest) (drop i rest) (subst (λ (zs : List T). fits (total zs)) split h))

  pub next_sum : (first : T) (rest : List T) (i : ℕ) (x y : T) (s t u : S) → i < length rest → x ≡ get_or rest i x → op s (sum_of y) ≡ fold empty op sum_of (first ∷ take i rest) → t ≡ sum_of y → u ≡ sum_of x → op (op s t) u ≡ fold empty op sum_of (first ∷ take (i + 1) rest)
  next_sum first rest i x y s t u within read e f k =
      let more : take (i + 1) rest ≡ take i rest ++ (x ∷ []) = take_more rest i x within ∙ ap (λ (z : T). take i rest ++ (z ∷ [])) (sym read) in
      let whole : total (first ∷ take (i + 1) rest) ≡ op (total (first ∷ take i rest)) (sum_of x) = ap (λ (zs : List T). total (first ∷ zs)) more ∙ fold-append (first ∷ take i rest) (x ∷ []) ∙ ap (op (total (first ∷ take i rest))) (fold_single x) in
      rw (f, k, e) (sym whole)

  pub next_fits : (all : List T) (first : T) (rest : List T) (i : ℕ) (x y : T) (s t u : S) → all ≡ first ∷ rest → fits (fold empty op sum_of all) → i < length rest → x ≡ get_or rest i x → op s (sum_of y) ≡ fold empty op sum_of (first ∷ take i rest) → t ≡ sum_of y → u ≡ sum_of x → fits (op (op s t) u)
  next_fits all first rest i x y s t u same h within read e f k =
      last_fits all first rest (i + 1) x (op s t) u same h (ap (op (op s t)) (sym k) ∙ next_sum first rest i x y s t u within read e f k) k
