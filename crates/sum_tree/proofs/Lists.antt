-- A run of a list replaced by another.
use Rattle.std.proofs.Common.{◌≡◌, ℕ, suc, ◌+◌, ◌-◌, ◌≤◌, List, [], ◌∷◌, ◌++◌, length, take, drop, refl, sym, ap, ◌∙◌, append_assoc, arith, length-append, zero, subst, Some}
use Rattle.std.specs.List.{remove, slice_get}
use Rattle.std.proofs.lemmas.List.{append-nil, length-take-le, length-drop, take-take}
use Rattle.std.proofs.Math.Seq.{take-append-add, take-append_seam, drop-append_seam}
use Rattle.std.proofs.lemmas.Option.{same_Some}
use Rattle.sum_tree.specs.Spliced.{splice_list}

module _ {X : Type 0} where
  -- what stood from `from` up to `to` is turned to the end and cut off, the run is put there, and both turn back
  pub put_in : (from to b : ℕ) (xs one two three four run : List X) → from ≤ to → to ≤ length xs → b ≡ length xs - to → one ≡ drop to xs ++ take to xs → two ≡ take (b + from) one → three ≡ two ++ run → four ≡ drop b three ++ take b three → four ≡ splice_list from to run xs
  put_in from to b xs one two three four run le within e f g h i =
      let back : length (drop to xs) ≡ b = length-drop to xs ∙ sym e in
      let cut : two ≡ drop to xs ++ take from xs = g ∙ ap (take (b + from)) f ∙ ap (λ (n : ℕ). take (n + from) (drop to xs ++ take to xs)) (sym back) ∙ take-append-add (drop to xs) (take to xs) from ∙ ap (λ (ys : List X). drop to xs ++ ys) (take-take from to xs le) in
      let whole : three ≡ drop to xs ++ (take from xs ++ run) = h ∙ ap (λ (ys : List X). ys ++ run) cut ∙ append_assoc (drop to xs) (take from xs) run in
      let last : drop b three ≡ take from xs ++ run = ap (drop b) whole ∙ ap (λ (n : ℕ). drop n (drop to xs ++ (take from xs ++ run))) (sym back) ∙ drop-append_seam (drop to xs) (take from xs ++ run) in
      let first : take b three ≡ drop to xs = ap (take b) whole ∙ ap (λ (n : ℕ). take n (drop to xs ++ (take from xs ++ run))) (sym back) ∙ take-append_seam (drop to xs) (take from xs ++ run) in
      i ∙ ap (λ (ys : List X). ys ++ take b three) last ∙ ap (λ (ys : List X). (take from xs ++ run) ++ ys) first

  pub popped : (xs all rest : List X) (n : ℕ) (x : X) → n ≡ length all → rest ≡ take (n - 1) all → all ≡ xs ++ x ∷ [] → rest ≡ xs
  popped xs all rest n x e f g =
      let size : n - 1 ≡ length xs = omega (arith, e, ap length g, length-append xs (x ∷ [])) in
      f ∙ ap (λ (m : ℕ). take m all) size ∙ ap (take (length xs)) g ∙ take-append_seam xs (x ∷ [])

  -- a list without one of its elements
  pub taken_out : (from to : ℕ) (xs run : List X) → from ≤ to → to - from ≡ 1 → length run ≡ 0 → remove xs from ≡ splice_list from to run xs
  taken_out from to xs [] le one none =
      let next : to ≡ suc from = omega arith in
      rw (next, append-nil (take from xs)) refl
  taken_out from to xs (x ∷ run) le one none = absurd (omega arith)

  -- how long a list is after a splice
  pub spliced_length : (i n : ℕ) (ys xs : List X) → i + n ≤ length xs → length (splice_list i (i + n) ys xs) ≡ length xs - n + length ys
  spliced_length i n ys xs le = omega (arith, le, length-append (take i xs ++ ys) (drop (i + n) xs), length-append (take i xs) ys, length-take-le i xs (omega (arith, le)), length-drop (i + n) xs)

  pub spliced_short : (i j : ℕ) (ys xs : List X) → i ≤ j → j ≤ length xs → length (splice_list i j ys xs) ≤ length xs + length ys
  spliced_short i j ys xs l m = omega (arith, length-append (take i xs ++ ys) (drop j xs), length-append (take i xs) ys, length-take-le i xs (omega (arith, l, m)), length-drop j xs, l, m)

  -- one item in the place of one keeps the length
  pub spliced_long : (i : ℕ) (xs : List X) (y : X) → i + 1 ≤ length xs → length (splice_list i (i + 1) (y ∷ []) xs) ≡ length xs
  spliced_long i xs y l = spliced_length i 1 (y ∷ []) xs l ∙ omega (arith, l)

  self_next : (i : ℕ) (xs : List X) (x : X) → slice_get xs i ≡ Some x → splice_list i (suc i) (x ∷ []) xs ≡ xs
  self_next i [] x h = cc
  self_next zero (y ∷ xs) x h = ap (λ z. z ∷ xs) (sym (same_Some y x h))
  self_next (suc i) (y ∷ xs) x h = ap (λ ys. y ∷ ys) (self_next i xs x h)

  -- an item in its own place changes nothing
  pub spliced_self : (i : ℕ) (xs : List X) (x y : X) → slice_get xs i ≡ Some x → y ≡ x → xs ≡ splice_list i (i + 1) (y ∷ []) xs
  spliced_self i xs x y h e = let q : suc i ≡ i + 1 = omega arith in sym (subst (λ j. splice_list i j (y ∷ []) xs ≡ xs) q (ap (λ z. splice_list i (suc i) (z ∷ []) xs) e ∙ self_next i xs x h))
