-- The text of the first excerpts is no longer than that of all.
use Rattle.std.proofs.Common.{◌≡◌, ℕ, zero, suc, ◌+◌, ◌-◌, ◌≤◌, List, [], ◌∷◌, ◌++◌, length, length-append, take, Some, refl, ap, arith}
use Rattle.std.specs.Prelude.{slice_get}
use Rattle.std.specs.List.{AllByRecursion}
use Rattle.multi_buffer.specs.declared.excerpt.Excerpt.{Excerpt}
use Rattle.multi_buffer.specs.declared.source.Source.{Source}
use Rattle.multi_buffer.specs.Breaks.{break_before}
use Rattle.multi_buffer.specs.Lengths.{size_sum}
use Rattle.multi_buffer.specs.State.{excerpt_text, size, IsSynced}
use Rattle.multi_buffer.proofs.Lines.{all_count, each_at, excerpt_count, shown, shown_next}

module _ (ss : List Source) where
  each_take : (n : ℕ) (xs : List Excerpt) → AllByRecursion (IsSynced ss) xs → AllByRecursion (IsSynced ss) (take n xs)
  each_take zero xs a = tt
  each_take (suc n) [] a = tt
  each_take (suc n) (x ∷ xs) a = (a.0, each_take n xs a.1)

  sum_take : (n : ℕ) (xs : List Excerpt) → size_sum (take n xs) ≤ size_sum xs
  sum_take zero xs = omega arith
  sum_take (suc n) [] = omega arith
  sum_take (suc n) (x ∷ xs) = let e = sum_take n xs in omega arith

  length_take : (n : ℕ) (xs : List Excerpt) → length (take n xs) ≤ length xs
  length_take zero xs = omega arith
  length_take (suc n) [] = omega arith
  length_take (suc n) (x ∷ xs) = let e = length_take n xs in omega arith

  shown_take : (n : ℕ) (xs : List Excerpt) → AllByRecursion (IsSynced ss) xs → length (shown ss (take n xs)) ≤ length (shown ss xs)
  shown_take n xs a =
      let c = all_count ss (take n xs) (each_take n xs a) (length (take n xs)) (length (take n xs) - 1) (size_sum (take n xs)) refl refl refl in
      let d = all_count ss xs a (length xs) (length xs - 1) (size_sum xs) refl refl refl in
      let e = sum_take n xs in
      let f = length_take n xs in
      omega arith

  module _ (xs : List Excerpt) (i : ℕ) (x : Excerpt) (a : AllByRecursion (IsSynced ss) xs) (e : slice_get xs i ≡ Some x) where
    pub room_after : length (shown ss (take i xs) ++ break_before i) + size x ≤ length (shown ss xs)
    room_after =
        let n = shown_next ss xs i x e in
        let l = length-append (shown ss (take i xs) ++ break_before i) (excerpt_text ss x) in
        let c = excerpt_count ss x (each_at ss xs i x a e) in
        let s = shown_take (i + 1) xs a in
        omega (arith, ap length n, l, c, s)

    pub room_before : length (shown ss (take i xs)) + length (break_before i) ≤ length (shown ss xs)
    room_before = let r = room_after in let l = length-append (shown ss (take i xs)) (break_before i) in omega (arith, r, l)
