-- Where seeks among excerpts stop.
use Rattle.std.proofs.Common.{◌≡◌, ℕ, zero, suc, ◌+◌, ◌<◌, ◌≤◌, ◌⊎◌, inl, inr, Bool, true, false, List, [], ◌∷◌, ◌++◌, length, take, Option, Some, None, sym, ap, ◌∙◌, subst, arith}
use Rattle.std.specs.Prelude.{slice_get, nat_lt}
use Rattle.std.proofs.lemmas.Bool.{cases_Bool}
use Rattle.std.proofs.lemmas.Bool.Decides.{nat_tests}
use Rattle.std.proofs.lemmas.List.{take_all}
use Rattle.tree_cursor.specs.Places.{seek_count}
use Rattle.multi_buffer.specs.Lengths.{no_lengths, add_lengths, lengths_of_excerpt, lengths_of, move_place}
use Rattle.multi_buffer.specs.LengthLaws.{same_lengths, none-add_lengths}
use Rattle.multi_buffer.specs.Found.{IsFound}
use Rattle.multi_buffer.specs.declared.excerpt.Excerpt.{Excerpt}
use Rattle.multi_buffer.specs.declared.lengths.Lengths.{Lengths}
use Rattle.multi_buffer.proofs.Sums.{one_more, lengths_of-snoc}

-- a seek from p on goes over the n excerpts of which none stops it, up to one that does
pub record IsStop (stops : Lengths → Bool) (p : Lengths) (xs : List Excerpt) (n : ℕ) : Type 0 where
  pub within : n ≤ length xs
  pub before : (k : ℕ) → k < n → stops (add_lengths p (lengths_of (take (suc k) xs))) ≡ false
  pub here : n < length xs → stops (add_lengths p (lengths_of (take (suc n) xs))) ≡ true

abbrev pub passed : (Lengths → Bool) → Lengths → List Excerpt → ℕ
passed stops p xs = seek_count move_place lengths_of_excerpt stops p xs

module _ (stops : Lengths → Bool) (p : Lengths) (s : Excerpt) (xs : List Excerpt) where
  abbrev next : Lengths
  next = add_lengths p (lengths_of_excerpt s)

  one_excerpt : stops next ≡ stops (add_lengths p (lengths_of (take 1 (s ∷ xs))))
  one_excerpt = ap stops (same_lengths next (add_lengths p (lengths_of (s ∷ []))) (omega arith) (omega arith))

  stop_here : stops next ≡ true → IsStop stops p (s ∷ xs) 0
  stop_here e = record { within = omega arith; before = λ k l. absurd (omega arith); here = λ l. sym one_excerpt ∙ e }

  stop_later : (n : ℕ) → stops next ≡ false → IsStop stops next xs n → IsStop stops p (s ∷ xs) (suc n)
  stop_later n e h = record {
    within = let w = h.within in omega arith;
    before = λ k l. go k l;
    here = λ l. ap stops (sym (one_more p s (take (suc n) xs))) ∙ h.here (omega arith);
  }
    where
      go : (k : ℕ) → k < suc n → stops (add_lengths p (lengths_of (take (suc k) (s ∷ xs)))) ≡ false
      go zero l = sym one_excerpt ∙ e
      go (suc k) l = ap stops (sym (one_more p s (take (suc k) xs))) ∙ h.before k (omega arith)

pub seek_stops : (stops : Lengths → Bool) (p : Lengths) (xs : List Excerpt) → IsStop stops p xs (passed stops p xs)
seek_stops stops p [] = record { within = omega arith; before = λ k l. absurd (omega arith); here = λ l. absurd (omega arith) }
seek_stops stops p (s ∷ xs) = go (cases_Bool (stops (add_lengths p (lengths_of_excerpt s)))) (seek_stops stops (add_lengths p (lengths_of_excerpt s)) xs)
  where
    go : (stops (add_lengths p (lengths_of_excerpt s)) ≡ true) ⊎ (stops (add_lengths p (lengths_of_excerpt s)) ≡ false)
        → IsStop stops (add_lengths p (lengths_of_excerpt s)) xs (passed stops (add_lengths p (lengths_of_excerpt s)) xs) → IsStop stops p (s ∷ xs) (passed stops p (s ∷ xs))
    go (inl e) h = rw e (stop_here stops p s xs e)
    go (inr e) h = rw e (let z : suc (passed stops (add_lengths p (lengths_of_excerpt s)) xs) ≡ 1 + passed stops (add_lengths p (lengths_of_excerpt s)) xs = omega arith in
        subst (λ (n : ℕ). IsStop stops p (s ∷ xs) n) z (stop_later stops p s xs (passed stops (add_lengths p (lengths_of_excerpt s)) xs) e h))

-- the same from the start on
pub start_stops : (stops : Lengths → Bool) (p : Lengths) (xs : List Excerpt) → p ≡ no_lengths → IsStop stops no_lengths xs (passed stops p xs)
start_stops stops p xs e = subst (λ (q : Lengths). IsStop stops q xs (passed stops p xs)) e (seek_stops stops p xs)

pub stop_before : (stops : Lengths → Bool) (xs : List Excerpt) (n k : ℕ) → IsStop stops no_lengths xs n → k < n → stops (lengths_of (take (suc k) xs)) ≡ false
stop_before stops xs n k h l = ap stops (sym (none-add_lengths (lengths_of (take (suc k) xs)))) ∙ h.before k l

pub stop_here_is : (stops : Lengths → Bool) (xs : List Excerpt) (n : ℕ) → IsStop stops no_lengths xs n → n < length xs → stops (lengths_of (take (suc n) xs)) ≡ true
stop_here_is stops xs n h l = ap stops (sym (none-add_lengths (lengths_of (take (suc n) xs)))) ∙ h.here l

-- ---- what stands at an index

pub record At (xs : List Excerpt) (n : ℕ) (s : Excerpt) : Type 0 where
  pub within : n < length xs
  pub post : List Excerpt
  pub parts : xs ≡ take n xs ++ s ∷ post
  pub more : take (suc n) xs ≡ take n xs ++ s ∷ []

pub at_index : (xs : List Excerpt) (n : ℕ) (s : Excerpt) → slice_get xs n ≡ Some s → At xs n s
at_index [] n s e = absurd (cc)
at_index (x ∷ xs) zero s e = let i : x ≡ s = cc in record { within = omega arith; post = xs; parts = ap (λ (z : Excerpt). z ∷ xs) i; more = ap (λ (z : Excerpt). z ∷ []) i }
at_index (x ∷ xs) (suc n) s e = let k = at_index xs n s e in record {
  within = let w = k.within in omega arith;
  post = k.post;
  parts = ap (λ (z : List Excerpt). x ∷ z) k.parts;
  more = ap (λ (z : List Excerpt). x ∷ z) k.more;
}

pub past_end : (xs : List Excerpt) (n : ℕ) → slice_get xs n ≡ None → length xs ≤ n
past_end [] n e = omega arith
past_end (x ∷ xs) zero e = absurd (cc)
past_end (x ∷ xs) (suc n) e = let k = past_end xs n e in omega arith

-- ---- the excerpt that a length reaches

module _ (count : Lengths → ℕ) (none : count no_lengths ≡ 0) (add : (a b : Lengths) → count (add_lengths a b) ≡ count a + count b) (o : ℕ) (xs : List Excerpt) where
  abbrev stops : Lengths → Bool
  stops q = nat_lt o (count q)

  low : (n : ℕ) → IsStop stops no_lengths xs n → count (lengths_of (take n xs)) ≤ o
  low zero h = omega (arith, none)
  low (suc n) h = let e = stop_before stops xs (suc n) n h (omega arith) in grind (arith, nat_tests, e)

  high : (n : ℕ) (s : Excerpt) → At xs n s → IsStop stops no_lengths xs n → o < count (lengths_of (take n xs)) + count (lengths_of_excerpt s)
  high n s a h =
      let e = stop_here_is stops xs n h a.within in
      let f : lengths_of (take (suc n) xs) ≡ add_lengths (lengths_of (take n xs)) (lengths_of_excerpt s) = ap lengths_of a.more ∙ lengths_of-snoc (take n xs) s in
      let g : o < count (lengths_of (take (suc n) xs)) = grind (arith, nat_tests, e) in
      let i = ap count f ∙ add (lengths_of (take n xs)) (lengths_of_excerpt s) in
      omega arith

  pub found : (p : Lengths) (item : Option Excerpt) (b : Lengths) → p ≡ no_lengths → item ≡ slice_get xs (passed stops p xs) → b ≡ lengths_of (take (passed stops p xs) xs) → IsFound count xs o item b
  found p None b e i f =
      let h = start_stops stops p xs e in
      let all : take (passed stops p xs) xs ≡ xs = take_all (passed stops p xs) xs (past_end xs (passed stops p xs) (sym i)) in
      (f ∙ ap lengths_of all, let l = low (passed stops p xs) h in let q = ap count f in omega arith)
  found p (Some s) b e i f =
      let h = start_stops stops p xs e in
      let a = at_index xs (passed stops p xs) s (sym i) in
      let l = low (passed stops p xs) h in
      let m = high (passed stops p xs) s a h in
      let q = ap count f in
      (take (passed stops p xs) xs, a.post, a.parts, f, omega arith, omega arith)
