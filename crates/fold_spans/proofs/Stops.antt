-- Where seeks among spans stop.
use Rattle.std.proofs.Common.{◌≡◌, ℕ, zero, suc, ◌+◌, ◌<◌, ◌≤◌, ◌⊎◌, inl, inr, Bool, true, false, List, [], ◌∷◌, ◌++◌, length, take, Option, Some, None, sym, ap, ◌∙◌, subst, arith}
use Rattle.std.specs.Prelude.{slice_get, nat_lt}
use Rattle.std.proofs.lemmas.Bool.{cases_Bool}
use Rattle.std.proofs.lemmas.Bool.Decides.{nat_tests}
use Rattle.std.proofs.lemmas.List.{take_all}
use Rattle.tree_cursor.specs.Places.{seek_count}
use Rattle.fold_spans.specs.Lengths.{no_lengths, add_lengths, lengths_of_span, lengths_of, move_place}
use Rattle.fold_spans.specs.LengthLaws.{same_lengths, none-add_lengths}
use Rattle.fold_spans.specs.Found.{IsFound}
use Rattle.fold_spans.specs.declared.span.Span.{Span}
use Rattle.fold_spans.specs.declared.lengths.Lengths.{Lengths}
use Rattle.fold_spans.proofs.Sums.{one_more, lengths_of-snoc}

-- a seek from p on goes over the n spans of which none stops it, up to one that does
pub record IsStop (stops : Lengths → Bool) (p : Lengths) (ss : List Span) (n : ℕ) : Type 0 where
  pub within : n ≤ length ss
  pub before : (k : ℕ) → k < n → stops (add_lengths p (lengths_of (take (suc k) ss))) ≡ false
  pub here : n < length ss → stops (add_lengths p (lengths_of (take (suc n) ss))) ≡ true

abbrev pub passed : (Lengths → Bool) → Lengths → List Span → ℕ
passed stops p ss = seek_count move_place lengths_of_span stops p ss

module _ (stops : Lengths → Bool) (p : Lengths) (s : Span) (ss : List Span) where
  abbrev next : Lengths
  next = add_lengths p (lengths_of_span s)

  one_span : stops next ≡ stops (add_lengths p (lengths_of (take 1 (s ∷ ss))))
  one_span = ap stops (same_lengths next (add_lengths p (lengths_of (s ∷ []))) (omega arith) (omega arith) (omega arith))

  stop_here : stops next ≡ true → IsStop stops p (s ∷ ss) 0
  stop_here e = record { within = omega arith; before = λ k l. absurd (omega arith); here = λ l. sym one_span ∙ e }

  stop_later : (n : ℕ) → stops next ≡ false → IsStop stops next ss n → IsStop stops p (s ∷ ss) (suc n)
  stop_later n e h = record {
    within = let w = h.within in omega arith;
    before = λ k l. go k l;
    here = λ l. ap stops (sym (one_more p s (take (suc n) ss))) ∙ h.here (omega arith);
  }
    where
      go : (k : ℕ) → k < suc n → stops (add_lengths p (lengths_of (take (suc k) (s ∷ ss)))) ≡ false
      go zero l = sym one_span ∙ e
      go (suc k) l = ap stops (sym (one_more p s (take (suc k) ss))) ∙ h.before k (omega arith)

pub seek_stops : (stops : Lengths → Bool) (p : Lengths) (ss : List Span) → IsStop stops p ss (passed stops p ss)
seek_stops stops p [] = record { within = omega arith; before = λ k l. absurd (omega arith); here = λ l. absurd (omega arith) }
seek_stops stops p (s ∷ ss) = go (cases_Bool (stops (add_lengths p (lengths_of_span s)))) (seek_stops stops (add_lengths p (lengths_of_span s)) ss)
  where
    go : (stops (add_lengths p (lengths_of_span s)) ≡ true) ⊎ (stops (add_lengths p (lengths_of_span s)) ≡ false)
        → IsStop stops (add_lengths p (lengths_of_span s)) ss (passed stops (add_lengths p (lengths_of_span s)) ss) → IsStop stops p (s ∷ ss) (passed stops p (s ∷ ss))
    go (inl e) h = rw e (stop_here stops p s ss e)
    go (inr e) h = rw e (let z : suc (passed stops (add_lengths p (lengths_of_span s)) ss) ≡ 1 + passed stops (add_lengths p (lengths_of_span s)) ss = omega arith in
        subst (λ (n : ℕ). IsStop stops p (s ∷ ss) n) z (stop_later stops p s ss (passed stops (add_lengths p (lengths_of_span s)) ss) e h))

-- the same from the start on
pub start_stops : (stops : Lengths → Bool) (p : Lengths) (ss : List Span) → p ≡ no_lengths → IsStop stops no_lengths ss (passed stops p ss)
start_stops stops p ss e = subst (λ (q : Lengths). IsStop stops q ss (passed stops p ss)) e (seek_stops stops p ss)

pub stop_before : (stops : Lengths → Bool) (ss : List Span) (n k : ℕ) → IsStop stops no_lengths ss n → k < n → stops (lengths_of (take (suc k) ss)) ≡ false
stop_before stops ss n k h l = ap stops (sym (none-add_lengths (lengths_of (take (suc k) ss)))) ∙ h.before k l

pub stop_here_is : (stops : Lengths → Bool) (ss : List Span) (n : ℕ) → IsStop stops no_lengths ss n → n < length ss → stops (lengths_of (take (suc n) ss)) ≡ true
stop_here_is stops ss n h l = ap stops (sym (none-add_lengths (lengths_of (take (suc n) ss)))) ∙ h.here l

-- ---- what stands at an index

pub record At (ss : List Span) (n : ℕ) (s : Span) : Type 0 where
  pub within : n < length ss
  pub post : List Span
  pub parts : ss ≡ take n ss ++ s ∷ post
  pub more : take (suc n) ss ≡ take n ss ++ s ∷ []

pub at_index : (ss : List Span) (n : ℕ) (s : Span) → slice_get ss n ≡ Some s → At ss n s
at_index [] n s e = absurd (cc)
at_index (x ∷ ss) zero s e = let i : x ≡ s = cc in record { within = omega arith; post = ss; parts = ap (λ (z : Span). z ∷ ss) i; more = ap (λ (z : Span). z ∷ []) i }
at_index (x ∷ ss) (suc n) s e = let k = at_index ss n s e in record {
  within = let w = k.within in omega arith;
  post = k.post;
  parts = ap (λ (z : List Span). x ∷ z) k.parts;
  more = ap (λ (z : List Span). x ∷ z) k.more;
}

pub past_end : (ss : List Span) (n : ℕ) → slice_get ss n ≡ None → length ss ≤ n
past_end [] n e = omega arith
past_end (x ∷ ss) zero e = absurd (cc)
past_end (x ∷ ss) (suc n) e = let k = past_end ss n e in omega arith

-- ---- the span that has a byte

module _ (count : Lengths → ℕ) (none : count no_lengths ≡ 0) (add : (a b : Lengths) → count (add_lengths a b) ≡ count a + count b) (o : ℕ) (ss : List Span) where
  abbrev stops : Lengths → Bool
  stops q = nat_lt o (count q)

  low : (n : ℕ) → IsStop stops no_lengths ss n → count (lengths_of (take n ss)) ≤ o
  low zero h = omega (arith, none)
  low (suc n) h = let e = stop_before stops ss (suc n) n h (omega arith) in grind (arith, nat_tests, e)

  high : (n : ℕ) (s : Span) → At ss n s → IsStop stops no_lengths ss n → o < count (lengths_of (take n ss)) + count (lengths_of_span s)
  high n s a h =
      let e = stop_here_is stops ss n h a.within in
      let f : lengths_of (take (suc n) ss) ≡ add_lengths (lengths_of (take n ss)) (lengths_of_span s) = ap lengths_of a.more ∙ lengths_of-snoc (take n ss) s in
      let g : o < count (lengths_of (take (suc n) ss)) = grind (arith, nat_tests, e) in
      let i = ap count f ∙ add (lengths_of (take n ss)) (lengths_of_span s) in
      omega arith

  pub found : (p : Lengths) (item : Option Span) (b : Lengths) → p ≡ no_lengths → item ≡ slice_get ss (passed stops p ss) → b ≡ lengths_of (take (passed stops p ss) ss) → IsFound count ss o item b
  found p None b e i f =
      let h = start_stops stops p ss e in
      let all : take (passed stops p ss) ss ≡ ss = take_all (passed stops p ss) ss (past_end ss (passed stops p ss) (sym i)) in
      (f ∙ ap lengths_of all, let l = low (passed stops p ss) h in let q = ap count f in omega arith)
  found p (Some s) b e i f =
      let h = start_stops stops p ss e in
      let a = at_index ss (passed stops p ss) s (sym i) in
      let l = low (passed stops p ss) h in
      let m = high (passed stops p ss) s a h in
      let q = ap count f in
      (take (passed stops p ss) ss, a.post, a.parts, f, omega arith, omega arith)
