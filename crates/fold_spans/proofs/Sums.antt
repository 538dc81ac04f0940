-- Sums of spans, and parts of lists of them.
use Rattle.std.proofs.Common.{◌≡◌, ℕ, zero, suc, ◌+◌, ◌<◌, ◌≤◌, ◌^◌, List, [], ◌∷◌, ◌++◌, length, length-append, append_assoc, append-nil, take, drop, refl, sym, ap, ◌∙◌, subst, inl, inr, arith}
use Rattle.std.specs.Prelude.{◌⊎◌, eqb, true, false}
use Rattle.std.proofs.lemmas.Bool.{cases_Bool}
use Rattle.std.proofs.lemmas.Bool.Decides.{nat_tests}
use Rattle.sum_tree.specs.Laws.{fold}
use Rattle.sum_tree.specs.Spliced.{splice_list}
use Rattle.tree_cursor.specs.Places.{place_behind}
use Rattle.fold_spans.specs.Spans.{span_folds, folds_of, text_sum, shown_sum, some_open, AreSpans}
use Rattle.fold_spans.specs.Lengths.{no_lengths, add_lengths, LengthsFit, lengths_of_span, lengths_of, move_place, PlaceFits}
use Rattle.fold_spans.specs.LengthLaws.{same_lengths, add_lengths-none, none-add_lengths}
use Rattle.fold_spans.specs.declared.span.Span.{Span}
use Rattle.fold_spans.specs.declared.lengths.Lengths.{Lengths}

pub one_more : (p : Lengths) (s : Span) (ss : List Span) → add_lengths (add_lengths p (lengths_of_span s)) (lengths_of ss) ≡ add_lengths p (lengths_of (s ∷ ss))
one_more p s ss = same_lengths (add_lengths (add_lengths p (lengths_of_span s)) (lengths_of ss)) (add_lengths p (lengths_of (s ∷ ss))) (omega arith) (omega arith) (omega arith)

fold_from : (p : Lengths) (ss : List Span) → fold p add_lengths lengths_of_span ss ≡ add_lengths p (lengths_of ss)
fold_from p [] = sym (add_lengths-none p)
fold_from p (s ∷ ss) = fold_from (add_lengths p (lengths_of_span s)) ss ∙ one_more p s ss

-- the sum of a tree of spans
pub whole : (ss : List Span) → fold no_lengths add_lengths lengths_of_span ss ≡ lengths_of ss
whole ss = fold_from no_lengths ss ∙ none-add_lengths (lengths_of ss)

place_from : (p : Lengths) (ss : List Span) → place_behind move_place lengths_of_span p ss ≡ add_lengths p (lengths_of ss)
place_from p [] = sym (add_lengths-none p)
place_from p (s ∷ ss) = place_from (add_lengths p (lengths_of_span s)) ss ∙ one_more p s ss

-- the place after spans
pub place_after : (p : Lengths) (ss : List Span) → p ≡ no_lengths → place_behind move_place lengths_of_span p ss ≡ lengths_of ss
place_after p ss e = place_from p ss ∙ ap (λ (x : Lengths). add_lengths x (lengths_of ss)) e ∙ none-add_lengths (lengths_of ss)

-- what a tree of spans holds fits
pub lengths_fit : (ss : List Span) → LengthsFit (fold no_lengths add_lengths lengths_of_span ss) → LengthsFit (lengths_of ss)
lengths_fit ss f = subst (λ (x : Lengths). LengthsFit x) (whole ss) f

pub sum_fits : (ss : List Span) → length ss ≤ 2 ^ 40 → text_sum ss < 2 ^ 64 → shown_sum ss < 2 ^ 64 → LengthsFit (fold no_lengths add_lengths lengths_of_span ss)
sum_fits ss l m n = subst (λ (x : Lengths). LengthsFit x) (sym (whole ss)) (record { spans = omega arith; text = m; shown = n })

-- there is room for it from the start on
pub place_fits : (p : Lengths) (ss : List Span) → p ≡ no_lengths → LengthsFit (fold no_lengths add_lengths lengths_of_span ss) → PlaceFits p (fold no_lengths add_lengths lengths_of_span ss)
place_fits p ss e f = let all : Lengths = fold no_lengths add_lengths lengths_of_span ss in subst (λ (x : Lengths). LengthsFit x) (sym (ap (λ (x : Lengths). add_lengths x all) e ∙ none-add_lengths all)) f

-- ---- parts

pub text_sum-append : (ss ts : List Span) → text_sum (ss ++ ts) ≡ text_sum ss + text_sum ts
text_sum-append [] ts = omega arith
text_sum-append (s ∷ ss) ts = let e = text_sum-append ss ts in omega arith

pub shown_sum-append : (ss ts : List Span) → shown_sum (ss ++ ts) ≡ shown_sum ss + shown_sum ts
shown_sum-append [] ts = omega arith
shown_sum-append (s ∷ ss) ts = let e = shown_sum-append ss ts in omega arith

pub lengths_of-snoc : (ss : List Span) (s : Span) → lengths_of (ss ++ s ∷ []) ≡ add_lengths (lengths_of ss) (lengths_of_span s)
lengths_of-snoc ss s = same_lengths (lengths_of (ss ++ s ∷ [])) (add_lengths (lengths_of ss) (lengths_of_span s))
    (omega (arith, length-append ss (s ∷ []))) (omega (arith, text_sum-append ss (s ∷ []))) (omega (arith, shown_sum-append ss (s ∷ [])))

pub folds_of-append : (ss ts : List Span) → folds_of (ss ++ ts) ≡ folds_of ss ++ folds_of ts
folds_of-append [] ts = refl
folds_of-append (s ∷ ss) ts = ap (λ (ns : List ℕ). span_folds s ++ ns) (folds_of-append ss ts) ∙ sym (append_assoc (span_folds s) (folds_of ss) (folds_of ts))

pub folds_of-one : (s : Span) → folds_of (s ∷ []) ≡ span_folds s
folds_of-one s = append-nil (span_folds s)

pub take_sum : (ss : List Span) (i j : ℕ) → i ≤ j → text_sum (take i ss) ≤ text_sum (take j ss)
take_sum ss zero j l = omega arith
take_sum ss (suc i) zero l = absurd (omega arith)
take_sum [] (suc i) (suc j) l = omega arith
take_sum (s ∷ ss) (suc i) (suc j) l = let e = take_sum ss i j (omega arith) in omega arith

pub AreSpans-append : (ss ts : List Span) → AreSpans ss → AreSpans ts → AreSpans (ss ++ ts)
AreSpans-append [] ts a b = b
AreSpans-append (s ∷ ss) ts a b = (a.0, AreSpans-append ss ts a.1 b)

AreSpans-take : (n : ℕ) (ss : List Span) → AreSpans ss → AreSpans (take n ss)
AreSpans-take zero ss a = tt
AreSpans-take (suc n) [] a = tt
AreSpans-take (suc n) (s ∷ ss) a = (a.0, AreSpans-take n ss a.1)

AreSpans-drop : (n : ℕ) (ss : List Span) → AreSpans ss → AreSpans (drop n ss)
AreSpans-drop zero ss a = a
AreSpans-drop (suc n) [] a = tt
AreSpans-drop (suc n) (s ∷ ss) a = AreSpans-drop n ss a.1

pub AreSpans-splice : (i j : ℕ) (ts ss : List Span) → AreSpans ts → AreSpans ss → AreSpans (splice_list i j ts ss)
AreSpans-splice i j ts ss a b = AreSpans-append (take i ss ++ ts) (drop j ss) (AreSpans-append (take i ss) ts (AreSpans-take i ss b) a) (AreSpans-drop j ss b)

pub AreSpans-open : (n : ℕ) → AreSpans (some_open n)
AreSpans-open n = go (cases_Bool (eqb n 0))
  where
    go : (eqb n 0 ≡ true) ⊎ (eqb n 0 ≡ false) → AreSpans (some_open n)
    go (inl e) = rw e tt
    go (inr e) = rw e (grind (arith, nat_tests, e), tt)

pub open_len : (n : ℕ) → text_sum (some_open n) ≡ n
open_len n = go (cases_Bool (eqb n 0))
  where
    go : (eqb n 0 ≡ true) ⊎ (eqb n 0 ≡ false) → text_sum (some_open n) ≡ n
    go (inl e) = rw e (grind (arith, nat_tests, e))
    go (inr e) = rw e (omega arith)

text_sum-drop : (n : ℕ) (ss : List Span) → text_sum (drop n ss) ≤ text_sum ss
text_sum-drop zero ss = omega arith
text_sum-drop (suc n) [] = omega arith
text_sum-drop (suc n) (s ∷ ss) = let e = text_sum-drop n ss in omega arith

-- spans with others in the place of a run have no more bytes than they had and the others have
pub text_sum-splice : (i j : ℕ) (ts ss : List Span) → i ≤ j → text_sum (splice_list i j ts ss) ≤ text_sum ss + text_sum ts
text_sum-splice i j ts ss l =
    let a = text_sum-append (take i ss ++ ts) (drop j ss) in
    let b = text_sum-append (take i ss) ts in
    let c = take_drop i j ss l in
    omega arith
  where
    take_drop : (i j : ℕ) (ss : List Span) → i ≤ j → text_sum (take i ss) + text_sum (drop j ss) ≤ text_sum ss
    take_drop zero j ss l = let e = text_sum-drop j ss in omega arith
    take_drop (suc i) zero ss l = absurd (omega arith)
    take_drop (suc i) (suc j) [] l = omega arith
    take_drop (suc i) (suc j) (s ∷ ss) l = let e = take_drop i j ss (omega arith) in omega arith
