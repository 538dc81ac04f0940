-- Sums of excerpts.
use Rattle.std.proofs.Common.{◌≡◌, ◌+◌, ◌*◌, ◌<◌, ◌≤◌, ◌^◌, List, [], ◌∷◌, ◌++◌, length, length-append, sym, ap, ◌∙◌, subst, arith}
use Rattle.std.specs.List.{AllByRecursion}
use Rattle.sum_tree.specs.Laws.{fold}
use Rattle.tree_cursor.specs.Places.{place_behind}
use Rattle.multi_buffer.specs.Places.{width}
use Rattle.multi_buffer.specs.Lengths.{no_lengths, add_lengths, offset_after, size_sum, LengthsFit, lengths_of_excerpt, lengths_of, move_place, PlaceFits}
use Rattle.multi_buffer.specs.LengthLaws.{same_lengths, add_lengths-none, none-add_lengths}
use Rattle.multi_buffer.specs.Found.{AreShort, IsShort}
use Rattle.multi_buffer.specs.declared.excerpt.Excerpt.{Excerpt}
use Rattle.multi_buffer.specs.declared.lengths.Lengths.{Lengths}

pub one_more : (p : Lengths) (x : Excerpt) (xs : List Excerpt) → add_lengths (add_lengths p (lengths_of_excerpt x)) (lengths_of xs) ≡ add_lengths p (lengths_of (x ∷ xs))
one_more p x xs = same_lengths (add_lengths (add_lengths p (lengths_of_excerpt x)) (lengths_of xs)) (add_lengths p (lengths_of (x ∷ xs))) (omega arith) (omega arith)

fold_from : (p : Lengths) (xs : List Excerpt) → fold p add_lengths lengths_of_excerpt xs ≡ add_lengths p (lengths_of xs)
fold_from p [] = sym (add_lengths-none p)
fold_from p (x ∷ xs) = fold_from (add_lengths p (lengths_of_excerpt x)) xs ∙ one_more p x xs

-- the sum of a tree of excerpts
pub whole : (xs : List Excerpt) → fold no_lengths add_lengths lengths_of_excerpt xs ≡ lengths_of xs
whole xs = fold_from no_lengths xs ∙ none-add_lengths (lengths_of xs)

place_from : (p : Lengths) (xs : List Excerpt) → place_behind move_place lengths_of_excerpt p xs ≡ add_lengths p (lengths_of xs)
place_from p [] = sym (add_lengths-none p)
place_from p (x ∷ xs) = place_from (add_lengths p (lengths_of_excerpt x)) xs ∙ one_more p x xs

-- the place after excerpts
pub place_after : (p : Lengths) (xs : List Excerpt) → p ≡ no_lengths → place_behind move_place lengths_of_excerpt p xs ≡ lengths_of xs
place_after p xs e = place_from p xs ∙ ap (λ (x : Lengths). add_lengths x (lengths_of xs)) e ∙ none-add_lengths (lengths_of xs)

size_bound : (xs : List Excerpt) → AllByRecursion IsShort xs → size_sum xs ≤ length xs * 1099511627776
size_bound [] a = omega arith
size_bound (x ∷ xs) a = let r = size_bound xs a.1 in let e = a.0.end in omega arith

-- the bytes of excerpts that are short
pub few_bytes : (xs : List Excerpt) → AreShort xs → size_sum xs ≤ 2 ^ 60
few_bytes xs a = let b = size_bound xs a.each in let f = a.few in omega arith

-- what a tree of them holds fits
pub sum_fits : (xs : List Excerpt) → AreShort xs → LengthsFit (fold no_lengths add_lengths lengths_of_excerpt xs)
sum_fits xs a = subst (λ (x : Lengths). LengthsFit x) (sym (whole xs)) (record {
  excerpts = let f = a.few in omega arith;
  bytes = let b = few_bytes xs a in omega arith;
})

-- there is room for it from the start on
pub place_fits : (p : Lengths) (xs : List Excerpt) → p ≡ no_lengths → LengthsFit (fold no_lengths add_lengths lengths_of_excerpt xs) → PlaceFits p (fold no_lengths add_lengths lengths_of_excerpt xs)
place_fits p xs e f = let all : Lengths = fold no_lengths add_lengths lengths_of_excerpt xs in subst (λ (x : Lengths). LengthsFit x) (sym (ap (λ (x : Lengths). add_lengths x all) e ∙ none-add_lengths all)) f

-- ---- parts

pub size_sum-append : (xs ys : List Excerpt) → size_sum (xs ++ ys) ≡ size_sum xs + size_sum ys
size_sum-append [] ys = omega arith
size_sum-append (x ∷ xs) ys = let e = size_sum-append xs ys in omega arith

pub lengths_of-snoc : (xs : List Excerpt) (x : Excerpt) → lengths_of (xs ++ x ∷ []) ≡ add_lengths (lengths_of xs) (lengths_of_excerpt x)
lengths_of-snoc xs x = same_lengths (lengths_of (xs ++ x ∷ [])) (add_lengths (lengths_of xs) (lengths_of_excerpt x))
    (omega (arith, length-append xs (x ∷ []))) (omega (arith, size_sum-append xs (x ∷ [])))

-- the width of excerpts is where the text goes on after them
pub width_is : (xs : List Excerpt) → width xs ≡ offset_after (lengths_of xs)
width_is [] = omega arith
width_is (x ∷ xs) = let e = width_is xs in omega arith

pub width-append : (xs ys : List Excerpt) → width (xs ++ ys) ≡ width xs + width ys
width-append [] ys = omega arith
width-append (x ∷ xs) ys = let e = width-append xs ys in omega arith

short-push : (xs : List Excerpt) (x : Excerpt) → AllByRecursion IsShort xs → IsShort x → AllByRecursion IsShort (xs ++ x ∷ [])
short-push [] x a s = (s, tt)
short-push (y ∷ xs) x a s = (a.0, short-push xs x a.1 s)

pub AreShort-push : (xs : List Excerpt) (x : Excerpt) → AreShort xs → length xs < 2 ^ 20 → IsShort x → AreShort (xs ++ x ∷ [])
AreShort-push xs x a l s = record { few = omega (arith, length-append xs (x ∷ [])); each = short-push xs x a.each s }

pub AreShort-none : AreShort []
AreShort-none = record { few = omega arith; each = tt }
