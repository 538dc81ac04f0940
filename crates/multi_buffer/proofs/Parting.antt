-- Parts by the excerpt that a seek finds, and how the pieces of changes are gathered.
use Rattle.std.proofs.Common.{◌≡◌, inl, inr, ℕ, suc, ◌+◌, ◌-◌, ◌≤◌, ◌<◌, Bool, true, false, cond, leb, List, [], ◌∷◌, ◌++◌, length, Option, Some, None, is_some, refl, sym, ap, ◌∙◌, arith}
use Rattle.std.specs.List.{AllByRecursion}
use Rattle.std.proofs.lemmas.Bool.{cases_Bool, le-leb, lt-leb}
use Rattle.std.proofs.lemmas.Bool.Decides.{nat_tests}
use Rattle.op_model.specs.Edits.{is_boundary}
use Rattle.multi_buffer.specs.declared.excerpt.Excerpt.{Excerpt}
use Rattle.multi_buffer.specs.declared.source.Source.{Source}
use Rattle.multi_buffer.specs.declared.lengths.Lengths.{Lengths}
use Rattle.multi_buffer.specs.declared.parts.Part.{Part}
use Rattle.multi_buffer.specs.declared.places.Place.{Place}
use Rattle.multi_buffer.specs.State.{multi_text, size, IsSynced}
use Rattle.multi_buffer.specs.Places.{source_place, to_source, width}
use Rattle.multi_buffer.specs.Following.{state_of}
use Rattle.multi_buffer.specs.Found.{IsAtOffset}
use Rattle.multi_buffer.specs.Lengths.{offset_after}
use Rattle.multi_buffer.specs.Splits.{part_at, part_in}
use Rattle.multi_buffer.specs.Groups.{part_here}
use Rattle.multi_buffer.proofs.Boundaries.{boundary_within}
use Rattle.multi_buffer.proofs.Lines.{shown_count}
use Rattle.multi_buffer.proofs.Sums.{width_is}
use Rattle.multi_buffer.proofs.Faultless.{same_part}

yes : (t : Bool) (p q : Option Part) → t ≡ true → cond t p q ≡ p
yes t p q e = rw e refl

no : (t : Bool) (p q : Option Part) → t ≡ false → cond t p q ≡ q
no t p q e = rw e refl

same_test : (t u : Bool) (p q : Option Part) → t ≡ u → p ≡ q → cond t p None ≡ cond u q None
same_test t u p q e f = rw (e, f) refl

-- ---- the excerpt that has the start

part_here_in : (k : ℕ) (pre : List Excerpt) (x : Excerpt) (post : List Excerpt) (s e : ℕ) → width pre ≤ s → s ≤ width pre + size x
    → part_in k (pre ++ x ∷ post) s e ≡ cond (leb (e - width pre) (size x)) (Some (part_at (k + length pre) x (s - width pre) (e - width pre))) None
part_here_in k [] x post s e l m =
    let z : e ≡ e - 0 = omega arith in
    yes (leb s (size x)) (cond (leb e (size x)) (Some (part_at k x s e)) None) (part_in (suc k) post (s - suc (size x)) (e - suc (size x))) (le-leb s (size x) (omega arith))
    ∙ same_test (leb e (size x)) (leb (e - 0) (size x)) (Some (part_at k x s e)) (Some (part_at (k + 0) x (s - 0) (e - 0))) (ap (λ (n : ℕ). leb n (size x)) z)
    (ap (λ (q : Part). Some q) (same_part k (k + 0) x s (s - 0) e (e - 0) (omega arith) (omega arith) (omega arith)))
part_here_in k (y ∷ pre) x post s e l m =
    let z : e - suc (size y) - width pre ≡ e - width (y ∷ pre) = omega arith in
    no (leb s (size y)) (cond (leb e (size y)) (Some (part_at k y s e)) None) (part_in (suc k) (pre ++ x ∷ post) (s - suc (size y)) (e - suc (size y))) (lt-leb s (size y) (omega arith))
    ∙ part_here_in (suc k) pre x post (s - suc (size y)) (e - suc (size y)) (omega arith) (omega arith)
    ∙ same_test (leb (e - suc (size y) - width pre) (size x)) (leb (e - width (y ∷ pre)) (size x)) (Some (part_at (suc k + length pre) x (s - suc (size y) - width pre) (e - suc (size y) - width pre))) (Some (part_at (k + length (y ∷ pre)) x (s - width (y ∷ pre)) (e - width (y ∷ pre))))
    (ap (λ (n : ℕ). leb n (size x)) z)
    (ap (λ (q : Part). Some q) (same_part (suc k + length pre) (k + length (y ∷ pre)) x (s - suc (size y) - width pre) (s - width (y ∷ pre)) (e - suc (size y) - width pre) (e - width (y ∷ pre)) (omega arith) (omega arith) z))

part_past : (k : ℕ) (xs : List Excerpt) (s e : ℕ) → width xs ≤ s → part_in k xs s e ≡ None
part_past k [] s e l = refl
part_past k (x ∷ xs) s e l =
    no (leb s (size x)) (cond (leb e (size x)) (Some (part_at k x s e)) None) (part_in (suc k) xs (s - suc (size x)) (e - suc (size x))) (lt-leb s (size x) (omega arith))
    ∙ part_past (suc k) xs (s - suc (size x)) (e - suc (size x)) (omega arith)

module _ (xs : List Excerpt) (s e : ℕ) (b : Lengths) where
  pub part_none : IsAtOffset xs s None b → None ≡ part_in 0 xs s e
  part_none f = let w = width_is xs in let q = ap offset_after f.0 in let l = f.1 in sym (part_past 0 xs s e (omega arith))

  pub part_found : (x : Excerpt) → IsAtOffset xs s (Some x) b → part_here x b s e ≡ part_in 0 xs s e
  part_found x f =
      let w : width f.0 ≡ offset_after b = width_is f.0 ∙ ap offset_after (sym f.3) in
      let l = f.4 in
      let m = f.5 in
      let n : b.excerpts ≡ 0 + length f.0 = (let q = ap (λ (y : Lengths). y.excerpts) f.3 in omega arith) in
      let z : e - offset_after b ≡ e - width f.0 = omega arith in
      same_test (leb (e - offset_after b) (size x)) (leb (e - width f.0) (size x)) (Some (part_at b.excerpts x (s - offset_after b) (e - offset_after b))) (Some (part_at (0 + length f.0) x (s - width f.0) (e - width f.0)))
      (ap (λ (k : ℕ). leb k (size x)) z)
      (ap (λ (q : Part). Some q) (same_part b.excerpts (0 + length f.0) x (s - offset_after b) (s - width f.0) (e - offset_after b) (e - width f.0) n (omega arith) z))
      ∙ sym (ap (λ (ys : List Excerpt). part_in 0 ys s e) f.2 ∙ part_here_in 0 f.0 x f.1 s e (omega arith) (omega arith))

-- ---- positions

place_there : (k : ℕ) (xs : List Excerpt) (o : ℕ) → o < width xs → is_some (source_place k xs o) ≡ true
place_there k [] o l = absurd (omega arith)
place_there k (x ∷ xs) o l = elim (cases_Bool (leb o (size x))) [
  | inl t ↦ rw t refl
  | inr t ↦ (let u : size x < o = grind (arith, nat_tests, t) in rw t (place_there (suc k) xs (o - suc (size x)) (omega arith)))
]

some_if : (t : Bool) (p : Option Place) → (t ≡ true → is_some p ≡ true) → is_some (cond t p None) ≡ t
some_if true p f = f refl
some_if false p f = refl

-- where there is an excerpt, the positions are those that have a place
pub position_is : (xs : List Excerpt) (ss : List Source) → AllByRecursion (IsSynced ss) xs → (xs ≡ [] → ⊥) → (o : ℕ) → is_some (to_source (state_of xs ss) o) ≡ is_boundary (multi_text (state_of xs ss)) o
position_is [] ss a n o = absurd (n refl)
position_is (x ∷ xs) ss a n o =
    some_if (is_boundary (multi_text (state_of (x ∷ xs) ss)) o) (source_place 0 (x ∷ xs) o)
    (λ t. (let w = boundary_within (multi_text (state_of (x ∷ xs) ss)) o t in let c = shown_count ss x xs a in place_there 0 (x ∷ xs) o (omega arith)))
