-- Texts of excerpts with an LF between two: their lengths and their boundaries.
use Rattle.std.proofs.Common.{◌≡◌, ℕ, zero, suc, ◌+◌, ◌-◌, ◌≤◌, List, [], ◌∷◌, ◌++◌, length, length-append, map, take, Option, Some, None, refl, sym, ap, ◌∙◌, subst, append_assoc, arith}
use Rattle.std.specs.Prelude.{slice_get}
use Rattle.std.specs.List.{AllByRecursion}
use Rattle.std.proofs.lemmas.List.{take_more, take_all}
use Rattle.std.proofs.lemmas.Option.{slice_get_within, get_or_from_slice_get}
use Rattle.op_model.specs.Edits.{is_boundary}
use Rattle.op_model.specs.Shown.{text}
use Rattle.multi_buffer.specs.declared.excerpt.Excerpt.{Excerpt}
use Rattle.multi_buffer.specs.declared.source.Source.{Source}
use Rattle.multi_buffer.specs.State.{excerpt_text, history_in, history_of, lines, size, source_of, IsExcerpt, IsExcerptIn, IsSynced}
use Rattle.multi_buffer.specs.Places.{width}
use Rattle.multi_buffer.specs.Lengths.{size_sum}
use Rattle.multi_buffer.specs.Breaks.{break_before}
use Rattle.multi_buffer.proofs.Sums.{width_is}
use Rattle.multi_buffer.proofs.Boundaries.{boundary_within, front_boundary, rest_boundary, slice_boundary, slice_count}

in_history : (o : Option Source) (x : Excerpt) → IsExcerptIn o x → IsExcerpt (history_in o) x
in_history None x i = absurd i
in_history (Some s) x i = i

module _ (ss : List Source) where
  pub excerpt_is : (x : Excerpt) → IsSynced ss x → IsExcerpt (history_of x.buffer ss) x
  excerpt_is x i = in_history (source_of x.buffer ss) x i

  pub excerpt_count : (x : Excerpt) → IsSynced ss x → length (excerpt_text ss x) ≡ size x
  excerpt_count x i =
      let e = excerpt_is x i in
      slice_count (text (history_of x.buffer ss)) x.start x.end (boundary_within (text (history_of x.buffer ss)) x.end e.end)

  excerpt_boundary : (x : Excerpt) (k : ℕ) → IsSynced ss x → k ≤ size x → is_boundary (excerpt_text ss x) k ≡ is_boundary (text (history_of x.buffer ss)) (x.start + k)
  excerpt_boundary x k i l = let e = excerpt_is x i in slice_boundary (text (history_of x.buffer ss)) x.start x.end k e.order e.end l

  -- the text of excerpts
  abbrev pub shown : List Excerpt → List ℕ
  shown xs = lines (map (excerpt_text ss) xs)

  shown_more : (t : List ℕ) (pre : List Excerpt) (x : Excerpt) (post : List Excerpt) → lines (t ∷ map (excerpt_text ss) (pre ++ x ∷ post)) ≡ t ++ 10 ∷ shown (pre ++ x ∷ post)
  shown_more t [] x post = refl
  shown_more t (y ∷ pre) x post = refl

  pub shown_count : (x : Excerpt) (xs : List Excerpt) → AllByRecursion (IsSynced ss) (x ∷ xs) → suc (length (shown (x ∷ xs))) ≡ width (x ∷ xs)
  shown_count x [] a = let e = excerpt_count x a.0 in omega arith
  shown_count x (y ∷ xs) a =
      let e = excerpt_count x a.0 in
      let r = shown_count y xs a.1 in
      let l = length-append (excerpt_text ss x) (10 ∷ shown (y ∷ xs)) in
      omega arith

  -- all bytes of excerpts, and the LFs between them
  pub all_count : (xs : List Excerpt) → AllByRecursion (IsSynced ss) xs → (n k b : ℕ) → n ≡ length xs → k ≡ n - 1 → b ≡ size_sum xs → b + k ≡ length (shown xs)
  all_count [] a n k b e f g = omega (arith, e, f, g)
  all_count (x ∷ xs) a n k b e f g =
      let c = shown_count x xs a in
      let w = width_is (x ∷ xs) in
      omega (arith, c, w, e, f, g)

  -- the boundaries of an excerpt are those of its buffer's text
  pub shown_boundary : (pre : List Excerpt) (x : Excerpt) (post : List Excerpt) (o : ℕ) → AllByRecursion (IsSynced ss) (pre ++ x ∷ post) → width pre ≤ o → o ≤ width pre + size x
      → is_boundary (shown (pre ++ x ∷ post)) o ≡ is_boundary (text (history_of x.buffer ss)) (x.start + (o - width pre))
  shown_boundary [] x [] o a l m = let e : o ≡ o - 0 = omega arith in
      excerpt_boundary x o a.0 (omega arith) ∙ ap (λ (k : ℕ). is_boundary (text (history_of x.buffer ss)) (x.start + k)) e
  shown_boundary [] x (y ∷ post) o a l m =
      let c = excerpt_count x a.0 in
      let e : o ≡ o - 0 = omega arith in
      front_boundary (excerpt_text ss x) 10 (shown (y ∷ post)) o refl (omega arith)
      ∙ excerpt_boundary x o a.0 (omega arith) ∙ ap (λ (k : ℕ). is_boundary (text (history_of x.buffer ss)) (x.start + k)) e
  shown_boundary (y ∷ pre) x post o a l m =
      let c = excerpt_count y a.0 in
      let n : o - suc (length (excerpt_text ss y)) ≡ o - suc (size y) = omega arith in
      let e : o - suc (size y) - width pre ≡ o - width (y ∷ pre) = omega arith in
      ap (λ (t : List ℕ). is_boundary t o) (shown_more (excerpt_text ss y) pre x post)
      ∙ rest_boundary (excerpt_text ss y) 10 (shown (pre ++ x ∷ post)) o (omega arith)
      ∙ ap (λ (k : ℕ). is_boundary (shown (pre ++ x ∷ post)) k) n
      ∙ shown_boundary pre x post (o - suc (size y)) a.1 (omega arith) (omega arith)
      ∙ ap (λ (k : ℕ). is_boundary (text (history_of x.buffer ss)) (x.start + k)) e

  -- ---- one excerpt more

  shown-snoc : (ys : List Excerpt) (x : Excerpt) → shown (ys ++ x ∷ []) ≡ (shown ys ++ break_before (length ys)) ++ excerpt_text ss x
  shown-snoc [] x = refl
  shown-snoc (y ∷ []) x = sym (append_assoc (excerpt_text ss y) (10 ∷ []) (excerpt_text ss x))
  shown-snoc (y ∷ z ∷ ys) x =
      let t : List ℕ = excerpt_text ss y in
      let u : List ℕ = shown (z ∷ ys) in
      let f : List ℕ = excerpt_text ss x in
      ap (λ (w : List ℕ). t ++ 10 ∷ w) (shown-snoc (z ∷ ys) x)
      ∙ sym (append_assoc t (10 ∷ (u ++ 10 ∷ [])) f)
      ∙ ap (λ (w : List ℕ). w ++ f) (sym (append_assoc t (10 ∷ u) (10 ∷ [])))

  taken_count : (i : ℕ) (xs : List Excerpt) (x : Excerpt) → slice_get xs i ≡ Some x → length (take i xs) ≡ i
  taken_count zero xs x e = refl
  taken_count (suc i) [] x e = cc
  taken_count (suc i) (y ∷ xs) x e = let r = taken_count i xs x e in omega arith

  pub shown_next : (xs : List Excerpt) (i : ℕ) (x : Excerpt) → slice_get xs i ≡ Some x → (shown (take i xs) ++ break_before i) ++ excerpt_text ss x ≡ shown (take (i + 1) xs)
  shown_next xs i x e =
      let t : take (i + 1) xs ≡ take i xs ++ x ∷ [] = take_more xs i x (slice_get_within xs i x e) ∙ ap (λ (y : Excerpt). take i xs ++ y ∷ []) (get_or_from_slice_get xs i x x e) in
      ap (λ (n : ℕ). (shown (take i xs) ++ break_before n) ++ excerpt_text ss x) (sym (taken_count i xs x e))
      ∙ sym (shown-snoc (take i xs) x) ∙ ap shown (sym t)

  pub shown_all : (xs : List Excerpt) (i : ℕ) → length xs ≤ i → shown (take i xs) ≡ shown xs
  shown_all xs i l = ap shown (take_all i xs l)

  -- the excerpt after some others is synced as they all are
  pub each_here : (pre : List Excerpt) (x : Excerpt) (post : List Excerpt) → AllByRecursion (IsSynced ss) (pre ++ x ∷ post) → IsSynced ss x
  each_here [] x post a = a.0
  each_here (y ∷ pre) x post a = each_here pre x post a.1

  pub each_at : (xs : List Excerpt) (i : ℕ) (x : Excerpt) → AllByRecursion (IsSynced ss) xs → slice_get xs i ≡ Some x → IsSynced ss x
  each_at [] i x a e = cc
  each_at (y ∷ xs) zero x a e = let q : y ≡ x = cc in subst (IsSynced ss) q a.0
  each_at (y ∷ xs) (suc i) x a e = each_at xs i x a.1 e
