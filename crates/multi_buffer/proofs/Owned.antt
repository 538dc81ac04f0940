-- The changes of each excerpt: as changes of the text of all excerpts, and as pieces of its buffer.
use Rattle.std.proofs.Common.{◌≡◌, inl, inr, ℕ, suc, ◌+◌, ◌-◌, ◌≤◌, ◌<◌, Bool, true, false, cond, eqb, leb, List, [], ◌∷◌, ◌++◌, length, map, Option, Some, None, is_none, refl, sym, ap, ◌∙◌, subst, arith}
use Rattle.std.specs.List.{AllByRecursion}
use Rattle.std.proofs.lemmas.Bool.{cases_Bool, eq-eqb, leb-true, lt-leb, ne_eqb}
use Rattle.std.proofs.lemmas.Bool.Decides.{nat_tests}
use Rattle.std.proofs.lemmas.Option.{same_Some}
use Rattle.op_model.specs.declared.operation.Piece.{Piece}
use Rattle.op_model.specs.Walked.{Ordered as AreWithin}
use Rattle.multi_buffer.specs.declared.excerpt.Excerpt.{Excerpt}
use Rattle.multi_buffer.specs.declared.source.Source.{Source}
use Rattle.multi_buffer.specs.declared.parts.Part.{Part}
use Rattle.multi_buffer.specs.State.{excerpt_text, size, IsSynced}
use Rattle.multi_buffer.specs.Splits.{part_at, part_in, piece_of}
use Rattle.multi_buffer.proofs.Faultless.{has_part, AreOrdered}
use Rattle.multi_buffer.proofs.Lines.{excerpt_count}
use Rattle.multi_buffer.proofs.Replacing.{AreEach, joined_pieces, later, move_by}

-- ---- as changes of the text of all excerpts

-- those that start in the first s bytes or at their end
abbrev pub front : ℕ → List Piece → List Piece
front s [] = []
front s (p ∷ ps) = cond (leb p.start s) (p ∷ front s ps) (front s ps)

abbrev pub sooner : ℕ → Piece → Piece
sooner c p = record { start = p.start - c; end = p.end - c; text = p.text }

-- the others, as changes of what follows the LF
abbrev pub rest : ℕ → List Piece → List Piece
rest s [] = []
rest s (p ∷ ps) = cond (leb p.start s) (rest s ps) (sooner (suc s) p ∷ rest s ps)

-- the changes of each excerpt
abbrev pub each_of : List Excerpt → List Piece → List (List Piece)
each_of [] ps = []
each_of (x ∷ xs) ps = front (size x) ps ∷ each_of xs (rest (size x) ps)

-- an excerpt holds each change, the first of them being excerpt k
abbrev pub AllIn : ℕ → List Excerpt → List Piece → Type 0
AllIn k xs ps = AllByRecursion (λ (p : Piece). is_none (part_in k xs p.start p.end) ≡ false) ps

ordered_from : (a b : ℕ) (ps : List Piece) → a ≤ b → AreOrdered b ps → AreOrdered a ps
ordered_from a b [] l o = tt
ordered_from a b (p ∷ ps) l o = let m = o.0 in (omega arith, o.1, o.2)

front_none : (s at : ℕ) (ps : List Piece) → s < at → AreOrdered at ps → front s ps ≡ []
front_none s at [] l o = refl
front_none s at (p ∷ ps) l o =
    let m = o.0 in
    let n = o.1 in
    let t : leb p.start s ≡ false = lt-leb p.start s (omega arith) in
    rw t (front_none s p.end ps (omega arith) o.2)

rest_ordered : (s at : ℕ) (ps : List Piece) → AreOrdered at ps → AreOrdered (at - suc s) (rest s ps)
rest_ordered s at [] o = tt
rest_ordered s at (p ∷ ps) o =
    let m = o.0 in
    let n = o.1 in
    let ih = rest_ordered s p.end ps o.2 in
    elim (cases_Bool (leb p.start s)) [
      | inl t ↦ rw t (ordered_from (at - suc s) (p.end - suc s) (rest s ps) (omega arith) ih)
      | inr t ↦ rw t (omega arith, omega arith, ih)
    ]

in_here : (t : Bool) (q : Part) → is_none (cond t (Some q) None) ≡ false → t ≡ true
in_here true q e = refl
in_here false q e = cc

front_within : (k at : ℕ) (x : Excerpt) (xs : List Excerpt) (ps : List Piece) → at ≤ size x → AreOrdered at ps → AllIn k (x ∷ xs) ps → AreWithin at (size x) (front (size x) ps)
front_within k at x xs [] l o i = l
front_within k at x xs (p ∷ ps) l o i = elim (cases_Bool (leb p.start (size x))) [
  | inl t ↦ (
      let e : is_none (cond (leb p.end (size x)) (Some (part_at k x p.start p.end)) None) ≡ false = rw t at i.0 in
      let u : leb p.end (size x) ≡ true = in_here (leb p.end (size x)) (part_at k x p.start p.end) e in
      let m = leb-true p.end (size x) u in
      rw t (o.0, o.1, front_within k p.end x xs ps m o.2 i.1))
  | inr t ↦ (
      let u : size x < p.start = grind (arith, nat_tests, t) in
      let m = o.1 in
      let n : front (size x) ps ≡ [] = front_none (size x) p.end ps (omega arith) o.2 in
      rw (t, n) l)
]

rest_in : (k : ℕ) (x : Excerpt) (xs : List Excerpt) (ps : List Piece) → AllIn k (x ∷ xs) ps → AllIn (suc k) xs (rest (size x) ps)
rest_in k x xs [] i = tt
rest_in k x xs (p ∷ ps) i = elim (cases_Bool (leb p.start (size x))) [
  | inl t ↦ rw t (rest_in k x xs ps i.1)
  | inr t ↦ (let e : is_none (part_in (suc k) xs (p.start - suc (size x)) (p.end - suc (size x))) ≡ false = rw t at i.0 in rw t (e, rest_in k x xs ps i.1))
]

abbrev pub as_piece : ℕ → ℕ → List ℕ → Piece
as_piece s e t = record { start = s; end = e; text = t }

pub moved_back : (c : ℕ) (p : Piece) → c ≤ p.start → p.start ≤ p.end → move_by c (sooner c p) ≡ p
moved_back c p l m =
    let a : c + (p.start - c) ≡ p.start = omega arith in
    let b : c + (p.end - c) ≡ p.end = omega arith in
    go (c + (p.start - c)) p.start (c + (p.end - c)) p.end a b
  where
    go : (s t e f : ℕ) → s ≡ t → e ≡ f → as_piece s e p.text ≡ as_piece t f p.text
    go s t e f i j = rw (i, j) refl

front_rest : (s at : ℕ) (ps : List Piece) → AreOrdered at ps → front s ps ++ later (suc s) (rest s ps) ≡ ps
front_rest s at [] o = refl
front_rest s at (p ∷ ps) o = elim (cases_Bool (leb p.start s)) [
  | inl t ↦ rw t (ap (λ (qs : List Piece). p ∷ qs) (front_rest s p.end ps o.2))
  | inr t ↦ (
      let u : s < p.start = grind (arith, nat_tests, t) in
      let m = o.1 in
      let n : front s ps ≡ [] = front_none s p.end ps (omega arith) o.2 in
      let r : front s ps ++ later (suc s) (rest s ps) ≡ ps = front_rest s p.end ps o.2 in
      let q : later (suc s) (rest s ps) ≡ ps = rw n at r in
      rw (t, n) (ap (λ (z : Piece). z ∷ later (suc s) (rest s ps)) (moved_back (suc s) p (omega arith) m) ∙ ap (λ (qs : List Piece). p ∷ qs) q))
]

module _ (ss : List Source) where
  -- the changes are those of each excerpt
  pub joined_are : (k at : ℕ) (xs : List Excerpt) (ps : List Piece) → AllByRecursion (IsSynced ss) xs → AreOrdered at ps → AllIn k xs ps → joined_pieces (map (excerpt_text ss) xs) (each_of xs ps) ≡ ps
  joined_are k at [] [] a o i = refl
  joined_are k at [] (p ∷ ps) a o i = let e = i.0 in cc
  joined_are k at (x ∷ xs) ps a o i =
      ap (λ (n : ℕ). front (size x) ps ++ later (suc n) (joined_pieces (map (excerpt_text ss) xs) (each_of xs (rest (size x) ps)))) (excerpt_count ss x a.0)
      ∙ ap (λ (qs : List Piece). front (size x) ps ++ later (suc (size x)) qs)
      (joined_are (suc k) (at - suc (size x)) xs (rest (size x) ps) a.1 (rest_ordered (size x) at ps o) (rest_in k x xs ps i))
      ∙ front_rest (size x) at ps o

  pub each_within : (k at : ℕ) (xs : List Excerpt) (ps : List Piece) → AllByRecursion (IsSynced ss) xs → AreOrdered at ps → AllIn k xs ps → AreEach (map (excerpt_text ss) xs) (each_of xs ps)
  each_within k at [] ps a o i = tt
  each_within k at (x ∷ xs) ps a o i = (
    subst (λ (n : ℕ). AreWithin 0 n (front (size x) ps)) (sym (excerpt_count ss x a.0)) (front_within k 0 x xs ps (omega arith) (ordered_from 0 at ps (omega arith) o) i),
    each_within (suc k) (at - suc (size x)) xs (rest (size x) ps) a.1 (rest_ordered (size x) at ps o) (rest_in k x xs ps i),
  )

-- ---- the pieces of one excerpt

abbrev pub keep_own : ℕ → Option Part → Piece → List Piece → List Piece
keep_own i None p rs = rs
keep_own i (Some q) p rs = cond (eqb q.excerpt i) (piece_of q p ∷ rs) rs

-- the pieces of the buffer that excerpt i holds, the first excerpt being excerpt k
abbrev pub own : ℕ → List Excerpt → ℕ → List Piece → List Piece
own k xs i [] = []
own k xs i (p ∷ ps) = keep_own i (part_in k xs p.start p.end) p (own k xs i ps)

keep_not : (i : ℕ) (o : Option Part) (p : Piece) (rs : List Piece) → ((q : Part) → o ≡ Some q → q.excerpt ≡ i → ⊥) → keep_own i o p rs ≡ rs
keep_not i None p rs n = refl
keep_not i (Some q) p rs n = let t : eqb q.excerpt i ≡ false = ne_eqb q.excerpt i (n q refl) in rw t refl

keep_is : (i : ℕ) (o : Option Part) (q : Part) (p : Piece) (rs : List Piece) → o ≡ Some q → q.excerpt ≡ i → keep_own i o p rs ≡ piece_of q p ∷ rs
keep_is i o q p rs e f = let t : eqb q.excerpt i ≡ true = eq-eqb q.excerpt i f in ap (λ (z : Option Part). keep_own i z p rs) e ∙ pick (eqb q.excerpt i) t
  where
    pick : (b : Bool) → b ≡ true → cond b (piece_of q p ∷ rs) rs ≡ piece_of q p ∷ rs
    pick b t = rw t refl

keep_sooner : (i c : ℕ) (o : Option Part) (p : Piece) (rs us : List Piece) → rs ≡ us → keep_own i o p rs ≡ keep_own i o (sooner c p) us
keep_sooner i c None p rs us e = e
keep_sooner i c (Some q) p rs us e = ap (λ (zs : List Piece). cond (eqb q.excerpt i) (piece_of q p ∷ zs) zs) e

part_index : (k : ℕ) (xs : List Excerpt) (s e : ℕ) (q : Part) → part_in k xs s e ≡ Some q → k ≤ q.excerpt
part_index k xs s e q f = let h = has_part k xs s e q f in let i = ap (λ (z : Part). z.excerpt) h.is in omega arith

own_here : (k : ℕ) (x : Excerpt) (xs : List Excerpt) (ps : List Piece) → AllIn k (x ∷ xs) ps → own k (x ∷ xs) k ps ≡ later x.start (front (size x) ps)
own_here k x xs [] i = refl
own_here k x xs (p ∷ ps) i = elim (cases_Bool (leb p.start (size x))) [
  | inl t ↦ (
      let e : is_none (cond (leb p.end (size x)) (Some (part_at k x p.start p.end)) None) ≡ false = rw t at i.0 in
      let u : leb p.end (size x) ≡ true = in_here (leb p.end (size x)) (part_at k x p.start p.end) e in
      let v : eqb k k ≡ true = eq-eqb k k refl in
      rw (t, u, v) (ap (λ (zs : List Piece). move_by x.start p ∷ zs) (own_here k x xs ps i.1)))
  | inr t ↦ (
      let n : keep_own k (part_in (suc k) xs (p.start - suc (size x)) (p.end - suc (size x))) p (own k (x ∷ xs) k ps) ≡ own k (x ∷ xs) k ps =
      keep_not k (part_in (suc k) xs (p.start - suc (size x)) (p.end - suc (size x))) p (own k (x ∷ xs) k ps)
      (λ q f g. (let l = part_index (suc k) xs (p.start - suc (size x)) (p.end - suc (size x)) q f in omega (arith, l, g))) in
      rw t (n ∙ own_here k x xs ps i.1))
]

own_there : (k i : ℕ) (x : Excerpt) (xs : List Excerpt) (ps : List Piece) → k < i → own k (x ∷ xs) i ps ≡ own (suc k) xs i (rest (size x) ps)
own_there k i x xs [] l = refl
own_there k i x xs (p ∷ ps) l = elim (cases_Bool (leb p.start (size x))) [
  | inl t ↦ (
      let n : keep_own i (cond (leb p.end (size x)) (Some (part_at k x p.start p.end)) None) p (own k (x ∷ xs) i ps) ≡ own k (x ∷ xs) i ps =
      keep_not i (cond (leb p.end (size x)) (Some (part_at k x p.start p.end)) None) p (own k (x ∷ xs) i ps) (λ q f g. (let h = at_k (leb p.end (size x)) (part_at k x p.start p.end) q refl f in omega (arith, l, g, h))) in
      rw t (n ∙ own_there k i x xs ps l))
  | inr t ↦ rw t (keep_sooner i (suc (size x)) (part_in (suc k) xs (p.start - suc (size x)) (p.end - suc (size x))) p (own k (x ∷ xs) i ps) (own (suc k) xs i (rest (size x) ps)) (own_there k i x xs ps l))
]
  where
    at_k : (t : Bool) (r q : Part) → r.excerpt ≡ k → cond t (Some r) None ≡ Some q → q.excerpt ≡ k
    at_k true r q e f = sym (ap (λ (z : Part). z.excerpt) (same_Some r q f)) ∙ e
    at_k false r q e f = cc

-- the changes after those of the first excerpts
abbrev pub rests : List Excerpt → List Piece → List Piece
rests [] ps = ps
rests (x ∷ xs) ps = rests xs (rest (size x) ps)

pub own_is : (k : ℕ) (pre : List Excerpt) (x : Excerpt) (post : List Excerpt) (ps : List Piece) → AllIn k (pre ++ x ∷ post) ps → own k (pre ++ x ∷ post) (k + length pre) ps ≡ later x.start (front (size x) (rests pre ps))
own_is k [] x post ps i = let z : k + 0 ≡ k = omega arith in ap (λ (n : ℕ). own k (x ∷ post) n ps) z ∙ own_here k x post ps i
own_is k (y ∷ pre) x post ps i =
    let z : k + suc (length pre) ≡ suc k + length pre = omega arith in
    own_there k (k + suc (length pre)) y (pre ++ x ∷ post) ps (omega arith)
    ∙ ap (λ (n : ℕ). own (suc k) (pre ++ x ∷ post) n (rest (size y) ps)) z
    ∙ own_is (suc k) pre x post (rest (size y) ps) (rest_in k y (pre ++ x ∷ post) ps i)

pub own_within : (k at : ℕ) (pre : List Excerpt) (x : Excerpt) (post : List Excerpt) (ps : List Piece) → AreOrdered at ps → AllIn k (pre ++ x ∷ post) ps → AreWithin 0 (size x) (front (size x) (rests pre ps))
own_within k at [] x post ps o i = front_within k 0 x post ps (omega arith) (ordered_from 0 at ps (omega arith) o) i
own_within k at (y ∷ pre) x post ps o i = own_within (suc k) (at - suc (size y)) pre x post (rest (size y) ps) (rest_ordered (size y) at ps o) (rest_in k y (pre ++ x ∷ post) ps i)
