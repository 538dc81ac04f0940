-- Pieces that are put among those of their buffers.
use Rattle.std.proofs.Common.{◌≡◌, ◌≢◌, inl, inr, ℕ, suc, ◌+◌, ◌≤◌, ◌<◌, Bool, true, false, cond, eqb, leb, ltb, List, [], ◌∷◌, ◌++◌, length, get_or, set, map, drop, Some, None, Result, Ok, Err, OnOk, refl, sym, ap, ◌∙◌, subst, arith}
use Rattle.std.specs.List.{insert, position, position_or_len}
use Rattle.std.proofs.lemmas.Bool.{cases_Bool, eq-eqb, ne_eqb}
use Rattle.std.proofs.lemmas.Bool.Decides.{nat_tests}
use Rattle.std.proofs.lemmas.List.{take_all, drop_all, get_or_default}
use Rattle.std.proofs.lemmas.Option.{same_Some}
use Rattle.op_model.specs.declared.operation.Piece.{Piece}
use Rattle.multi_buffer.specs.declared.grouping.Group.{Group}
use Rattle.multi_buffer.specs.declared.parts.BufferPieces.{BufferPieces}
use Rattle.multi_buffer.specs.Splits.{pieces_of_one, put_in, put_piece}
use Rattle.multi_buffer.specs.Groups.{is_after, is_from, pieces_in}

-- ---- the place that a search finds

number_is : (t : Bool) (n i : ℕ) → cond t (Some n) None ≡ Some i → (t ≡ true) × (n ≡ i)
number_is true n i e = (refl, same_Some n i e)
number_is false n i e = cc

no_number : (t : Bool) (n : ℕ) → cond t (Some n) None ≡ None → t ≡ false
no_number true n e = cc
no_number false n e = refl

module _ {X : Type 0} (t : X → Bool) (xs : List X) where
  pub found_at : (i : ℕ) → position t xs ≡ Some i → (i < length xs) × (position_or_len t xs ≡ i)
  found_at i e =
      let n = number_is (ltb (position_or_len t xs) (length xs)) (position_or_len t xs) i e in
      let l : position_or_len t xs < length xs = (let u = n.0 in grind (arith, nat_tests, u)) in
      let m = n.1 in
      (omega arith, m)

  not_found : position t xs ≡ None → length xs ≤ position_or_len t xs
  not_found e = let u = no_number (ltb (position_or_len t xs) (length xs)) (position_or_len t xs) e in grind (arith, nat_tests, u)

  put_last : (x : X) (i : ℕ) → length xs ≤ i → insert xs i x ≡ xs ++ x ∷ []
  put_last x i l = ap (λ (ys : List X). ys ++ x ∷ drop i xs) (take_all i xs l) ∙ ap (λ (ys : List X). xs ++ x ∷ ys) (drop_all i xs l)

-- ---- pieces

put_there : (p : Piece) (qs : List Piece) → insert qs (position_or_len (is_after p.start) qs) p ≡ put_piece p qs
put_there p [] = refl
put_there p (q ∷ qs) = elim (cases_Bool (ltb p.start q.start)) [
  | inl t ↦ (let u : leb q.start p.start ≡ false = grind (arith, nat_tests, t) in rw (t, u) refl)
  | inr t ↦ (let u : leb q.start p.start ≡ true = grind (arith, nat_tests, t) in let z : 1 + position_or_len (is_after p.start) qs ≡ suc (position_or_len (is_after p.start) qs) = omega arith in rw (t, u, z) (ap (λ (rs : List Piece). q ∷ rs) (put_there p qs)))
]

pub piece_between : (p : Piece) (qs : List Piece) (i : ℕ) → position (is_after p.start) qs ≡ Some i → insert qs i p ≡ put_piece p qs
piece_between p qs i e = ap (λ (n : ℕ). insert qs n p) (sym (found_at (is_after p.start) qs i e).1) ∙ put_there p qs

pub piece_last : (p : Piece) (qs : List Piece) → position (is_after p.start) qs ≡ None → qs ++ p ∷ [] ≡ put_piece p qs
piece_last p qs e = sym (put_last (is_after p.start) qs p (position_or_len (is_after p.start) qs) (not_found (is_after p.start) qs e)) ∙ put_there p qs

-- ---- groups

module _ (b : ℕ) (p : Piece) where
  abbrev first_group : List Group → ℕ
  first_group gs = position_or_len (is_from b) gs

  same_group : (g h : Group) → g.buffer ≡ b → g.pieces.items ≡ put_piece p h.pieces.items → pieces_in g ≡ record { buffer = b; pieces = put_piece p h.pieces.items }
  same_group g h e f = rw (e, f) refl

  one_group : (g : Group) → g.buffer ≡ b → g.pieces.items ≡ p ∷ [] → pieces_in g ≡ pieces_of_one b p
  one_group g e f = rw (e, f) refl

  group_at : (gs : List Group) (d g : Group) → first_group gs < length gs → (get_or gs (first_group gs) d).buffer ≡ b → g.buffer ≡ b
      → g.pieces.items ≡ put_piece p (get_or gs (first_group gs) d).pieces.items → map pieces_in (set gs (first_group gs) g) ≡ put_in b p (map pieces_in gs)
  group_at [] d g l e f q = absurd (omega arith)
  group_at (h ∷ gs) d g l e f q = elim (cases_Bool (leb b h.buffer)) [
    | inl t ↦ (
        let u : ltb h.buffer b ≡ false = grind (arith, nat_tests, t) in
        let e2 : h.buffer ≡ b = rw t at e in
        let q2 : g.pieces.items ≡ put_piece p h.pieces.items = rw t at q in
        let v : eqb h.buffer b ≡ true = eq-eqb h.buffer b e2 in
        rw (t, u, v) (ap (λ (x : BufferPieces). x ∷ map pieces_in gs) (same_group g h f q2)))
    | inr t ↦ (
        let u : ltb h.buffer b ≡ true = grind (arith, nat_tests, t) in
        let z : 1 + first_group gs ≡ suc (first_group gs) = omega arith in
        let l2 : suc (first_group gs) < suc (length gs) = rw (t, z) at l in
        let e2 : (get_or gs (first_group gs) d).buffer ≡ b = rw (t, z) at e in
        let q2 : g.pieces.items ≡ put_piece p (get_or gs (first_group gs) d).pieces.items = rw (t, z) at q in
        rw (t, u, z) (ap (λ (xs : List BufferPieces). pieces_in h ∷ xs) (group_at gs d g (omega arith) e2 f q2)))
  ]

  group_put : (gs : List Group) (d g : Group) → (first_group gs < length gs → (get_or gs (first_group gs) d).buffer ≢ b) → g.buffer ≡ b → g.pieces.items ≡ p ∷ []
      → map pieces_in (insert gs (first_group gs) g) ≡ put_in b p (map pieces_in gs)
  group_put [] d g n f q = ap (λ (x : BufferPieces). x ∷ []) (one_group g f q)
  group_put (h ∷ gs) d g n f q = elim (cases_Bool (leb b h.buffer)) [
    | inl t ↦ (
        let u : ltb h.buffer b ≡ false = grind (arith, nat_tests, t) in
        let n2 : 0 < suc (length gs) → h.buffer ≢ b = rw t at n in
        let v : eqb h.buffer b ≡ false = ne_eqb h.buffer b (n2 (omega arith)) in
        rw (t, u, v) (ap (λ (x : BufferPieces). x ∷ pieces_in h ∷ map pieces_in gs) (one_group g f q)))
    | inr t ↦ (
        let u : ltb h.buffer b ≡ true = grind (arith, nat_tests, t) in
        let z : 1 + first_group gs ≡ suc (first_group gs) = omega arith in
        let n2 : suc (first_group gs) < suc (length gs) → (get_or gs (first_group gs) d).buffer ≢ b = rw (t, z) at n in
        rw (t, u, z) (ap (λ (xs : List BufferPieces). pieces_in h ∷ xs) (group_put gs d g (λ l. n2 (omega arith)) f q)))
  ]

  module _ (gs : List Group) (g : Group) (same : g.buffer ≡ b) where
    pub in_group : (i : ℕ) (d s : Group) → position (is_from b) gs ≡ Some i → (get_or gs i s).buffer ≡ b → g.pieces.items ≡ put_piece p (get_or gs i d).pieces.items → map pieces_in (set gs i g) ≡ put_in b p (map pieces_in gs)
    in_group i d s e r q =
        let n = found_at (is_from b) gs i e in
        let k : i ≡ first_group gs = sym n.1 in
        let l = n.0 in
        let f : (get_or gs i d).buffer ≡ b = ap (λ (h : Group). h.buffer) (get_or_default gs i d s l) ∙ r in
        ap (λ (j : ℕ). map pieces_in (set gs j g)) k
        ∙ group_at gs d g (omega (arith, l, k)) (subst (λ (j : ℕ). (get_or gs j d).buffer ≡ b) k f) same (subst (λ (j : ℕ). g.pieces.items ≡ put_piece p (get_or gs j d).pieces.items) k q)

    pub group_between : (i : ℕ) (d : Group) → position (is_from b) gs ≡ Some i → (get_or gs i d).buffer ≢ b → g.pieces.items ≡ p ∷ [] → map pieces_in (insert gs i g) ≡ put_in b p (map pieces_in gs)
    group_between i d e f q =
        let k : i ≡ first_group gs = sym (found_at (is_from b) gs i e).1 in
        ap (λ (j : ℕ). map pieces_in (insert gs j g)) k ∙ group_put gs d g (λ l. subst (λ (j : ℕ). (get_or gs j d).buffer ≢ b) k f) same q

    pub group_last : position (is_from b) gs ≡ None → g.pieces.items ≡ p ∷ [] → map pieces_in (gs ++ g ∷ []) ≡ put_in b p (map pieces_in gs)
    group_last e q =
        let l = not_found (is_from b) gs e in
        ap (map pieces_in) (sym (put_last (is_from b) gs g (first_group gs) l)) ∙ group_put gs g g (λ m. absurd (omega arith)) same q

pub on_ok : {T E : Type 0} (r : Result T E) {P Q : Type 0} → (P → Q) → OnOk r P → OnOk r Q
on_ok (Ok x) f p = f p
on_ok (Err e) f p = tt
