-- The pieces of one buffer: those before an excerpt, its own, and those after it.
use Rattle.std.proofs.Common.{◌≡◌, ◌⊎◌, inl, inr, ℕ, suc, ◌+◌, ◌-◌, ◌≤◌, ◌<◌, ◌&&◌, Bool, true, false, cond, eqb, leb, ltb, List, [], ◌∷◌, ◌++◌, length, take, Option, Some, None, refl, sym, ap, ◌∙◌, subst, arith, append_assoc, append-nil}
use Rattle.std.specs.Prelude.{slice_get}
use Rattle.std.specs.List.{AllByRecursion, filter}
use Rattle.std.proofs.lemmas.Bool.{cases_Bool, eqb-true, eq-eqb, le-leb, leb-true, lt-leb, le-ltb, ne_eqb}
use Rattle.std.proofs.lemmas.Bool.Decides.{nat_tests}
use Rattle.std.proofs.lemmas.Option.{same_Some}
use Rattle.op_model.specs.declared.operation.Piece.{Piece}
use Rattle.multi_buffer.specs.declared.excerpt.Excerpt.{Excerpt}
use Rattle.multi_buffer.specs.declared.parts.Part.{Part}
use Rattle.multi_buffer.specs.declared.parts.BufferPieces.{BufferPieces}
use Rattle.multi_buffer.specs.Places.{width}
use Rattle.multi_buffer.specs.Splits.{meets, part_of, piece_of, put_in, put_part, put_piece, sharing, sharing_of, split_from}
use Rattle.multi_buffer.proofs.Answering.{get_here, take_here}
use Rattle.multi_buffer.proofs.Faultless.{beside, each_put_piece, has_part, not_meeting, AreOrdered}
use Rattle.multi_buffer.proofs.Owned.{keep_own, own}

-- ---- the pieces of a buffer among those of all

abbrev pub pieces_for : ℕ → List BufferPieces → List Piece
pieces_for b [] = []
pieces_for b (g ∷ gs) = cond (eqb g.buffer b) g.pieces (pieces_for b gs)

-- the buffers ascend from n on
abbrev pub GroupsAscend : ℕ → List BufferPieces → Type 0
GroupsAscend n [] = Unit {0}
GroupsAscend n (g ∷ gs) = (n ≤ g.buffer) × GroupsAscend (suc g.buffer) gs

none_for : (b n : ℕ) (gs : List BufferPieces) → b < n → GroupsAscend n gs → pieces_for b gs ≡ []
none_for b n [] l a = refl
none_for b n (g ∷ gs) l a =
    let m = a.0 in
    let t : eqb g.buffer b ≡ false = ne_eqb g.buffer b (λ e. omega (arith, e, l, m)) in
    rw t (none_for b (suc g.buffer) gs (omega arith) a.1)

pub groups_put : (n b : ℕ) (p : Piece) (gs : List BufferPieces) → n ≤ b → GroupsAscend n gs → GroupsAscend n (put_in b p gs)
groups_put n b p [] l a = (l, tt)
groups_put n b p (g ∷ gs) l a = elim (cases_Bool (ltb g.buffer b)) [
  | inl t ↦ (let u : g.buffer < b = grind (arith, nat_tests, t) in rw t (a.0, groups_put (suc g.buffer) b p gs (omega arith) a.1))
  | inr t ↦ elim (cases_Bool (eqb g.buffer b)) [
    | inl u ↦ (let e = eqb-true g.buffer b u in rw (t, u) (l, subst (λ (m : ℕ). GroupsAscend (suc m) gs) e a.1))
    | inr u ↦ (
        let v : b ≤ g.buffer = grind (arith, nat_tests, t) in
        let ne : g.buffer ≡ b → ⊥ = λ q. (let w : eqb g.buffer b ≡ true = eq-eqb g.buffer b q in let z : ⊥ = cc in z) in
        rw (t, u) (l, (omega (arith, ne, v), a.1)))
  ]
]

pub pieces_put : (n b c : ℕ) (p : Piece) (gs : List BufferPieces) → GroupsAscend n gs → pieces_for b (put_in c p gs) ≡ cond (eqb c b) (put_piece p (pieces_for b gs)) (pieces_for b gs)
pieces_put n b c p [] a = refl
pieces_put n b c p (g ∷ gs) a = elim (cases_Bool (ltb g.buffer c)) [
  | inl t ↦ (let u : g.buffer < c = grind (arith, nat_tests, t) in rw t (later_group (eqb g.buffer b) refl u (pieces_put (suc g.buffer) b c p gs a.1)))
  | inr t ↦ elim (cases_Bool (eqb g.buffer c)) [
    | inl u ↦ (let e = eqb-true g.buffer c u in rw (t, u) (this_group (eqb c b) (ap (λ (m : ℕ). eqb m b) e)))
    | inr u ↦ (
        let v : c ≤ g.buffer = grind (arith, nat_tests, t) in
        let ne : g.buffer ≡ c → ⊥ = λ q. (let w : eqb g.buffer c ≡ true = eq-eqb g.buffer c q in let z : ⊥ = cc in z) in
        rw (t, u) (new_group (eqb c b) refl (omega (arith, ne, v))))
  ]
]
  where
    later_group : (k : Bool) → eqb g.buffer b ≡ k → g.buffer < c → pieces_for b (put_in c p gs) ≡ cond (eqb c b) (put_piece p (pieces_for b gs)) (pieces_for b gs)
        → cond k g.pieces (pieces_for b (put_in c p gs)) ≡ cond (eqb c b) (put_piece p (cond k g.pieces (pieces_for b gs))) (cond k g.pieces (pieces_for b gs))
    later_group true e l ih =
        let f = eqb-true g.buffer b e in
        let u : eqb c b ≡ false = ne_eqb c b (λ q. omega (arith, q, f, l)) in
        rw u refl
    later_group false e l ih = ih

    this_group : (k : Bool) → eqb g.buffer b ≡ k → cond k (put_piece p g.pieces) (pieces_for b gs) ≡ cond k (put_piece p (cond (eqb g.buffer b) g.pieces (pieces_for b gs))) (cond (eqb g.buffer b) g.pieces (pieces_for b gs))
    this_group true e = rw e refl
    this_group false e = rw e refl

    new_group : (k : Bool) → eqb c b ≡ k → c < g.buffer → cond k (p ∷ []) (pieces_for b (g ∷ gs)) ≡ cond k (put_piece p (pieces_for b (g ∷ gs))) (pieces_for b (g ∷ gs))
    new_group true e l =
        let f = eqb-true c b e in
        let n : pieces_for b (g ∷ gs) ≡ [] = none_for b g.buffer (g ∷ gs) (omega arith) (omega arith, a.1) in
        sym (ap (λ (qs : List Piece). put_piece p qs) n)
    new_group false e l = refl

-- ---- pieces in the order of their starts

abbrev pub AreSorted : ℕ → List Piece → Type 0
AreSorted n [] = Unit {0}
AreSorted n (q ∷ qs) = (n ≤ q.start) × AreSorted q.start qs

sorted_put : (n : ℕ) (p : Piece) (qs : List Piece) → n ≤ p.start → AreSorted n qs → AreSorted n (put_piece p qs)
sorted_put n p [] l s = (l, tt)
sorted_put n p (q ∷ qs) l s = elim (cases_Bool (leb q.start p.start)) [
  | inl t ↦ rw t (s.0, sorted_put q.start p qs (leb-true q.start p.start t) s.1)
  | inr t ↦ (let u : p.start ≤ q.start = (let v : p.start < q.start = grind (arith, nat_tests, t) in omega arith) in rw t (l, (u, s.1)))
]

-- ---- one excerpt

module _ (x : Excerpt) where
  -- a piece starts in the closed range of x
  abbrev pub is_own : Piece → Bool
  is_own q = leb x.start q.start && leb q.start x.end

  -- it lies in the closed range of x, or before it, or after it
  pub record IsClear (q : Piece) : Type 0 where
    pub order : q.start ≤ q.end
    pub clear : (x.start ≤ q.start × q.end ≤ x.end) ⊎ ((q.end < x.start) ⊎ (x.end < q.start))

  own_test : (q : Piece) → x.start ≤ q.start → q.start ≤ x.end → is_own q ≡ true
  own_test q l m = let t = le-leb x.start q.start l in let u = le-leb q.start x.end m in rw (t, u) refl

  before_test : (q : Piece) → q.start < x.start → is_own q ≡ false
  before_test q l = let t : leb x.start q.start ≡ false = lt-leb x.start q.start l in rw t refl

  after_test : (q : Piece) → x.end < q.start → is_own q ≡ false
  after_test q l = second (leb x.start q.start) (leb q.start x.end) (lt-leb q.start x.end l)
    where
      second : (a b : Bool) → b ≡ false → (a && b) ≡ false
      second true b e = e
      second false b e = refl

  -- ---- the pieces of x among those of its buffer

  filter_none : (n : ℕ) (qs : List Piece) (p : Piece) → p.start < n → AreSorted n qs → AllByRecursion (λ (r : Piece). is_own r ≡ true → r.start ≤ p.start) qs → filter is_own qs ≡ []
  filter_none n [] p l s a = refl
  filter_none n (q ∷ qs) p l s a =
      let m = s.0 in
      elim (cases_Bool (is_own q)) [
        | inl t ↦ (let k = a.0 t in absurd (omega arith))
        | inr t ↦ rw t (filter_none q.start qs p (omega arith) s.1 a.1)
      ]

  filter_put : (n : ℕ) (p : Piece) (qs : List Piece) → is_own p ≡ true → AreSorted n qs → AllByRecursion (λ (r : Piece). is_own r ≡ true → r.start ≤ p.start) qs
      → filter is_own (put_piece p qs) ≡ filter is_own qs ++ p ∷ []
  filter_put n p [] o s a = rw o refl
  filter_put n p (q ∷ qs) o s a = elim (cases_Bool (leb q.start p.start)) [
    | inl t ↦ (let ih = filter_put q.start p qs o s.1 a.1 in rw t (more (is_own q) (filter is_own (put_piece p qs)) (filter is_own qs) ih))
    | inr t ↦ (
        let u : p.start < q.start = grind (arith, nat_tests, t) in
        let none : filter is_own (q ∷ qs) ≡ [] = filter_none q.start (q ∷ qs) p u (omega arith, s.1) a in
        rw (t, o) (ap (λ (zs : List Piece). p ∷ zs) none ∙ ap (λ (zs : List Piece). zs ++ p ∷ []) (sym none)))
  ]
    where
      more : (k : Bool) (us vs : List Piece) → us ≡ vs ++ p ∷ [] → cond k (q ∷ us) us ≡ cond k (q ∷ vs) vs ++ p ∷ []
      more true us vs e = ap (λ (zs : List Piece). q ∷ zs) e
      more false us vs e = e

  filter_other : (p : Piece) (qs : List Piece) → is_own p ≡ false → filter is_own (put_piece p qs) ≡ filter is_own qs
  filter_other p [] o = rw o refl
  filter_other p (q ∷ qs) o = elim (cases_Bool (leb q.start p.start)) [
    | inl t ↦ (let ih = filter_other p qs o in rw t (ap (λ (zs : List Piece). cond (is_own q) (q ∷ zs) zs) ih))
    | inr t ↦ rw (t, o) refl
  ]

  -- ---- the pieces before x, its own, and those after it

  abbrev pub is_before : Piece → Bool
  is_before q = ltb q.start x.start

  abbrev pub is_after : Piece → Bool
  is_after q = ltb x.end q.start

  pub none_before : (n : ℕ) (qs : List Piece) → x.start ≤ n → AreSorted n qs → filter is_before qs ≡ []
  none_before n [] l s = refl
  none_before n (q ∷ qs) l s =
      let m = s.0 in
      let t : ltb q.start x.start ≡ false = le-ltb q.start x.start (omega arith) in
      rw t (none_before q.start qs (omega arith) s.1)

  none_own : (n : ℕ) (qs : List Piece) → x.end < n → AreSorted n qs → filter is_own qs ≡ []
  none_own n [] l s = refl
  none_own n (q ∷ qs) l s =
      let m = s.0 in
      let t : is_own q ≡ false = after_test q (omega arith) in
      rw t (none_own q.start qs (omega arith) s.1)

  pub three_parts : (n : ℕ) (qs : List Piece) → x.start ≤ x.end → AreSorted n qs → qs ≡ filter is_before qs ++ (filter is_own qs ++ filter is_after qs)
  three_parts n [] rising s = refl
  three_parts n (q ∷ qs) rising s =
      let ih = three_parts q.start qs rising s.1 in
      elim (cases_Bool (ltb q.start x.start)) [
        | inl t ↦ (
            let u : q.start < x.start = grind (arith, nat_tests, t) in
            let v : is_own q ≡ false = before_test q u in
            let w : ltb x.end q.start ≡ false = le-ltb x.end q.start (omega arith) in
            rw (t, v, w) (ap (λ (zs : List Piece). q ∷ zs) ih))
        | inr t ↦ (
            let u : x.start ≤ q.start = grind (arith, nat_tests, t) in
            let none : filter is_before qs ≡ [] = none_before q.start qs u s.1 in
            let jh : qs ≡ filter is_own qs ++ filter is_after qs = ih ∙ ap (λ (zs : List Piece). zs ++ (filter is_own qs ++ filter is_after qs)) none in
            elim (cases_Bool (ltb x.end q.start)) [
              | inl w ↦ (
                  let g : x.end < q.start = grind (arith, nat_tests, w) in
                  let v : is_own q ≡ false = after_test q g in
                  let empty : filter is_own qs ≡ [] = none_own q.start qs g s.1 in
                  let kh : qs ≡ filter is_after qs = jh ∙ ap (λ (zs : List Piece). zs ++ filter is_after qs) empty in
                  rw (t, v, w, none, empty) (ap (λ (zs : List Piece). q ∷ zs) kh))
              | inr w ↦ (
                  let g : q.start ≤ x.end = grind (arith, nat_tests, w) in
                  let v : is_own q ≡ true = own_test q u g in
                  rw (t, v, w, none) (ap (λ (zs : List Piece). q ∷ zs) jh))
            ])
      ]

-- ---- the pieces of changes

-- x is excerpt i of those
module _ (xs : List Excerpt) (pre : List Excerpt) (x : Excerpt) (post : List Excerpt) (here : xs ≡ pre ++ x ∷ post) (rising : x.start ≤ x.end) where
  abbrev pub index : ℕ
  index = length pre

  -- ---- where the part of a change lies

  module _ (p : Piece) (Q : Part) (l : p.start ≤ p.end) (e : part_of xs p ≡ Some Q) (alone : sharing 0 Q xs ≡ None) where
    pub record IsPlaced : Type 0 where
      pub order : Q.start ≤ Q.end
      pub mine : Q.excerpt ≡ index → (Q.buffer ≡ x.buffer) × (Q.start ≡ x.start + (p.start - width pre)) × (Q.start ≤ x.end) × (Q.end ≤ x.end)
      pub others : (Q.excerpt ≡ index → ⊥) → Q.buffer ≡ x.buffer → (Q.end < x.start) ⊎ (x.end < Q.start)

    pub placed : IsPlaced
    placed =
        let h = has_part 0 xs p.start p.end Q e in
        let lo = h.low in
        let hi = h.high in
        let st : Q.start ≡ h.here.start + (p.start - width h.pre) = ap (λ (q : Part). q.start) h.is in
        let en : Q.end ≡ h.here.start + (p.end - width h.pre) = ap (λ (q : Part). q.end) h.is in
        let ix : Q.excerpt ≡ 0 + length h.pre = ap (λ (q : Part). q.excerpt) h.is in
        let bu : Q.buffer ≡ h.here.buffer = ap (λ (q : Part). q.buffer) h.is in
        record {
          order = omega arith;
          mine = λ f.
              let n : length h.pre ≡ length pre = omega (arith, f, ix) in
              let gp : slice_get xs (length h.pre) ≡ Some h.here = ap (λ (ys : List Excerpt). slice_get ys (length h.pre)) h.parts ∙ get_here h.pre h.here h.post (length h.pre) refl in
              let gx : slice_get xs (length pre) ≡ Some x = ap (λ (ys : List Excerpt). slice_get ys (length pre)) here ∙ get_here pre x post (length pre) refl in
              let same : h.here ≡ x = same_Some h.here x (sym gp ∙ ap (slice_get xs) n ∙ gx) in
              let front : h.pre ≡ pre = sym (ap (take (length h.pre)) h.parts ∙ take_here h.pre h.here h.post (length h.pre) refl) ∙ ap (λ (k : ℕ). take k xs) n ∙ ap (take (length pre)) here ∙ take_here pre x post (length pre) refl in
              let w : width h.pre ≡ width pre = ap width front in
              let s : h.here.start ≡ x.start = ap (λ (y : Excerpt). y.start) same in
              let z : h.here.end ≡ x.end = ap (λ (y : Excerpt). y.end) same in
              let c : h.here.buffer ≡ x.buffer = ap (λ (y : Excerpt). y.buffer) same in
              (bu ∙ c, omega (arith, st, s, w), omega (arith, st, s, z, hi, lo, rising, l), omega (arith, en, s, z, hi, lo, rising, l));
          others = λ f b.
              let m : meets (0 + length pre) Q x ≡ false = not_meeting 0 Q pre x post (subst (λ (ys : List Excerpt). sharing 0 Q ys ≡ None) here alone) in
              elim (beside (0 + length pre) Q x m (λ q. f (omega (arith, q))) (sym b)) [ inl u ↦ inr u | inr u ↦ inl u ];
        }

  -- ---- the pieces of changes

  -- what is true of the pieces of x's buffer, changes being left from a place on
  pub record IsKept (at : ℕ) (qs : List Piece) : Type 0 where
    pub sorted : AreSorted 0 qs
    pub clear : AllByRecursion (IsClear x) qs
    pub below : AllByRecursion (λ (r : Piece). is_own x r ≡ true → r.start ≤ x.start + (at - width pre)) qs

  each_weaker : (P R : Piece → Type 0) → ((p : Piece) → P p → R p) → (ps : List Piece) → AllByRecursion P ps → AllByRecursion R ps
  each_weaker P R f [] a = tt
  each_weaker P R f (p ∷ ps) a = (f p a.0, each_weaker P R f ps a.1)

  kept_from : (at to : ℕ) (qs : List Piece) → at ≤ to → IsKept at qs → IsKept to qs
  kept_from at to qs l k = record {
    sorted = k.sorted;
    clear = k.clear;
    below = each_weaker (λ (r : Piece). is_own x r ≡ true → r.start ≤ x.start + (at - width pre)) (λ (r : Piece). is_own x r ≡ true → r.start ≤ x.start + (to - width pre)) (λ r f e. (let m = f e in omega arith)) qs k.below;
  }

  kept_put : (at : ℕ) (p : Piece) (qs : List Piece) → IsClear x p → (is_own x p ≡ true → p.start ≤ x.start + (at - width pre)) → IsKept at qs → IsKept at (put_piece p qs)
  kept_put at p qs c b k = record {
    sorted = sorted_put 0 p qs (omega arith) k.sorted;
    clear = each_put_piece (IsClear x) p qs c k.clear;
    below = each_put_piece (λ (r : Piece). is_own x r ≡ true → r.start ≤ x.start + (at - width pre)) p qs b k.below;
  }

  abbrev pub IsAlone : Piece → Type 0
  IsAlone p = sharing_of xs (part_of xs p) ≡ None

  -- what one change adds
  pub record IsAdded (at : ℕ) (p : Piece) (o : Option Part) (gs : List BufferPieces) : Type 0 where
    pub ascend : GroupsAscend 0 (put_part o p gs)
    pub kept : IsKept p.end (pieces_for x.buffer (put_part o p gs))
    pub pieces : (rs : List Piece) → filter (is_own x) (pieces_for x.buffer (put_part o p gs)) ++ rs ≡ filter (is_own x) (pieces_for x.buffer gs) ++ keep_own index o p rs

  module _ (at : ℕ) (p : Piece) (gs : List BufferPieces) (low : at ≤ p.start) (l : p.start ≤ p.end) (a : GroupsAscend 0 gs) (k : IsKept at (pieces_for x.buffer gs)) where
    added_none : IsAdded at p None gs
    added_none = record { ascend = a; kept = kept_from at p.end (pieces_for x.buffer gs) (omega arith) k; pieces = λ rs. refl }

    module _ (Q : Part) (e : part_of xs p ≡ Some Q) (alone : sharing 0 Q xs ≡ None) where
      is : IsPlaced p Q l e alone
      is = placed p Q l e alone

      put_is : pieces_for x.buffer (put_in Q.buffer (piece_of Q p) gs) ≡ cond (eqb Q.buffer x.buffer) (put_piece (piece_of Q p) (pieces_for x.buffer gs)) (pieces_for x.buffer gs)
      put_is = pieces_put 0 x.buffer Q.buffer (piece_of Q p) gs a

      ascends : GroupsAscend 0 (put_in Q.buffer (piece_of Q p) gs)
      ascends = groups_put 0 Q.buffer (piece_of Q p) gs (omega arith) a

      added_elsewhere : eqb Q.buffer x.buffer ≡ false → IsAdded at p (Some Q) gs
      added_elsewhere t =
          let q : pieces_for x.buffer (put_in Q.buffer (piece_of Q p) gs) ≡ pieces_for x.buffer gs = put_is ∙ no (eqb Q.buffer x.buffer) t in
          let n : eqb Q.excerpt index ≡ false = ne_eqb Q.excerpt index (λ f. (let b = (is.mine f).0 in let u : eqb Q.buffer x.buffer ≡ true = eq-eqb Q.buffer x.buffer b in let z : ⊥ = cc in z)) in
          record {
            ascend = ascends;
            kept = subst (IsKept p.end) (sym q) (kept_from at p.end (pieces_for x.buffer gs) (omega arith) k);
            pieces = λ rs. ap (λ (qs : List Piece). filter (is_own x) qs ++ rs) q ∙ ap (λ (zs : List Piece). filter (is_own x) (pieces_for x.buffer gs) ++ zs) (sym (no_piece (eqb Q.excerpt index) (piece_of Q p) rs n));
          }
        where
          no : (b : Bool) → b ≡ false → cond b (put_piece (piece_of Q p) (pieces_for x.buffer gs)) (pieces_for x.buffer gs) ≡ pieces_for x.buffer gs
          no b f = rw f refl

          no_piece : (b : Bool) (r : Piece) (rs : List Piece) → b ≡ false → cond b (r ∷ rs) rs ≡ rs
          no_piece b r rs f = rw f refl

      there : eqb Q.buffer x.buffer ≡ true → pieces_for x.buffer (put_in Q.buffer (piece_of Q p) gs) ≡ put_piece (piece_of Q p) (pieces_for x.buffer gs)
      there t = put_is ∙ yes (eqb Q.buffer x.buffer) t
        where
          yes : (b : Bool) → b ≡ true → cond b (put_piece (piece_of Q p) (pieces_for x.buffer gs)) (pieces_for x.buffer gs) ≡ put_piece (piece_of Q p) (pieces_for x.buffer gs)
          yes b f = rw f refl

      added_own : eqb Q.buffer x.buffer ≡ true → Q.excerpt ≡ index → IsAdded at p (Some Q) gs
      added_own t f =
          let m = is.mine f in
          let o = is.order in
          let s = m.1 in
          let hi = m.2 in
          let en = m.3 in
          let own : is_own x (piece_of Q p) ≡ true = own_test x (piece_of Q p) (omega (arith, s)) hi in
          let n : eqb Q.excerpt index ≡ true = eq-eqb Q.excerpt index f in
          let q = there t in
          let below : AllByRecursion (λ (r : Piece). is_own x r ≡ true → r.start ≤ Q.start) (pieces_for x.buffer gs) =
          each_weaker (λ (r : Piece). is_own x r ≡ true → r.start ≤ x.start + (at - width pre)) (λ (r : Piece). is_own x r ≡ true → r.start ≤ Q.start) (λ r g w. (let v = g w in omega (arith, v, s, low))) (pieces_for x.buffer gs) k.below in
          record {
            ascend = ascends;
            kept = subst (IsKept p.end) (sym q) (kept_put p.end (piece_of Q p) (pieces_for x.buffer gs) (record { order = o; clear = inl (omega (arith, s), en) }) (λ w. omega (arith, s, l)) (kept_from at p.end (pieces_for x.buffer gs) (omega arith) k));
            pieces = λ rs. ap (λ (qs : List Piece). filter (is_own x) qs ++ rs) q
                ∙ ap (λ (zs : List Piece). zs ++ rs) (filter_put x 0 (piece_of Q p) (pieces_for x.buffer gs) own k.sorted below)
                ∙ append_assoc (filter (is_own x) (pieces_for x.buffer gs)) (piece_of Q p ∷ []) rs
                ∙ ap (λ (zs : List Piece). filter (is_own x) (pieces_for x.buffer gs) ++ zs) (sym (one_piece (eqb Q.excerpt index) (piece_of Q p) rs n));
          }
        where
          one_piece : (b : Bool) (r : Piece) (rs : List Piece) → b ≡ true → cond b (r ∷ rs) rs ≡ r ∷ rs
          one_piece b r rs f = rw f refl

      added_beside : eqb Q.buffer x.buffer ≡ true → (Q.excerpt ≡ index → ⊥) → IsAdded at p (Some Q) gs
      added_beside t f =
          let b = eqb-true Q.buffer x.buffer t in
          let d = is.others f b in
          let o = is.order in
          let own : is_own x (piece_of Q p) ≡ false = elim d [ inl u ↦ before_test x (piece_of Q p) (omega (arith, u, o)) | inr u ↦ after_test x (piece_of Q p) u ] in
          let n : eqb Q.excerpt index ≡ false = ne_eqb Q.excerpt index f in
          let q = there t in
          record {
            ascend = ascends;
            kept = subst (IsKept p.end) (sym q) (kept_put p.end (piece_of Q p) (pieces_for x.buffer gs) (record { order = o; clear = inr d }) (λ w. absurd (never (is_own x (piece_of Q p)) w own)) (kept_from at p.end (pieces_for x.buffer gs) (omega arith) k));
            pieces = λ rs. ap (λ (qs : List Piece). filter (is_own x) qs ++ rs) q
                ∙ ap (λ (zs : List Piece). zs ++ rs) (filter_other x (piece_of Q p) (pieces_for x.buffer gs) own)
                ∙ ap (λ (zs : List Piece). filter (is_own x) (pieces_for x.buffer gs) ++ zs) (sym (no_piece (eqb Q.excerpt index) (piece_of Q p) rs n));
          }
        where
          never : (b : Bool) → b ≡ true → b ≡ false → ⊥
          never true e g = cc
          never false e g = cc

          no_piece : (b : Bool) (r : Piece) (rs : List Piece) → b ≡ false → cond b (r ∷ rs) rs ≡ rs
          no_piece b r rs f = rw f refl

      added_some : IsAdded at p (Some Q) gs
      added_some = elim (cases_Bool (eqb Q.buffer x.buffer)) [
        | inr t ↦ added_elsewhere t
        | inl t ↦ elim (cases_Bool (eqb Q.excerpt index)) [
          | inl u ↦ added_own t (eqb-true Q.excerpt index u)
          | inr u ↦ added_beside t (λ f. (let v : eqb Q.excerpt index ≡ true = eq-eqb Q.excerpt index f in let z : ⊥ = cc in z))
        ]
      ]

    added : (o : Option Part) → part_of xs p ≡ o → IsAlone p → IsAdded at p o gs
    added None e n = added_none
    added (Some Q) e n = added_some Q e (ap (sharing_of xs) (sym e) ∙ n)

  -- what changes leave to the buffer of x
  pub record IsGathered (ps : List Piece) (gs : List BufferPieces) : Type 0 where
    pub sorted : AreSorted 0 (pieces_for x.buffer (split_from xs ps gs))
    pub clear : AllByRecursion (IsClear x) (pieces_for x.buffer (split_from xs ps gs))
    pub own_pieces : filter (is_own x) (pieces_for x.buffer (split_from xs ps gs)) ≡ filter (is_own x) (pieces_for x.buffer gs) ++ own 0 xs index ps

  pub gathered : (at : ℕ) (ps : List Piece) (gs : List BufferPieces) → AreOrdered at ps → AllByRecursion IsAlone ps → GroupsAscend 0 gs → IsKept at (pieces_for x.buffer gs) → IsGathered ps gs
  gathered at [] gs o n a k = record { sorted = k.sorted; clear = k.clear; own_pieces = sym (append-nil (filter (is_own x) (pieces_for x.buffer gs))) }
  gathered at (p ∷ ps) gs o n a k =
      let d = added at p gs o.0 o.1 a k (part_of xs p) refl n.0 in
      let r = gathered p.end ps (put_part (part_of xs p) p gs) o.2 n.1 d.ascend d.kept in
      record { sorted = r.sorted; clear = r.clear; own_pieces = r.own_pieces ∙ d.pieces (own 0 xs index ps) }

  pub gathered_all : (ps : List Piece) → AreOrdered 0 ps → AllByRecursion IsAlone ps → IsGathered ps []
  gathered_all ps o n = gathered 0 ps [] o n tt (record { sorted = tt; clear = tt; below = tt })
