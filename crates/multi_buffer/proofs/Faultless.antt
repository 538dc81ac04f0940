-- The pieces of each buffer into which changes without a fault are split: an edit of the buffer meets none of its own.
use Rattle.std.proofs.Common.{◌≡◌, ◌⊎◌, inl, inr, ℕ, suc, ◌+◌, ◌-◌, ◌≤◌, ◌<◌, ◌&&◌, not, Bool, true, false, eqb, leb, ltb, List, [], ◌∷◌, ◌++◌, length, take, Option, Some, None, refl, sym, ap, ◌∙◌, subst, arith}
use Rattle.std.specs.Prelude.{slice_get, option_map}
use Rattle.std.specs.List.{AllByRecursion, position}
use Rattle.std.proofs.lemmas.Bool.{cases_Bool, eqb-true, eq-eqb, leb-true, ltb-false, le-ltb, ne_eqb}
use Rattle.std.proofs.lemmas.Bool.Decides.{nat_tests}
use Rattle.std.proofs.lemmas.Option.{same_Some}
use Rattle.op_model.specs.declared.operation.Piece.{Piece}
use Rattle.op_model.specs.declared.faults.EditFault.{EditFault}
use Rattle.op_model.specs.declared.faults.EditFault.TheVariants.{Reversed as EditReversed, Overlap as EditOverlap, PastEnd as EditPastEnd, InsideChar as EditInsideChar}
use Rattle.op_model.specs.Choice.{first_of, when}
use Rattle.op_model.specs.Edits.{is_boundary, is_inside, is_past, is_reversed, overlap_from, piece_fault}
use Rattle.op_model.specs.Operations.{text_limit, text_total}
use Rattle.op_model.specs.Shown.{text}
use Rattle.op_model.proofs.answers.Passed.{all_none, map_none, none_position, position_none, when_none}
use Rattle.multi_buffer.specs.declared.excerpt.Excerpt.{Excerpt}
use Rattle.multi_buffer.specs.declared.source.Source.{Source}
use Rattle.multi_buffer.specs.declared.parts.Part.{Part}
use Rattle.multi_buffer.specs.declared.parts.BufferPieces.{BufferPieces}
use Rattle.multi_buffer.specs.declared.faults.SplitFault.TheVariants.{Reversed, Overlap, PastEnd, InsideChar, TextLimit, Crosses, Shared}
use Rattle.multi_buffer.specs.State.{MultiState, history_of, multi_text, size, IsSynced}
use Rattle.multi_buffer.specs.Places.{width}
use Rattle.multi_buffer.specs.Following.{state_of}
use Rattle.multi_buffer.specs.Splits.{IsFaultless, crosses, first_sharing, meets, part_at, part_in, part_of, piece_of, pieces_of_one, put_in, put_part, put_piece, sharing, sharing_of, split_fault, split_from, split_of, or_sharing}
use Rattle.multi_buffer.proofs.Boundaries.{boundary_within}
use Rattle.multi_buffer.proofs.Answering.{get_here, take_here}
use Rattle.multi_buffer.proofs.Lines.{each_here, excerpt_is, shown_boundary}

-- ---- the excerpt of a part

-- q is the range s..e, by excerpt k of those
pub record HasPart (xs : List Excerpt) (i s e : ℕ) (q : Part) : Type 0 where
  pub pre : List Excerpt
  pub here : Excerpt
  pub post : List Excerpt
  pub parts : xs ≡ pre ++ here ∷ post
  pub low : width pre ≤ s
  pub high : e ≤ width pre + size here
  pub is : q ≡ part_at (i + length pre) here (s - width pre) (e - width pre)

pub same_part : (i j : ℕ) (x : Excerpt) (s t e f : ℕ) → i ≡ j → s ≡ t → e ≡ f → part_at i x s e ≡ part_at j x t f
same_part i j x s t e f p q r = rw (p, q, r) refl

pub has_part : (i : ℕ) (xs : List Excerpt) (s e : ℕ) (q : Part) → part_in i xs s e ≡ Some q → HasPart xs i s e q
has_part i [] s e q f = cc
has_part i (x ∷ xs) s e q f = elim (cases_Bool (leb s (size x))) [
  | inl t ↦ elim (cases_Bool (leb e (size x))) [
    | inl u ↦ (
        let g : Some (part_at i x s e) ≡ Some q = rw (t, u) at f in
        let l = leb-true e (size x) u in
        record {
          pre = [];
          here = x;
          post = xs;
          parts = refl;
          low = omega arith;
          high = omega arith;
          is = sym (same_Some (part_at i x s e) q g) ∙ same_part i (i + 0) x s (s - 0) e (e - 0) (omega arith) (omega arith) (omega arith);
        })
    | inr u ↦ (
        let no : Option Part = None in
        let g : no ≡ Some q = rw (t, u) at f in
        cc)
  ]
  | inr t ↦ (
      let g : part_in (suc i) xs (s - suc (size x)) (e - suc (size x)) ≡ Some q = rw t at f in
      let l : size x < s = grind (arith, nat_tests, t) in
      let r = has_part (suc i) xs (s - suc (size x)) (e - suc (size x)) q g in
      let a = r.low in
      let b = r.high in
      record {
        pre = x ∷ r.pre;
        here = r.here;
        post = r.post;
        parts = ap (λ (ys : List Excerpt). x ∷ ys) r.parts;
        low = omega arith;
        high = omega arith;
        is = r.is ∙ same_part (suc i + length r.pre) (i + length (x ∷ r.pre)) r.here (s - suc (size x) - width r.pre) (s - width (x ∷ r.pre)) (e - suc (size x) - width r.pre) (e - width (x ∷ r.pre)) (omega arith) (omega arith) (omega arith);
      })
]

-- ---- parts that share no place

pub not_meeting : (i : ℕ) (q : Part) (pre : List Excerpt) (x : Excerpt) (post : List Excerpt) → sharing i q (pre ++ x ∷ post) ≡ None → meets (i + length pre) q x ≡ false
not_meeting i q [] x post e = elim (cases_Bool (meets i q x)) [
  | inl t ↦ (let no : Option ℕ = None in let f : Some i ≡ no = rw t at e in cc)
  | inr t ↦ (let z : i ≡ i + 0 = omega arith in ap (λ (k : ℕ). meets k q x) (sym z) ∙ t)
]
not_meeting i q (y ∷ pre) x post e = elim (cases_Bool (meets i q y)) [
  | inl t ↦ (let no : Option ℕ = None in let f : Some i ≡ no = rw t at e in cc)
  | inr t ↦ (
      let f : sharing (suc i) q (pre ++ x ∷ post) ≡ None = rw t at e in
      let z : suc i + length pre ≡ i + length (y ∷ pre) = omega arith in
      ap (λ (k : ℕ). meets k q x) (sym z) ∙ not_meeting (suc i) q pre x post f)
]

apart_test : (a b c d : Bool) → (not a && b && c && d) ≡ false → a ≡ false → b ≡ true → (c ≡ false) ⊎ (d ≡ false)
apart_test a b c d e f g = go c d (rw (f, g) at e)
  where
    go : (c d : Bool) → (c && d) ≡ false → (c ≡ false) ⊎ (d ≡ false)
    go true d e = inr e
    go false d e = inl refl

-- of an excerpt of the part's buffer with another index, the part is before it or after it
pub beside : (i : ℕ) (q : Part) (x : Excerpt) → meets i q x ≡ false → (i ≡ q.excerpt → ⊥) → x.buffer ≡ q.buffer → (x.end < q.start) ⊎ (q.end < x.start)
beside i q x e n b = elim (apart_test (eqb i q.excerpt) (eqb x.buffer q.buffer) (leb q.start x.end) (leb x.start q.end) e (ne_eqb i q.excerpt n) (eq-eqb x.buffer q.buffer b)) [
  | inl t ↦ inl (grind (arith, nat_tests, t))
  | inr t ↦ inr (grind (arith, nat_tests, t))
]

-- a change after another one of its buffer is apart from it there
abbrev pub Apart : ℕ → ℕ → ℕ → ℕ → Type 0
Apart s e t f = (e ≤ t) ⊎ (f < s)

module _ (ss : List Source) (xs : List Excerpt) (a : AllByRecursion (IsSynced ss) xs) where
  here_order : (pre : List Excerpt) (x : Excerpt) (post : List Excerpt) → xs ≡ pre ++ x ∷ post → x.start ≤ x.end
  here_order pre x post e = (excerpt_is ss x (each_here ss pre x post (subst (AllByRecursion (IsSynced ss)) e a))).order

  module _ (p r : Piece) (P R : Part) (op : p.start ≤ p.end) (after : p.end ≤ r.start) (or : r.start ≤ r.end) (ep : part_of xs p ≡ Some P) (er : part_of xs r ≡ Some R) (b : R.buffer ≡ P.buffer) (n : sharing 0 P xs ≡ None) where
    of_p : HasPart xs 0 p.start p.end P
    of_p = has_part 0 xs p.start p.end P ep

    of_r : HasPart xs 0 r.start r.end R
    of_r = has_part 0 xs r.start r.end R er

    start_r : R.start ≡ of_r.here.start + (r.start - width of_r.pre)
    start_r = ap (λ (q : Part). q.start) of_r.is

    end_r : R.end ≡ of_r.here.start + (r.end - width of_r.pre)
    end_r = ap (λ (q : Part). q.end) of_r.is

    in_one : length of_r.pre ≡ length of_p.pre → Apart P.start P.end R.start R.end
    in_one e =
        let gp : slice_get xs (length of_p.pre) ≡ Some of_p.here = ap (λ (ys : List Excerpt). slice_get ys (length of_p.pre)) of_p.parts ∙ get_here of_p.pre of_p.here of_p.post (length of_p.pre) refl in
        let gr : slice_get xs (length of_r.pre) ≡ Some of_r.here = ap (λ (ys : List Excerpt). slice_get ys (length of_r.pre)) of_r.parts ∙ get_here of_r.pre of_r.here of_r.post (length of_r.pre) refl in
        let same : of_p.here ≡ of_r.here = same_Some of_p.here of_r.here (sym gp ∙ ap (slice_get xs) (sym e) ∙ gr) in
        let tp : take (length of_p.pre) xs ≡ of_p.pre = ap (take (length of_p.pre)) of_p.parts ∙ take_here of_p.pre of_p.here of_p.post (length of_p.pre) refl in
        let tr : take (length of_r.pre) xs ≡ of_r.pre = ap (take (length of_r.pre)) of_r.parts ∙ take_here of_r.pre of_r.here of_r.post (length of_r.pre) refl in
        let w : width of_p.pre ≡ width of_r.pre = ap width (sym tp ∙ ap (λ (k : ℕ). take k xs) (sym e) ∙ tr) in
        let s = ap (λ (x : Excerpt). x.start) same in
        let ende = ap (λ (q : Part). q.end) of_p.is in
        let st = start_r in
        inl (omega arith)

    in_others : (length of_r.pre ≡ length of_p.pre → ⊥) → Apart P.start P.end R.start R.end
    in_others ne =
        let i = ap (λ (q : Part). q.excerpt) of_p.is in
        let bu : of_r.here.buffer ≡ P.buffer = sym (ap (λ (q : Part). q.buffer) of_r.is) ∙ b in
        let m : meets (0 + length of_r.pre) P of_r.here ≡ false = not_meeting 0 P of_r.pre of_r.here of_r.post (subst (λ (ys : List Excerpt). sharing 0 P ys ≡ None) of_r.parts n) in
        let st = start_r in
        let en = end_r in
        let lo = of_r.low in
        let hi = of_r.high in
        let o = here_order of_r.pre of_r.here of_r.post of_r.parts in
        elim (beside (0 + length of_r.pre) P of_r.here m (λ q. ne (omega (arith, q, i))) bu) [
          | inl l ↦ inr (omega arith)
          | inr l ↦ inl (omega arith)
        ]

    pub apart_parts : Apart P.start P.end R.start R.end
    apart_parts = elim (cases_Bool (eqb (length of_r.pre) (length of_p.pre))) [
      | inl t ↦ in_one (eqb-true (length of_r.pre) (length of_p.pre) t)
      | inr t ↦ in_others (λ q. let u : eqb (length of_r.pre) (length of_p.pre) ≡ true = eq-eqb (length of_r.pre) (length of_p.pre) q in let z : ⊥ = cc in z)
    ]

-- ---- pieces of one buffer

-- a piece of a text without a fault of its own
pub record IsGood (t : List ℕ) (p : Piece) : Type 0 where
  pub order : p.start ≤ p.end
  pub start : is_boundary t p.start ≡ true
  pub end : is_boundary t p.end ≡ true

-- each piece starts at the end of the one before it or after it
abbrev pub AreChained : ℕ → List Piece → Type 0
AreChained at [] = Unit {0}
AreChained at (p ∷ ps) = (at ≤ p.start) × AreChained p.end ps

-- piece p may be put among these
abbrev pub MayPut : Piece → List Piece → Type 0
MayPut p qs = AllByRecursion (λ (q : Piece). Apart q.start q.end p.start p.end) qs

pub each_put_piece : (P : Piece → Type 0) (p : Piece) (qs : List Piece) → P p → AllByRecursion P qs → AllByRecursion P (put_piece p qs)
each_put_piece P p [] i a = (i, tt)
each_put_piece P p (q ∷ qs) i a = elim (cases_Bool (leb q.start p.start)) [
  | inl t ↦ rw t (a.0, each_put_piece P p qs i a.1)
  | inr t ↦ rw t (i, a)
]

chained_put : (t : List ℕ) (at : ℕ) (p : Piece) (qs : List Piece) → at ≤ p.start → p.start ≤ p.end → AreChained at qs → AllByRecursion (IsGood t) qs → MayPut p qs → AreChained at (put_piece p qs)
chained_put t at p [] l o c g m = (l, tt)
chained_put t at p (q ∷ qs) l o c g m = elim (cases_Bool (leb q.start p.start)) [
  | inl u ↦ (
      let v = leb-true q.start p.start u in
      let w : q.end ≤ p.start = elim m.0 [ inl x ↦ x | inr x ↦ absurd (omega (arith, x, v)) ] in
      rw u (c.0, chained_put t q.end p qs w o c.1 g.1 m.1))
  | inr u ↦ (
      let v : p.start < q.start = grind (arith, nat_tests, u) in
      let d = g.0.order in
      let w : p.end ≤ q.start = elim m.0 [ inl x ↦ absurd (omega (arith, x, v, d)) | inr x ↦ omega (arith, x) ] in
      rw u (l, (w, c.1)))
]

no_overlap : (at i : ℕ) (ps : List Piece) → AreChained at ps → overlap_from at i ps ≡ None
no_overlap at i [] c = refl
no_overlap at i (p ∷ ps) c = let t : ltb p.start at ≡ false = le-ltb p.start at c.0 in rw t (no_overlap p.end (suc i) ps c.1)

pub each_weaker : (P Q : Piece → Type 0) → ((p : Piece) → P p → Q p) → (ps : List Piece) → AllByRecursion P ps → AllByRecursion Q ps
each_weaker P Q f [] a = tt
each_weaker P Q f (p ∷ ps) a = (f p a.0, each_weaker P Q f ps a.1)

four_none : (a b c d : Option ℕ) (f g h k : ℕ → EditFault) → a ≡ None → b ≡ None → c ≡ None → d ≡ None → first_of (option_map f a ∷ option_map g b ∷ option_map h c ∷ option_map k d ∷ []) ≡ None
four_none a b c d f g h k i j m n = rw (i, j, m, n) refl

good_inside : (t : List ℕ) (p : Piece) → IsGood t p → is_inside t p ≡ false
good_inside t p g = both (is_boundary t p.start) (is_boundary t p.end) g.start g.end
  where
    both : (b c : Bool) → b ≡ true → c ≡ true → not (b && c) ≡ false
    both b c e f = rw (e, f) refl

-- pieces that are good and in order meet no fault
pub good_pieces : (t : List ℕ) (ps : List Piece) → AllByRecursion (IsGood t) ps → AreChained 0 ps → piece_fault t ps ≡ None
good_pieces t ps g c =
    four_none (position is_reversed ps) (overlap_from 0 0 ps) (position (is_past (length t)) ps) (position (is_inside t) ps) EditReversed EditOverlap (λ i. EditPastEnd i (length t)) EditInsideChar
    (none_position is_reversed ps (each_weaker (IsGood t) (λ (p : Piece). is_reversed p ≡ false) (λ p i. le-ltb p.end p.start i.order) ps g))
    (no_overlap 0 0 ps c)
    (none_position (is_past (length t)) ps (each_weaker (IsGood t) (λ (p : Piece). is_past (length t) p ≡ false) (λ p i. le-ltb (length t) p.end (boundary_within t p.end i.end)) ps g))
    (none_position (is_inside t) ps (each_weaker (IsGood t) (λ (p : Piece). is_inside t p ≡ false) (good_inside t) ps g))

-- ---- the pieces of each buffer, while changes are left

-- no change that is left meets the piece s..e of buffer b
abbrev pub ApartFrom : List Excerpt → ℕ → ℕ → ℕ → List Piece → Type 0
ApartFrom xs b s e rest = AllByRecursion (λ (r : Piece). (R : Part) → part_of xs r ≡ Some R → R.buffer ≡ b → Apart s e R.start R.end) rest

pub record IsGroup (ss : List Source) (xs : List Excerpt) (rest : List Piece) (g : BufferPieces) : Type 0 where
  pub good : AllByRecursion (IsGood (text (history_of g.buffer ss))) g.pieces
  pub chained : AreChained 0 g.pieces
  pub apart : AllByRecursion (λ (q : Piece). ApartFrom xs g.buffer q.start q.end rest) g.pieces

module _ (ss : List Source) (xs : List Excerpt) (c : Piece) (rest : List Piece) where
  fewer_left : (g : BufferPieces) → IsGroup ss xs (c ∷ rest) g → IsGroup ss xs rest g
  fewer_left g i = record {
    good = i.good;
    chained = i.chained;
    apart = each_weaker (λ (q : Piece). ApartFrom xs g.buffer q.start q.end (c ∷ rest)) (λ (q : Piece). ApartFrom xs g.buffer q.start q.end rest) (λ q a. a.1) g.pieces i.apart;
  }

  pub groups_left : (gs : List BufferPieces) → AllByRecursion (IsGroup ss xs (c ∷ rest)) gs → AllByRecursion (IsGroup ss xs rest) gs
  groups_left [] a = tt
  groups_left (g ∷ gs) a = (fewer_left g a.0, groups_left gs a.1)

  module _ (q : Part) (e : part_of xs c ≡ Some q) (good : IsGood (text (history_of q.buffer ss)) (piece_of q c)) (apart : ApartFrom xs q.buffer q.start q.end rest) where
    one_group : IsGroup ss xs rest (pieces_of_one q.buffer (piece_of q c))
    one_group = record { good = (good, tt); chained = (omega arith, tt); apart = (apart, tt) }

    more_group : (g : BufferPieces) → g.buffer ≡ q.buffer → IsGroup ss xs (c ∷ rest) g → IsGroup ss xs rest (record { buffer = q.buffer; pieces = put_piece (piece_of q c) g.pieces })
    more_group g b i =
        let t : List ℕ = text (history_of q.buffer ss) in
        let gs : AllByRecursion (IsGood t) g.pieces = subst (λ (n : ℕ). AllByRecursion (IsGood (text (history_of n ss))) g.pieces) b i.good in
        let may : MayPut (piece_of q c) g.pieces = each_weaker (λ (p : Piece). ApartFrom xs g.buffer p.start p.end (c ∷ rest)) (λ (p : Piece). Apart p.start p.end q.start q.end) (λ p a. a.0 q e (sym b)) g.pieces i.apart in
        let left : AllByRecursion (λ (p : Piece). ApartFrom xs q.buffer p.start p.end rest) g.pieces =
        subst (λ (n : ℕ). AllByRecursion (λ (p : Piece). ApartFrom xs n p.start p.end rest) g.pieces) b (fewer_left g i).apart in
        record {
          good = each_put_piece (IsGood t) (piece_of q c) g.pieces good gs;
          chained = chained_put t 0 (piece_of q c) g.pieces (omega arith) good.order i.chained gs may;
          apart = each_put_piece (λ (p : Piece). ApartFrom xs q.buffer p.start p.end rest) (piece_of q c) g.pieces apart left;
        }

    pub groups_put : (gs : List BufferPieces) → AllByRecursion (IsGroup ss xs (c ∷ rest)) gs → AllByRecursion (IsGroup ss xs rest) (put_in q.buffer (piece_of q c) gs)
    groups_put [] a = (one_group, tt)
    groups_put (g ∷ gs) a = elim (cases_Bool (ltb g.buffer q.buffer)) [
      | inl t ↦ rw t (fewer_left g a.0, groups_put gs a.1)
      | inr t ↦ elim (cases_Bool (eqb g.buffer q.buffer)) [
        | inl u ↦ rw (t, u) (more_group g (eqb-true g.buffer q.buffer u) a.0, groups_left gs a.1)
        | inr u ↦ rw (t, u) (one_group, (fewer_left g a.0, groups_left gs a.1))
      ]
    ]

-- ---- lengths of texts

abbrev group_total : List BufferPieces → ℕ
group_total [] = 0
group_total (g ∷ gs) = text_total g.pieces + group_total gs

total_put_piece : (p : Piece) (qs : List Piece) → text_total (put_piece p qs) ≡ length p.text + text_total qs
total_put_piece p [] = refl
total_put_piece p (q ∷ qs) = let e = total_put_piece p qs in elim (cases_Bool (leb q.start p.start)) [
  | inl t ↦ rw t (omega (arith, e))
  | inr t ↦ rw t refl
]

total_put_in : (b : ℕ) (p : Piece) (gs : List BufferPieces) → group_total (put_in b p gs) ≡ length p.text + group_total gs
total_put_in b p [] = omega arith
total_put_in b p (g ∷ gs) = let e = total_put_in b p gs in let f = total_put_piece p g.pieces in elim (cases_Bool (ltb g.buffer b)) [
  | inl t ↦ rw t (omega (arith, e))
  | inr t ↦ elim (cases_Bool (eqb g.buffer b)) [
    | inl u ↦ rw (t, u) (omega (arith, f))
    | inr u ↦ rw (t, u) (omega arith)
  ]
]

total_split : (xs : List Excerpt) (ps : List Piece) (gs : List BufferPieces) → group_total (split_from xs ps gs) ≤ text_total ps + group_total gs
total_split xs [] gs = omega arith
total_split xs (p ∷ ps) gs = go (part_of xs p) (total_split xs ps)
  where
    go : (o : Option Part) → ((hs : List BufferPieces) → group_total (split_from xs ps hs) ≤ text_total ps + group_total hs) → group_total (split_from xs ps (put_part o p gs)) ≤ text_total (p ∷ ps) + group_total gs
    go None ih = let r = ih gs in omega arith
    go (Some q) ih = let r = ih (put_in q.buffer (piece_of q p) gs) in let e = total_put_in q.buffer (piece_of q p) gs in omega arith

-- ---- changes without a fault

-- the changes ascend from a place on
abbrev pub AreOrdered : ℕ → List Piece → Type 0
AreOrdered at [] = Unit {0}
AreOrdered at (p ∷ ps) = (at ≤ p.start) × (p.start ≤ p.end) × AreOrdered p.end ps

module _ (ss : List Source) (xs : List Excerpt) (a : AllByRecursion (IsSynced ss) xs) where
  part_good : (p : Piece) (q : Part) → p.start ≤ p.end → is_boundary (multi_text (state_of xs ss)) p.start ≡ true → is_boundary (multi_text (state_of xs ss)) p.end ≡ true → part_of xs p ≡ Some q → IsGood (text (history_of q.buffer ss)) (piece_of q p)
  part_good p q o f g e =
      let h = has_part 0 xs p.start p.end q e in
      let lo = h.low in
      let hi = h.high in
      let all : AllByRecursion (IsSynced ss) (h.pre ++ h.here ∷ h.post) = subst (AllByRecursion (IsSynced ss)) h.parts a in
      let s = shown_boundary ss h.pre h.here h.post p.start all lo (omega arith) in
      let t = shown_boundary ss h.pre h.here h.post p.end all (omega arith) hi in
      let there : is_boundary (multi_text (state_of (h.pre ++ h.here ∷ h.post) ss)) p.start ≡ true = ap (λ (ys : List Excerpt). is_boundary (multi_text (state_of ys ss)) p.start) (sym h.parts) ∙ f in
      let then : is_boundary (multi_text (state_of (h.pre ++ h.here ∷ h.post) ss)) p.end ≡ true = ap (λ (ys : List Excerpt). is_boundary (multi_text (state_of ys ss)) p.end) (sym h.parts) ∙ g in
      subst (λ (z : Part). IsGood (text (history_of z.buffer ss)) (piece_of z p)) (sym h.is) (record {
        order = omega arith;
        start = sym s ∙ there;
        end = sym t ∙ then;
      })

  apart_rest : (p : Piece) (P : Part) → p.start ≤ p.end → part_of xs p ≡ Some P → sharing 0 P xs ≡ None → (at : ℕ) (rest : List Piece) → p.end ≤ at → AreOrdered at rest → ApartFrom xs P.buffer P.start P.end rest
  apart_rest p P o e n at [] l c = tt
  apart_rest p P o e n at (r ∷ rest) l c =
      let d = c.0 in
      let f = c.1 in
      (λ R g b. apart_parts ss xs a p r P R o (omega arith) f e g b n, apart_rest p P o e n r.end rest (omega arith) c.2)

  pub record IsFine (p : Piece) : Type 0 where
    pub start : is_boundary (multi_text (state_of xs ss)) p.start ≡ true
    pub end : is_boundary (multi_text (state_of xs ss)) p.end ≡ true
    pub alone : sharing_of xs (part_of xs p) ≡ None

  pub groups_split : (at : ℕ) (ps : List Piece) (gs : List BufferPieces) → AreOrdered at ps → AllByRecursion IsFine ps → AllByRecursion (IsGroup ss xs ps) gs → AllByRecursion (IsGroup ss xs []) (split_from xs ps gs)
  groups_split at [] gs o f i = i
  groups_split at (p ∷ ps) gs o f i = go (part_of xs p) refl (groups_split p.end ps)
    where
      go : (z : Option Part) → part_of xs p ≡ z → ((hs : List BufferPieces) → AreOrdered p.end ps → AllByRecursion IsFine ps → AllByRecursion (IsGroup ss xs ps) hs → AllByRecursion (IsGroup ss xs []) (split_from xs ps hs))
          → AllByRecursion (IsGroup ss xs []) (split_from xs ps (put_part z p gs))
      go None e ih = ih gs o.2 f.1 (groups_left ss xs p ps gs i)
      go (Some q) e ih =
          let n : sharing 0 q xs ≡ None = ap (sharing_of xs) (sym e) ∙ f.0.alone in
          ih (put_in q.buffer (piece_of q p) gs) o.2 f.1
          (groups_put ss xs p ps q e (part_good p q o.1 f.0.start f.0.end e) (apart_rest p q o.1 e n p.end ps (omega arith) o.2) gs i)

pub ordered : (at i : ℕ) (ps : List Piece) → overlap_from at i ps ≡ None → AllByRecursion (λ (p : Piece). is_reversed p ≡ false) ps → AreOrdered at ps
ordered at i [] e a = tt
ordered at i (p ∷ ps) e a = elim (cases_Bool (ltb p.start at)) [
  | inl t ↦ (let no : Option ℕ = None in let f : Some i ≡ no = rw t at e in cc)
  | inr t ↦ (ltb-false p.start at t, ltb-false p.end p.start a.0, ordered p.end (suc i) ps (rw t at e) a.1)
]

not_true : (b : Bool) → not b ≡ false → b ≡ true
not_true true e = refl
not_true false e = cc

both_true : (b c : Bool) → (b && c) ≡ true → (b ≡ true) × (c ≡ true)
both_true true c e = (refl, e)
both_true false c e = cc

pub unless_none : (i : ℕ) (o : Option ℕ) (r : Option (ℕ × ℕ)) → or_sharing i o r ≡ None → (o ≡ None) × (r ≡ None)
unless_none i None r e = (refl, e)
unless_none i (Some x) r e = cc

module _ (xs : List Excerpt) (ss : List Source) where
  fine : (i : ℕ) (ps : List Piece) → AllByRecursion (λ (p : Piece). is_inside (multi_text (state_of xs ss)) p ≡ false) ps → first_sharing xs i ps ≡ None → (a : AllByRecursion (IsSynced ss) xs) → AllByRecursion (IsFine ss xs a) ps
  fine i [] f e a = tt
  fine i (p ∷ ps) f e a =
      let n = unless_none i (sharing_of xs (part_of xs p)) (first_sharing xs (suc i) ps) e in
      let b = both_true (is_boundary (multi_text (state_of xs ss)) p.start) (is_boundary (multi_text (state_of xs ss)) p.end) (not_true (is_boundary (multi_text (state_of xs ss)) p.start && is_boundary (multi_text (state_of xs ss)) p.end) f.0) in
      (record { start = b.0; end = b.1; alone = n.0 }, fine (suc i) ps f.1 n.1 a)

  each_faultless : (gs : List BufferPieces) → AllByRecursion (IsGroup ss xs []) gs → group_total gs ≤ text_limit → AllByRecursion (IsFaultless (state_of xs ss)) gs
  each_faultless [] a l = tt
  each_faultless (g ∷ gs) a l = (
    record { places = good_pieces (text (history_of g.buffer ss)) g.pieces a.0.good a.0.chained; texts = omega (arith, l) },
    each_faultless gs a.1 (omega (arith, l)),
  )

-- what changes without a fault meet
pub record ArePassed (m : MultiState) (ps : List Piece) : Type 0 where
  pub order : AreOrdered 0 ps
  pub inside : AllByRecursion (λ (p : Piece). is_inside (multi_text m) p ≡ false) ps
  pub texts : text_total ps ≤ text_limit
  pub within : AllByRecursion (λ (p : Piece). crosses m.excerpts p ≡ false) ps
  pub alone : first_sharing m.excerpts 0 ps ≡ None

pub split_passed : (m : MultiState) (ps : List Piece) → split_fault m ps ≡ None → ArePassed m ps
split_passed m ps e =
    let len : ℕ = length (multi_text m) in
    let n = all_none (
    option_map Reversed (position is_reversed ps)
    ∷ option_map Overlap (overlap_from 0 0 ps)
    ∷ option_map (λ i. PastEnd i len) (position (is_past len) ps)
    ∷ option_map InsideChar (position (is_inside (multi_text m)) ps)
    ∷ when (ltb text_limit (text_total ps)) (TextLimit (text_total ps))
    ∷ option_map Crosses (position (crosses m.excerpts) ps)
    ∷ option_map (λ r. Shared r.0 r.1) (first_sharing m.excerpts 0 ps)
    ∷ []) e in
    record {
      order = ordered 0 0 ps (map_none Overlap (overlap_from 0 0 ps) n.1.0) (position_none is_reversed ps (map_none Reversed (position is_reversed ps) n.0));
      inside = position_none (is_inside (multi_text m)) ps (map_none InsideChar (position (is_inside (multi_text m)) ps) n.1.1.1.0);
      texts = ltb-false text_limit (text_total ps) (when_none (ltb text_limit (text_total ps)) (TextLimit (text_total ps)) n.1.1.1.1.0);
      within = position_none (crosses m.excerpts) ps (map_none Crosses (position (crosses m.excerpts) ps) n.1.1.1.1.1.0);
      alone = map_none (λ r. Shared r.0 r.1) (first_sharing m.excerpts 0 ps) n.1.1.1.1.1.1.0;
    }

pub split_faultless : (m : MultiState) (ps : List Piece) → AllByRecursion (IsSynced m.synced) m.excerpts → split_fault m ps ≡ None → AllByRecursion (IsFaultless m) (split_of m ps)
split_faultless m ps a e =
    let f = split_passed m ps e in
    let t = total_split m.excerpts ps [] in
    let l = f.texts in
    each_faultless m.excerpts m.synced (split_of m ps)
    (groups_split m.synced m.excerpts a 0 ps [] f.order (fine m.excerpts m.synced 0 ps f.inside f.alone a) tt)
    (omega (arith, t, l))
