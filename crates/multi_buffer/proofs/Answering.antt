-- What a multibuffer answers of places, from the excerpt that a seek finds.
use Rattle.std.proofs.Common.{◌≡◌, inl, inr, ℕ, zero, suc, ◌+◌, ◌-◌, ◌≤◌, ◌<◌, ◌&&◌, Bool, true, false, cond, leb, List, [], ◌∷◌, ◌++◌, length, length-append, take, Option, Some, None, refl, sym, ap, ◌∙◌, subst, arith}
use Rattle.std.specs.Prelude.{slice_get}
use Rattle.std.specs.List.{AllByRecursion}
use Rattle.std.proofs.lemmas.Bool.{cases_Bool, le-leb, lt-leb, leb-true}
use Rattle.std.proofs.lemmas.Bool.Decides.{nat_tests}
use Rattle.std.proofs.lemmas.Option.{same_Some}
use Rattle.op_model.specs.Edits.{is_boundary}
use Rattle.op_model.specs.Shown.{text}
use Rattle.multi_buffer.specs.declared.excerpt.Excerpt.{Excerpt}
use Rattle.multi_buffer.specs.declared.source.Source.{Source}
use Rattle.multi_buffer.specs.declared.lengths.Lengths.{Lengths}
use Rattle.multi_buffer.specs.declared.places.Place.{Place}
use Rattle.multi_buffer.specs.State.{MultiState, history_of, multi_text, size, IsSynced}
use Rattle.multi_buffer.specs.Places.{is_place, multi_place, place_at, source_place, to_multi, to_source, width}
use Rattle.multi_buffer.specs.Following.{state_of}
use Rattle.multi_buffer.specs.Found.{AreShort, IsAtIndex, IsAtOffset, IsFound, IsShort}
use Rattle.multi_buffer.specs.Here.{IsHere, offset_of, place_of}
use Rattle.multi_buffer.specs.Laws.{PlacesComeBack}
use Rattle.multi_buffer.specs.Lengths.{offset_after, size_sum}
use Rattle.multi_buffer.proofs.Sums.{few_bytes, size_sum-append, width_is}
use Rattle.multi_buffer.proofs.Lines.{each_here, excerpt_is, shown_boundary}

place_if : (t : Bool) (p : Option Place) → t ≡ true → cond t p None ≡ p
place_if t p e = rw e refl

no_place : (t : Bool) (p : Option Place) → t ≡ false → cond t p None ≡ None
no_place t p e = rw e refl

none_if : (t : Bool) (p : Option Place) → p ≡ None → cond t p None ≡ None
none_if true p e = e
none_if false p e = refl

number_if : (t : Bool) (o : ℕ) → t ≡ true → cond t (Some o) None ≡ Some o
number_if t o e = rw e refl

no_number : (t : Bool) (o : ℕ) → t ≡ false → cond t (Some o) None ≡ None
no_number t o e = rw e refl

both_hold : (p q r : Bool) → p ≡ true → q ≡ true → (p && q && r) ≡ r
both_hold p q r e f = rw (e, f) refl

same_place : (i j : ℕ) (x : Excerpt) (k l : ℕ) → i ≡ j → k ≡ l → Some (place_at i x k) ≡ Some (place_at j x l)
same_place i j x k l e f = ap (λ (n : ℕ). Some (place_at n x k)) e ∙ ap (λ (n : ℕ). Some (place_at j x n)) f

-- ---- the excerpt that has an offset

place_in : (k : ℕ) (pre : List Excerpt) (x : Excerpt) (post : List Excerpt) (o : ℕ) → width pre ≤ o → o ≤ width pre + size x → source_place k (pre ++ x ∷ post) o ≡ Some (place_at (k + length pre) x (o - width pre))
place_in k [] x post o l m =
    first (leb o (size x)) (Some (place_at k x o)) (source_place (suc k) post (o - suc (size x))) (le-leb o (size x) (omega arith))
    ∙ same_place k (k + 0) x o (o - 0) (omega arith) (omega arith)
  where
    first : (t : Bool) (p q : Option Place) → t ≡ true → cond t p q ≡ p
    first t p q e = rw e refl
place_in k (y ∷ pre) x post o l m =
    other (leb o (size y)) (Some (place_at k y o)) (source_place (suc k) (pre ++ x ∷ post) (o - suc (size y))) (lt-leb o (size y) (omega arith))
    ∙ place_in (suc k) pre x post (o - suc (size y)) (omega arith) (omega arith)
    ∙ same_place (suc k + length pre) (k + length (y ∷ pre)) x (o - suc (size y) - width pre) (o - width (y ∷ pre)) (omega arith) (omega arith)
  where
    other : (t : Bool) (p q : Option Place) → t ≡ false → cond t p q ≡ q
    other t p q e = rw e refl

place_past : (k : ℕ) (xs : List Excerpt) (o : ℕ) → width xs ≤ o → source_place k xs o ≡ None
place_past k [] o l = refl
place_past k (x ∷ xs) o l =
    other (leb o (size x)) (Some (place_at k x o)) (source_place (suc k) xs (o - suc (size x))) (lt-leb o (size x) (omega arith))
    ∙ place_past (suc k) xs (o - suc (size x)) (omega arith)
  where
    other : (t : Bool) (p q : Option Place) → t ≡ false → cond t p q ≡ q
    other t p q e = rw e refl

-- an offset that has a place is in an excerpt
pub record HasPlace (xs : List Excerpt) (k o : ℕ) (p : Place) : Type 0 where
  pub pre : List Excerpt
  pub here : Excerpt
  pub post : List Excerpt
  pub parts : xs ≡ pre ++ here ∷ post
  pub low : width pre ≤ o
  pub high : o ≤ width pre + size here
  pub is : p ≡ place_at (k + length pre) here (o - width pre)

has_place : (k : ℕ) (xs : List Excerpt) (o : ℕ) (p : Place) → source_place k xs o ≡ Some p → HasPlace xs k o p
has_place k [] o p e = cc
has_place k (x ∷ xs) o p e = elim (cases_Bool (leb o (size x))) [
  | inl t ↦ (
      let f : Some (place_at k x o) ≡ Some p = rw t at e in
      let l = leb-true o (size x) t in
      let g : place_at k x o ≡ p = same_Some (place_at k x o) p f in
      record {
        pre = [];
        here = x;
        post = xs;
        parts = refl;
        low = omega arith;
        high = omega arith;
        is = sym g ∙ same_Some (place_at k x o) (place_at (k + 0) x (o - 0)) (same_place k (k + 0) x o (o - 0) (omega arith) (omega arith));
      })
  | inr t ↦ (
      let f : source_place (suc k) xs (o - suc (size x)) ≡ Some p = rw t at e in
      let l : size x < o = grind (arith, nat_tests, t) in
      let r = has_place (suc k) xs (o - suc (size x)) p f in
      let a = r.low in
      let b = r.high in
      record {
        pre = x ∷ r.pre;
        here = r.here;
        post = r.post;
        parts = ap (λ (ys : List Excerpt). x ∷ ys) r.parts;
        low = omega arith;
        high = omega arith;
        is = r.is ∙ same_Some (place_at (suc k + length r.pre) r.here (o - suc (size x) - width r.pre)) (place_at (k + length (x ∷ r.pre)) r.here (o - width (x ∷ r.pre)))
            (same_place (suc k + length r.pre) (k + length (x ∷ r.pre)) r.here (o - suc (size x) - width r.pre) (o - width (x ∷ r.pre)) (omega arith) (omega arith));
      })
]

-- ---- the excerpt of an index

pub get_here : (pre : List Excerpt) (x : Excerpt) (post : List Excerpt) (i : ℕ) → i ≡ length pre → slice_get (pre ++ x ∷ post) i ≡ Some x
get_here [] x post zero e = refl
get_here [] x post (suc i) e = absurd (omega arith)
get_here (y ∷ pre) x post zero e = absurd (omega arith)
get_here (y ∷ pre) x post (suc i) e = get_here pre x post i (omega arith)

pub take_here : (pre : List Excerpt) (x : Excerpt) (post : List Excerpt) (i : ℕ) → i ≡ length pre → take i (pre ++ x ∷ post) ≡ pre
take_here [] x post zero e = refl
take_here [] x post (suc i) e = absurd (omega arith)
take_here (y ∷ pre) x post zero e = absurd (omega arith)
take_here (y ∷ pre) x post (suc i) e = ap (λ (ys : List Excerpt). y ∷ ys) (take_here pre x post i (omega arith))

get_past : (xs : List Excerpt) (i : ℕ) → length xs ≤ i → slice_get xs i ≡ None
get_past [] i l = refl
get_past (x ∷ xs) zero l = absurd (omega arith)
get_past (x ∷ xs) (suc i) l = get_past xs i (omega arith)

-- the place of p in an excerpt
multi_here : (ss : List Source) (pre : List Excerpt) (x : Excerpt) (post : List Excerpt) (i p : ℕ) → i ≡ length pre → to_multi (state_of (pre ++ x ∷ post) ss) i p ≡ multi_place ss (width pre) p (Some x)
multi_here ss pre x post i p e =
    ap (λ (o : Option Excerpt). multi_place ss (width (take i (pre ++ x ∷ post))) p o) (get_here pre x post i e)
    ∙ ap (λ (ys : List Excerpt). multi_place ss (width ys) p (Some x)) (take_here pre x post i e)

module _ (xs : List Excerpt) (ss : List Source) where
  pub source_none : (o : ℕ) (b : Lengths) → IsAtOffset xs o None b → None ≡ to_source (state_of xs ss) o
  source_none o b f =
      let w = width_is xs in
      let q = ap offset_after f.0 in
      let l = f.1 in
      sym (none_if (is_boundary (multi_text (state_of xs ss)) o) (source_place 0 xs o) (place_past 0 xs o (omega arith)))

  pub multi_none : (i p : ℕ) (b : Lengths) → IsAtIndex xs i None b → None ≡ to_multi (state_of xs ss) i p
  multi_none i p b f =
      let q = ap (λ (y : Lengths). y.excerpts) f.0 in
      let l = f.1 in
      sym (ap (λ (o : Option Excerpt). multi_place ss (width (take i xs)) p o) (get_past xs i (omega arith)))

  module _ (i p : ℕ) (x : Excerpt) (b : Lengths) (f : IsAtIndex xs i (Some x) b) where
    at_index : to_multi (state_of xs ss) i p ≡ multi_place ss (width f.0) p (Some x)
    at_index =
        let q = ap (λ (y : Lengths). y.excerpts) f.3 in
        let l = f.4 in
        let m = f.5 in
        ap (λ (ys : List Excerpt). to_multi (state_of ys ss) i p) f.2 ∙ multi_here ss f.0 x f.1 i p (omega arith)

    width_before : width f.0 ≡ offset_after b
    width_before = width_is f.0 ∙ ap offset_after (sym f.3)

    pub at_index_synced : AllByRecursion (IsSynced ss) xs → IsSynced ss x
    at_index_synced a = each_here ss f.0 x f.1 (subst (AllByRecursion (IsSynced ss)) f.2 a)

    pub multi_some : (o : ℕ) → is_place ss x p ≡ true → o ≡ offset_after b + (p - x.start) → Some o ≡ to_multi (state_of xs ss) i p
    multi_some o t e =
        let w = width_before in
        let n : o ≡ width f.0 + (p - x.start) = omega arith in
        ap (λ (k : ℕ). Some k) n ∙ sym (at_index ∙ number_if (is_place ss x p) (width f.0 + (p - x.start)) t)

    pub multi_outside : is_place ss x p ≡ false → None ≡ to_multi (state_of xs ss) i p
    multi_outside t = sym (at_index ∙ no_number (is_place ss x p) (width f.0 + (p - x.start)) t)

  module _ (a : AllByRecursion (IsSynced ss) xs) (o : ℕ) (x : Excerpt) (b : Lengths) (f : IsAtOffset xs o (Some x) b) where
    before : width f.0 ≡ offset_after b
    before = width_is f.0 ∙ ap offset_after (sym f.3)

    low : width f.0 ≤ o
    low = let w = before in let l = f.4 in omega arith

    high : o ≤ width f.0 + size x
    high = let w = before in let m = f.5 in omega arith

    has : AllByRecursion (IsSynced ss) (f.0 ++ x ∷ f.1)
    has = subst (AllByRecursion (IsSynced ss)) f.2 a

    pub here : IsSynced ss x
    here = each_here ss f.0 x f.1 has

    in_text : is_boundary (multi_text (state_of xs ss)) o ≡ is_boundary (text (history_of x.buffer ss)) (x.start + (o - width f.0))
    in_text = ap (λ (ys : List Excerpt). is_boundary (multi_text (state_of ys ss)) o) f.2 ∙ shown_boundary ss f.0 x f.1 o has low high

    placed : source_place 0 xs o ≡ Some (place_at (0 + length f.0) x (o - width f.0))
    placed = ap (λ (ys : List Excerpt). source_place 0 ys o) f.2 ∙ place_in 0 f.0 x f.1 o low high

    module _ (p : ℕ) (e : p ≡ x.start + (o - offset_after b)) where
      same : x.start + (o - width f.0) ≡ p
      same = let w = before in omega arith

      tested : is_boundary (multi_text (state_of xs ss)) o ≡ is_place ss x p
      tested =
          let h = high in
          let l = low in
          let w = before in
          let s = same in
          in_text ∙ ap (λ (k : ℕ). is_boundary (text (history_of x.buffer ss)) k) same
          ∙ sym (both_hold (leb x.start p) (leb p x.end) (is_boundary (text (history_of x.buffer ss)) p) (le-leb x.start p (omega arith)) (le-leb p x.end (order p s)))
        where
          order : (q : ℕ) → x.start + (o - width f.0) ≡ q → q ≤ x.end
          order q s = let z = (excerpt_is ss x here).order in let h = high in omega arith

      pub source_some : is_place ss x p ≡ true → Some (record { excerpt = b.excerpts; buffer = x.buffer; offset = p }) ≡ to_source (state_of xs ss) o
      source_some t =
          let n : b.excerpts ≡ 0 + length f.0 = (let q = ap (λ (y : Lengths). y.excerpts) f.3 in omega arith) in
          let there : Some (record { excerpt = b.excerpts; buffer = x.buffer; offset = p }) ≡ Some (place_at (0 + length f.0) x (o - width f.0)) =
          ap (λ (k : ℕ). Some (record { excerpt = b.excerpts; buffer = x.buffer; offset = k })) (sym same)
          ∙ ap (λ (k : ℕ). Some (place_at k x (o - width f.0))) n in
          there ∙ sym (place_if (is_boundary (multi_text (state_of xs ss)) o) (source_place 0 xs o) (tested ∙ t) ∙ placed)

      pub source_outside : is_place ss x p ≡ false → None ≡ to_source (state_of xs ss) o
      source_outside t = sym (no_place (is_boundary (multi_text (state_of xs ss)) o) (source_place 0 xs o) (tested ∙ t))

-- ---- by the excerpt that is found

module _ (xs : List Excerpt) (ss : List Source) (a : AllByRecursion (IsSynced ss) xs) where
  pub source_found : (o : ℕ) (x : Excerpt) (b : Lengths) → IsAtOffset xs o (Some x) b → place_of ss x b o ≡ to_source (state_of xs ss) o
  source_found o x b f =
      let p : ℕ = x.start + (o - offset_after b) in
      elim (cases_Bool (is_place ss x p)) [
        | inl t ↦ place_if (is_place ss x p) (Some (place_at b.excerpts x (o - offset_after b))) t ∙ source_some xs ss a o x b f p refl t
        | inr t ↦ no_place (is_place ss x p) (Some (place_at b.excerpts x (o - offset_after b))) t ∙ source_outside xs ss a o x b f p refl t
      ]

  pub multi_found : (i p : ℕ) (x : Excerpt) (b : Lengths) → IsAtIndex xs i (Some x) b → offset_of ss x b p ≡ to_multi (state_of xs ss) i p
  multi_found i p x b f = elim (cases_Bool (is_place ss x p)) [
    | inl t ↦ number_if (is_place ss x p) (offset_after b + (p - x.start)) t ∙ multi_some xs ss i p x b f (offset_after b + (p - x.start)) t refl
    | inr t ↦ no_number (is_place ss x p) (offset_after b + (p - x.start)) t ∙ multi_outside xs ss i p x b f t
  ]

short_here : (pre : List Excerpt) (x : Excerpt) (post : List Excerpt) → AllByRecursion IsShort (pre ++ x ∷ post) → IsShort x
short_here [] x post a = a.0
short_here (y ∷ pre) x post a = short_here pre x post a.1

-- an excerpt that is found is short, and so is what lies before it
pub is_here : (count : Lengths → ℕ) (xs : List Excerpt) (o : ℕ) (x : Excerpt) (b : Lengths) → AreShort xs → IsFound count xs o (Some x) b → IsHere x b
is_here count xs o x b a f =
    let s = short_here f.0 x f.1 (subst (AllByRecursion IsShort) f.2 a.each) in
    let n = few_bytes xs a in
    let m = ap size_sum f.2 ∙ size_sum-append f.0 (x ∷ f.1) in
    let k = ap length f.2 ∙ length-append f.0 (x ∷ f.1) in
    let w = a.few in
    let i = ap (λ (y : Lengths). y.excerpts) f.3 in
    let j = ap (λ (y : Lengths). y.bytes) f.3 in
    record { order = s.order; end = s.end; excerpts = omega arith; bytes = omega arith }

-- ---- places come back

is_some_if : (t : Bool) (q : Option Place) (p : Place) → cond t q None ≡ Some p → (t ≡ true) × (q ≡ Some p)
is_some_if true q p e = (refl, e)
is_some_if false q p e = cc

pub come_back : (m : MultiState) → AllByRecursion (IsSynced m.synced) m.excerpts → PlacesComeBack m
come_back m a o p e =
    let s = is_some_if (is_boundary (multi_text m) o) (source_place 0 m.excerpts o) p e in
    let r = has_place 0 m.excerpts o p s.1 in
    let ss : List Source = m.synced in
    let all : AllByRecursion (IsSynced ss) (r.pre ++ r.here ∷ r.post) = subst (AllByRecursion (IsSynced ss)) r.parts a in
    let k : ℕ = o - width r.pre in
    let x : Excerpt = r.here in
    let l = r.low in
    let h = r.high in
    let z = (excerpt_is ss x (each_here ss r.pre x r.post all)).order in
    let bound : is_boundary (text (history_of x.buffer ss)) (x.start + k) ≡ true = sym (shown_boundary ss r.pre x r.post o all l h) ∙ ap (λ (ys : List Excerpt). is_boundary (multi_text (state_of ys ss)) o) (sym r.parts) ∙ s.0 in
    let t : is_place ss x (x.start + k) ≡ true = both_hold (leb x.start (x.start + k)) (leb (x.start + k) x.end) (is_boundary (text (history_of x.buffer ss)) (x.start + k)) (le-leb x.start (x.start + k) (omega arith)) (le-leb (x.start + k) x.end (omega arith)) ∙ bound in
    let n : 0 + length r.pre ≡ length r.pre = omega arith in
    let back : width r.pre + (x.start + k - x.start) ≡ o = omega arith in
    ap (λ (q : Place). to_multi m q.excerpt q.offset) r.is
    ∙ ap (λ (ys : List Excerpt). to_multi (state_of ys ss) (0 + length r.pre) (x.start + k)) r.parts
    ∙ multi_here ss r.pre x r.post (0 + length r.pre) (x.start + k) n
    ∙ number_if (is_place ss x (x.start + k)) (width r.pre + (x.start + k - x.start)) t
    ∙ ap (λ (i : ℕ). Some i) back
