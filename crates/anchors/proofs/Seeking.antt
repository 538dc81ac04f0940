-- Seeks among fragments: by an id, and by shown cells.
use Rattle.std.proofs.Common.{◌≡◌, ℕ, zero, suc, ◌+◌, ◌<◌, ◌≤◌, ◌^◌, Bool, true, false, cond, not, nat_lt, List, [], ◌∷◌, ◌++◌, length, take, drop, zero-add, Option, Some, None, refl, sym, ap, ◌∙◌, arith, subst, inl, inr}
use Rattle.std.specs.Prelude.{slice_get}
use Rattle.std.proofs.lemmas.Bool.{cases_Bool, ltb-true, ltb-false}
use Rattle.sum_tree.specs.Laws.{fold}
use Rattle.tree_cursor.specs.Places.{behind, place_behind, seek_count, filter_count}
use Rattle.tree_cursor.specs.Counting.{number_passes}
use Rattle.tree_cursor.specs.declared.traits.Bias.TheVariants.{Right}
use Rattle.locators.specs.Locator.{least_digits}
use Rattle.fragments.specs.declared.fragment.Fragment.{Fragment}
use Rattle.fragments.specs.declared.fragment.FragmentSummary.{FragmentSummary}
use Rattle.fragments.specs.Summaries.{no_fragments, summaries, summary_of, id_less, SummaryFits}
use Rattle.fragments.specs.SummaryLaws.{id_order}
use Rattle.fragments.specs.SeenPlaces.{move_visible}
use Rattle.fragments.specs.Stand.{Rise}
use Rattle.fragments.specs.Laws.{shown_len, cells_len}
use Rattle.fragments.proofs.Counts.{own_cells, visible_more, places_count_cells, fold_cells, cells_len-append}
use Rattle.fragments.proofs.Cells.{shown_less}
use Rattle.fragments.proofs.Rises.{not_self, less_is}
use Rattle.anchors.specs.Before.{CellsBefore, at, move_before, reaches}
use Rattle.std.proofs.lemmas.Option.{same_Some, none-some}
use Rattle.anchors.specs.Spots.{run_behind, RunFits}

below : (low : List ℕ) (pre post : List Fragment) (f : Fragment) → Rise low (pre ++ f ∷ post) → id_less low f.id ≡ true
below low [] post f r = less_is low f.id r.0
below low (g ∷ pre) post f r = id_order.up low g.id f.id (less_is low g.id r.0) (below g.id pre post f r.2)

-- how many fragments stand before the first that reaches an id
abbrev pub sought : List ℕ → List Fragment → ℕ
sought i fs = filter_count (reaches i) summary_of fs

pub seek_id : (pre post : List Fragment) (f : Fragment) (low : List ℕ) → Rise low (pre ++ f ∷ post) → sought f.id (pre ++ f ∷ post) ≡ length pre
seek_id [] post f low r = ap (λ b. cond b 0 (1 + sought f.id post)) (ap not (not_self f.id))
seek_id (g ∷ pre) post f low r =
    let e = below g.id pre post f r.2 in
    let ih = seek_id pre post f g.id r.2 in
    ap (λ b. cond b 0 (1 + sought f.id (pre ++ f ∷ post))) (ap not e) ∙ ap (λ m. 1 + m) ih ∙ omega arith

-- ---- places

shown_more : (f : Fragment) (fs : List Fragment) (n : ℕ) → n + (summary_of f).visible + shown_len fs ≡ n + shown_len (f ∷ fs)
shown_more f fs n = let e = visible_more f fs in omega (arith, e)

pub shown_behind : (p : CellsBefore) (fs : List Fragment) → (place_behind move_before summary_of p fs).0 ≡ p.0 + shown_len fs
shown_behind p [] = omega arith
shown_behind p (f ∷ fs) = shown_behind (behind p (move_before p (summary_of f))) fs ∙ shown_more f fs p.0

pub cells_behind : (p : CellsBefore) (fs : List Fragment) → (place_behind move_before summary_of p fs).1 ≡ p.1 + cells_len fs
cells_behind p [] = omega arith
cells_behind p (f ∷ fs) = let c = own_cells f in cells_behind (behind p (move_before p (summary_of f))) fs ∙ omega (arith, c)

abbrev pub whole : List Fragment → FragmentSummary
whole fs = fold no_fragments summaries summary_of fs

pub whole_cells : (fs : List Fragment) → SummaryFits (whole fs) → cells_len fs < 2 ^ 64
whole_cells fs h = let a = fold_cells no_fragments fs in omega (arith, a, h)

-- ---- what stands at an index

pub record At (fs : List Fragment) (n : ℕ) (f : Fragment) : Type 0 where
  pub post : List Fragment
  pub parts : fs ≡ take n fs ++ f ∷ post

pub at_index : (fs : List Fragment) (n : ℕ) (f : Fragment) → slice_get fs n ≡ Some f → At fs n f
at_index [] n f e = absurd (cc)
at_index (g ∷ fs) zero f e = let i : g ≡ f = cc in record { post = fs; parts = ap (λ z. z ∷ fs) i }
at_index (g ∷ fs) (suc n) f e = let k = at_index fs n f e in record { post = k.post; parts = ap (λ z. g ∷ z) k.parts }

pub got_middle : (pre : List Fragment) (f : Fragment) (post : List Fragment) → (slice_get (pre ++ f ∷ post) (length pre) ≡ Some f) × (take (length pre) (pre ++ f ∷ post) ≡ pre)
got_middle [] f post = (refl, refl)
got_middle (g ∷ pre) f post = let k = got_middle pre f post in (k.0, ap (λ z. g ∷ z) k.1)

-- ---- shown cells

abbrev pub shown_sought : ℕ → ℕ → List Fragment → ℕ
shown_sought o n fs = seek_count move_visible summary_of (λ p. number_passes o p Right) n fs

-- a seek from n on to shown cell o stops at the fragment f that has it
pub record HasShown (o n : ℕ) (fs : List Fragment) (f : Fragment) : Type 0 where
  pub low : n + shown_len (take (shown_sought o n fs) fs) ≤ o
  pub high : o < n + shown_len (take (shown_sought o n fs) fs) + f.len
  pub visible : f.visible ≡ true

has_more : (o n : ℕ) (g : Fragment) (fs : List Fragment) (f : Fragment) → nat_lt o (n + (summary_of g).visible) ≡ false → HasShown o (n + (summary_of g).visible) fs f → HasShown o n (g ∷ fs) f
has_more o n g fs f t k =
    let m : ℕ = shown_sought o (n + (summary_of g).visible) fs in
    let q : shown_sought o n (g ∷ fs) ≡ suc m = ap (λ b. cond b 0 (1 + m)) t ∙ omega arith in
    let e : n + shown_len (take (shown_sought o n (g ∷ fs)) (g ∷ fs)) ≡ n + (summary_of g).visible + shown_len (take m fs) =
    ap (λ i. n + shown_len (take i (g ∷ fs))) q ∙ sym (shown_more g (take m fs) n) in
    let a = k.low in let b = k.high in
    record { low = omega (arith, e, a); high = omega (arith, e, b); visible = k.visible }

has_here : (o n : ℕ) (f : Fragment) (fs : List Fragment) → n ≤ o → nat_lt o (n + (summary_of f).visible) ≡ true → HasShown o n (f ∷ fs) f
has_here o n f fs h t =
    let m : ℕ = shown_sought o (n + (summary_of f).visible) fs in
    let q : shown_sought o n (f ∷ fs) ≡ 0 = ap (λ b. cond b 0 (1 + m)) t in
    let e : n + shown_len (take (shown_sought o n (f ∷ fs)) (f ∷ fs)) ≡ n = ap (λ i. n + shown_len (take i (f ∷ fs))) q ∙ omega arith in
    let l = ltb-true o (n + (summary_of f).visible) t in
    let v = some f.visible l in
    let u = own v l in
    record { low = omega (arith, e, h); high = omega (arith, e, u); visible = v }
  where
    some : (b : Bool) → o < n + cond b f.len 0 → b ≡ true
    some true l = refl
    some false l = absurd (omega (arith, l, h))

    own : f.visible ≡ true → o < n + cond f.visible f.len 0 → o < n + f.len
    own v l = subst (λ (b : Bool). o < n + cond b f.len 0) v l

pub seek_shown : (fs : List Fragment) (o n : ℕ) (f : Fragment) → n ≤ o → slice_get fs (shown_sought o n fs) ≡ Some f → HasShown o n fs f
seek_shown [] o n f h e = absurd (cc)
seek_shown (g ∷ fs) o n f h e = elim (cases_Bool (nat_lt o (n + (summary_of g).visible))) [
  | inl t ↦ (let q : shown_sought o n (g ∷ fs) ≡ 0 = ap (λ b. cond b 0 (1 + shown_sought o (n + (summary_of g).visible) fs)) t in
      let i : Some g ≡ Some f = ap (slice_get (g ∷ fs)) (sym q) ∙ e in
      let j : g ≡ f = cc in
      subst (λ (z : Fragment). HasShown o n (g ∷ fs) z) j (has_here o n g fs h t))
  | inr t ↦ (let m : ℕ = shown_sought o (n + (summary_of g).visible) fs in
      let q : shown_sought o n (g ∷ fs) ≡ suc m = ap (λ b. cond b 0 (1 + m)) t ∙ omega arith in
      let i : slice_get fs m ≡ Some f = ap (slice_get (g ∷ fs)) (sym q) ∙ e in
      has_more o n g fs f t (seek_shown fs o (n + (summary_of g).visible) f (ltb-false o (n + (summary_of g).visible) t) i))
]

-- a seek that finds nothing passes all shown cells
pub seek_none : (fs : List Fragment) (o n : ℕ) → n ≤ o → slice_get fs (shown_sought o n fs) ≡ None → n + shown_len fs ≤ o
seek_none [] o n h e = omega (arith, h)
seek_none (g ∷ fs) o n h e = elim (cases_Bool (nat_lt o (n + (summary_of g).visible))) [
  | inl t ↦ (let q : shown_sought o n (g ∷ fs) ≡ 0 = ap (λ b. cond b 0 (1 + shown_sought o (n + (summary_of g).visible) fs)) t in
      let i : Some g ≡ None = ap (slice_get (g ∷ fs)) (sym q) ∙ e in absurd (cc))
  | inr t ↦ (let m : ℕ = shown_sought o (n + (summary_of g).visible) fs in
      let q : shown_sought o n (g ∷ fs) ≡ suc m = ap (λ b. cond b 0 (1 + m)) t ∙ omega arith in
      let i : slice_get fs m ≡ None = ap (slice_get (g ∷ fs)) (sym q) ∙ e in
      let k = seek_none fs o (n + (summary_of g).visible) (ltb-false o (n + (summary_of g).visible) t) i in
      sym_le (shown_more g fs n) k)
]
  where
    sym_le : {a b : ℕ} → a ≡ b → a ≤ o → b ≤ o
    sym_le e k = omega (arith, e, k)

-- ---- what a seek by an id gives

abbrev pub start : CellsBefore
start = (0, 0)

pub seek_finds : (fs : List Fragment) (i : List ℕ) (pre post : List Fragment) (f : Fragment) → fs ≡ pre ++ f ∷ post → Rise least_digits fs → f.id ≡ i
    → (slice_get fs (sought i fs) ≡ Some f) × (take (sought i fs) fs ≡ pre)
seek_finds fs i pre post f e r d =
    let q : sought i fs ≡ length pre = ap (λ x. sought x fs) (sym d) ∙ ap (sought f.id) e ∙ seek_id pre post f least_digits (subst (Rise least_digits) e r) in
    let g = got_middle pre f post in
    (ap (slice_get fs) q ∙ ap (λ z. slice_get z (length pre)) e ∙ g.0, ap (λ m. take m fs) q ∙ ap (take (length pre)) e ∙ g.1)

pub seek_not_none : (fs : List Fragment) (i : List ℕ) (pre post : List Fragment) (f : Fragment) → fs ≡ pre ++ f ∷ post → Rise least_digits fs → f.id ≡ i → None ≡ slice_get fs (sought i fs) → ⊥
seek_not_none fs i pre post f e r d n = none-some f (n ∙ (seek_finds fs i pre post f e r d).0)

pub seek_room : (fs : List Fragment) (n : ℕ) (f : Fragment) (p : CellsBefore) → slice_get fs n ≡ Some f → p ≡ place_behind move_before summary_of start (take n fs) → SummaryFits (whole fs) → RunFits (run_behind f p.0 p.1)
seek_room fs n f p e q h =
    let a = at_index fs n f e in
    let s : p.0 ≡ 0 + shown_len (take n fs) = ap (λ (z : CellsBefore). z.0) q ∙ shown_behind start (take n fs) in
    let c : p.1 ≡ 0 + cells_len (take n fs) = ap (λ (z : CellsBefore). z.1) q ∙ cells_behind start (take n fs) in
    let l = shown_less (take n fs) in
    let w = whole_cells fs h in
    let t : cells_len fs ≡ cells_len (take n fs) + (f.len + cells_len a.post) = ap cells_len a.parts ∙ cells_len-append (take n fs) (f ∷ a.post) in
    record { shown = omega (arith, s, l, w, t); cells = omega (arith, c, w, t); fewer = omega (arith, s, c, l) }

same_run : (f g : Fragment) (v w m n : ℕ) → f ≡ g → v ≡ w → m ≡ n → run_behind f v m ≡ run_behind g w n
same_run f g v w m n a b c = ap (λ (z : Fragment). run_behind z v m) a ∙ ap (λ (z : ℕ). run_behind g z m) b ∙ ap (λ (z : ℕ). run_behind g w z) c

pub seek_run : (fs : List Fragment) (i : List ℕ) (pre post : List Fragment) (f : Fragment) → fs ≡ pre ++ f ∷ post → Rise least_digits fs → f.id ≡ i
    → (g : Fragment) (p : CellsBefore) → slice_get fs (sought i fs) ≡ Some g → p ≡ place_behind move_before summary_of start (take (sought i fs) fs)
    → run_behind g p.0 p.1 ≡ run_behind f (shown_len pre) (cells_len pre)
seek_run fs i pre post f e r d g p a q =
    let z = seek_finds fs i pre post f e r d in
    let m : List Fragment = take (sought i fs) fs in
    let s : p.0 ≡ 0 + shown_len m = ap (λ (x : CellsBefore). x.0) q ∙ shown_behind start m in
    let c : p.1 ≡ 0 + cells_len m = ap (λ (x : CellsBefore). x.1) q ∙ cells_behind start m in
    let u = ap shown_len z.1 in
    let v = ap cells_len z.1 in
    same_run g f p.0 (shown_len pre) p.1 (cells_len pre) (same_Some g f (sym a ∙ z.0)) (omega (arith, s, u)) (omega (arith, c, v))

-- what a cursor with such parts finds first, and where it starts
module _ (fs items : List Fragment) (i j : List ℕ) (next : ℕ) (items_are : items ≡ fs) (id_is : j ≡ i) (begins : next ≡ 0) where
  over_is : next + filter_count (reaches j) summary_of (drop next items) ≡ sought i fs
  over_is = ap (λ (n : ℕ). n + filter_count (reaches j) summary_of (drop n items)) begins ∙ zero-add (sought j items) ∙ ap (λ (x : List ℕ). sought x items) id_is ∙ ap (sought i) items_are

  pub first_is : (g : Option Fragment) → g ≡ slice_get items (next + filter_count (reaches j) summary_of (drop next items)) → g ≡ slice_get fs (sought i fs)
  first_is g q = q ∙ ap (slice_get items) over_is ∙ ap (λ (xs : List Fragment). slice_get xs (sought i fs)) items_are

  pub start_is : (p : CellsBefore) (v n given : ℕ) (items2 : List Fragment) → p ≡ place_behind move_before summary_of (at v n) (take given items2)
      → items2 ≡ items → given ≡ next + filter_count (reaches j) summary_of (drop next items) → v ≡ 0 → n ≡ 0
      → p ≡ place_behind move_before summary_of start (take (sought i fs) fs)
  start_is p v n given items2 q e g a b =
      q ∙ ap (λ (x : ℕ). place_behind move_before summary_of (at x n) (take given items2)) a
      ∙ ap (λ (x : ℕ). place_behind move_before summary_of (at 0 x) (take given items2)) b
      ∙ ap (λ (x : ℕ). place_behind move_before summary_of start (take x items2)) (g ∙ over_is)
      ∙ ap (λ (xs : List Fragment). place_behind move_before summary_of start (take (sought i fs) xs)) (e ∙ items_are)

-- ---- what a seek of a shown cell gives

-- fragment f has shown cell o, and b shown cells stand before it
pub record ByteAt (fs : List Fragment) (o : ℕ) (f : Fragment) (b : ℕ) : Type 0 where
  pub pre : List Fragment
  pub post : List Fragment
  pub parts : fs ≡ pre ++ f ∷ post
  pub count : shown_len pre ≡ b
  pub low : b ≤ o
  pub high : o < b + f.len
  pub visible : f.visible ≡ true

pub byte_at : (fs : List Fragment) (o : ℕ) (f : Fragment) (b : ℕ) → slice_get fs (shown_sought o 0 fs) ≡ Some f
    → b ≡ place_behind move_visible summary_of 0 (take (shown_sought o 0 fs) fs) → ByteAt fs o f b
byte_at fs o f b e q =
    let m : List Fragment = take (shown_sought o 0 fs) fs in
    let k = seek_shown fs o 0 f (omega arith) e in
    let a = at_index fs (shown_sought o 0 fs) f e in
    let c : b ≡ 0 + shown_len m = q ∙ (places_count_cells m 0).1 in
    let l = k.low in let u = k.high in
    record {
      pre = m;
      post = a.post;
      parts = a.parts;
      count = omega (arith, c);
      low = omega (arith, c, l);
      high = omega (arith, c, u);
      visible = k.visible;
    }
