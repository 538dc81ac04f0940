-- Folds of a history and of later ones, and their ranges.
use Rattle.std.proofs.Common.{◌≡◌, inl, inr, ℕ, ◌≤◌, ◌||◌, Bool, true, cond, List, [], ◌∷◌, ◌++◌, length, map, Some, None, refl, sym, ap, ◌∙◌, arith}
use Rattle.std.specs.List.{All, AllByRecursion}
use Rattle.std.proofs.lemmas.List.Elements.{All-head, All-tail, All-map, All-weaker}
use Rattle.op_model.specs.Domains.{IsProper}
use Rattle.op_model.specs.Histories.{History, SameSet}
use Rattle.op_model.specs.Lawful.{Lawful}
use Rattle.op_model.specs.Edits.{is_boundary}
use Rattle.op_model.specs.Shown.{text}
use Rattle.op_model.specs.Anchors.{place, is_known, known_place}
use Rattle.op_model.specs.declared.anchor.Anchor.{Anchor}
use Rattle.op_model.proofs.MainLaws.{same_sets_answer_alike, same_sets_agree, anchors_keep_their_order, anchors_stand_in_order, parts_begin_histories, places_are_boundaries}
use Rattle.fold_spans.specs.Marks.{Range, marks, shown_text, shown_place, text_place}
use Rattle.fold_spans.specs.Sweep.{range_of, IsWithin as IsRangeWithin}
use Rattle.fold_map.specs.declared.fold.Fold.{Fold}
use Rattle.fold_map.specs.declared.fold.NumberedFold.{NumberedFold}
use Rattle.fold_map.specs.Folds.{FoldState, IsFold, range, ranges, is_inside}
use Rattle.fold_map.specs.Calls.{IsWithin}
use Rattle.fold_map.specs.Laws.{ShowAlike}
use Rattle.fold_map.specs.Numbered.{fold_of, folds_of, AreFolds, numbered_range, numbered_ranges}
use Rattle.fold_map.proofs.Cuts.{AreCut, boundary_within}

-- ---- of a later history

fold_stays : (h g : History) → Lawful h → Lawful g → IsWithin h g → (f : Fold) → IsFold h f → IsFold g f
fold_stays h g l k w f i =
    let m = parts_begin_histories h g l k w in
    let a = same_sets_answer_alike (h ++ m.0) g m.1 k m.2 in
    let s = anchors_keep_their_order h m.0 l m.1 f.start f.end i.start i.end in
    let e = anchors_keep_their_order h m.0 l m.1 f.end f.end i.end i.end in
    record {
      start = sym (a.1 f.start).0 ∙ s.0;
      end = sym (a.1 f.end).0 ∙ e.0;
      order = sym (a.2 f.start f.end) ∙ s.1 ∙ i.order;
    }

pub folds_stay : (h g : History) → Lawful h → Lawful g → IsWithin h g → (fs : List NumberedFold) → AreFolds h fs → AreFolds g fs
folds_stay h g l k w fs a = All-weaker (λ f. IsFold h (fold_of f)) (λ f. IsFold g (fold_of f)) (λ f i. fold_stays h g l k w (fold_of f) i) fs a

-- ---- ranges

known : (h : History) (a : Anchor) → is_known h a ≡ true → known_place h a ≡ Some (place h a)
known h a e = is_there (is_known h a) (place h a) e
  where
    is_there : (b : Bool) (p : ℕ) → b ≡ true → cond b (Some p) None ≡ Some p
    is_there b p f = rw f refl

module _ (h : History) (l : Lawful h) (p : AllByRecursion IsProper h) where
  pub fold_order : (f : Fold) → IsFold h f → place h f.start ≤ place h f.end
  fold_order f i = (anchors_stand_in_order h f.start f.end).0 i.order

  pub start_boundary : (f : Fold) → IsFold h f → is_boundary (text h) (place h f.start) ≡ true
  start_boundary f i = places_are_boundaries h l p f.start (place h f.start) (known h f.start i.start)

  pub end_boundary : (f : Fold) → IsFold h f → is_boundary (text h) (place h f.end) ≡ true
  end_boundary f i = places_are_boundaries h l p f.end (place h f.end) (known h f.end i.end)

  range_within : (f : NumberedFold) → IsFold h (fold_of f) → IsRangeWithin 0 (length (text h)) (numbered_range h f)
  range_within f i = record {
    start = omega arith;
    order = fold_order (fold_of f) i;
    end = boundary_within (text h) (place h f.fold.end) (end_boundary (fold_of f) i);
  }

  pub ranges_within : (fs : List NumberedFold) → AreFolds h fs → All (IsRangeWithin 0 (length (text h))) (numbered_ranges h fs)
  ranges_within fs a = All-map (IsRangeWithin 0 (length (text h))) (numbered_range h) fs (All-weaker (λ f. IsFold h (fold_of f)) (λ f. IsRangeWithin 0 (length (text h)) (numbered_range h f)) range_within fs a)

  pub cut_folds : (fs : List Fold) → All (IsFold h) fs → AreCut (text h) (ranges h fs)
  cut_folds [] a r i = absurd i
  cut_folds (f ∷ fs) a r (inl e) =
      let w : IsFold h f = All-head (IsFold h) f fs a in
      (ap (λ (x : Range). is_boundary (text h) x.0) e ∙ start_boundary f w, ap (λ (x : Range). is_boundary (text h) x.1) e ∙ end_boundary f w)
  cut_folds (f ∷ fs) a r (inr i) = cut_folds fs (All-tail (IsFold h) f fs a) r i

  pub cut_ranges : (fs : List NumberedFold) → AreFolds h fs → AreCut (text h) (ranges h (folds_of fs))
  cut_ranges fs a = cut_folds (folds_of fs) (All-map (IsFold h) fold_of fs a)

pub ranges_same : (h : History) (fs : List NumberedFold) → map range_of (numbered_ranges h fs) ≡ ranges h (folds_of fs)
ranges_same h [] = refl
ranges_same h (f ∷ fs) = ap (λ (rs : List Range). range h (fold_of f) ∷ rs) (ranges_same h fs)

-- ---- two maps

ranges_alike : (h g : History) → ((a : Anchor) → place h a ≡ place g a) → (fs : List Fold) → ranges h fs ≡ ranges g fs
ranges_alike h g e [] = refl
ranges_alike h g e (f ∷ fs) =
    ap (λ (x : ℕ). (x, place h f.end) ∷ ranges h fs) (e f.start) ∙ ap (λ (x : ℕ). (place g f.start, x) ∷ ranges h fs) (e f.end)
    ∙ ap (λ (rs : List Range). (place g f.start, place g f.end) ∷ rs) (ranges_alike h g e fs)

both_same : {A : Type 0} (f : List Range → List ℕ → A) (rs qs : List Range) (bs cs : List ℕ) → rs ≡ qs → bs ≡ cs → f rs bs ≡ f qs cs
both_same f rs qs bs cs e g = rw (e, g) refl

-- what is shown and all places follow from the ranges and the text
by_parts : (m n : FoldState) → ranges m.history m.folds ≡ ranges n.history n.folds → text m.history ≡ text n.history → ShowAlike m n
by_parts m n r t = record {
  texts = both_same shown_text (ranges m.history m.folds) (ranges n.history n.folds) (text m.history) (text n.history) r t;
  shown_places = λ o b. both_same (λ rs bs. cond (is_boundary bs o) (Some (shown_place (marks rs 0 (length bs)) o b)) None) (ranges m.history m.folds) (ranges n.history n.folds) (text m.history) (text n.history) r t;
  text_places = λ d b. both_same (λ rs bs. cond (is_boundary (shown_text rs bs) d || is_inside (marks rs 0 (length bs)) d) (Some (text_place (marks rs 0 (length bs)) d b)) None) (ranges m.history m.folds) (ranges n.history n.folds) (text m.history) (text n.history) r t;
}

pub show_alike : (m n : FoldState) → Lawful m.history → Lawful n.history → SameSet m.history n.history → m.folds ≡ n.folds → ShowAlike m n
show_alike m n l k s e =
    let a = same_sets_answer_alike m.history n.history l k s in
    let t : text m.history ≡ text n.history = (same_sets_agree m.history n.history l k s).2 in
    let r : ranges m.history m.folds ≡ ranges n.history n.folds = ranges_alike m.history n.history (λ x. (a.1 x).1) m.folds ∙ ap (ranges n.history) e in
    by_parts m n r t
