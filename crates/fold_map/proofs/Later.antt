-- Ranges of folds in a later history, by the edits since an earlier one.
use Rattle.std.proofs.Common.{◌≡◌, ℕ, ◌+◌, ◌-◌, true, List, [], ◌∷◌, ◌++◌, length, map, take, get_or, Option, Some, None, refl, sym, ap, ◌∙◌, subst, nat_cmp}
use Rattle.std.specs.Prelude.{nat_le}
use Rattle.std.specs.List.{All}
use Rattle.std.proofs.lemmas.List.Elements.{All-nil, All-cons, All-head, All-tail, All-map, All-weaker}
use Rattle.sum_tree.specs.Keyed.{Ascending, item_of_key}
use Rattle.op_model.specs.declared.anchor.Anchor.{Anchor}
use Rattle.op_model.specs.declared.anchor.TextEdit.{TextEdit}
use Rattle.op_model.specs.Lawful.{Lawful}
use Rattle.op_model.specs.Histories.{History, SameSet, version}
use Rattle.op_model.specs.Anchors.{place, is_known, gap}
use Rattle.op_model.specs.Shown.{text}
use Rattle.op_model.specs.Since.{Fate, fates, since, edits_of, runs}
use Rattle.op_model.specs.Since.Fate.{Kept}
use Rattle.op_model.specs.Places.{number_then, number_now}
use Rattle.op_model.proofs.MainLaws.{same_sets_answer_alike, same_sets_agree, parts_begin_histories, places_by_fates}
use Rattle.text_buffer.specs.Document.{IsBufferHistory}
use Rattle.fold_spans.specs.Sweep.{range_of, number_of as range_number, IsWithin as IsRangeWithin}
use Rattle.fold_spans.specs.Parts.{AllStay, LieBetween}
use Rattle.fold_spans.specs.declared.sweep.FoldRange.{FoldRange}
use Rattle.fold_map.specs.declared.fold.NumberedFold.{NumberedFold}
use Rattle.fold_map.specs.Folds.{IsFold}
use Rattle.fold_map.specs.Calls.{IsWithin}
use Rattle.fold_map.specs.Numbered.{number_of, fold_of, AreFolds, numbered_range, numbered_ranges}
use Rattle.fold_map.specs.Windows.{found_range, named_ranges}
use Rattle.fold_map.proofs.Fates.{passed_alike, as_edit, IsEnd, edits_lie_between}
use Rattle.fold_map.proofs.Named.{found_itself}
use Rattle.fold_map.proofs.Followed.{folds_stay, ranges_within}
use Rattle.fold_map.proofs.KeptRuns.{Bounds}

-- ---- ranges by their numbers, in the later history

abbrev renewed_by : History → FoldRange → Option NumberedFold → FoldRange
renewed_by g r None = r
renewed_by g r (Some f) = numbered_range g f

-- the range in g of the fold that has the number of a range
abbrev pub renew : History → List NumberedFold → FoldRange → FoldRange
renew g fs r = renewed_by g r (item_of_key nat_cmp number_of (range_number r) fs)

module _ (h g : History) (fs : List NumberedFold) (a : Ascending nat_cmp number_of fs) where
  abbrev Finds : NumberedFold → Type 0
  Finds f = item_of_key nat_cmp number_of (number_of f) fs ≡ Some f

  abbrev pub IsOwn : FoldRange → Type 0
  IsOwn r = found_range g (item_of_key nat_cmp number_of (range_number r) fs) ≡ renew g fs r ∷ []

  pub renews_one : All (λ f. renew g fs (numbered_range h f) ≡ numbered_range g f) fs
  renews_one = All-weaker Finds (λ f. renew g fs (numbered_range h f) ≡ numbered_range g f) (λ f e. ap (renewed_by g (numbered_range h f)) e) fs (found_itself fs a)

  renews_these : (gs : List NumberedFold) → All (λ f. renew g fs (numbered_range h f) ≡ numbered_range g f) gs → map (renew g fs) (numbered_ranges h gs) ≡ numbered_ranges g gs
  renews_these [] e = refl
  renews_these (f ∷ gs) e =
      ap (λ (r : FoldRange). r ∷ map (renew g fs) (numbered_ranges h gs)) (All-head (λ x. renew g fs (numbered_range h x) ≡ numbered_range g x) f gs e)
      ∙ ap (λ (rs : List FoldRange). numbered_range g f ∷ rs) (renews_these gs (All-tail (λ x. renew g fs (numbered_range h x) ≡ numbered_range g x) f gs e))

  pub renews_all : map (renew g fs) (numbered_ranges h fs) ≡ numbered_ranges g fs
  renews_all = renews_these fs renews_one

  pub all_own : All IsOwn (numbered_ranges h fs)
  all_own = All-map IsOwn (numbered_range h) fs
      (All-weaker Finds (λ f. IsOwn (numbered_range h f)) (λ f e. ap (found_range g) e ∙ ap (λ (r : FoldRange). r ∷ []) (sym (ap (renewed_by g (numbered_range h f)) e))) fs (found_itself fs a))

  pub named_renewed : (rs : List FoldRange) → All IsOwn rs → named_ranges g fs (map range_number rs) ≡ map (renew g fs) rs
  named_renewed [] o = refl
  named_renewed (r ∷ rs) o =
      ap (λ (qs : List FoldRange). qs ++ named_ranges g fs (map range_number rs)) (All-head IsOwn r rs o)
      ∙ ap (λ (qs : List FoldRange). renew g fs r ∷ qs) (named_renewed rs (All-tail IsOwn r rs o))

-- ---- kept bytes

module _ (h g : History) (b : IsBufferHistory h) (d : IsBufferHistory g) (w : IsWithin h g) where
  pub begins : (more : History) × Lawful (h ++ more) × SameSet (h ++ more) g
  begins = parts_begin_histories h g b.lawful d.lawful w

  abbrev pub more : History
  more = begins.0

  abbrev pub all_fates : List Fate
  all_fates = fates (h ++ more) (version h)

  known_places : (x : Anchor) → is_known h x ≡ true
      → (place h x ≡ number_then (take (gap (h ++ more) x).0 all_fates)) × (place g x ≡ number_now (take (gap (h ++ more) x).0 all_fates))
  known_places x k =
      let p = (places_by_fates h more b.lawful begins.1).0 x k in
      let s = (same_sets_answer_alike (h ++ more) g begins.1 d.lawful begins.2).1 x in
      (p.0, sym s.1 ∙ p.1)

  old_length : length (text h) ≡ number_then all_fates
  old_length = (places_by_fates h more b.lawful begins.1).1

  new_length : length (text g) ≡ number_now all_fates
  new_length = ap length (sym (same_sets_agree (h ++ more) g begins.1 d.lawful begins.2).2) ∙ (places_by_fates h more b.lawful begins.1).2

  since_is : since g (version h) ≡ edits_of 0 0 (runs all_fates)
  unfolding since
  since_is = sym ((same_sets_answer_alike (h ++ more) g begins.1 d.lawful begins.2).3 (version h)).0

  place_stays : (x : Anchor) → is_known h x ≡ true → (pre post : List Fate) → all_fates ≡ pre ++ Kept ∷ post → nat_le (place h x) (number_then pre) ≡ nat_le (place g x) (number_now pre)
  place_stays x k pre post e =
      let p = known_places x k in
      let n : ℕ = (gap (h ++ more) x).0 in
      ap (λ (i : ℕ). nat_le i (number_then pre)) (p.0 ∙ ap (λ (fs : List Fate). number_then (take n fs)) e)
      ∙ passed_alike pre post n
      ∙ sym (ap (λ (i : ℕ). nat_le i (number_now pre)) (p.1 ∙ ap (λ (fs : List Fate). number_now (take n fs)) e))

  all_stay : (fs : List NumberedFold) → AreFolds h fs → (pre post : List Fate) → all_fates ≡ pre ++ Kept ∷ post
      → AllStay (map range_of (numbered_ranges h fs)) (map range_of (numbered_ranges g fs)) (number_then pre) (number_now pre)
  all_stay [] a pre post e = tt
  all_stay (f ∷ fs) a pre post e =
      let i : IsFold h (fold_of f) = All-head (λ x. IsFold h (fold_of x)) f fs a in
      (record { start = place_stays f.fold.start i.start pre post e; end = place_stays f.fold.end i.end pre post e }, all_stay fs (All-tail (λ x. IsFold h (fold_of x)) f fs a) pre post e)

  pub lie : (fs : List NumberedFold) → AreFolds h fs → LieBetween (map range_of (numbered_ranges h fs)) (map range_of (numbered_ranges g fs)) (length (text h)) 0 0 (map as_edit (since g (version h)))
      × IsEnd (length (text h)) (length (text g)) 0 0 (map as_edit (since g (version h)))
  lie fs a =
      let l = edits_lie_between all_fates (length (text h)) (length (text g)) (map range_of (numbered_ranges h fs)) (map range_of (numbered_ranges g fs)) old_length new_length (λ pre post e. all_stay fs a pre post e) in
      subst (λ (es : List TextEdit). LieBetween (map range_of (numbered_ranges h fs)) (map range_of (numbered_ranges g fs)) (length (text h)) 0 0 (map as_edit es)
      × IsEnd (length (text h)) (length (text g)) 0 0 (map as_edit es)) (sym since_is) l

-- ---- each range, in both texts

each_within : (h : History) (n : ℕ) (fs : List NumberedFold) → All (IsRangeWithin 0 n) (numbered_ranges h fs) → All (λ f. IsRangeWithin 0 n (numbered_range h f)) fs
each_within h n [] p = All-nil (λ f. IsRangeWithin 0 n (numbered_range h f))
each_within h n (f ∷ fs) p = All-cons (λ f. IsRangeWithin 0 n (numbered_range h f)) f fs (All-head (IsRangeWithin 0 n) (numbered_range h f) (numbered_ranges h fs) p)
    (each_within h n fs (All-tail (IsRangeWithin 0 n) (numbered_range h f) (numbered_ranges h fs) p))

within_text : (h : History) → IsBufferHistory h → (fs : List NumberedFold) → AreFolds h fs → All (λ f. IsRangeWithin 0 (length (text h)) (numbered_range h f)) fs
within_text h b fs a = each_within h (length (text h)) fs (ranges_within h b.lawful b.proper fs a)

module _ (h g : History) (b : IsBufferHistory h) (d : IsBufferHistory g) (w : IsWithin h g) (fs : List NumberedFold) (k : Ascending nat_cmp number_of fs) (a : AreFolds h fs) where
  abbrev n : ℕ
  n = length (text h)

  abbrev m : ℕ
  m = length (text g)

  each_bound : All (λ f. Bounds n m (numbered_range h f) (numbered_range g f)) fs
  each_bound =
      let o = within_text h b fs a in
      let q = within_text g d fs (folds_stay h g b.lawful d.lawful w fs a) in
      λ i e t. record { old = o i e t; new = q i e t; number = refl }

  pub all_bound : All (λ r. Bounds n m r (renew g fs r)) (numbered_ranges h fs)
  all_bound =
      let e = renews_one h g fs k in
      let q = each_bound in
      All-map (λ r. Bounds n m r (renew g fs r)) (numbered_range h) fs (λ i v t. subst (Bounds n m (numbered_range h (get_or fs i v))) (sym (e i v t)) (q i v t))
