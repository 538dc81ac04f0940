-- What a map answers, from the marks of its spans.
use Rattle.std.proofs.Common.{◌≡◌, ℕ, zero, suc, ◌≤◌, ◌<◌, ◌||◌, Bool, true, false, cond, List, [], ◌∷◌, length, take, drop, Some, None, refl, sym, ap, ◌∙◌, arith}
use Rattle.tree_cursor.specs.declared.traits.Bias.{Bias}
use Rattle.tree_cursor.specs.declared.traits.Bias.TheVariants.{Left, Right}
use Rattle.op_model.specs.Edits.{is_boundary}
use Rattle.op_model.specs.Shown.{text}
use Rattle.fold_spans.specs.Marks.{Mark, begins_inner, shown_len, shown_place, text_place}
use Rattle.fold_spans.specs.Marks.Mark.{Plain, First, Inner}
use Rattle.fold_spans.specs.Spans.{marks_of, shown_sum, AreSpans}
use Rattle.fold_spans.specs.declared.span.Span.{Span}
use Rattle.fold_spans.proofs.BySpan.{spans_shown}
use Rattle.fold_spans.proofs.BackAgain.{shown_places_come_back}
use Rattle.fold_map.specs.Folds.{FoldState, ranges, fold_marks, shown, is_inside, to_shown, to_text}
use Rattle.fold_map.specs.Laws.{PlacesComeBack}
use Rattle.fold_map.proofs.Cuts.{AreCut, boundary_within, cut_marks, places_match, length_show, none_past}
use Rattle.fold_map.proofs.ShownParts.{length_marks}

some_if : (t : Bool) (x : ℕ) → t ≡ true → cond t (Some x) None ≡ Some x
some_if t x e = rw e refl

none_if : (t : Bool) (x : ℕ) → t ≡ false → cond t (Some x) None ≡ None
none_if t x e = rw e refl

shown_front : (xs : List Mark) (i : ℕ) → shown_len (take i xs) ≤ shown_len xs
shown_front xs zero = omega arith
shown_front [] (suc i) = omega arith
shown_front (Plain ∷ xs) (suc i) = let r = shown_front xs i in omega arith
shown_front (First ∷ xs) (suc i) = let r = shown_front xs i in omega arith
shown_front (Inner ∷ xs) (suc i) = let r = shown_front xs i in omega arith

place_within : (xs : List Mark) (i : ℕ) (c : Bias) → begins_inner (drop i xs) ≡ false → shown_place xs i c ≤ shown_len xs
place_within xs i Left f = rw f (shown_front xs i)
place_within xs i Right f = shown_front xs i

module _ (m : FoldState) where
  abbrev pub bytes : List ℕ
  bytes = text m.history

  abbrev pub test : ℕ → Bool
  test d = is_boundary (shown m) d || is_inside (fold_marks m) d

  as_long : length (fold_marks m) ≡ length bytes
  as_long = length_marks (ranges m.history m.folds) 0 (length bytes)

  pub shown_some : (ms : List Mark) (o : ℕ) (b : Bias) (r : ℕ) → ms ≡ fold_marks m → is_boundary bytes o ≡ true → r ≡ shown_place ms o b → Some r ≡ to_shown m o b
  shown_some ms o b r e t f = ap Some (f ∙ ap (λ (xs : List Mark). shown_place xs o b) e) ∙ sym (some_if (is_boundary bytes o) (shown_place (fold_marks m) o b) t)

  pub shown_none : (o : ℕ) (b : Bias) → is_boundary bytes o ≡ false → None ≡ to_shown m o b
  shown_none o b t = sym (none_if (is_boundary bytes o) (shown_place (fold_marks m) o b) t)

  pub len_is : (ss : List Span) → AreSpans ss → marks_of ss ≡ fold_marks m → shown_sum ss ≡ length (shown m)
  len_is ss a e = sym (spans_shown ss a) ∙ ap shown_len e ∙ sym (length_show (fold_marks m) bytes as_long)

  pub text_past : (d : ℕ) (b : Bias) → length (shown m) < d → None ≡ to_text m d b
  text_past d b l = let n = length_show (fold_marks m) bytes as_long in sym (none_if (test d) (text_place (fold_marks m) d b) (none_past (fold_marks m) bytes d as_long (omega arith)))

  module _ (c : AreCut bytes (ranges m.history m.folds)) where
    matches : (d : ℕ) (b : Bias) → d ≤ shown_len (fold_marks m) → is_boundary bytes (text_place (fold_marks m) d b) ≡ test d
    matches d b l = places_match (fold_marks m) bytes false b d (cut_marks bytes (ranges m.history m.folds) c) l

    module _ (ms : List Mark) (d : ℕ) (b : Bias) (r : ℕ) (e : ms ≡ fold_marks m) (l : d ≤ length (shown m)) (f : r ≡ text_place ms d b) where
      there : r ≡ text_place (fold_marks m) d b
      there = f ∙ ap (λ (xs : List Mark). text_place xs d b) e

      tested : is_boundary bytes r ≡ test d
      tested = ap (λ (n : ℕ). is_boundary bytes n) there ∙ matches d b (let n = length_show (fold_marks m) bytes as_long in omega arith)

      pub text_some : is_boundary bytes r ≡ true → Some r ≡ to_text m d b
      text_some t = ap Some there ∙ sym (some_if (test d) (text_place (fold_marks m) d b) (sym tested ∙ t))

      pub text_none : is_boundary bytes r ≡ false → None ≡ to_text m d b
      text_none t = sym (none_if (test d) (text_place (fold_marks m) d b) (sym tested ∙ t))

    pub come_back : PlacesComeBack m
    come_back o b k t e =
        let ms : List Mark = fold_marks m in
        let d : ℕ = shown_place ms o b in
        let n = length_show ms bytes as_long in
        let w = boundary_within bytes o t in
        let a = as_long in
        let back : text_place ms d k ≡ o = shown_places_come_back ms o b k (omega arith) e in
        let l = place_within ms o b e in
        (d, sym (shown_some ms o b d refl t refl), sym (text_some ms d k o refl (omega arith) (sym back) t))
