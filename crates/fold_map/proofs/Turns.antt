-- Turns of the loop that goes on to a later history, each with a window of the last edits that are left.
use Rattle.std.proofs.Common.{◌≡◌, ℕ, suc, ◌+◌, ◌-◌, ◌≤◌, ◌<◌, ◌^◌, List, [], length, take, get_or, Some, sym, ap, ◌∙◌, subst, arith}
use Rattle.std.specs.Prelude.{slice_get, slice_range}
use Rattle.std.specs.List.{All}
use Rattle.std.proofs.lemmas.List.{length-take-le}
use Rattle.std.proofs.lemmas.Option.{slice_get-get_or}
use Rattle.op_model.specs.declared.anchor.TextEdit.{TextEdit}
use Rattle.op_model.specs.Histories.{History, version}
use Rattle.op_model.specs.Since.{since}
use Rattle.text_buffer.specs.Document.{IsBufferHistory}
use Rattle.fold_spans.specs.Spans.{text_sum, folds_of}
use Rattle.fold_spans.specs.Sweep.{IsWithin as IsRangeWithin}
use Rattle.fold_spans.specs.declared.span.Span.{Span}
use Rattle.fold_spans.specs.declared.sweep.FoldRange.{FoldRange}
use Rattle.fold_spans.specs.declared.touching.Touching.{Touching}
use Rattle.fold_map.specs.declared.fold.NumberedFold.{NumberedFold}
use Rattle.fold_map.specs.Calls.{IsWithin}
use Rattle.fold_map.specs.Numbered.{AreNumbered, AreFolds, AreSpansOf}
use Rattle.fold_map.specs.Windows.{named_ranges, last_of, run_after, AreInOrder, IsMadeAgain, IsLastWindow}
use Rattle.fold_map.proofs.Groups.{first_is, last_is}
use Rattle.fold_map.proofs.Going.{Going, begins, ends, in_order, fewer_left, ranges_lie, places_fit, spans_fit, goes_on}

-- a map goes on from h to g, whose edits since are es: the first `left` of them are not done, and `made` are the spans so far
pub record IsGoing (h g : History) (fs : List NumberedFold) (ss : List Span) (es : List TextEdit) (left : ℕ) (made : List Span) : Type 0 where
  pub old : IsBufferHistory h
  pub new : IsBufferHistory g
  pub within : IsWithin h g
  pub next : ℕ
  pub numbered : AreNumbered next fs
  pub folds : AreFolds h fs
  pub spans : AreSpansOf h fs ss
  pub edits : es ≡ since g (version h)
  pub state : Going h g old new within fs next numbered folds ss spans left made

pub first_turn : (h g : History) (b : IsBufferHistory h) (d : IsBufferHistory g) (w : IsWithin h g) (fs : List NumberedFold) (nn : ℕ) (k : AreNumbered nn fs) (a : AreFolds h fs) (ss : List Span) (sp : AreSpansOf h fs ss)
    (es : List TextEdit) → es ≡ since g (version h) → (made : List Span) → made ≡ ss → (left : ℕ) → left ≡ length es → IsGoing h g fs ss es left made
first_turn h g b d w fs nn k a ss sp es e made m left q = record {
  old = b;
  new = d;
  within = w;
  next = nn;
  numbered = k;
  folds = a;
  spans = sp;
  edits = e;
  state = subst (Going h g b d w fs nn k a ss sp left) (sym m) (begins h g b d w fs nn k a ss sp left (q ∙ ap length e));
}

module _ (h g : History) (fs : List NumberedFold) (ss : List Span) (es : List TextEdit) (left : ℕ) (made : List Span) (i : IsGoing h g fs ss es left made) where
  pub left_within : left ≤ length es
  left_within = let p = i.state.within in let q = ap length i.edits in omega (arith, p, q)

  pub edits_in_order : AreInOrder (take left es)
  edits_in_order = subst (λ (xs : List TextEdit). AreInOrder (take left xs)) (sym i.edits) (in_order h g i.old i.new i.within fs i.next i.numbered i.folds ss i.spans left)

  pub last_turn : take left es ≡ [] → AreSpansOf g fs made
  last_turn e =
      let p = left_within in
      let q = length-take-le left es p in
      let r = ap length e in
      let z : left ≡ 0 = omega (arith, q, r) in
      ends h g i.old i.new i.within fs i.next i.numbered i.folds ss i.spans made (subst (λ (l : ℕ). Going h g i.old i.new i.within fs i.next i.numbered i.folds ss i.spans l made) z i.state)

  module _ (first : ℕ) (t : Touching) (l : IsLastWindow ss (take left es) (Some (first, t))) where
    abbrev it : IsLastWindow ss (take left (since g (version h))) (Some (first, t))
    it = subst (λ (xs : List TextEdit). IsLastWindow ss (take left xs) (Some (first, t))) i.edits l

    pub first_within : first < left
    first_within = fewer_left h g i.old i.new i.within fs i.next i.numbered i.folds ss i.spans left made i.state first t it

    -- the first and the last edit of the window
    module _ (x y : TextEdit) (k : ℕ) (e : TextEdit) (p : suc k ≡ left) (q : x ≡ get_or es first e) (r : y ≡ get_or es k e) where
      x_is : x ≡ it.0.first
      x_is =
          let a = first_within in
          let b = left_within in
          first_is (since g (version h)) left first it.0.first it.0.others x it.0.edits
          (ap (λ (xs : List TextEdit). slice_get xs first) (sym i.edits) ∙ slice_get-get_or es first e (omega (arith, a, b)) ∙ ap (λ (z : TextEdit). Some z) (sym q))

      y_is : y ≡ last_of it.0.first it.0.others
      y_is =
          let b = left_within in
          last_is (since g (version h)) left first it.0.first it.0.others k y it.0.edits p
          (ap (λ (xs : List TextEdit). slice_get xs k) (sym i.edits) ∙ slice_get-get_or es k e (omega (arith, b, p)) ∙ ap (λ (z : TextEdit). Some z) (sym r))

      pub places : (t.start ≤ x.old.0) × (x.old.0 - t.start ≤ x.new.0) × (y.old.1 ≤ t.end) × (y.new.1 + (t.end - y.old.1) < 2 ^ 64)
      places =
          subst (λ (z : TextEdit). (t.start ≤ z.old.0) × (z.old.0 - t.start ≤ z.new.0) × (y.old.1 ≤ t.end) × (y.new.1 + (t.end - y.old.1) < 2 ^ 64)) (sym x_is)
          (subst (λ (z : TextEdit). (t.start ≤ it.0.first.old.0) × (it.0.first.old.0 - t.start ≤ it.0.first.new.0) × (z.old.1 ≤ t.end) × (z.new.1 + (t.end - z.old.1) < 2 ^ 64)) (sym y_is)
          (places_fit h g i.old i.new i.within fs i.next i.numbered i.folds ss i.spans left made i.state first t it))

      module _ (v : Touching) (s : v ≡ run_after t x y) where
        same : run_after t it.0.first (last_of it.0.first it.0.others) ≡ v
        same = sym (s ∙ ap (λ (z : TextEdit). run_after t z y) x_is ∙ ap (run_after t it.0.first) y_is)

        pub in_spans : (v.from ≤ v.to) × (v.to ≤ length made) × (text_sum made + (v.end - v.start) ≤ 2 ^ 42)
        in_spans =
            let f = spans_fit h g i.old i.new i.within fs i.next i.numbered i.folds ss i.spans left made i.state first t it in
            subst (λ (u : Touching). (u.from ≤ u.to) × (u.to ≤ length made) × (text_sum made + (u.end - u.start) ≤ 2 ^ 42)) same (it.0.run.order, f.0, f.1)

        module _ (qs : List FoldRange) (named : qs ≡ named_ranges g fs (folds_of (slice_range ss t.from t.to))) where
          pub in_window : All (IsRangeWithin v.start v.end) qs
          in_window =
              subst (λ (u : Touching). All (IsRangeWithin u.start u.end) qs) same
              (ranges_lie h g i.old i.new i.within fs i.next i.numbered i.folds ss i.spans left made i.state first t it qs named)

          pub next_turn : (new : List Span) → IsMadeAgain v qs made new → IsGoing h g fs ss es first new
          next_turn new again = record {
            old = i.old;
            new = i.new;
            within = i.within;
            next = i.next;
            numbered = i.numbered;
            folds = i.folds;
            spans = i.spans;
            edits = i.edits;
            state = goes_on h g i.old i.new i.within fs i.next i.numbered i.folds ss i.spans left made i.state first t it qs named new
                (subst (λ (u : Touching). IsMadeAgain u qs made new) (sym same) again);
          }
