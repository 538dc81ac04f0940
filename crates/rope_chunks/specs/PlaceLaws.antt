-- What places that texts move keep.
use Rattle.std.proofs.Common.{ℕ, arith, sym, subst, ap, ◌∙◌}
use Rattle.std.proofs.lemmas.Bool.Decides.{nat_tests}
use Rattle.std.specs.Prelude.{List, length, ◌≡◌, Some, refl}
use Rattle.std.proofs.lemmas.Option.{same_Some}
use Rattle.text_dims.specs.declared.places.Place.{Place}
use Rattle.text_dims.specs.Places.{place_sum, summary_end}
use Rattle.text_dims.specs.Counts.{utf16_count}
use Rattle.text_dims.specs.Summaries.{summary_of, end_point, IsOfText, text_sum, no_text}
use Rattle.text_dims.specs.Concat.{length_adds, units_add}
use Rattle.text_dims.specs.Bounds.{last_row-le}
use Rattle.text_dims.specs.declared.summary.TextSummary.{TextSummary}
use Rattle.text_dims.proofs.PlaceSums.{place_sum_assoc, summary_end-sum, row_sum, past_nothing}
use Rattle.tree_cursor.specs.Places.{DimensionLaws}
use Rattle.rope_chunks.specs.At.{IsLater, IsWithin, PlaceAndTextFit, move_place}

pub past_later : (p x : Place) → IsLater p (place_sum p x)
past_later p x = record {
  offset = omega arith;
  utf16 = omega arith;
  point = (omega arith, λ e. grind (arith, nat_tests));
  point_utf16 = (omega arith, λ e. grind (arith, nat_tests));
}

pub past_within : (p x : Place) → IsWithin p → IsWithin x → IsWithin (place_sum p x)
past_within p x h k = record { column = grind (arith, nat_tests, h.column, k.column); column_utf16 = grind (arith, nat_tests, h.column_utf16, k.column_utf16) }

text_within : (bs : List ℕ) → IsWithin (summary_end (summary_of bs))
unfolding summary_of end_point
text_within bs = record { column = last_row-le (λ cs. length cs) length_adds bs; column_utf16 = last_row-le utf16_count units_add bs }

within : (a : TextSummary) → IsOfText a → IsWithin (summary_end a)
within a t = subst (λ s. IsWithin (summary_end s)) (sym t.1) (text_within t.0)

parts : (p q : Place) (a b : TextSummary) → move_place p (text_sum a b) ≡ Some q → (r : Place) × (move_place p a ≡ Some r) × (move_place r b ≡ Some q)
parts p q a b e =
    (place_sum p (summary_end a), refl, ap (λ k. Some k) (place_sum_assoc p (summary_end a) (summary_end b) ∙ ap (place_sum p) (sym (summary_end-sum a b))) ∙ e)

front : (p : Place) (a b : TextSummary) → IsOfText a → PlaceAndTextFit p (text_sum a b) → PlaceAndTextFit p a
front p a b t f = record {
  place = f.place;
  text = within a t;
  offset = omega (arith, f.offset);
  utf16 = omega (arith, f.utf16);
  row = omega (arith, f.row, row_sum a.lines b.lines);
}

back : (p r : Place) (a b : TextSummary) → IsOfText a → IsOfText b → PlaceAndTextFit p (text_sum a b) → r ≡ place_sum p (summary_end a) → PlaceAndTextFit r b
back p r a b t u f e =
    subst (λ k. PlaceAndTextFit k b) (sym e) (record {
      place = past_within p (summary_end a) f.place (within a t);
      text = within b u;
      offset = omega (arith, f.offset);
      utf16 = omega (arith, f.utf16);
      row = omega (arith, f.row, row_sum a.lines b.lines);
    })

pub place_laws : DimensionLaws no_text text_sum IsOfText IsOfText IsLater move_place PlaceAndTextFit
place_laws = record {
  nothing = λ p q e. sym (same_Some (place_sum p (summary_end no_text)) q e) ∙ past_nothing p;
  parts = λ p q a b t u e. parts p q a b e;
  one = λ p a t s f. (place_sum p (summary_end a), refl);
  forward = λ p q a t e. subst (λ k. IsLater p k) (same_Some (place_sum p (summary_end a)) q e) (past_later p (summary_end a));
  fits_front = λ p a b t u f. front p a b t f;
  fits_back = λ p r a b t u f e. back p r a b t u f (sym (same_Some (place_sum p (summary_end a)) r e));
}
