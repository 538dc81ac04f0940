-- The place after some first bytes of a text, and a look-up that goes on there.
use Rattle.std.specs.Prelude.{nat_le}
use Rattle.std.proofs.Common.{◌≡◌, ℕ, ◌+◌, ◌-◌, ◌<◌, ◌≤◌, Bool, true, false, List, length, take, drop, get_or, ap, sym, subst, inl, inr, ◌∙◌, arith}
use Rattle.std.proofs.lemmas.Bool.{and_parts, cases_lt}
use Rattle.std.proofs.lemmas.List.{take-append-drop, drop_more, drop_all, length-take-le}
use Rattle.text_dims.specs.declared.places.Place.{Place}
use Rattle.text_dims.specs.Counts.{begins_char, utf16_count}
use Rattle.text_dims.specs.Concat.{length_adds, units_add}
use Rattle.text_dims.specs.Bounds.{last_row-le, newline_count-le}
use Rattle.text_dims.specs.Places.{PlaceFits, end_place, is_cut, place_after, place_sum, walk}
use Rattle.text_dims.proofs.Characters.{utf16_count-le_twice}
use Rattle.text_dims.proofs.Walks.{walk_end}
use Rattle.text_dims.proofs.PlaceSums.{walk_end-is, next_is}
use Rattle.rope_chunks.specs.Stops.{stop, HasRoom}
use Rattle.rope_chunks.proofs.Stops.{Begins, Stays, stop-past}
use Rattle.rope_chunks.specs.PlaceLaws.{past_within}

-- there is room for what follows
pub room_past : (a : Place) (bs : List ℕ) (n : ℕ) → HasRoom a (length bs) → n ≤ length bs → HasRoom (place_sum a (end_place (take n bs))) (length bs - n)
unfolding end_place
room_past a bs n h within =
    let xs = take n bs in
    let long : length xs ≡ n = length-take-le n bs within in
    record {
      within = past_within a (end_place xs) h.within (record { column = last_row-le (λ cs. length cs) length_adds xs; column_utf16 = last_row-le utf16_count units_add xs });
      offset = omega (arith, h.offset, long, within);
      utf16 = omega (arith, h.utf16, utf16_count-le_twice xs, long, within);
      row = omega (arith, h.row, newline_count-le xs, long, within);
    }

room_fits : (a : Place) (n : ℕ) → HasRoom a n → PlaceFits a
room_fits a n h = record {
  offset = omega (arith, h.offset);
  utf16 = omega (arith, h.utf16);
  row = omega (arith, h.row);
  column = omega (arith, h.offset, h.within.column);
  column_utf16 = omega (arith, h.utf16, h.within.column_utf16);
}

pub front_fits : (a : Place) (bs : List ℕ) (n : ℕ) → HasRoom a (length bs) → n ≤ length bs → PlaceFits (place_sum a (end_place (take n bs)))
front_fits a bs n h within = room_fits (place_sum a (end_place (take n bs))) (length bs - n) (room_past a bs n h within)

pub next_fits : (a k : Place) (bs : List ℕ) (n : ℕ) → HasRoom a (length bs) → n < length bs → k ≡ place_sum a (end_place (take n bs)) → PlaceFits (place_after k (get_or bs n 0))
next_fits a k bs n h l e =
    subst PlaceFits (sym (ap (λ (z : Place). place_after z (get_or bs n 0)) e ∙ next_is a bs n l)) (front_fits a bs (n + 1) h (omega (arith, l)))

-- what stands after a cut begins with a character
pub cut_begins : (bs : List ℕ) (n : ℕ) → is_cut bs n ≡ true → Begins (drop n bs)
cut_begins bs n t = elim (cases_lt n (length bs)) [
  | inl l ↦ subst Begins (sym (drop_more bs n 0 l)) (and_parts (nat_le n (length bs)) (begins_char (get_or bs n 0)) t).1
  | inr l ↦ subst Begins (sym (drop_all n bs l)) tt
]

-- a front whose end does not pass the target is gone over
pub stop_behind : (p : Place → Bool) → Stays p → (a k : Place) (bs : List ℕ) (n : ℕ) → is_cut bs n ≡ true → k ≡ place_sum a (end_place (take n bs)) → p k ≡ false →
    stop p a (walk a bs) ≡ stop p k (walk k (drop n bs))
stop_behind p s a k bs n t e f =
    let end : walk_end a (take n bs) ≡ k = walk_end-is a (take n bs) ∙ sym e in
    ap (λ xs. stop p a (walk a xs)) (sym (take-append-drop n bs))
    ∙ stop-past p s a a (take n bs) (drop n bs) (cut_begins bs n t) (ap p end ∙ f)
    ∙ ap (λ z. stop p z (walk z (drop n bs))) end
