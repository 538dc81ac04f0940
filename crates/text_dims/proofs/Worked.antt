-- Worked rows on the definitions.
use Rattle.std.specs.Prelude.{ℕ, ◌≡◌, List, [], ◌∷◌, Some, None, refl}
use Rattle.text_dims.specs.declared.places.Place.{Place}
use Rattle.text_dims.specs.Counts.{utf16_count, newline_count, char_count, rows, last_row}
use Rattle.text_dims.specs.Summaries.{summary_of, row_chars}
use Rattle.text_dims.specs.Places.{end_place, places, place_at_offset, place_at_utf16, place_at_point, place_at_point_utf16, row_len_of, offset_clip_back, offset_clip_on, point_clip_back, point_clip_on}

-- `é😀` and an LF
abbrev sample : List ℕ
sample = 195 ∷ 169 ∷ 240 ∷ 159 ∷ 152 ∷ 128 ∷ 10 ∷ []

abbrev place : ℕ → ℕ → ℕ → ℕ → ℕ → Place
place offset utf16 row column column_utf16 = record { offset = offset; utf16 = utf16; row = row; column = column; column_utf16 = column_utf16 }

sample_places : places sample ≡ place 0 0 0 0 0 ∷ place 2 1 0 2 1 ∷ place 6 3 0 6 3 ∷ place 7 4 1 0 0 ∷ []
unfolding places end_place utf16_count newline_count last_row rows
sample_places = refl

at_offset_6 : place_at_offset sample 6 ≡ Some (place 6 3 0 6 3)
unfolding places end_place utf16_count newline_count last_row rows
at_offset_6 = refl

inside_a_character : place_at_offset sample 3 ≡ None
unfolding places end_place utf16_count newline_count last_row rows
inside_a_character = refl

between_two_units : place_at_utf16 sample (record { 0 = 2 }) ≡ None
unfolding places end_place utf16_count newline_count last_row rows
between_two_units = refl

in_row_1 : place_at_point_utf16 sample (record { row = 1; column = 0 }) ≡ Some (place 7 4 1 0 0)
unfolding places end_place utf16_count newline_count last_row rows
in_row_1 = refl

past_the_row : place_at_point sample (record { row = 0; column = 7 }) ≡ None
unfolding places end_place utf16_count newline_count last_row rows
past_the_row = refl

-- `a`, an LF and `bc`
abbrev other : List ℕ
other = 97 ∷ 10 ∷ 98 ∷ 99 ∷ []

lens : (row_len_of other 0 ≡ Some 1) × (row_len_of other 1 ≡ Some 2) × (row_len_of other 2 ≡ None)
unfolding rows
lens = (refl, refl, refl)

clips_past_the_row : point_clip_back other (record { row = 0; column = 9 }) ≡ place 1 1 0 1 1
unfolding places end_place utf16_count newline_count last_row rows
clips_past_the_row = refl

clips_on_past_the_row : point_clip_on other (record { row = 0; column = 9 }) ≡ place 1 1 0 1 1
unfolding places end_place utf16_count newline_count last_row rows
clips_on_past_the_row = refl

clips_past_the_text : point_clip_on other (record { row = 5; column = 0 }) ≡ place 4 4 1 2 2
unfolding places end_place utf16_count newline_count last_row rows
clips_past_the_text = refl

clips_in_a_character : (offset_clip_back sample 3 ≡ place 2 1 0 2 1) × (offset_clip_on sample 3 ≡ place 6 3 0 6 3)
unfolding places end_place utf16_count newline_count last_row rows
clips_in_a_character = (refl, refl)

clips_in_a_row : (point_clip_back sample (record { row = 0; column = 5 }) ≡ place 2 1 0 2 1) × (point_clip_on sample (record { row = 0; column = 5 }) ≡ place 6 3 0 6 3)
unfolding places end_place utf16_count newline_count last_row rows
clips_in_a_row = (refl, refl)

longest : (summary_of other).longest_row ≡ 1
unfolding summary_of row_chars rows char_count
longest = refl
