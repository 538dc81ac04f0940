-- The places of a text, in each kind of position, and what is asked of them.
use Rattle.std.specs.Prelude.{ℕ, Bool, ◌+◌, ◌^◌, ◌<◌, ◌==◌, ◌&&◌, nat_le, if◌then◌else◌, List, [], ◌∷◌, length, take, slice_get, slice_index, map, filter, find, Option}
use Rattle.std.specs.List.{range_with_len}
use Rattle.std.specs.Option.{option_map, unwrap_or}
use Rattle.text_dims.specs.declared.places.Place.{Place}
use Rattle.text_dims.specs.declared.points.Point.{Point}
use Rattle.text_dims.specs.declared.points.PointUtf16.{PointUtf16}
use Rattle.text_dims.specs.declared.points.OffsetUtf16.{OffsetUtf16}
use Rattle.text_dims.specs.declared.summary.TextSummary.{TextSummary}
use Rattle.text_dims.specs.Counts.{begins_char, byte_units, is_newline, utf16_count, newline_count, rows, last_row}

-- whether a text may be cut at an offset: where a character begins, and at its end
abbrev pub is_cut : List ℕ → ℕ → Bool
is_cut bs o = nat_le o (length bs) && begins_char (slice_index bs o)

-- The place at the end of a text: what is counted of it are its bytes, its UTF-16 units, its LFs, and the bytes and the
-- UTF-16 units since the last LF.
unfoldable pub end_place : List ℕ → Place
end_place bs = record {
  offset = length bs;
  utf16 = utf16_count bs;
  row = newline_count bs;
  column = length (last_row bs);
  column_utf16 = utf16_count (last_row bs);
}

-- the places of a text from the first to the last: one wherever it may be cut, counted over what stands before
unfoldable pub places : List ℕ → List Place
places bs = map (λ o. end_place (take o bs)) (filter (is_cut bs) (range_with_len 0 (length bs + 1)))

-- a place in the kinds of position
abbrev pub point_of : Place → Point
point_of k = record { row = k.row; column = k.column }

abbrev pub offset_utf16_of : Place → OffsetUtf16
offset_utf16_of k = record { 0 = k.utf16 }

abbrev pub point_utf16_of : Place → PointUtf16
point_utf16_of k = record { row = k.row; column = k.column_utf16 }

-- the place of a text that a position names, where it is one
abbrev pub place_at_offset : List ℕ → ℕ → Option Place
place_at_offset bs o = find (λ k. k.offset == o) (places bs)

abbrev pub place_at_utf16 : List ℕ → OffsetUtf16 → Option Place
place_at_utf16 bs u = find (λ k. k.utf16 == u.0) (places bs)

abbrev pub place_at_point : List ℕ → Point → Option Place
place_at_point bs p = find (λ k. k.row == p.row && k.column == p.column) (places bs)

abbrev pub place_at_point_utf16 : List ℕ → PointUtf16 → Option Place
place_at_point_utf16 bs p = find (λ k. k.row == p.row && k.column_utf16 == p.column) (places bs)

-- how many bytes a row has without its LF, where the row exists
abbrev pub row_len_of : List ℕ → ℕ → Option ℕ
row_len_of bs r = option_map length (slice_get (rows bs) r)

-- the last of the places, or this one where there is none
abbrev pub last_place : Place → List Place → Place
last_place d [] = d
last_place d (k ∷ ks) = last_place k ks

-- The last of the places that the test passes, which is that they are at or before something, and the first that the test
-- passes, which is that they are at or past something, or the last place. Where there is no place, it is the end.
abbrev pub clip_back : (Place → Bool) → Place → List Place → Place
clip_back before end ks = last_place end (filter before ks)

abbrev pub clip_on : (Place → Bool) → Place → List Place → Place
clip_on past end ks = unwrap_or (find past ks) (last_place end ks)

-- the place at or before an offset, and the one at or past it; past the end it is the end
abbrev pub offset_clip_back : List ℕ → ℕ → Place
offset_clip_back bs o = clip_back (λ k. nat_le k.offset o) (end_place bs) (places bs)

abbrev pub offset_clip_on : List ℕ → ℕ → Place
offset_clip_on bs o = clip_on (λ k. nat_le o k.offset) (end_place bs) (places bs)

-- the places of a row
abbrev pub row_places : List ℕ → ℕ → List Place
row_places bs r = filter (λ k. k.row == r) (places bs)

-- The place of its row at or before a point, and the one at or past it. Past the row's end it is the row's end, in a row
-- past the last it is the text's end.
abbrev pub point_clip_back : List ℕ → Point → Place
point_clip_back bs p = clip_back (λ k. nat_le k.column p.column) (end_place bs) (row_places bs p.row)

abbrev pub point_clip_on : List ℕ → Point → Place
point_clip_on bs p = clip_on (λ k. nat_le p.column k.column) (end_place bs) (row_places bs p.row)

-- the place at the end of a text that ends at a and is followed by one that ends at b
abbrev pub place_sum : Place → Place → Place
place_sum a b = record {
  offset = a.offset + b.offset;
  utf16 = a.utf16 + b.utf16;
  row = a.row + b.row;
  column = if b.row == 0 then a.column + b.column else b.column;
  column_utf16 = if b.row == 0 then a.column_utf16 + b.column_utf16 else b.column_utf16;
}

-- the place past the byte b that stands at a
abbrev pub place_after : Place → ℕ → Place
place_after a b =
    if is_newline b
    then record { offset = a.offset + 1; utf16 = a.utf16 + 1; row = a.row + 1; column = 0; column_utf16 = 0 }
    else record {
      offset = a.offset + 1;
      utf16 = a.utf16 + byte_units b;
      row = a.row;
      column = a.column + 1;
      column_utf16 = a.column_utf16 + byte_units b;
    }

-- the place at the end of a text of this summary
abbrev pub summary_end : TextSummary → Place
summary_end s = record {
  offset = s.len;
  utf16 = s.len_utf16;
  row = s.lines.row;
  column = s.lines.column;
  column_utf16 = s.last_row_len_utf16;
}

-- each of the numbers is below 2 ^ 64
pub record PlaceFits (k : Place) : Type 0 where
  pub offset : k.offset < 2 ^ 64
  pub utf16 : k.utf16 < 2 ^ 64
  pub row : k.row < 2 ^ 64
  pub column : k.column < 2 ^ 64
  pub column_utf16 : k.column_utf16 < 2 ^ 64

-- the places that a walk along a text meets, which begins at a place
abbrev pub walk : Place → List ℕ → List Place
walk a [] = a ∷ []
walk a (b ∷ bs) = if begins_char b then a ∷ walk (place_after a b) bs else walk (place_after a b) bs
