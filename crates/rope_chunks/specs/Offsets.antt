-- The byte offset of a place.
use Rattle.std.specs.Prelude.{ℕ}
use Rattle.text_dims.specs.declared.places.Place.{Place}

abbrev pub offset_of : Place → ℕ
offset_of k = k.offset
