-- Where selections are in a text.
use Rattle.std.specs.Prelude.{ℕ, max, min, List, Option, None, Some, Result, Ok, Err, is_none}
use Rattle.std.specs.List.{filter_map, position}
use Rattle.op_model.specs.Anchors.{known_place}
use Rattle.op_model.specs.Histories.{History}
use Rattle.selections.specs.declared.selection.Selection.{Selection}
use Rattle.selections.specs.declared.selection.SelectionOp.{SelectionOp}
use Rattle.selections.specs.declared.faults.PlacesFault.{PlacesFault}
use Rattle.selections.specs.declared.faults.PlacesFault.TheVariants.{Unknown}

-- the lesser and the greater of two places
abbrev pub lesser_first : Option ℕ → Option ℕ → Option (ℕ × ℕ)
lesser_first None q = None
lesser_first (Some p) None = None
lesser_first (Some p) (Some q) = Some (min p q, max p q)

-- where a selection is, None where one of its anchors is not known
abbrev pub place_of : History → Selection → Option (ℕ × ℕ)
place_of h r = lesser_first (known_place h r.start) (known_place h r.end)

-- all places, if no selection is unknown
abbrev pub unless_unknown : Option ℕ → List (ℕ × ℕ) → Result (List (ℕ × ℕ)) PlacesFault
unless_unknown None ps = Ok ps
unless_unknown (Some i) ps = Err (Unknown i)

-- where selections are, or the first unknown one
abbrev pub range_places : History → List Selection → Result (List (ℕ × ℕ)) PlacesFault
range_places h rs = unless_unknown (position (λ r. is_none (place_of h r)) rs) (filter_map (place_of h) rs)

abbrev pub some_of : Result (List (ℕ × ℕ)) PlacesFault → Result (Option (List (ℕ × ℕ))) PlacesFault
some_of (Ok ps) = Ok (Some ps)
some_of (Err e) = Err e

-- where the selections of an operation are, if there is one
abbrev pub places_of : History → Option SelectionOp → Result (Option (List (ℕ × ℕ))) PlacesFault
places_of h None = Ok None
places_of h (Some op) = some_of (range_places h op.ranges)
