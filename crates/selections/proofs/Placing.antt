-- Places of selections on histories that answer alike.
use Rattle.std.proofs.Common.{◌≡◌, ℕ, List, ap, ◌∙◌, Some, None, Option, is_none, refl}
use Rattle.std.specs.List.{filter_map, position}
use Rattle.op_model.specs.Anchors.{known_place}
use Rattle.op_model.specs.Histories.{History}
use Rattle.text_buffer.specs.SnapshotLaws.{AnswerAlike}
use Rattle.selections.specs.declared.selection.Selection.{Selection}
use Rattle.selections.specs.declared.selection.SelectionOp.{SelectionOp}
use Rattle.selections.specs.Places.{lesser_first, place_of, places_of, range_places, some_of, unless_unknown}

place_alike : (h g : History) → AnswerAlike h g → (r : Selection) → place_of h r ≡ place_of g r
place_alike h g a r =
    ap (λ (z : Option ℕ). lesser_first z (known_place h r.end)) (a.places r.start)
    ∙ ap (λ (z : Option ℕ). lesser_first (known_place g r.start) z) (a.places r.end)

range_alike : (h g : History) → AnswerAlike h g → (rs : List Selection) → range_places h rs ≡ range_places g rs
range_alike h g a rs =
    let same : place_of h ≡ place_of g = λ i. λ r. place_alike h g a r i in
    ap (λ (f : Selection → Option (ℕ × ℕ)). unless_unknown (position (λ r. is_none (f r)) rs) (filter_map f rs)) same

pub same_places : (h g : History) → AnswerAlike h g → (o : Option SelectionOp) → places_of h o ≡ places_of g o
same_places h g a None = refl
same_places h g a (Some op) = ap some_of (range_alike h g a op.ranges)
