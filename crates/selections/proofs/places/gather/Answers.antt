use Rattle.std.proofs.Common.{ℕ, List, sym, ap, ◌++◌, is_none}
use Rattle.std.specs.List.{filter_map}
use Rattle.std.proofs.lemmas.Iterator.Adapters.{position_from-zero}
use Rattle.selections.specs.declared.selection.Selection.{Selection}
use Rattle.selections.specs.Places.{place_of}
use Rattle.selections.proofs.places.gather.Goals as goal

pub loop-i-init : goal.loop-i-init
loop-i-init c = record {
  places = ap (λ (z : List (ℕ × ℕ)). z ++ filter_map (place_of c.args.snapshot.now) c.args.ranges.now) c.in_ok-places.ensures.items;
  unknown = sym (position_from-zero (λ (r : Selection). is_none (place_of c.args.snapshot.now r)) c.args.ranges.now);
}
