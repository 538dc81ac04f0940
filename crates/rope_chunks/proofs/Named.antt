-- What a look-up by each kind of position finds.
use Rattle.std.specs.Prelude.{find, not, ◌&&◌, ◌||◌, ◌==◌, nat_le, nat_lt}
use Rattle.std.proofs.Common.{◌≡◌, ℕ, Bool, List, [], sym, arith}
use Rattle.std.proofs.lemmas.Bool.Decides.{nat_tests}
use Rattle.tree_cursor.specs.declared.traits.Bias.TheVariants.{Left, Right}
use Rattle.text_dims.specs.declared.places.Place.{Place}
use Rattle.text_dims.specs.declared.points.Point.{Point}
use Rattle.text_dims.specs.declared.points.PointUtf16.{PointUtf16}
use Rattle.text_dims.specs.declared.points.OffsetUtf16.{OffsetUtf16}
use Rattle.text_dims.specs.Places.{end_place, places, place_at_offset, place_at_utf16, place_at_point, place_at_point_utf16}
use Rattle.text_dims.proofs.Walks.{places-walk}
use Rattle.rope_chunks.specs.Stops.{stop, pick_place}
use Rattle.rope_chunks.specs.Targets.{passes_offset, passes_utf16, passes_point, passes_point_utf16}
use Rattle.rope_chunks.proofs.Stops.{Sought, found}
use Rattle.rope_chunks.specs.TargetLaws.{offset_stays, utf16_stays, point_stays, point_utf16_stays}

-- the place of a text that passes the target and is not strictly past it
found_in : (pl pr eq : Place → Bool) → Sought pl pr eq → (bs : List ℕ) → pick_place pr (stop pl (end_place []) (places bs)).here ≡ find eq (places bs)
found_in pl pr eq s bs = rw (places-walk bs) (sym (found pl pr eq s (end_place []) (end_place []) bs))

number_is : (x y : ℕ) → (y == x) ≡ (nat_le x y && not (nat_lt x y))
number_is x y = grind (arith, nat_tests)

pair_is : (r c s d : ℕ) → (s == r && d == c) ≡ ((nat_lt r s || (r == s && nat_le c d)) && not (nat_lt r s || (r == s && nat_lt c d)))
pair_is r c s d = grind (arith, nat_tests)

pub found_at_offset : (bs : List ℕ) (o : ℕ) → pick_place (λ k. passes_offset o k Right) (stop (λ k. passes_offset o k Left) (end_place []) (places bs)).here ≡ place_at_offset bs o
found_at_offset bs o =
    found_in (λ k. passes_offset o k Left) (λ k. passes_offset o k Right) (λ k. k.offset == o) (record { stays = record { stays = λ a b e l. offset_stays o a b Right e l }; is = λ k. number_is o k.offset }) bs

pub found_at_utf16 : (bs : List ℕ) (u : OffsetUtf16) → pick_place (λ k. passes_utf16 u k Right) (stop (λ k. passes_utf16 u k Left) (end_place []) (places bs)).here ≡ place_at_utf16 bs u
found_at_utf16 bs u =
    found_in (λ k. passes_utf16 u k Left) (λ k. passes_utf16 u k Right) (λ k. k.utf16 == u.0) (record { stays = record { stays = λ a b e l. utf16_stays u a b Right e l }; is = λ k. number_is u.0 k.utf16 }) bs

pub found_at_point : (bs : List ℕ) (p : Point) → pick_place (λ k. passes_point p k Right) (stop (λ k. passes_point p k Left) (end_place []) (places bs)).here ≡ place_at_point bs p
found_at_point bs p =
    found_in (λ k. passes_point p k Left) (λ k. passes_point p k Right) (λ k. k.row == p.row && k.column == p.column) (record { stays = record { stays = λ a b e l. point_stays p a b Right e l }; is = λ k. pair_is p.row p.column k.row k.column }) bs

pub found_at_point_utf16 : (bs : List ℕ) (p : PointUtf16) → pick_place (λ k. passes_point_utf16 p k Right) (stop (λ k. passes_point_utf16 p k Left) (end_place []) (places bs)).here ≡ place_at_point_utf16 bs p
found_at_point_utf16 bs p =
    found_in (λ k. passes_point_utf16 p k Left) (λ k. passes_point_utf16 p k Right) (λ k. k.row == p.row && k.column_utf16 == p.column) (record { stays = record { stays = λ a b e l. point_utf16_stays p a b Right e l }; is = λ k. pair_is p.row p.column k.row k.column_utf16 }) bs
