-- Places by the excerpt that has them and what lies before it, for private clauses.
use Rattle.std.specs.Prelude.{ℕ, ◌+◌, ◌-◌, ◌<◌, ◌≤◌, ◌^◌, if◌then◌else◌, List, Option, Some, None}
use Rattle.multi_buffer.specs.Places.{is_place, place_at}
use Rattle.multi_buffer.specs.Lengths.{offset_after}
use Rattle.multi_buffer.specs.declared.excerpt.Excerpt.{Excerpt}
use Rattle.multi_buffer.specs.declared.source.Source.{Source}
use Rattle.multi_buffer.specs.declared.lengths.Lengths.{Lengths}
use Rattle.multi_buffer.specs.declared.places.Place.{Place}

-- the excerpt is short, and so is what lies before it
pub record IsHere (x : Excerpt) (b : Lengths) : Type 0 where
  pub order : x.start ≤ x.end
  pub end : x.end ≤ 2 ^ 40
  pub excerpts : b.excerpts < 2 ^ 20
  pub bytes : b.bytes ≤ 2 ^ 60

abbrev pub place_of : List Source → Excerpt → Lengths → ℕ → Option Place
place_of ss x b o = if is_place ss x (x.start + (o - offset_after b))
    then Some (place_at b.excerpts x (o - offset_after b)) else None

abbrev pub offset_of : List Source → Excerpt → Lengths → ℕ → Option ℕ
offset_of ss x b p = if is_place ss x p then Some (offset_after b + (p - x.start)) else None
