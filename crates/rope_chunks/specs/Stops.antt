-- Where a look-up along places stops.
use Rattle.std.specs.Prelude.{Bool, if◌then◌else◌, List, [], ◌∷◌, Option, Some, None, ℕ, ◌+◌, ◌*◌, ◌^◌, ◌<◌}
use Rattle.text_dims.specs.declared.places.Place.{Place}
use Rattle.rope_chunks.specs.declared.look.Stop.{Stop}
use Rattle.rope_chunks.specs.At.{IsWithin}

-- the first of the places that passes the test, and the one before it
abbrev pub stop : (Place → Bool) → Place → List Place → Stop
stop passes before [] = record { before = before; here = None }
stop passes before (k ∷ ks) = if passes k then record { before = before; here = Some k } else stop passes k ks

-- the place where a look-up stopped, unless it is strictly past the target
abbrev pub pick_place : (Place → Bool) → Option Place → Option Place
pick_place past None = None
pick_place past (Some k) = if past k then None else Some k

-- the place where a look-up stopped, or the one before it where that is strictly past the target or there is none
abbrev pub or_before : (Place → Bool) → Place → Option Place → Place
or_before past before None = before
or_before past before (Some k) = if past k then before else k

abbrev pub stop_place : (Place → Bool) → Stop → Place
stop_place past s = or_before past s.before s.here

-- the type of places has room for n more bytes
pub record HasRoom (a : Place) (n : ℕ) : Type 0 where
  pub within : IsWithin a
  pub offset : a.offset + n < 2 ^ 64
  pub utf16 : a.utf16 + 2 * n < 2 ^ 64
  pub row : a.row + n < 2 ^ 64
