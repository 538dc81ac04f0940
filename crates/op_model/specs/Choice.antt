-- The first of several that applies.
use Rattle.std.specs.Prelude.{Bool, List, [], ◌∷◌, Option, Some, None, if◌then◌else◌}

-- the first of the list that is there
abbrev pub first_of : {A : Type 0} → List (Option A) → Option A
first_of [] = None
first_of (None ∷ xs) = first_of xs
first_of (Some x ∷ xs) = Some x

abbrev pub when : {A : Type 0} → Bool → A → Option A
when b x = if b then Some x else None
