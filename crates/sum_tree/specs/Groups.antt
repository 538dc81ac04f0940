-- A list cut into runs.
use Rattle.std.specs.Prelude.{◌≤◌, List, length, Vec}
use Rattle.std.specs.Global.{Global}
use Rattle.std.specs.List.{flat_map}

-- the elements of the runs, one after another
abbrev pub elements : {X : Type 0} → List (Vec X Global) → List X
elements gs = flat_map (λ g. g.items) gs

-- a run has 6 to 12 elements
abbrev pub IsGroup : {X : Type 0} → Vec X Global → Type 0
IsGroup g = (6 ≤ length g.items) × (length g.items ≤ 12)
