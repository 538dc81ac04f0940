-- The sums of the nodes above one that changes.
use Rattle.std.specs.Prelude.{List, [], ◌∷◌, ◌++◌}
use Rattle.sum_tree.specs.declared.around.Around.{Around}

-- the sum of the highest of these nodes, where the lowest has a child with the sum x
abbrev pub outer_sum : {S : Type 0} → (S → S → S) → List (Around S) → S → S
outer_sum op [] x = x
outer_sum op (a ∷ rest) x = op (op a.before (outer_sum op rest x)) a.behind

-- the sums of all these nodes, the highest first
abbrev pub outer_sums : {S : Type 0} → (S → S → S) → List (Around S) → S → List S
outer_sums op [] x = []
outer_sums op (a ∷ rest) x = outer_sum op (a ∷ rest) x ∷ outer_sums op rest x

-- the same, followed by the sum x itself
abbrev pub path_sums : {S : Type 0} → (S → S → S) → List (Around S) → S → List S
path_sums op around x = outer_sums op around x ++ x ∷ []

-- the type has room for each of these sums, and for each partial sum on the way to it
abbrev pub Fitting : {S : Type 0} → (S → Type 0) → (S → S → S) → List (Around S) → S → Type 0
Fitting fits op [] x = Unit
Fitting fits op (a ∷ rest) x = fits (op a.before (outer_sum op rest x))
    × fits (outer_sum op (a ∷ rest) x) × Fitting fits op rest x
