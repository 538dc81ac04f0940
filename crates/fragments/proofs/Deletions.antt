-- How often edits delete the cells of fragments.
use Rattle.std.proofs.Common.{◌≡◌, ℕ, ◌+◌, cond, List, [], ◌∷◌, ◌++◌, arith}
use Rattle.lamport_clock.specs.declared.stamp.Lamport.{Lamport}
use Rattle.fragments.specs.declared.fragment.Fragment.{Fragment}
use Rattle.fragments.specs.DeletedRuns.{has_cell, times_in, deletion_count}

-- how often edit t deletes cell k of edit s in a fragment
abbrev pub one_deletion : Lamport → Lamport → ℕ → Fragment → ℕ
one_deletion t s k f = cond (has_cell s k f) (times_in t f.deletions) 0

pub deletion_append : (t s : Lamport) (k : ℕ) (xs ys : List Fragment) → deletion_count t s k (xs ++ ys) ≡ deletion_count t s k xs + deletion_count t s k ys
deletion_append t s k [] ys = omega arith
deletion_append t s k (x ∷ xs) ys = let h = deletion_append t s k xs ys in omega (arith, h)

-- fragments in the place of one that together have its deletions
pub deletion_mid : (t s : Lamport) (k : ℕ) (pre xs ys r : List Fragment) → deletion_count t s k xs ≡ deletion_count t s k ys → deletion_count t s k (pre ++ (xs ++ r)) ≡ deletion_count t s k (pre ++ (ys ++ r))
deletion_mid t s k pre xs ys r e =
    let a = deletion_append t s k pre (xs ++ r) in
    let b = deletion_append t s k xs r in
    let c = deletion_append t s k pre (ys ++ r) in
    let d = deletion_append t s k ys r in
    omega (arith, a, b, c, d, e)
