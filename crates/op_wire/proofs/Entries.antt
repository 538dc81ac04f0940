-- A version has at most an entry for each replica.
use Rattle.std.proofs.Common.{ℕ, suc, ◌+◌, ◌≤◌, [], ◌∷◌, length, arith}
use Rattle.lamport_clock.specs.Versions.{Entries, IsVersionFrom}
use Rattle.op_wire.specs.Laws.{VersionsAreShort}

bound : (n : ℕ) (v : Entries) → n ≤ 65536 → IsVersionFrom n v → n + length v ≤ 65536
bound n [] le h = omega (arith, le)
bound n (e ∷ v) le h = omega (arith, h.0, bound (suc e.0) v (omega (arith, h.1)) h.4)

pub versions_are_short : VersionsAreShort
versions_are_short v h = omega (arith, bound 0 v (omega arith) h)
