-- A bound that is linear is below the one that is promised.
use Rattle.std.proofs.Common.{ℕ, ◌+◌, ◌*◌, ◌≤◌, arith}
use Rattle.std.proofs.Math.Nat.{mul-le-mul_left}

pub cut_bound : (h : ℕ) → 16 * h + 14 ≤ 8 * (h + 1) * (h + 2)
cut_bound h =
    let two : 8 * (h + 1) * 2 ≤ 8 * (h + 1) * (h + 2) = mul-le-mul_left (8 * (h + 1)) (omega arith) in
    omega (arith, two)
