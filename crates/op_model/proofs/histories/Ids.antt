-- Ids of replicas, one after another.
use Rattle.std.proofs.Common.{ℕ, zero, suc, ◌+◌, ◌≤◌, arith}
use Rattle.std.specs.List.{All, range_with_len}
use Rattle.std.proofs.lemmas.List.Elements.{All-cons, All-nil}
use Rattle.op_model.specs.Domains.{IsReplica}

pub ids_from : (k n : ℕ) → 1 ≤ k → k + n ≤ 1024 → All IsReplica (range_with_len k n)
ids_from k zero h le = All-nil IsReplica
ids_from k (suc n) h le = All-cons IsReplica k (range_with_len (k + 1) n) (h, omega arith) (ids_from (k + 1) n (omega arith) (omega arith))
