use Rattle.std.proofs.Common.{◌≡◌, ◌==◌, ◌<◌, ℕ, None, get_or, length}
use Rattle.std.specs.List.{position}
use Rattle.session_work.proofs.replicas.indices_of.Given as goal

abbrev pub invariant-loop-id : goal.invariant-loop-id
invariant-loop-id l = record {
  count : length l.indices.items ≡ l.id;
  found : (k : ℕ) → k < length l.indices.items → get_or l.indices.items k None ≡ position (λ (i : ℕ). i == k) l.ids;
}
