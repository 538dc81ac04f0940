use Rattle.std.proofs.Common.{◌≡◌, ℕ, ◌<◌, get_or}
use Rattle.lamport_clock.proofs.version.same_replicas.Given as goal

abbrev pub invariant-loop-i : goal.invariant-loop-i
invariant-loop-i l = (k : ℕ) → k < l.i → (get_or l.ours k (0, 0)).0 ≡ (get_or l.theirs k (0, 0)).0
