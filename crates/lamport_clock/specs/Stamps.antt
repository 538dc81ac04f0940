-- The order of stamps, and their text.
use Rattle.std.specs.Prelude.{Bool, ℕ, List, ◌++◌, codes, decimal, ◌&&◌, ◌||◌, ◌==◌, nat_lt}
use Rattle.std.specs.Ordering.{nat_cmp, ordering_then}
use Rattle.std.specs.Cmp.{IsTotalOrder}
use Rattle.std.specs.declared.cmp.Ordering.{Ordering}
use Rattle.std.proofs.lemmas.Cmp.{nat_cmp_total, on_total, then_total}
use Rattle.lamport_clock.specs.declared.stamp.Lamport.{Lamport}

-- by value, then by replica, as std's comparisons say it
abbrev pub stamp_cmp : Lamport → Lamport → Ordering
stamp_cmp s t = ordering_then (nat_cmp s.value t.value) (nat_cmp s.replica t.replica)

-- which is a total order
pub stamp_order : IsTotalOrder stamp_cmp
stamp_order = then_total (on_total (λ (s : Lamport). s.value) nat_cmp_total) (on_total (λ (s : Lamport). s.replica) nat_cmp_total)

-- s is the greater: by value, then by replica
unfoldable pub later : Lamport → Lamport → Bool
later s t = nat_lt t.value s.value || (t.value == s.value && nat_lt t.replica s.replica)

unfoldable pub same_stamp : Lamport → Lamport → Bool
same_stamp s t = s.value == t.value && s.replica == t.replica

-- value.replica
abbrev pub stamp_text : Lamport → List ℕ
stamp_text t = decimal t.value ++ (codes "." ++ decimal t.replica)
