-- The numbers of the replicas of a made session.
use Rattle.std.proofs.Common.{ℕ, ◌≡◌, ◌-◌, List, length, ap, ◌∙◌, sym, ◌≤◌, subst, arith}
use Rattle.std.proofs.lemmas.List.FromFn.{length-range_with_len}
use Rattle.std.specs.List.{All}
use Rattle.session_maker.specs.Made.{ids_to}
use Rattle.op_model.specs.Operations.{last_replica}
use Rattle.op_model.specs.Domains.{IsReplica}
use Rattle.op_model.proofs.histories.Ids.{ids_from}

pub ids_counted : (ids : List ℕ) (n : ℕ) → ids ≡ ids_to n → length ids ≡ n
ids_counted ids n e = ap length e ∙ length-range_with_len 1 n

pub ids_again : (ids : List ℕ) (n : ℕ) → ids ≡ ids_to n → ids ≡ ids_to (length ids)
ids_again ids n e = e ∙ ap ids_to (sym (ids_counted ids n e))

pub ids_are_editors : (ids : List ℕ) (n : ℕ) → ids ≡ ids_to n → n ≤ last_replica → All IsReplica ids
ids_are_editors ids n e le = subst (All IsReplica) (sym e) (ids_from 1 n (omega arith) (omega arith))
