use Rattle.std.proofs.Common.{◌≡◌, take, drop, []}
use Rattle.std.specs.List.{list_any}
use Rattle.std.specs.BTreeSet.{contains}
use Rattle.lamport_clock.specs.declared.stamp.Lamport.{Lamport}
use Rattle.lamport_clock.specs.Stamps.{same_stamp, stamp_cmp}
use Rattle.op_model.specs.Made.{first_twice}
use Rattle.op_answers.proofs.twice.find_by_set.Given as goal

abbrev pub invariant-loop-stamp : goal.invariant-loop-stamp
invariant-loop-stamp l = record {
  found : first_twice (take l.stamp-index l.stamps) (drop l.stamp-index l.stamps) ≡ first_twice [] l.stamps;
  past : (t : Lamport) → contains stamp_cmp l.past t ≡ list_any (same_stamp t) (take l.stamp-index l.stamps);
}
