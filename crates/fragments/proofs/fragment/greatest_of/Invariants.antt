use Rattle.std.proofs.Common.{◌≡◌, drop}
use Rattle.fragments.specs.Summaries.{with_stamps, summary_of}
use Rattle.fragments.proofs.fragment.greatest_of.Given as goal

abbrev pub invariant-loop-stamp : goal.invariant-loop-stamp
invariant-loop-stamp l = record {
  seen : with_stamps (drop l.stamp-index l.stamp-items) l.version ≡ (summary_of l.fragment).greatest;
}
