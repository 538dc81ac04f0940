use Rattle.std.proofs.Common.{◌-◌, length}
use Rattle.edits_since.specs.declared.differ.MayDiffer.{MayDiffer}
use Rattle.edits_since.specs.Differs.{may_differ}
use Rattle.edits_since.proofs.Walking.{Walking}
use Rattle.edits_since.proofs.telling.since.Given as goal

abbrev pub invariant-loop-run : goal.invariant-loop-run
invariant-loop-run l = Walking (λ (k : MayDiffer). may_differ k.version.now) l.undos l.version l.tree.items l.run l.found l.at

abbrev pub decreases-loop-run : goal.decreases-loop-run
decreases-loop-run l = length l.tree.items - l.found.next
