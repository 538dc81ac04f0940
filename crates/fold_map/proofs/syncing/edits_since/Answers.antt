use Rattle.std.proofs.Common.{ap, ◌∙◌}
use Rattle.lamport_clock.specs.Versions.{Entries}
use Rattle.op_model.specs.Since.{since}
use Rattle.fold_map.proofs.syncing.edits_since.Goals as goal

pub returns-in-Ok : goal.returns-in-Ok
returns-in-Ok c = c.in-Ok.ensures.edits ∙ ap (λ (v : Entries). since c.args.snapshot.now v) c.version.ensures
