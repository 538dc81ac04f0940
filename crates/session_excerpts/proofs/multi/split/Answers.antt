use Rattle.std.proofs.Common.{sym, ◌∙◌}
use Rattle.session_excerpts.specs.State.{sync_all}
use Rattle.session_excerpts.proofs.Splitting.{parts_said, refused_said}
use Rattle.session_excerpts.proofs.multi.split.Goals as goal

pub returns-in-Ok-clause-answer : goal.returns-in-Ok-clause-answer
returns-in-Ok-clause-answer c =
    parts_said c.args.changes.now (sync_all c.args.snapshots.items c.args.multi.now) c.sync_all.new.multi c.in_ok-sync_all.ensures.ok c.new.result c.in-Ok.ensures.ok (c.new.ensures ∙ c.in-Ok.ensures.pieces)

pub returns-in_ok-refusal-in-Err-clause-answer : goal.returns-in_ok-refusal-in-Err-clause-answer
returns-in_ok-refusal-in-Err-clause-answer c =
    refused_said c.args.changes.now (sync_all c.args.snapshots.items c.args.multi.now) c.sync_all.new.multi c.in_ok-sync_all.ensures.ok c.in-Err.fault c.in_ok-refusal-in-Err.field-0 (sym c.in_ok-refusal-in-Err.ensures) c.in-Err.ensures.fault
