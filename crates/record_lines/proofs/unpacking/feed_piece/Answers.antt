use Rattle.std.proofs.Common.{◌∙◌, ◌++◌, ap}
use Rattle.std.proofs.lemmas.Result.{err_from_is_err_and}
use Rattle.record_lines.specs.Lines.{operation_lines}
use Rattle.record_lines.proofs.Feeds.{written-fault, written-more}
use Rattle.record_lines.proofs.unpacking.feed_piece.Goals as goal

pub returns-in_err-feed-clause-fault : goal.returns-in_err-feed-clause-fault
returns-in_err-feed-clause-fault c =
    let p = err_from_is_err_and c.from_residual.result c.from_residual.ensures.1 in
    rw (p.1, p.2) (λ came after fits w.
    written-fault came c.args.piece.now after c.args.reader.now c.feed.new.self c.args.lines.items c.new-operations.result.items c.feed.new.into.items c.in_err-feed.field-0.0
    c.new-operations.ensures.items c.in_err-feed.ensures.fault fits w)

pub returns-clause-ok : goal.returns-clause-ok
returns-clause-ok c = λ came w.
    written-more came c.args.piece.now c.args.reader.now c.feed.new.self c.args.lines.items c.in_ok-with_lines.field-0.items c.new-operations.result.items c.feed.new.into.items
    c.new-operations.ensures.items c.in_ok-feed.ensures.ok (c.in_ok-with_lines.ensures ∙ ap (λ ops. c.args.lines.items ++ operation_lines ops) c.as_slice.ensures.value) w
