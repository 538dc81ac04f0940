use Rattle.std.proofs.Common.{◌≡◌, inl, length, sym, rules}
use Rattle.std.proofs.lemmas.Result.{err_from_is_err_and}
use Rattle.record_lines.proofs.Feeds.{ahead-end, ahead-more, ahead-start, parted, written-cut, written-end}
use Rattle.record_lines.proofs.unpacking.unpack.Goals as goal

pub loop-rest-init : goal.loop-rest-init
loop-rest-init c = record { ahead = ahead-start c.args.bytes.now c.new-reader.result c.new-lines.result.items c.new-reader.ensures c.new-lines.ensures.items }

pub loop-rest-preserved : goal.loop-rest-preserved
loop-rest-preserved c =
    let parts = parted _ c.loop-rest.rest.now c.split_at.result.0.now c.split_at.result.1.now c.split_at.ensures.front c.split_at.ensures.back in
    record {
      ahead = ahead-more c.args.bytes.now c.loop-rest.rest.now c.split_at.result.0.now c.split_at.result.1.now c.loop-rest.reader c.loop-rest.lines.items parts c.loop-rest.invariant.ahead
          c.feed_piece.new.reader c.in_ok-lines.lines.items c.in_ok-lines.ensures.ok;
    }

pub returns-clause-ok : goal.returns-clause-ok
returns-clause-ok c =
    let none : length c.loop-rest.rest.now ≡ 0 = search rules in
    written-end c.args.bytes.now c.loop-rest.reader c.loop-rest.lines.items
    (ahead-end c.args.bytes.now c.loop-rest.rest.now c.loop-rest.reader c.loop-rest.lines.items none c.loop-rest.invariant.ahead) (sym c.in_ok-finish.ensures)

pub returns-in_err-finish-clause-fault : goal.returns-in_err-finish-clause-fault
returns-in_err-finish-clause-fault c =
    let none : length c.loop-rest.rest.now ≡ 0 = search rules in
    let p = err_from_is_err_and c.from_residual-in_err-finish.result c.from_residual-in_err-finish.ensures.1 in
    rw (p.1, p.2) (inl (written-cut c.args.bytes.now c.loop-rest.reader c.loop-rest.lines.items c.in_err-finish.field-0.0
    (ahead-end c.args.bytes.now c.loop-rest.rest.now c.loop-rest.reader c.loop-rest.lines.items none c.loop-rest.invariant.ahead) (sym c.in_err-finish.ensures)))
