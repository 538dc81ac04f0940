use Rattle.std.proofs.Common.{map}
use Rattle.std.proofs.lemmas.Result.{err_from_is_err_and}
use Rattle.record_lines.specs.Packing.{records_of}
use Rattle.record_lines.proofs.Packs.{pack-fault, packs-end, packs-long, packs-more}
use Rattle.record_lines.proofs.packing.pack.Goals as goal

pub returns-in_err-push_record-clause-fault : goal.returns-in_err-push_record-clause-fault
returns-in_err-push_record-clause-fault c =
    let ops = c.args.operations.now in
    let x = c.loop-line-item.result in
    let p = err_from_is_err_and c.from_residual.result c.from_residual.ensures.1 in
    rw (p.1, p.2) (pack-fault (map (λ p. (p.0, p.1.now)) ops) (x.0, x.1.now) c.in_err-push_record.field-0.0
    (packs-long (λ p. (p.0, p.1.now)) ops c.loop-line.line-index (records_of (map (λ p. (p.0, p.1.now)) ops)) c.loop-line.out.items c.loop-line.invariant.packs x c.loop-line-test.true c.loop-line-item.is)
    c.in_err-push_record.ensures.fault)

pub loop-line-preserved : goal.loop-line-preserved
loop-line-preserved c =
    let ops = c.args.operations.now in
    record {
      packs = packs-more (λ p. (p.0, p.1.now)) ops c.loop-line.line-index (records_of (map (λ p. (p.0, p.1.now)) ops)) c.loop-line.out.items c.loop-line.invariant.packs c.loop-line-item.result c.loop-line-test.true c.loop-line-item.is
          c.push_record.new.out.items c.in_ok-push_record.ensures.short c.in_ok-push_record.ensures.ok;
    }

pub returns-clause-ok : goal.returns-clause-ok
returns-clause-ok c =
    let ops = c.args.operations.now in
    packs-end (λ p. (p.0, p.1.now)) ops c.loop-line.line-index (records_of (map (λ p. (p.0, p.1.now)) ops)) c.loop-line.out.items c.loop-line.invariant.packs c.loop-line-test.false
