use Rattle.std.proofs.Common.{◌++◌, ◌+◌, List, ℕ, length, ap, ◌∙◌}
use Rattle.std.specs.Int.{w32, to_be_bytes}
use Rattle.op_wire.specs.Spelling.{piece}
use Rattle.op_wire.proofs.Joins.{short_next, written_next}
use Rattle.op_wire.proofs.encoding.put_pieces.Goals as goal

pub put_piece-requires : goal.put_piece-requires
put_piece-requires c = (short_next c.loop-p.invariant.short.0 c.args.ps.now c.loop-p.p-index c.p-item.result c.loop-p-test.true c.p-item.is c.loop-p.invariant.short.1).0

pub loop-p-preserved : goal.loop-p-preserved
loop-p-preserved c =
    let ps = c.args.ps.now in
    let i = c.loop-p.p-index in
    let p = c.p-item.result in
    let s = c.loop-p.invariant.short in
    record {
      written = c.in_ok-put_piece.ensures ∙ ap (λ (x : List ℕ). x ++ piece p) c.loop-p.invariant.written ∙ written_next c.args.out.now.items (to_be_bytes w32 (length ps)) ps i p c.loop-p-test.true c.p-item.is;
      short = (s.0 + length p.text, (short_next s.0 ps i p c.loop-p-test.true c.p-item.is s.1).1);
    }
