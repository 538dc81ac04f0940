use Rattle.std.proofs.Common.{◌≡◌, ◌≤◌, ◌<◌, List, Some, length, subst}
use Rattle.op_model.specs.declared.operation.Piece.{Piece}
use Rattle.op_wire.specs.Spelling.{limit, long_sum}
use Rattle.op_wire.specs.Encoding.{HaveBytes}
use Rattle.op_wire.proofs.Sizes.{long_pieces, long_texts, edit_size}
use Rattle.op_wire.proofs.encoding.edit_len.Goals as goal

pub returns-then-ps-clause-long : goal.returns-then-ps-clause-long
returns-then-ps-clause-long c =
    let lt = subst (λ (ps : List Piece). limit < length ps) c.as_slice-ps.ensures c.if-ps.true in
    rw c.as_slice-ps.ensures (long_pieces c.args.edit.now c.as_slice-entries.ensures.kept lt)

pub returns-in-Ok-clause-ok : goal.returns-in-Ok-clause-ok
returns-in-Ok-clause-ok c =
    let le = subst (λ (ps : List Piece). length ps ≤ limit) c.as_slice-ps.ensures c.if-ps.false in
    let have = subst (λ (ps : List Piece). HaveBytes ps c.in-Ok.bytes) c.as_slice-ps.ensures c.in-Ok.ensures.ok in
    rw (c.as_slice-entries.ensures.entries, c.as_slice-ps.ensures) (edit_size c.args.edit.now c.in-Ok.bytes c.stamp_fits.ensures c.as_slice-entries.ensures.kept le have)

pub returns-in-Err-clause-long : goal.returns-in-Err-clause-long
returns-in-Err-clause-long c =
    let le = subst (λ (ps : List Piece). length ps ≤ limit) c.as_slice-ps.ensures c.if-ps.false in
    let long = subst (λ (ps : List Piece). long_sum 0 ps ≡ Some c.in-Err.sum) c.as_slice-ps.ensures c.in-Err.ensures.long in
    long_texts c.args.edit.now c.in-Err.sum c.as_slice-entries.ensures.kept le long
